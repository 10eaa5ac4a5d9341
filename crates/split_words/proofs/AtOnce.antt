-- Where nothing waits, straight code is appended as it is.
use Rattle.std.proofs.Common.{◌≡◌, List, [], ◌∷◌, ◌++◌, sym, ap, ◌∙◌, append_assoc, append-nil}
use Rattle.asm_lang.specs.Modules.{Stmt}
use Rattle.wasm2js_translation.specs.Words.{Simple, simple_statement, simple_statements}
use Rattle.wasm2js_translation.specs.Pairs.{simples}
use Rattle.wasm2js_build.specs.Growing.{run, State, state_at_once}
use Rattle.wasm2js_build.proofs.Growing.{one_at_once}

pub run_at_once : (told : List Stmt) (ss : List Simple) → run (state_at_once told) (simples ss) ≡ state_at_once (told ++ simple_statements ss)
run_at_once told [] = ap state_at_once (sym (append-nil told))
run_at_once told (s ∷ ss) =
    ap (λ (x : State). run x (simples ss)) (one_at_once told s) ∙ run_at_once (told ++ simple_statement s ∷ []) ss
    ∙ ap state_at_once (append_assoc told (simple_statement s ∷ []) (simple_statements ss))

-- a block whose statements were taken into code where nothing waits, and put back
pub told_at_once : (x y : State) (told after : List Stmt) (ss : List Simple) → x ≡ state_at_once told → y ≡ run x (simples ss) → after ≡ y.told → after ≡ told ++ simple_statements ss
told_at_once x y told after ss begins runs ends =
    let e : y ≡ state_at_once (told ++ simple_statements ss) = runs ∙ ap (λ (s : State). run s (simples ss)) begins ∙ run_at_once told ss in
    ends ∙ ap (λ (s : State). s.told) e
