-- The number of the function that a call names is among those of all calls.
use Rattle.std.proofs.Common.{◌≡◌, ℕ, zero, suc, ◌<◌, List, [], ◌∷◌, length, map, get_or, Option, sym, ap, ◌∙◌, arith}
use Rattle.session_lang.specs.declared.script.CallLine.{CallLine}
use Rattle.session_lang.specs.Views.{call_of}
use Rattle.asm_lang.specs.Modules.{Module}
use Rattle.asm_run_code.specs.Sessions.{key_number}
use Rattle.asm_run_state.specs.Session.{callees_of}

pub callee_at : (m : Module) (calls : List CallLine) (callees : List (Option ℕ)) (i : ℕ) (call : CallLine) (other : Option ℕ) → callees ≡ callees_of m (map call_of calls) → i < length calls → call ≡ get_or calls i call
    → get_or callees i other ≡ key_number m (call_of call).name
callee_at m [] callees i call other all inside is = absurd (omega (arith, inside))
callee_at m (c ∷ cs) [] i call other all inside is = cc all
callee_at m (c ∷ cs) (k ∷ ks) zero call other all inside is =
    let first : k ≡ key_number m (call_of c).name = cc all in
    first ∙ ap (λ (l : CallLine). key_number m (call_of l).name) (sym is)
callee_at m (c ∷ cs) (k ∷ ks) (suc i) call other all inside is =
    let rest : ks ≡ callees_of m (map call_of cs) = cc all in
    callee_at m cs ks i call other rest (omega (arith, inside)) is
