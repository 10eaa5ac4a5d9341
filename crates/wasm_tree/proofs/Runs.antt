-- Locals in runs.
use Rattle.std.proofs.Common.{◌≡◌, ℕ, ◌+◌, ◌<◌, List, [], ◌∷◌, ◌++◌, length, get_or, take, replicate, sym, ap, ◌∙◌, append_assoc}
use Rattle.std.proofs.lemmas.List.{append-nil, take_more}
use Rattle.wasm_tree.specs.declared.module.Run.{Run}
use Rattle.wasm_tree.specs.Views.{locals_in}

-- the locals of the last run stand last
pub locals_end : (front : List Run) (run : Run) → locals_in (front ++ run ∷ []) ≡ locals_in front ++ replicate run.count run.kind
locals_end [] run = append-nil (replicate run.count run.kind)
locals_end (first ∷ front) run =
    ap (λ l. replicate first.count first.kind ++ l) (locals_end front run)
    ∙ sym (append_assoc (replicate first.count first.kind) (locals_in front) (replicate run.count run.kind))

-- one run more
pub locals_more : (runs : List Run) (i : ℕ) (run : Run) → i < length runs → run ≡ get_or runs i run → locals_in (take (i + 1) runs) ≡ locals_in (take i runs) ++ replicate run.count run.kind
locals_more runs i run lt h =
    ap locals_in (take_more runs i run lt) ∙ ap (λ r. locals_in (take i runs ++ r ∷ [])) (sym h) ∙ locals_end (take i runs) run
