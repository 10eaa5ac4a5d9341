-- Locals as runs of one type.
use Rattle.std.proofs.Common.{◌≡◌, ◌+◌, List, [], ◌∷◌, ◌++◌, replicate, sym, ap, ◌∙◌, append_assoc, append-nil}
use Rattle.std.proofs.lemmas.List.{replicate_more}
use Rattle.wasm_lang.specs.declared.types.ValType.{ValType}
use Rattle.wasm_tree.specs.declared.module.Run.{Run}
use Rattle.wasm_tree.specs.Views.{locals_in}

pub locals_more : (runs : List Run) (run : Run) → locals_in (runs ++ run ∷ []) ≡ locals_in runs ++ replicate run.count run.kind
locals_more [] run = append-nil (replicate run.count run.kind)
locals_more (r ∷ runs) run = ap (λ ts. replicate r.count r.kind ++ ts) (locals_more runs run) ∙ sym (append_assoc (replicate r.count r.kind) (locals_in runs) (replicate run.count run.kind))

-- one more of the last run's type
pub run_grows : (runs : List Run) (last : Run) (kind : ValType) → last.kind ≡ kind → locals_in runs ++ replicate (last.count + 1) kind ≡ locals_in (runs ++ last ∷ []) ++ kind ∷ []
run_grows runs last kind e =
    ap (λ ts. locals_in runs ++ ts) (sym (replicate_more last.count kind))
    ∙ sym (append_assoc (locals_in runs) (replicate last.count kind) (kind ∷ []))
    ∙ ap (λ (k : ValType). (locals_in runs ++ replicate last.count k) ++ kind ∷ []) (sym e)
    ∙ ap (λ ts. ts ++ kind ∷ []) (sym (locals_more runs last))
