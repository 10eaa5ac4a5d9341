-- Operands of known types, and what an instruction makes of them.
use Rattle.std.proofs.Common.{◌≡◌, Bool, List, [], ◌∷◌, ◌++◌, Some, refl, sym, ap, ◌∙◌}
use Rattle.std.specs.Prelude.{Ok}
use Rattle.wasm_lang.specs.declared.types.ValType.{ValType}
use Rattle.wasm_lang_valid.specs.declared.rule.Rule.TheVariants.{OtherType}
use Rattle.wasm_lang_valid.specs.Typing.{onward, unless, fixed, leaves, any_one, two_alike}
use Rattle.wasm_lang_valid.specs.State.{known, take_all}
use Rattle.wasm_lang_valid.proofs.Stands.{same_refl}
use Rattle.wasm_laws_widths.specs.Laws.{OperandsStayKnown}

pub known_append : (a b : List ValType) → known (a ++ b) ≡ known a ++ known b
known_append [] b = refl
known_append (t ∷ a) b = ap (λ s. Some t ∷ s) (known_append a b)

take_known : (ts : List ValType) (e : Bool) (below : List ValType) → take_all ts e (known (ts ++ below)) ≡ Ok (known below)
take_known [] e below = refl
take_known (t ∷ ts) e below = ap (λ b. onward (unless b OtherType (known (ts ++ below))) (take_all ts e)) (same_refl t) ∙ take_known ts e below

pub operands_stay_known : OperandsStayKnown
operands_stay_known _ _ _ below e (fixed {takes = ts} {gives = gs}) back =
    ap (λ r. onward r (λ left. Ok (e, known gs ++ left))) (take_known ts e below) ∙ ap (λ o. Ok (e, o)) (sym (known_append gs below))
operands_stay_known _ _ _ below e (leaves under after) back = absurd back
operands_stay_known _ _ _ below e any_one back = refl
operands_stay_known _ _ _ below e (two_alike {t = t}) back = ap (λ b. onward (unless b OtherType (Some t)) (λ k. Ok (e, k ∷ known below))) (same_refl t)
