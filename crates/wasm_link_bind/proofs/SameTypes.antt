-- Lists of types, compared one by one.
use Rattle.std.proofs.Common.{◌≡◌, ◌≢◌, suc, Bool, true, false, List, [], ◌∷◌, length, refl, ap, ◌∙◌}
use Rattle.std.specs.Prelude.{◌&&◌}
use Rattle.wasm_lang.specs.declared.types.ValType.{ValType}
use Rattle.wasm_lang_valid.specs.Typing.{same}
use Rattle.wasm_lang_exec.specs.Reductions.{same_types}

pub unequal : (ts us : List ValType) → length ts ≢ length us → same_types ts us ≡ false
unequal [] [] h = absurd (h refl)
unequal [] (u ∷ us) h = refl
unequal (t ∷ ts) [] h = refl
unequal (t ∷ ts) (u ∷ us) h = ap (λ b. same t u && b) (unequal ts us (λ e. h (ap suc e))) ∙ and_false (same t u)
  where
    and_false : (b : Bool) → b && false ≡ false
    and_false true = refl
    and_false false = refl
