-- Choices of functions, one after another.
use Rattle.std.proofs.Common.{◌≡◌, List, [], ◌∷◌, ◌++◌, refl, sym, ap, ◌∙◌, append_assoc}
use Rattle.std.specs.Prelude.{if◌then◌else◌}
use Rattle.asm_lang.specs.Modules.{Function}
use Rattle.wasm2js_helpers.specs.Choices.{Choice, chosen}

pub chosen_join : (xs ys : List Choice) → chosen (xs ++ ys) ≡ chosen xs ++ chosen ys
chosen_join [] ys = refl
chosen_join (x ∷ xs) ys =
    ap (λ fs. (if x.asked then x.function ∷ [] else []) ++ fs) (chosen_join xs ys)
    ∙ sym (append_assoc (if x.asked then x.function ∷ [] else []) (chosen xs) (chosen ys))

pub one_more : (old : List Function) (xs ys : List Choice) → (old ++ chosen xs) ++ chosen ys ≡ old ++ chosen (xs ++ ys)
one_more old xs ys = append_assoc old (chosen xs) (chosen ys) ∙ sym (ap (λ fs. old ++ fs) (chosen_join xs ys))
