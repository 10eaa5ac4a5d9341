-- Whether a name is one of these, by its slot.
use Rattle.std.proofs.Common.{◌≡◌, ℕ, suc, Bool, true, false, List, [], ◌∷◌, Option, Some, None, bytes_eq, ◌||◌, refl, ap, ◌∙◌}
use Rattle.std.specs.Prelude.{if◌then◌else◌, option_map, is_some}
use Rattle.asm_lang_valid.specs.Scope.{is_in}
use Rattle.asm2wasm_translation.specs.Numbers.{slot_of}

either_is : (b c : Bool) (o : Option ℕ) → c ≡ is_some o → (b || c) ≡ is_some (if b then Some 0 else option_map (λ i. suc i) o)
either_is true c o e = refl
either_is false c None e = e
either_is false c (Some i) e = e

named_is : (names : List (List ℕ)) (n : List ℕ) → is_in n names ≡ is_some (slot_of names n)
named_is [] n = refl
named_is (x ∷ xs) n = either_is (bytes_eq x n) (is_in n xs) (slot_of xs n) (named_is xs n)

pub named_here : (names : List (List ℕ)) (n : List ℕ) (i : ℕ) → slot_of names n ≡ Some i → is_in n names ≡ true
named_here names n i e = named_is names n ∙ ap is_some e

pub named_nowhere : (names : List (List ℕ)) (n : List ℕ) → slot_of names n ≡ None → is_in n names ≡ false
named_nowhere names n e = named_is names n ∙ ap is_some e
