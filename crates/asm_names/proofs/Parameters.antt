-- The module's parameters by their numbers.
use Rattle.std.proofs.Common.{◌≡◌, ℕ, zero, suc, List, [], ◌∷◌, refl}
use Rattle.std.specs.Prelude.{slice_get}
use Rattle.std.specs.Option.{option_map}
use Rattle.sem_words.specs.declared.text.Text.{Text}
use Rattle.sem_words.specs.Lists.{text_bytes}
use Rattle.asm_tree.specs.Views.{texts_view}
use Rattle.asm_lang_valid.specs.Scope.{nth}

pub nth_is : (ts : List Text) (i : ℕ) → nth (texts_view ts) i ≡ option_map text_bytes (slice_get ts i)
nth_is [] zero = refl
nth_is [] (suc i) = refl
nth_is (t ∷ ts) zero = refl
nth_is (t ∷ ts) (suc i) = nth_is ts i
