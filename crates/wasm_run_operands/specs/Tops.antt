-- The topmost value, where it has the type that is wanted.
use Rattle.std.specs.Prelude.{ℕ, List, ◌∷◌, Option, Some, None}
use Rattle.sem_words.specs.declared.word.Word.{Word}
use Rattle.sem_words.specs.declared.word.Word.TheVariants.{W32, W64}

abbrev pub top32 : List Word → Option ℕ
top32 (W32 n ∷ values) = Some n
top32 _ = None

abbrev pub top64 : List Word → Option ℕ
top64 (W64 n ∷ values) = Some n
top64 _ = None
