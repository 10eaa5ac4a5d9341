-- The labels that are open, as those round a statement: the innermost first.
use Rattle.std.specs.Prelude.{ℕ, Bool, List, [], ◌∷◌, nat_eq}
use Rattle.std.specs.Borrow.{Bor}
use Rattle.std.specs.List.{IsDistinct}
use Rattle.std.specs.Map.{keys_of}
use Rattle.std.specs.Cmp.Lexicographic.{pointwise}
use Rattle.asm_lang_valid.specs.Typing.{Label}

abbrev pub Entry : Type 0
Entry = Bor (List ℕ) × Bool

-- those of the entries before others
abbrev pub labels_over : List Entry → List Label → List Label
labels_over [] ls = ls
labels_over (e ∷ es) ls = labels_over es (record { text = e.0.now; of_loop = e.1 } ∷ ls)

abbrev pub labels_in : List Entry → List Label
labels_in es = labels_over es []

-- no two entries have one name
abbrev pub AreDistinct : List Entry → Type 0
AreDistinct es = IsDistinct (λ (a b : Bor (List ℕ)). pointwise nat_eq a.now b.now) (keys_of es)
