-- Marked tokens as those of the text form.
use Rattle.std.specs.Prelude.{Bool, true, false, List, [], ◌∷◌, map}
use Rattle.std.specs.Borrow.{Bor}
use Rattle.wat_lang.specs.Grammar.{Marked}
use Rattle.wat_marks.specs.declared.marked.MarkedToken.{MarkedToken}
use Rattle.wat_marks.specs.Views.{marked_of}

abbrev pub marks_of : List MarkedToken → List Marked
marks_of ts = map marked_of ts

abbrev pub marked_at : Bor MarkedToken → Marked
marked_at t = marked_of t.now

-- the one item, if the test holds
abbrev pub only : {X : Type 0} → Bool → X → List X
only true x = x ∷ []
only false x = []
