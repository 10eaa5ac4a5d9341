-- Worked examples that the check computes.
use Rattle.std.specs.Prelude.{◌≡◌, List, [], ◌∷◌, Some, None, pos, codes, refl}
use Rattle.session_lang.specs.Script.{GlobalPlain}
use Rattle.script_lines.specs.GlobalLines.{given, line_named}

-- two lines of one name, and one of another between them
abbrev lines : List GlobalPlain
lines =
    record { name = codes "low"; value = pos 5; line = 1 }
    ∷ record { name = codes "high"; value = pos 6; line = 2 }
    ∷ record { name = codes "low"; value = pos 7; line = 3 }
    ∷ []

pub first_line_of_a_name_counts : given lines (codes "low") ≡ Some (pos 5)
first_line_of_a_name_counts = refl

pub line_after_another : given lines (codes "high") ≡ Some (pos 6)
line_after_another = refl

pub front_of_a_name_is_not_given : given lines (codes "lo") ≡ None
front_of_a_name_is_not_given = refl

pub place_of_the_first_line : line_named lines (codes "low") ≡ Some 0
place_of_the_first_line = refl

pub place_after_another : line_named lines (codes "high") ≡ Some 1
place_after_another = refl
