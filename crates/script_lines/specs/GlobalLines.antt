-- Lines of globals, found by their names. Of lines of one name the first counts.
use Rattle.std.specs.Prelude.{ℕ, suc, ℤ, List, [], ◌∷◌, Option, Some, None, option_map, if◌then◌else◌}
use Rattle.std.specs.Borrow.{Bor}
use Rattle.std.specs.Str.{bytes_eq}
use Rattle.indexmap.specs.IndexMap.{IndexMap, get_by}
use Rattle.session_lang.specs.Script.{GlobalPlain}

-- the value that the lines give to a name
abbrev pub given : List GlobalPlain → List ℕ → Option ℤ
given [] name = None
given (g ∷ gs) name = if bytes_eq g.name name then Some g.value else given gs name

-- the place of the first line of a name
abbrev pub line_named : List GlobalPlain → List ℕ → Option ℕ
line_named [] n = None
line_named (g ∷ gs) n = if bytes_eq g.name n then Some 0 else option_map (λ i. suc i) (line_named gs n)

-- what a map has under a name
abbrev pub found : {A S : Type 0} → IndexMap (Bor (List ℕ)) A S → List ℕ → Option A
found entries n = get_by (λ k. bytes_eq n k.now) entries
