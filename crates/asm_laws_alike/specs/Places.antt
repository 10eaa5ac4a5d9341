-- Names by the places where they stand in lists, and the names of what has a value in a session.
use Rattle.std.specs.Prelude.{ℕ, suc, Bool, true, false, List, [], ◌∷◌, ◌++◌, Option, Some, None, option_map, bytes_eq, if◌then◌else◌}
use Rattle.asm_lang.specs.Trees.{Init, number, foreign_int}
use Rattle.asm_lang.specs.Modules.{Variable}
use Rattle.asm_short_lang.specs.Renaming.{init_with}

-- the place of a name: that of the first of equal ones
abbrev pub place_of : List (List ℕ) → List ℕ → Option ℕ
place_of [] n = None
place_of (x ∷ xs) n = if bytes_eq x n then Some 0 else option_map (λ i. suc i) (place_of xs n)

-- whether a declaration of the module is of a variable with a value: an int, of the module or of the outside
abbrev pub has_value : Init → Bool
has_value (number z) = true
has_value (foreign_int f p) = true
has_value _ = false

abbrev pub if_valued : Bool → List ℕ → List (List ℕ) → List (List ℕ)
if_valued true n ns = n ∷ ns
if_valued false n ns = ns

abbrev pub valued_names : List Variable → List (List ℕ)
valued_names [] = []
valued_names (v ∷ vs) = if_valued (has_value v.init) v.name (valued_names vs)

-- a declaration without the names of the module's parameters
abbrev pub bare : Init → Init
bare i = init_with (λ n. []) i

-- ---- labels that are open at a statement

-- those of the statement itself, those to which a `break` may lead, and those to which a `continue` may lead besides its own
pub record Open : Type 0 where
  pub own : List (List ℕ)
  pub to_break : List (List ℕ)
  pub to_continue : List (List ℕ)

abbrev pub nothing_open : Open
nothing_open = record { own = []; to_break = []; to_continue = [] }

-- a part of a statement
abbrev pub in_part : Open → Open
in_part a = record { own = []; to_break = a.to_break; to_continue = a.to_continue }

abbrev pub in_loop : Open → Open
in_loop a = record { own = []; to_break = a.to_break; to_continue = a.own ++ a.to_continue }

abbrev pub under : List (List ℕ) → Open → Open
under ns a = record { own = ns; to_break = ns ++ a.to_break; to_continue = a.to_continue }
