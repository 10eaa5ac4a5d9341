-- New names that no variable of a function gets.
use Rattle.std.specs.List.{list_any}
use Rattle.indexmap.specs.IndexSet.{IndexSet}
use Rattle.std.specs.Prelude.{◌≡◌, ℕ, Bool, false, ◌&&◌, ◌||◌, List, Option, Some, None, bytes_eq, if◌then◌else◌}
use Rattle.asm_lang_valid.specs.Scope.{is_in}
use Rattle.asm_short_lang.specs.Sequence.{numbered}
use Rattle.asm_short_names.specs.Excluding.{has_number}
use Rattle.asm_short_tree.specs.declared.names.Names.{Names}
use Rattle.asm_short_tree.specs.Looking.{found}
use Rattle.asm_short_modules.specs.declared.used.Used.{Used}

-- is it the number of a name that is used, or the one of the name that is kept
abbrev pub leaves_out : Used → (kept : List ℕ) → ℕ → Bool
leaves_out used kept n = has_number used.numbers n || (used.kept && bytes_eq kept (numbered n))

abbrev pub is_named : ℕ → Option (List ℕ) → Bool
is_named n None = false
is_named n (Some name) = bytes_eq name (numbered n)

-- the new name of the declaration for which a name stands in a function with variables of these names
abbrev pub used_with : (locals : List (List ℕ)) → Names → List ℕ → Option (List ℕ)
used_with locals declared n = if is_in n locals then None else found declared n

-- a set of names
abbrev pub has_name : {S : Type 0} → IndexSet (List ℕ) S → List ℕ → Bool
has_name set n = list_any (λ k. bytes_eq n k) set.keys

pub record IsSetOf {S : Type 0} (names : List (List ℕ)) (set : IndexSet (List ℕ) S) : Type 0 where
  pub alike : (n : List ℕ) → has_name set n ≡ is_in n names
