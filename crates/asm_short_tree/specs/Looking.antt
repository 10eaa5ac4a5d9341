-- What the code's tables of names say.
use Rattle.std.specs.Prelude.{ℕ, List, Option, map, option_map, unwrap_or}
use Rattle.std.specs.Borrow.{Bor}
use Rattle.std.specs.Str.{bytes_eq}
use Rattle.indexmap.specs.IndexMap.{IndexMap, get_by}
use Rattle.asm_short_lang.specs.Sequence.{numbered}
use Rattle.asm_short_tree.specs.declared.names.NewName.{NewName}
use Rattle.asm_short_tree.specs.declared.names.NewName.TheVariants.{Numbered, Kept}
use Rattle.asm_short_tree.specs.declared.names.Names.{Names}
use Rattle.asm_short_tree.specs.declared.look.Look.{Look}

abbrev pub new_name : (kept : List ℕ) → NewName → List ℕ
new_name kept (Numbered n) = numbered n
new_name kept Kept = kept

abbrev pub new_names : (kept : List ℕ) → List NewName → List (List ℕ)
new_names kept ws = map (new_name kept) ws

-- the names that the code lends
abbrev pub names_in : List (Bor (List ℕ)) → List (List ℕ)
names_in bs = map (λ (b : Bor (List ℕ)). b.now) bs

-- what a map has under a name
abbrev pub found_in : {S : Type 0} → (kept : List ℕ) → IndexMap (List ℕ) NewName S → List ℕ → Option (List ℕ)
found_in kept given n = option_map (new_name kept) (get_by (bytes_eq n) given)

abbrev pub found : Names → List ℕ → Option (List ℕ)
found names n = found_in names.kept.now names.given n

-- a name that stands outside functions
abbrev pub declared_by : Names → List ℕ → List ℕ
declared_by names n = unwrap_or (found names n) n

-- a name in a function, whose variables hide declarations
unfoldable pub look_by : Look → List ℕ → List ℕ
look_by look n = unwrap_or (found look.locals.now n) (declared_by look.declared.now n)
