-- Which modules are accepted, and the first row of any other: rows of names come first, then those of types, then those of limits.
use Rattle.std.specs.Prelude.{◌≡◌, Bool, true, false, ◌||◌, List, [], ◌∷◌, ◌++◌, ℕ, suc, Option, None, bytes_eq, if◌then◌else◌, map}
use Rattle.asm_lang.specs.Trees.{Init, foreign_int}
use Rattle.asm_lang.specs.Modules.{Variable, Function, Export, Exports, one, many, Module}
use Rattle.asm_lang_valid.specs.Rows.{Met, first}
use Rattle.asm_lang_valid.specs.NameRows.{name_rows}
use Rattle.asm_lang_valid.specs.TypeRows.{type_rows}
use Rattle.asm_lang_valid.specs.LimitRows.{limit_rows}
use Rattle.asm_lang_valid.specs.Scope.{init_meaning, Meaning, a_view, is_in}

abbrev pub all_rows : Module → List Met
all_rows m = name_rows m ++ (type_rows m ++ limit_rows m)

abbrev pub refusal : Module → Option Met
refusal m = first (all_rows m)

abbrev pub IsAccepted : Module → Type 0
IsAccepted m = refusal m ≡ None

-- ---- what an accepted module has

abbrev pub is_view : Meaning → Bool
is_view (a_view v) = true
is_view _ = false

abbrev pub any_view : Module → List Variable → Bool
any_view m [] = false
any_view m (v ∷ vs) = is_view (init_meaning m v.init) || any_view m vs

-- a module has a heap exactly where it declares an integer view
abbrev pub has_heap : Module → Bool
has_heap m = any_view m m.globals

-- the foreign members that are imported as ints, each once, in order of first declaration, after these
abbrev pub with_global : List (List ℕ) → Init → List (List ℕ)
with_global seen (foreign_int f p) = if is_in p seen then seen else seen ++ p ∷ []
with_global seen _ = seen

abbrev pub global_imports : List (List ℕ) → List Variable → List (List ℕ)
global_imports seen [] = seen
global_imports seen (v ∷ vs) = global_imports (with_global seen v.init) vs

abbrev pub foreign_globals : Module → List (List ℕ)
foreign_globals m = global_imports [] m.globals

-- the number of the first function of this name
abbrev pub function_number : List Function → List ℕ → ℕ
function_number [] n = 0
function_number (f ∷ fs) n = if bytes_eq f.name n then 0 else suc (function_number fs n)

-- an export with the number of its function; a single one has its function's name
pub record Exported : Type 0 where
  pub key : List ℕ
  pub function : ℕ

abbrev pub exported : Module → List ℕ → List ℕ → Exported
exported m k f = record { key = k; function = function_number m.functions f }

abbrev pub exported_from : Module → Exports → List Exported
exported_from m (one f) = exported m f f ∷ []
exported_from m (many es) = map (λ (e : Export). exported m e.key e.function) es
