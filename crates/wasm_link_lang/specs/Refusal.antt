-- Which pairs of valid modules aren't linked, and why. The limits are this product's own.
use Rattle.std.specs.Prelude.{ℕ, zero, suc, ◌+◌, nat_eq, nat_lt, nat_le, min, Bool, true, false, not, ◌&&◌, ◌||◌, if◌then◌else◌, List, [], ◌∷◌, length, Option, Some, None, option_map, slice_get, codes}
use Rattle.std.specs.Cmp.Lexicographic.{pointwise}
use Rattle.wasm_lang.specs.declared.types.ImportKind.{ImportKind}
use Rattle.wasm_lang.specs.declared.types.ImportKind.TheVariants as imports
use Rattle.wasm_lang.specs.Instructions.{Instruction, call_indirect}
use Rattle.wasm_lang.specs.Limits.{most_types, most_functions, most_globals, most_entries, most_locals}
use Rattle.wasm_lang.specs.Modules.{FunctionType, Imported, Exported, FunctionBody, WasmModule}
use Rattle.wasm_lang_valid.specs.declared.profile.Beyond.TheVariants.{ImportedTable, MutableImport, OffsetFromImport, SegmentOutside, MemoryLarge}
use Rattle.wasm_lang_valid.specs.declared.profile.Outside.{Outside}
use Rattle.wasm_lang_valid.specs.Measures.{env_name, is_function_import}
use Rattle.wasm_lang_valid.specs.ModuleRules.{is_table, imported_functions, function_types, global_types, type_of_function}
use Rattle.wasm_lang_valid.specs.Profile.{offset_from_import, segment_outside, table_length, memory_bytes}
use Rattle.wasm_lang_valid.specs.Rows.{beyond_number}
use Rattle.wasm_lang_valid.specs.Runnable.{is_mutable, first_import, or_else, own_pages, above, row_or, most_pages_to_run}
use Rattle.wasm_lang_valid.specs.Runnable as alone
use Rattle.wasm_lang_valid.specs.Validity.{own_type}
use Rattle.wasm_lang_exec.specs.Reductions.{same_type}
use Rattle.wasm_lang_exec.specs.Session.{exported_function, function_named}
use Rattle.wasm_link_lang.specs.declared.rows.LinkRow.{LinkRow}
use Rattle.wasm_link_lang.specs.declared.rows.LinkRow.TheVariants as rows
use Rattle.wasm_link_lang.specs.declared.rows.Refused.{Refused}
use Rattle.wasm_link_lang.specs.Pairs.{Pair, past_first, bound_to, next, import_count}
use Rattle.wasm_link_lang.specs.Reductions.{entries}
use Rattle.wasm_link_lang.specs.Session.{pages}

-- ---- Profile: what a module meets by itself

abbrev pub outside_of : WasmModule → Option Outside
outside_of m =
    row_or ImportedTable (first_import is_table 0 m.imports)
    (row_or MutableImport (first_import is_mutable 0 m.imports)
    (row_or OffsetFromImport (offset_from_import 0 m.elements m.segments)
    (row_or SegmentOutside (segment_outside (table_length m) (memory_bytes m) 0 m.elements m.segments)
    (row_or MemoryLarge (above most_pages_to_run (alone.pages m)) None))))

-- the row's number
abbrev pub profile_row : WasmModule → Option ℕ
profile_row m = option_map (λ (o : Outside). beyond_number o.row) (outside_of m)

-- ---- MemoryName: the one memory is the import `env` `memory`

-- `memory`
abbrev pub memory_name : List ℕ
memory_name = codes "memory"

abbrev pub is_the_memory : Imported → Bool
is_the_memory i = pointwise nat_eq i.module_name env_name && pointwise nat_eq i.name memory_name

abbrev pub stray_min : Imported → ImportKind → Option ℕ
stray_min i (imports.Memory l) = if is_the_memory i then None else Some l.min
stray_min i _ = None

abbrev pub imported_stray : List Imported → Option ℕ
imported_stray [] = None
imported_stray (i ∷ is) = or_else (stray_min i i.kind) (imported_stray is)

-- the minimum of a memory under another name, or of the module's own
abbrev pub stray_memory : WasmModule → Option ℕ
stray_memory m = or_else (imported_stray m.imports) (own_pages m.memories)

-- ---- MemoryLimits

abbrev pub stated_max : ImportKind → Option ℕ
stated_max (imports.Memory l) = l.max
stated_max _ = None

-- the maximum that an imported memory states
abbrev pub maximum : List Imported → Option ℕ
maximum [] = None
maximum (i ∷ is) = or_else (stated_max i.kind) (maximum is)

-- the lesser of the numbers that are there
abbrev pub lesser : Option ℕ → Option ℕ → Option ℕ
lesser None n = n
lesser (Some k) None = Some k
lesser (Some k) (Some n) = Some (min k n)

abbrev pub least_maximum : Pair → Option ℕ
least_maximum w = lesser (maximum w.first.imports) (maximum w.second.imports)

-- the minimum, where a maximum is below it
abbrev pub past_maximum : Option ℕ → Option ℕ → Option ℕ
past_maximum (Some least) (Some most) = if nat_lt most least then Some least else None
past_maximum least most = None

-- ---- ExportTaken

abbrev pub is_there : {A : Type 0} → Option A → Bool
is_there None = false
is_there (Some x) = true

-- a function under a name under which the other module exports one
abbrev pub is_taken : (other : List Exported) → Exported → Bool
is_taken other e = is_there (exported_function e.kind) && is_there (function_named other e.name)

-- the place of the first of these, where the first export has this place
abbrev pub taken : (other : List Exported) → ℕ → List Exported → Option ℕ
taken other n [] = None
taken other n (e ∷ es) = if is_taken other e then Some n else taken other (suc n) es

-- ---- OtherType

abbrev pub are_of_one_type : Option FunctionType → Option FunctionType → Bool
are_of_one_type (Some t) (Some u) = same_type t u
are_of_one_type t u = false

abbrev pub imported_type : WasmModule → ImportKind → Option FunctionType
imported_type m (imports.Func t) = slice_get m.types t
imported_type m _ = None

abbrev pub differs : WasmModule → (other : WasmModule) → ImportKind → Option ℕ → Bool
differs m other kind None = false
differs m other kind (Some f) = not (are_of_one_type (imported_type m kind) (type_of_function other f))

-- the number of the first bound import of another type than the function that it is bound to, where the first import has this number
abbrev pub other_type : WasmModule → (other : WasmModule) → ℕ → List Imported → Option ℕ
other_type m other n [] = None
other_type m other n (i ∷ is) = if differs m other i.kind (bound_to other i) then Some n else other_type m other (suc n) is

-- ---- Cycle

-- the address that is next is this one, or leads there
abbrev pub leads_to : Option ℕ → ℕ → (ℕ → Bool) → Bool
leads_to None b further = false
leads_to (Some c) b further = nat_eq c b || further c

-- the second address is reached from the first within so many steps, one at least
abbrev pub reaches : ℕ → Pair → ℕ → ℕ → Bool
reaches zero w a b = false
reaches (suc n) w a b = leads_to (next w a) b (λ c. reaches n w c b)

-- a bound import leads back to itself
abbrev pub comes_back : Pair → ℕ → Bool
comes_back w a = reaches (import_count w) w a a

-- the number of the first import that comes back, where the first import has this number, and the first function import this address
abbrev pub cycle : Pair → (number address : ℕ) → List Imported → Option ℕ
cycle w n a [] = None
cycle w n a (i ∷ is) = if is_function_import i.kind then (if comes_back w a then Some n else cycle w (suc n) (suc a) is) else cycle w (suc n) a is

-- ---- Limit

-- the sum of two counts and one more, where it is above a limit
abbrev pub sum_above : ℕ → ℕ → Option ℕ
sum_above limit n = above limit (Some n)

abbrev pub sums_past : Pair → Option ℕ
sums_past w =
    or_else (sum_above most_types (length w.first.types + length w.second.types))
    (or_else (sum_above most_functions (length (function_types w.first) + length (function_types w.second) + 1))
    (or_else (sum_above most_globals (length (global_types w.first) + length (global_types w.second)))
    (sum_above most_entries (entries w.first + entries w.second))))

abbrev pub is_indirect : Instruction → Bool
is_indirect (call_indirect t) = true
is_indirect i = false

-- a call by an entry stands in the code
abbrev pub has_indirect : List Instruction → Bool
has_indirect [] = false
has_indirect (i ∷ is) = is_indirect i || has_indirect is

-- the locals of the body at this place, with the parameters
abbrev pub locals_of : WasmModule → ℕ → FunctionBody → ℕ
locals_of m i b = length (own_type m i).params + length b.locals

-- the number of the first function with a call by an entry and no room for one more local, of the bodies from this place on
abbrev pub crowded : WasmModule → ℕ → List FunctionBody → Option ℕ
crowded m i [] = None
crowded m i (b ∷ bs) =
    if has_indirect b.code && nat_le most_locals (locals_of m i b) then Some (length (imported_functions m.imports) + i) else crowded m (suc i) bs

-- ---- all of them: from top to bottom, and in each row the first module before the second

abbrev pub refused_by : LinkRow → (second : Bool) → Option ℕ → Option Refused → Option Refused
refused_by row second None other = other
refused_by row second (Some value) other = Some (record { row = row; second = second; value = value })

abbrev pub refusal : Pair → Option Refused
refusal w =
    refused_by rows.Profile false (profile_row w.first)
    (refused_by rows.Profile true (profile_row w.second)
    (refused_by rows.MemoryName false (stray_memory w.first)
    (refused_by rows.MemoryName true (stray_memory w.second)
    (refused_by rows.MemoryLimits false (past_maximum (pages w) (least_maximum w))
    (refused_by rows.ExportTaken true (taken w.first.exports 0 w.second.exports)
    (refused_by rows.OtherType false (other_type w.first w.second 0 w.first.imports)
    (refused_by rows.OtherType true (other_type w.second w.first 0 w.second.imports)
    (refused_by rows.Cycle false (cycle w 0 0 w.first.imports)
    (refused_by rows.Cycle true (cycle w 0 (past_first w).functions w.second.imports)
    (refused_by rows.Limit false (sums_past w)
    (refused_by rows.Limit false (crowded w.first 0 w.first.bodies)
    (refused_by rows.Limit true (crowded w.second 0 w.second.bodies) None))))))))))))
