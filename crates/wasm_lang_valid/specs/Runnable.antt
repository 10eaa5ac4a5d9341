-- Which valid modules can be run. The limits are this product's own.
use Rattle.std.specs.Prelude.{ℕ, ◌+◌, Bool, false, cond, nat_lt, List, [], ◌∷◌, Option, Some, None}
use Rattle.wasm_lang.specs.declared.types.Limits.{Limits}
use Rattle.wasm_lang.specs.declared.types.ImportKind.{ImportKind}
use Rattle.wasm_lang.specs.declared.types.ImportKind.TheVariants as imports
use Rattle.wasm_lang.specs.Modules.{Imported, WasmModule}
use Rattle.wasm_lang_valid.specs.declared.profile.Beyond.{Beyond}
use Rattle.wasm_lang_valid.specs.declared.profile.Beyond.TheVariants.{ImportedTable, MutableImport, MemoryLarge}
use Rattle.wasm_lang_valid.specs.declared.profile.Outside.{Outside}
use Rattle.wasm_lang_valid.specs.ModuleRules.{is_table}

abbrev pub is_mutable : ImportKind → Bool
is_mutable (imports.Global g) = g.mutable
is_mutable _ = false

-- the number of the first import of such a kind, where the first of these has this number
abbrev pub first_import : (ImportKind → Bool) → ℕ → List Imported → Option ℕ
first_import test n [] = None
first_import test n (i ∷ is) = cond (test i.kind) (Some n) (first_import test (n + 1) is)

-- the minimum of a memory among these imports, and of the first of these memories
abbrev pub memory_min : ImportKind → Option ℕ
memory_min (imports.Memory l) = Some l.min
memory_min _ = None

abbrev pub or_else : Option ℕ → Option ℕ → Option ℕ
or_else None o = o
or_else (Some n) o = Some n

abbrev pub imported_pages : List Imported → Option ℕ
imported_pages [] = None
imported_pages (i ∷ is) = or_else (memory_min i.kind) (imported_pages is)

abbrev pub own_pages : List Limits → Option ℕ
own_pages [] = None
own_pages (l ∷ ls) = Some l.min

-- the minimum of the memory
abbrev pub pages : WasmModule → Option ℕ
pages m = or_else (imported_pages m.imports) (own_pages m.memories)

abbrev pub most_pages_to_run : ℕ
most_pages_to_run = 4096

-- what is above a limit
abbrev pub above : ℕ → Option ℕ → Option ℕ
above limit None = None
above limit (Some n) = cond (nat_lt limit n) (Some n) None

-- this row where it has a value, else another
abbrev pub row_or : Beyond → Option ℕ → Option Outside → Option Outside
row_or row None other = other
row_or row (Some value) other = Some (record { row = row; value = value })

-- the first row that a module to run meets, if any
abbrev pub not_runnable : WasmModule → Option Outside
not_runnable m =
    row_or ImportedTable (first_import is_table 0 m.imports)
    (row_or MutableImport (first_import is_mutable 0 m.imports)
    (row_or MemoryLarge (above most_pages_to_run (pages m)) None))
