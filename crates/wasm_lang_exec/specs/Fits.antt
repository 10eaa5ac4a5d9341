-- Which scripts fit a module of WebAssembly, and the line of the first part of a script that doesn't.
use Rattle.std.specs.Prelude.{ℕ, ◌+◌, ◌-◌, ◌*◌, ◌^◌, Bool, true, false, not, ◌&&◌, List, [], ◌∷◌, length, map, Option, Some, None, ℤ, pos, negsuc, int_le, int_lt, nat_le, bytes_eq, if◌then◌else◌}
use Rattle.std.specs.List.{list_all, list_any}
use Rattle.session_lang.specs.Script.{GlobalPlain, WritePlain, CallPlain, ReplyPlain, ScriptPlain}
use Rattle.session_lang.specs.Names.{import_name}
use Rattle.session_lang.specs.Fits as parts
use Rattle.session_lang.specs.Fits.{Tests, is_given, writes_of, are_bytes}
use Rattle.wasm_lang.specs.declared.types.ValType.{ValType}
use Rattle.wasm_lang.specs.declared.types.ValType.TheVariants.{I32, I64}
use Rattle.wasm_lang.specs.declared.types.ImportKind.{ImportKind}
use Rattle.wasm_lang.specs.declared.types.ImportKind.TheVariants as imports
use Rattle.wasm_lang.specs.Modules.{FunctionType, Imported, WasmModule}
use Rattle.wasm_lang_valid.specs.ModuleRules.{type_of_function}
use Rattle.wasm_lang_valid.specs.Runnable.{imported_pages, pages}
use Rattle.wasm_lang_exec.specs.Store.{page}
use Rattle.wasm_lang_exec.specs.Session.{function_named}

-- ---- numbers: signed and unsigned readings of a word

-- low ≤ z < high
abbrev pub is_between : ℤ → ℤ → ℤ → Bool
is_between low high z = int_le low z && int_lt z high

-- -2 ^ 31 and -2 ^ 63 are the least
abbrev pub in_range : ValType → ℤ → Bool
in_range I32 z = is_between (negsuc (2 ^ 31 - 1)) (pos (2 ^ 32)) z
in_range I64 z = is_between (negsuc (2 ^ 63 - 1)) (pos (2 ^ 64)) z

-- ---- globals

-- an imported global, by its one name
pub record GlobalImport : Type 0 where
  pub name : List ℕ
  pub type : ValType

abbrev pub with_import : Imported → ImportKind → List GlobalImport → List GlobalImport
with_import i (imports.Global g) gs = record { name = import_name i.module_name i.name; type = g.kind } ∷ gs
with_import i _ gs = gs

abbrev pub global_imports : List Imported → List GlobalImport
global_imports [] = []
global_imports (i ∷ is) = with_import i i.kind (global_imports is)

abbrev pub global_names : List GlobalImport → List (List ℕ)
global_names = map (λ (g : GlobalImport). g.name)

-- one of them has the name
abbrev pub is_imported : List GlobalImport → List ℕ → Bool
is_imported gs name = list_any (λ (g : GlobalImport). bytes_eq g.name name) gs

-- the number is in the range of each that has the name
abbrev pub has_range : List GlobalImport → List ℕ → ℤ → Bool
has_range [] name z = true
has_range (g ∷ gs) name z = (if bytes_eq g.name name then in_range g.type z else true) && has_range gs name z

-- it names an imported global, by its import name, with a value in the global's range, and no line before it does
abbrev pub fits_global : WasmModule → (before : List GlobalPlain) → GlobalPlain → Bool
fits_global m before g = let gs = global_imports m.imports in is_imported gs g.name && has_range gs g.name g.value && not (is_given before g.name)

-- ---- bytes

-- they lie in a memory of so many pages
abbrev pub lies_in : Option ℕ → WritePlain → Bool
lies_in None w = false
lies_in (Some n) w = are_bytes w.bytes && nat_le (w.at + length w.bytes) (n * page)

-- bytes are put into an imported memory
abbrev pub fits_write : WasmModule → WritePlain → Bool
fits_write m w = lies_in (imported_pages m.imports) w

-- a reply may write to a memory of the module's own too
abbrev pub fits_reply : WasmModule → ReplyPlain → Bool
fits_reply m r = list_all (lies_in (pages m)) (writes_of r)

-- ---- calls

abbrev pub takes_arguments : List ValType → List ℤ → Bool
takes_arguments [] [] = true
takes_arguments (t ∷ ts) (z ∷ zs) = in_range t z && takes_arguments ts zs
takes_arguments _ zs = false

abbrev pub takes : Option FunctionType → List ℤ → Bool
takes None zs = false
takes (Some t) zs = takes_arguments t.params zs

abbrev pub type_at : WasmModule → Option ℕ → Option FunctionType
type_at m None = None
type_at m (Some f) = type_of_function m f

-- it names an exported function, with as many arguments as parameters, each in the range of its type
abbrev pub fits_call : WasmModule → CallPlain → Bool
fits_call m c = takes (type_at m (function_named m.exports c.name)) c.args

-- ---- the whole

abbrev pub tests : WasmModule → Tests
tests m = record {
  imports = global_names (global_imports m.imports);
  fits_global = fits_global m;
  fits_write = fits_write m;
  fits_call = fits_call m;
  fits_reply = fits_reply m;
}

-- the first line of what doesn't fit, else 0 for an imported global without a line, else none: the script fits
abbrev pub misfit : WasmModule → ScriptPlain → Option ℕ
misfit m = parts.misfit (tests m)
