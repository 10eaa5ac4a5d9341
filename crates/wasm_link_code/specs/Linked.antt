-- The module that a pair is linked to, as a plain function.
use Rattle.std.specs.Prelude.{ℕ, suc, ◌+◌, Bool, not, ◌&&◌, ◌||◌, if◌then◌else◌, List, [], ◌∷◌, ◌++◌, length, map, Option, Some, None, option_map, slice_get}
use Rattle.wasm_lang.specs.declared.types.ImportKind.{ImportKind}
use Rattle.wasm_lang.specs.declared.types.ImportKind.TheVariants as imports
use Rattle.wasm_lang.specs.declared.types.ExportKind.TheVariants as exports
use Rattle.wasm_lang.specs.declared.types.Limits.{Limits}
use Rattle.wasm_lang.specs.Instructions.{Instruction, plain, const32, global_get, call, end_mark}
use Rattle.wasm_lang.specs.Modules.{Imported, GlobalEntry, Exported, ElementSegment, FunctionBody, WasmModule}
use Rattle.wasm_lang_valid.specs.Measures.{env_name, is_function_import, is_global_import}
use Rattle.wasm_lang_valid.specs.ModuleRules.{function_types}
use Rattle.wasm_lang_exec.specs.Session.{exported_function}
use Rattle.wasm_link_lang.specs.Pairs.{Pair, past_first, at_addresses, bound_to, first_bindings, second_bindings}
use Rattle.wasm_link_lang.specs.Reductions.{entries}
use Rattle.wasm_link_lang.specs.Refusal.{is_there, memory_name, least_maximum, locals_of}
use Rattle.wasm_link_lang.specs.Session.{pages}
use Rattle.wasm_link_code.specs.Numbers.{unbound_count, or_zero, number, global_number}
use Rattle.wasm_link_code.specs.Code.{moved_code, scratch}

-- ---- imports: functions that aren't bound and globals, in order, and last the memory

abbrev pub stays : (other : WasmModule) → Imported → Bool
stays other i = (is_function_import i.kind && not (is_there (bound_to other i))) || is_global_import i.kind

abbrev pub staying : (other : WasmModule) → List Imported → List Imported
staying other [] = []
staying other (i ∷ is) = if stays other i then i ∷ staying other is else staying other is

-- the type stands so many after
abbrev pub moved_kind : ℕ → ImportKind → ImportKind
moved_kind n (imports.Func t) = imports.Func (n + t)
moved_kind n kind = kind

abbrev pub moved_import : ℕ → Imported → Imported
moved_import n i = record i { kind = moved_kind n i.kind }

abbrev pub memory_import : (least most : Option ℕ) → List Imported
memory_import None most = []
memory_import (Some least) most = record { module_name = env_name; name = memory_name; kind = imports.Memory (record { min = least; max = most }) } ∷ []

abbrev pub linked_imports : Pair → List Imported
linked_imports w =
    staying w.second w.first.imports
    ++ (map (moved_import (length w.first.types)) (staying w.first w.second.imports) ++ memory_import (pages w) (least_maximum w))

-- ---- the start: none, the only one, or one more function that calls both

abbrev pub second_start : Pair → Option ℕ
second_start w = option_map (λ f. (past_first w).functions + f) w.second.start

-- the number of the one more
abbrev pub last_function : Pair → ℕ
last_function w = unbound_count (first_bindings w) + unbound_count (second_bindings w) + length w.first.functions + length w.second.functions

-- by the addresses of both starts
abbrev pub linked_start : Pair → (first second : Option ℕ) → Option ℕ
linked_start w None second = option_map (number w) second
linked_start w (Some a) None = Some (number w a)
linked_start w (Some a) (Some b) = Some (last_function w)

-- the number of the type of the one more, which is that of the first's start
abbrev pub start_types : Pair → (first second : Option ℕ) → List ℕ
start_types w (Some a) (Some b) = or_zero (slice_get (function_types w.first) a) ∷ []
start_types w first second = []

abbrev pub start_bodies : Pair → (first second : Option ℕ) → List FunctionBody
start_bodies w (Some a) (Some b) = record { locals = []; code = call (number w a) ∷ call (number w b) ∷ end_mark ∷ [] } ∷ []
start_bodies w first second = []

-- ---- functions

-- the bodies of a module from this place on, whose code has addresses; the other module has so many entries
abbrev pub moved_bodies : Pair → WasmModule → (other : ℕ) → ℕ → List FunctionBody → List FunctionBody
moved_bodies w m other i [] = []
moved_bodies w m other i (b ∷ bs) =
    record { locals = b.locals ++ scratch other b.code; code = moved_code w (locals_of m i b) b.code } ∷ moved_bodies w m other (suc i) bs

abbrev pub linked_functions : Pair → List ℕ
linked_functions w = w.first.functions ++ (map (λ t. length w.first.types + t) w.second.functions ++ start_types w w.first.start w.second.start)

abbrev pub linked_bodies : Pair → List FunctionBody
linked_bodies w =
    moved_bodies w w.first (entries w.second) 0 w.first.bodies
    ++ (moved_bodies w w.second (entries w.first) 0 (at_addresses (past_first w) w.second).bodies ++ start_bodies w w.first.start (second_start w))

-- ---- tables and segments

abbrev pub either_table : List Limits → List Limits → ℕ → List Limits
either_table [] [] n = []
either_table first second n = record { min = n; max = None } ∷ []

-- an offset that is a constant, by so many more
abbrev pub moved_offset : ℕ → List Instruction → List Instruction
moved_offset n (plain (const32 k) ∷ is) = plain (const32 (k + n)) ∷ is
moved_offset n is = is

abbrev pub moved_element : (ℕ → ℕ) → ℕ → ElementSegment → ElementSegment
moved_element function n e = record { table = e.table; offset = moved_offset n e.offset; functions = map function e.functions }

abbrev pub linked_elements : Pair → List ElementSegment
linked_elements w =
    map (moved_element (number w) 0) w.first.elements
    ++ map (moved_element (λ f. number w ((past_first w).functions + f)) (entries w.first)) w.second.elements

-- ---- globals

-- a first value, whose global is numbered so
abbrev pub moved_value : (ℕ → ℕ) → List Instruction → List Instruction
moved_value global (plain (global_get x) ∷ is) = plain (global_get (global x)) ∷ is
moved_value global is = is

abbrev pub moved_global : (ℕ → ℕ) → GlobalEntry → GlobalEntry
moved_global global g = record g { init = moved_value global g.init }

abbrev pub linked_globals : Pair → List GlobalEntry
linked_globals w =
    map (moved_global (global_number w)) w.first.globals ++ map (moved_global (λ x. global_number w ((past_first w).globals + x))) w.second.globals

-- ---- exports: functions alone

abbrev pub with_export : (ℕ → ℕ) → Exported → Option ℕ → List Exported → List Exported
with_export function e None es = es
with_export function e (Some f) es = record { name = e.name; kind = exports.Func (function f) } ∷ es

abbrev pub moved_exports : (ℕ → ℕ) → List Exported → List Exported
moved_exports function [] = []
moved_exports function (e ∷ es) = with_export function e (exported_function e.kind) (moved_exports function es)

abbrev pub linked_exports : Pair → List Exported
linked_exports w = moved_exports (number w) w.first.exports ++ moved_exports (λ f. number w ((past_first w).functions + f)) w.second.exports

-- ---- the whole

unfoldable pub linked : Pair → WasmModule
linked w = record {
  types = w.first.types ++ w.second.types;
  imports = linked_imports w;
  functions = linked_functions w;
  tables = either_table w.first.tables w.second.tables (entries w.first + entries w.second);
  memories = [];
  globals = linked_globals w;
  exports = linked_exports w;
  start = linked_start w w.first.start (second_start w);
  elements = linked_elements w;
  bodies = linked_bodies w;
  segments = w.first.segments ++ w.second.segments;
}
