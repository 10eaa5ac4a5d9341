-- What the code makes of the parts of two modules, also of such as no valid module has.
use Rattle.std.specs.Prelude.{ℕ, zero, suc, ◌+◌, ◌-◌, ◌^◌, nat_lt, if◌then◌else◌, Bool, true, false, List, [], ◌∷◌, ◌++◌, length, map, Option, Some, None}
use Rattle.std.specs.List.{flat_map}
use Rattle.wasm_lang.specs.declared.types.Limits.{Limits}
use Rattle.wasm_lang.specs.declared.types.ImportKind.{ImportKind}
use Rattle.wasm_lang.specs.declared.types.ImportKind.TheVariants as imports
use Rattle.wasm_lang.specs.declared.types.ValType.{ValType}
use Rattle.wasm_lang.specs.declared.types.ValType.TheVariants.{I32}
use Rattle.wasm_lang.specs.Instructions.{Instruction, plain, const32, const64, global_get, call, end_mark}
use Rattle.wasm_lang.specs.Modules.{Imported, GlobalEntry, ElementSegment, DataSegment, FunctionBody, WasmModule}
use Rattle.wasm_link_lang.specs.Pairs.{Pair, past_first}
use Rattle.wasm_link_code.specs.Numbers.{number, global_number}
use Rattle.wasm_link_lang.specs.Reductions.{entries}
use Rattle.wasm_link_lang.specs.Refusal.{least_maximum, has_indirect, locals_of}
use Rattle.wasm_link_lang.specs.Session.{pages}
use Rattle.wasm_link_code.specs.Code.{scratch}
use Rattle.wasm_link_code.specs.Linked.{stays, memory_import, moved_exports, start_types, last_function}
use Rattle.wasm_link_move.specs.Moved.{pushed}

-- the number of what a function of the first or the second stands for, by its own number
abbrev pub function_in : Pair → (second : Bool) → ℕ → ℕ
function_in w false f = number w f
function_in w true f = number w ((past_first w).functions + f)

abbrev pub global_in : Pair → (second : Bool) → ℕ → ℕ
global_in w false x = global_number w x
global_in w true x = global_number w ((past_first w).globals + x)

-- the number, or the greatest of 32 bits
abbrev pub capped : ℕ → ℕ
capped n = if nat_lt n (2 ^ 32) then n else 2 ^ 32 - 1

abbrev pub kind_made : ℕ → ImportKind → ImportKind
kind_made n (imports.Func t) = imports.Func (capped (n + t))
kind_made n kind = kind

abbrev pub import_made : ℕ → Imported → Imported
import_made n i = record i { kind = kind_made n i.kind }

-- the imports that stay, with types that stand so many after
abbrev pub imports_made : (other : WasmModule) → ℕ → List Imported → List Imported
imports_made other n [] = []
imports_made other n (i ∷ is) = if stays other i then import_made n i ∷ imports_made other n is else imports_made other n is

-- a first value of one constant or global
abbrev pub value_made : (ℕ → ℕ) → List Instruction → List Instruction
value_made global (plain (const32 n) ∷ end_mark ∷ []) = plain (const32 n) ∷ end_mark ∷ []
value_made global (plain (const64 n) ∷ end_mark ∷ []) = plain (const64 n) ∷ end_mark ∷ []
value_made global (plain (global_get x) ∷ end_mark ∷ []) = plain (global_get (global x)) ∷ end_mark ∷ []
value_made global code = []

abbrev pub global_made : (ℕ → ℕ) → GlobalEntry → GlobalEntry
global_made global g = record g { init = value_made global g.init }

-- an offset of one constant, by so many more
abbrev pub offset_made : ℕ → List Instruction → List Instruction
offset_made n (plain (const32 k) ∷ end_mark ∷ []) = plain (const32 (capped (k + n))) ∷ end_mark ∷ []
offset_made n code = []

-- .. as it is
abbrev pub offset_kept : List Instruction → List Instruction
offset_kept (plain (const32 k) ∷ end_mark ∷ []) = plain (const32 k) ∷ end_mark ∷ []
offset_kept code = []

abbrev pub element_made : (ℕ → ℕ) → ℕ → ElementSegment → ElementSegment
element_made function n e = record { table = e.table; offset = offset_made n e.offset; functions = map function e.functions }

abbrev pub segment_made : DataSegment → DataSegment
segment_made d = record { memory = d.memory; offset = offset_kept d.offset; bytes = d.bytes }

-- ---- bodies

-- a scratch local is needed, where the other module has so many entries
abbrev pub needs_scratch : (other : ℕ) → List Instruction → Bool
needs_scratch zero code = false
needs_scratch (suc other) code = has_indirect code

abbrev pub scratch_if : Bool → List ValType
scratch_if false = []
scratch_if true = I32 ∷ []

-- with this scratch local
abbrev pub body_with : Pair → (second : Bool) → (k other : ℕ) → FunctionBody → FunctionBody
body_with w second k other b = record { locals = b.locals ++ scratch other b.code; code = flat_map (pushed w second k) b.code }

abbrev pub body_made : Pair → (second : Bool) → WasmModule → (other i : ℕ) → FunctionBody → FunctionBody
body_made w second m other i b = body_with w second (locals_of m i b) other b

-- from this place on
abbrev pub bodies_made : Pair → (second : Bool) → WasmModule → (other i : ℕ) → List FunctionBody → List FunctionBody
bodies_made w second m other i [] = []
bodies_made w second m other i (b ∷ bs) = body_made w second m other i b ∷ bodies_made w second m other (suc i) bs

-- ---- the whole

abbrev pub table_made : List Limits → List Limits → ℕ → List Limits
table_made [] [] n = []
table_made first second n = record { min = capped n; max = None } ∷ []

abbrev pub start_made : Pair → (first second : Option ℕ) → Option ℕ
start_made w None None = None
start_made w None (Some b) = Some (function_in w true b)
start_made w (Some a) None = Some (function_in w false a)
start_made w (Some a) (Some b) = Some (last_function w)

abbrev pub start_bodies_made : Pair → (first second : Option ℕ) → List FunctionBody
start_bodies_made w (Some a) (Some b) = record { locals = []; code = call (function_in w false a) ∷ call (function_in w true b) ∷ end_mark ∷ [] } ∷ []
start_bodies_made w first second = []

abbrev pub functions_made : Pair → List ℕ
functions_made w = w.first.functions ++ (map (λ t. capped (length w.first.types + t)) w.second.functions ++ start_types w w.first.start w.second.start)

abbrev pub module_made : Pair → WasmModule
module_made w = record {
  types = w.first.types ++ w.second.types;
  imports = imports_made w.second 0 w.first.imports ++ (imports_made w.first (length w.first.types) w.second.imports ++ memory_import (pages w) (least_maximum w));
  functions = functions_made w;
  tables = table_made w.first.tables w.second.tables (entries w.first + entries w.second);
  memories = [];
  globals = map (global_made (global_in w false)) w.first.globals ++ map (global_made (global_in w true)) w.second.globals;
  exports = moved_exports (function_in w false) w.first.exports ++ moved_exports (function_in w true) w.second.exports;
  start = start_made w w.first.start w.second.start;
  elements = map (element_made (function_in w false) 0) w.first.elements ++ map (element_made (function_in w true) (entries w.first)) w.second.elements;
  bodies = bodies_made w false w.first (entries w.second) 0 w.first.bodies
      ++ (bodies_made w true w.second (entries w.first) 0 w.second.bodies ++ start_bodies_made w w.first.start w.second.start);
  segments = map segment_made w.first.segments ++ map segment_made w.second.segments;
}

-- a module without what stands behind its globals
abbrev pub front : WasmModule → WasmModule
front m = record m { exports = []; start = None; elements = []; bodies = []; segments = [] }
