-- What marks say.
use Rattle.std.specs.Prelude.{◌≡◌, List, [], Some, map, slice_get}
use Rattle.wasm_lang.specs.Modules.{WasmModule}
use Rattle.wat_lang.specs.Grammar.{Marked}
use Rattle.wat_lang.specs.declared.parts.Space.{Space}
use Rattle.wat_lang.specs.declared.parts.Space.TheVariants as spaces
use Rattle.wat_lang.specs.Names as names
use Rattle.wat_lang.specs.Modules as spec
use Rattle.wat_lang.specs.Modules.{module_of}
use Rattle.wat_lang.specs.Rows.{rows_of, least}
use Rattle.wat_marks.specs.declared.fault.WatFault.{WatFault}
use Rattle.wat_marks.specs.declared.fault.WatFault.TheVariants as faults

-- no row refuses the marks, and this is their module
pub record Says (ms : List Marked) (m : WasmModule) : Type 0 where
  pub is_accepted : rows_of ms ≡ []
  pub is_this : module_of ms ≡ m

-- the first row by place, then by number; want of memory says nothing of the marks
abbrev pub IsFirstRow : List Marked → WatFault → Type 0
IsFirstRow ms (faults.Refused row at) = least (rows_of ms) ≡ Some (record { row = row; at = at })
IsFirstRow ms faults.Memory = Unit {0}

-- the module of fields by these names and types
abbrev pub module_by : (Space → names.Names) → List names.Field → WasmModule
module_by names_of fs = record {
  types = names.types_of fs;
  imports = map (spec.import_of names_of) (spec.parts_of (λ f. names.is_import f.kind) fs);
  functions = map (spec.function_type_in names_of) (spec.own_of fs spaces.Func);
  tables = map spec.limits_in (spec.own_of fs spaces.Table);
  memories = map spec.limits_in (spec.own_of fs spaces.Memory);
  globals = map (spec.global_of names_of) (spec.own_of fs spaces.Global);
  exports = map (spec.export_of names_of) (spec.parts_of (λ f. spec.is_export f.kind) fs);
  start = slice_get (map (spec.first_used names_of spaces.Func) (spec.parts_of (λ f. spec.is_start f.kind) fs)) 0;
  elements = map (spec.element_of names_of) (spec.own_of fs spaces.Elem);
  bodies = map (spec.body_of names_of (names.types_of fs)) (spec.own_of fs spaces.Func);
  segments = map (spec.segment_of names_of) (spec.own_of fs spaces.Data);
}
