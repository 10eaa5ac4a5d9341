-- The context of a module's body.
use Rattle.std.specs.Prelude.{List, [], Option, Some, None}
use Rattle.wasm_lang.specs.declared.types.ValType.{ValType}
use Rattle.wasm_lang.specs.Modules.{FunctionType, WasmModule}
use Rattle.wasm_lang_valid.specs.ModuleRules.{function_types, global_types, has_table, has_memory}
use Rattle.wasm_lang_valid.specs.Typing.{Context, result_of}

abbrev pub result_in : Option FunctionType → Option ValType
result_in None = None
result_in (Some t) = result_of t

-- the context of a module's body, whose function has this type and whose parameters and locals are these
abbrev pub scope_context : WasmModule → Option FunctionType → List ValType → Context
scope_context m own locals = record {
  types = m.types;
  functions = function_types m;
  table = has_table m;
  memory = has_memory m;
  globals = global_types m;
  locals = locals;
  labels = [];
  returns = result_in own;
}
