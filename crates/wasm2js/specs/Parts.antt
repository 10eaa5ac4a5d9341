-- The functions of a translated module, in two parts.
use Rattle.std.specs.Prelude.{List, [], ◌∷◌, ◌++◌, Some, codes}
use Rattle.asm_lang.specs.Modules.{Function, Module, many}
use Rattle.wasm_lang.specs.Modules.{WasmModule}
use Rattle.wasm_lang_exec.specs.Reductions.{callees}
use Rattle.wasm2js_translation.specs.Modules.{helpers, functions_from, init_function, high_function, stdlib_name, foreign_name, heap_name, variables_of, exports_of}
use Rattle.wasm2js_translation.specs.Tables.{stubs, tables_for}

-- the helpers, and what stands for the source's functions
unfoldable pub first_functions : WasmModule → List Function
first_functions m = helpers m ++ functions_from m 0 (callees m)

-- what stands for missing entries, and the two that begin a session and give the last high word
unfoldable pub last_functions : WasmModule → List Function
last_functions m = stubs m ++ init_function m ∷ high_function ∷ []

-- the module but for its functions, of which there are none
unfoldable pub without_functions : WasmModule → Module
without_functions m = record {
  name = Some (codes "wasm");
  params = stdlib_name ∷ foreign_name ∷ heap_name ∷ [];
  globals = variables_of m;
  functions = [];
  tables = tables_for m;
  exports = many (exports_of m);
}
