-- The tables of asm.js, of a module with these types.
use Rattle.std.specs.Prelude.{ℕ, List, map}
use Rattle.wasm_lang.specs.Modules.{FunctionType}
use Rattle.asm_lang.specs.Modules.{Table}
use Rattle.wasm2js_translation.specs.Names.{numbered, table, spelled}
use Rattle.wasm2js_lang.specs.Tables.{MaskedTable}
use Rattle.wasm2js_translation.specs.Tables.{cell_name}
use Rattle.wasm2js_stubs.specs.Needs.{stub_in}

-- of types with this stub
abbrev pub table_with : (stub : ℕ) → MaskedTable → Table
table_with stub t = record { name = spelled (numbered table t.function_type); members = map (λ x. spelled (cell_name stub x)) t.cells }

abbrev pub table_in : List FunctionType → MaskedTable → Table
table_in types t = table_with (stub_in types t) t
