use Rattle.std.proofs.Common.{◌≡◌, length, map, drop}
use Rattle.wasm_tree.specs.Views.{element_of, module_of}
use Rattle.wasm_lang_valid.specs.Profile.{table_length}
use Rattle.wasm2js_lang.specs.Tables as plain
use Rattle.wasm2js_tables.proofs.entries.entries_of.Given as goal

abbrev pub invariant-loop-element : goal.invariant-loop-element
invariant-loop-element l = record {
  rest : plain.entries_of (module_of l.«module») ≡ plain.with_elements (map element_of (drop l.element-index l.element-items)) l.entries.items;
  long : length l.entries.items ≡ table_length (module_of l.«module»);
}
