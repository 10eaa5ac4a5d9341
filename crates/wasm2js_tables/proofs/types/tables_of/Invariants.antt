use Rattle.std.proofs.Common.{◌≡◌, ◌++◌, map, take}
use Rattle.sem_words.specs.Lists.{list_items}
use Rattle.wasm_tree.specs.Views.{type_of}
use Rattle.wasm2js_lang.specs.Tables.{masked}
use Rattle.wasm2js_tables.specs.Forms.{AreForms}
use Rattle.wasm2js_tables.specs.Views.{masked_view}
use Rattle.wasm2js_tables.proofs.Noted.{tables_from}
use Rattle.wasm2js_tables.proofs.types.tables_of.Given as goal

abbrev pub invariant-loop-n : goal.invariant-loop-n
invariant-loop-n l = record {
  before : AreForms l.before.keys (map type_of (take l.n l.types));
  tables : masked l.valid ≡ map masked_view (list_items l.tables) ++ tables_from l.valid l.types l.n;
}
