use Rattle.std.proofs.Common.{◌≡◌, ◌++◌, drop, map}
use Rattle.sem_words.specs.Lists.{list_items}
use Rattle.wasm_tree.specs.Views.{type_of}
use Rattle.asm_tree.specs.Views.{table_view}
use Rattle.wasm2js_tables.specs.Views.{masked_view}
use Rattle.wasm2js_stubs.specs.Members.{table_in}
use Rattle.wasm2js_stubs.proofs.members.tables_of.Given as goal

abbrev pub invariant-loop-table : goal.invariant-loop-table
invariant-loop-table l =
    map table_view (list_items l.tables) ++ map (table_in (map type_of l.types)) (map masked_view (drop l.table-index l.masked)) ≡ map (table_in (map type_of l.types)) (map masked_view l.masked)
