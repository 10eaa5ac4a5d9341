use Rattle.std.proofs.Common.{◌≡◌, ◌++◌, map, drop}
use Rattle.sem_words.specs.Lists.{list_items}
use Rattle.asm_tree.specs.Views.{module_view, table_view}
use Rattle.asm2wasm_lang.specs.Tables.{members_of}
use Rattle.asm_run_emit_bodies.proofs.modules.tables_of.Given as goal

abbrev pub invariant-loop-table : goal.invariant-loop-table
invariant-loop-table l = map (λ t. list_items t) l.all.items ++ map (members_of (module_view l.names)) (map table_view (drop l.table-index l.tables)) ≡ map (members_of (module_view l.names)) (map table_view l.tables)
