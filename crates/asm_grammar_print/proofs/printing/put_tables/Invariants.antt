use Rattle.std.proofs.Common.{◌≡◌, take, map}
use Rattle.asm_lang.specs.Printing.{tables_text}
use Rattle.asm_tree.specs.Views.{table_view}
use Rattle.asm_grammar_print.specs.Put.{written, put}
use Rattle.asm_grammar_print.proofs.printing.put_tables.Given as goal

abbrev pub invariant-loop-table : goal.invariant-loop-table
invariant-loop-table l = written l.out ≡ put (written l.initial.out) (tables_text (map table_view (take l.table-index l.tables)))
