use Rattle.std.proofs.Common.{◌≡◌, true, take, map}
use Rattle.asm_lang.specs.Printing.{export_pieces}
use Rattle.asm_tree.specs.Views.{export_view}
use Rattle.asm_grammar_print.specs.Put.{written, put}
use Rattle.asm_grammar_print.proofs.printing.put_export_list.Given as goal

abbrev pub invariant-loop-export : goal.invariant-loop-export
invariant-loop-export l = written l.out ≡ put (written l.initial.out) (export_pieces true (map export_view (take l.export-index l.others)))
