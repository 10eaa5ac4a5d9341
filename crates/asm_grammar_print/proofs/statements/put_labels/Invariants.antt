use Rattle.std.proofs.Common.{◌≡◌, take}
use Rattle.asm_lang.specs.Printing.{labels_text}
use Rattle.asm_tree.specs.Views.{texts_view}
use Rattle.asm_grammar_print.specs.Put.{written, put}
use Rattle.asm_grammar_print.proofs.statements.put_labels.Given as goal

abbrev pub invariant-loop-label : goal.invariant-loop-label
invariant-loop-label l = written l.out ≡ put (written l.initial.out) (labels_text (texts_view (take l.label-index l.labels)))
