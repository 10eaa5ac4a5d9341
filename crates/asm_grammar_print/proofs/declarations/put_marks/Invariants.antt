use Rattle.std.proofs.Common.{◌≡◌, take, map}
use Rattle.asm_lang.specs.Printing.{marks_text}
use Rattle.asm_tree.specs.Views.{param_view}
use Rattle.asm_grammar_print.specs.Put.{written, put}
use Rattle.asm_grammar_print.proofs.declarations.put_marks.Given as goal

abbrev pub invariant-loop-param : goal.invariant-loop-param
invariant-loop-param l = written l.out ≡ put (written l.initial.out) (marks_text (map param_view (take l.param-index l.params)))
