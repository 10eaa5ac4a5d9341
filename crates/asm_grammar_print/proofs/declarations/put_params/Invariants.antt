use Rattle.std.proofs.Common.{◌≡◌, true, take, map}
use Rattle.asm_lang.specs.Printing.{names_text, param_names}
use Rattle.asm_tree.specs.Views.{param_view}
use Rattle.asm_grammar_print.specs.Put.{written, put}
use Rattle.asm_grammar_print.proofs.declarations.put_params.Given as goal

abbrev pub invariant-loop-param : goal.invariant-loop-param
invariant-loop-param l = written l.out ≡ put (written l.initial.out) (names_text true (param_names (map param_view (take l.param-index l.others))))
