use Rattle.std.proofs.Common.{◌≡◌, take, map}
use Rattle.asm_lang.specs.Printing.{functions_text}
use Rattle.asm_tree.specs.Views.{function_view}
use Rattle.asm_grammar_print.specs.Put.{written, put}
use Rattle.asm_grammar_print.proofs.printing.put_functions.Given as goal

abbrev pub invariant-loop-function : goal.invariant-loop-function
invariant-loop-function l = written l.out ≡ put (written l.initial.out) (functions_text (map function_view (take l.function-index l.functions)))
