use Rattle.std.proofs.Common.{◌≡◌, take, map}
use Rattle.asm_lang.specs.Printing.{globals_text}
use Rattle.asm_tree.specs.Views.{global_view}
use Rattle.asm_grammar_print.specs.Put.{written, put}
use Rattle.asm_grammar_print.proofs.printing.put_globals.Given as goal

abbrev pub invariant-loop-global : goal.invariant-loop-global
invariant-loop-global l = written l.out ≡ put (written l.initial.out) (globals_text (map global_view (take l.global-index l.globals)))
