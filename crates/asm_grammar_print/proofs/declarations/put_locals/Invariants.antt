use Rattle.std.proofs.Common.{◌≡◌, take, map}
use Rattle.asm_tree.specs.Views.{local_view}
use Rattle.asm_grammar_print.specs.Put.{written, put, bindings_text}
use Rattle.asm_grammar_print.proofs.declarations.put_locals.Given as goal

abbrev pub invariant-loop-local : goal.invariant-loop-local
invariant-loop-local l = written l.out ≡ put (written l.initial.out) (bindings_text (map local_view (take l.local-index l.others)))
