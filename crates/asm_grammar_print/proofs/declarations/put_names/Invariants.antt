use Rattle.std.proofs.Common.{◌≡◌, true, take}
use Rattle.asm_lang.specs.Printing.{names_text}
use Rattle.asm_tree.specs.Views.{texts_view}
use Rattle.asm_grammar_print.specs.Put.{written, put}
use Rattle.asm_grammar_print.proofs.declarations.put_names.Given as goal

abbrev pub invariant-loop-name : goal.invariant-loop-name
invariant-loop-name l = written l.out ≡ put (written l.initial.out) (names_text true (texts_view (take l.name-index l.others)))
