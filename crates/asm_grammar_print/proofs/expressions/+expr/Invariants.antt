use Rattle.std.proofs.Common.{◌≡◌, true, take}
use Rattle.asm_lang.specs.Printing.{exprs_text, links_text}
use Rattle.asm_tree.specs.Views.{exprs_view, links_view}
use Rattle.asm_grammar_print.specs.Put.{written, put}
use Rattle.asm_grammar_print.proofs.expressions.+expr.Given as goal

abbrev pub invariant-put_links-loop-link : goal.invariant-put_links-loop-link
invariant-put_links-loop-link l = written l.out ≡ put (written l.initial.out) (links_text (links_view (take l.link-index l.links)))

abbrev pub invariant-put_list-loop-expr : goal.invariant-put_list-loop-expr
invariant-put_list-loop-expr l = written l.out ≡ put (written l.initial.out) (exprs_text true (exprs_view (take l.expr-index l.others)))
