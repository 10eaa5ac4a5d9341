use Rattle.std.proofs.Common.{◌∙◌, ap, sym}
use Rattle.sem_words.specs.Lists.{list_items}
use Rattle.asm_grammar_nodes.specs.Views.{words_view}
use Rattle.asm_grammar_nodes.specs.Tall.{stmt_tall_view}
use Rattle.asm_grammar_stmts.specs.Views.{frame_view}
use Rattle.asm_grammar_stmts.proofs.Following.{under_labels-all}
use Rattle.asm_grammar_stmts.proofs.frame.Frame.around.Goals as goal

pub returns-in-Ok-labelled : goal.returns-in-Ok-labelled
returns-in-Ok-labelled c = λ k.
    ap k c.in-Ok-labelled.ensures ∙ sym (under_labels-all (words_view (list_items c.in-Labels.labels)) k (stmt_tall_view c.args.stmt))
    ∙ ap (λ f. frame_view f k (stmt_tall_view c.args.stmt)) (sym c.in-Labels.is)
