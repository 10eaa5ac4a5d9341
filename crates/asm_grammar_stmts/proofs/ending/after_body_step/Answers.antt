use Rattle.std.proofs.Common.{◌∙◌, ap}
use Rattle.asm_lang.specs.Lexemes.{while_word}
use Rattle.asm_grammar_nodes.specs.Views.{lexeme_view}
use Rattle.asm_grammar_nodes.specs.Tall.{stmt_tall_view}
use Rattle.asm_grammar_stmts.specs.Views.{around_view, body_step_view, do_condition}
use Rattle.asm_grammar_stmts.proofs.StepLemmas.{wanted, unwanted}
use Rattle.asm_grammar_stmts.proofs.ending.after_body_step.Goals as goal

pub returns-then-is : goal.returns-then-is
returns-then-is c = λ k.
    let t = lexeme_view c.args.token.now in
    ap (λ r. body_step_view r k t) c.on.ensures
    ∙ wanted while_word t (do_condition c.args.at (stmt_tall_view c.args.body) (around_view c.args.around k)) c.is.result c.is.ensures c.if-is.true

pub returns-else-is : goal.returns-else-is
returns-else-is c = λ k. unwanted while_word (lexeme_view c.args.token.now) (do_condition c.args.at (stmt_tall_view c.args.body) (around_view c.args.around k)) c.is.result c.is.ensures c.if-is.false
