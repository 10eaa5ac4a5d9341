use Rattle.std.proofs.Common.{◌∙◌, ap}
use Rattle.asm_lang.specs.Lexemes.{open_paren}
use Rattle.asm_lang.specs.Machine.{goes}
use Rattle.asm_grammar_nodes.specs.Views.{lexeme_view}
use Rattle.asm_grammar_stmts.specs.Views.{around_view, body_step_view, first_part}
use Rattle.asm_grammar_stmts.proofs.StepLemmas.{wanted, unwanted}
use Rattle.asm_grammar_stmts.proofs.parts.for_step.Goals as goal

pub returns-then-is : goal.returns-then-is
returns-then-is c = λ k.
    let t = lexeme_view c.args.token.now in
    ap (λ r. body_step_view r k t) c.on.ensures
    ∙ wanted open_paren t (goes (first_part c.args.at (around_view c.args.around k))) c.is.result c.is.ensures c.if-is.true

pub returns-else-is : goal.returns-else-is
returns-else-is c = λ k. unwanted open_paren (lexeme_view c.args.token.now) (goes (first_part c.args.at (around_view c.args.around k))) c.is.result c.is.ensures c.if-is.false
