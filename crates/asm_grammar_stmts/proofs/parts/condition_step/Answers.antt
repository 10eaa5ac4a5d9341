use Rattle.std.proofs.Common.{◌∙◌, ap}
use Rattle.asm_lang.specs.Lexemes.{open_paren}
use Rattle.asm_lang.specs.Machine.{goes, at_expr}
use Rattle.asm_grammar_nodes.specs.Views.{lexeme_view}
use Rattle.asm_grammar_stmts.specs.declared.state.Purpose.TheVariants as purposes
use Rattle.asm_grammar_stmts.specs.Views.{around_view, body_step_view, purpose_view}
use Rattle.asm_grammar_stmts.proofs.StepLemmas.{wanted, unwanted}
use Rattle.asm_grammar_stmts.proofs.parts.condition_step.Goals as goal

pub returns-then-is : goal.returns-then-is
returns-then-is c = λ k.
    let t = lexeme_view c.args.token.now in
    let after = purpose_view (purposes.Condition c.args.kind) (around_view c.args.around k) in
    ap (λ r. body_step_view r k t) c.on.ensures ∙ ap goes (c.start-expr.ensures after)
    ∙ wanted open_paren t (goes (at_expr 0 after)) c.is.result c.is.ensures c.if-is.true

pub returns-else-is : goal.returns-else-is
returns-else-is c = λ k.
    let after = purpose_view (purposes.Condition c.args.kind) (around_view c.args.around k) in
    unwanted open_paren (lexeme_view c.args.token.now) (goes (at_expr 0 after)) c.is.result c.is.ensures c.if-is.false
