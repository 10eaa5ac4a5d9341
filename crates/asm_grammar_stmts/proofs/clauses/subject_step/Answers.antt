use Rattle.std.proofs.Common.{◌∙◌, ap}
use Rattle.asm_lang.specs.Lexemes.{open_brace}
use Rattle.asm_lang.specs.Trees.{switches}
use Rattle.asm_lang.specs.Machine.{goes, at_clauses}
use Rattle.asm_grammar_nodes.specs.Views.{lexeme_view}
use Rattle.asm_grammar_nodes.specs.Tall.{tall_view}
use Rattle.asm_grammar_stmts.specs.Views.{after_clauses, around_view, body_step_view}
use Rattle.asm_grammar_stmts.proofs.StepLemmas.{wanted, unwanted}
use Rattle.asm_grammar_stmts.proofs.clauses.subject_step.Goals as goal

pub returns-then-is : goal.returns-then-is
returns-then-is c = λ k.
    let t = lexeme_view c.args.token.now in
    let k' = around_view c.args.around k in
    let e = tall_view c.args.subject in
    ap (λ r. body_step_view r k t) c.on.ensures
    ∙ ap (λ cs. goes (at_clauses (after_clauses cs (λ ds. goes (k' (switches c.args.at e ds)))))) c.new-clauses.ensures
    ∙ wanted open_brace t (goes (at_clauses (λ cs. goes (k' (switches c.args.at e cs))))) c.is.result c.is.ensures c.if-is.true

pub returns-else-is : goal.returns-else-is
returns-else-is c = λ k.
    let k' = around_view c.args.around k in
    unwanted open_brace (lexeme_view c.args.token.now) (goes (at_clauses (λ cs. goes (k' (switches c.args.at (tall_view c.args.subject) cs))))) c.is.result c.is.ensures c.if-is.false
