use Rattle.std.proofs.Common.{◌∙◌, ap}
use Rattle.asm_lang.specs.Lexemes.{colon}
use Rattle.asm_lang.specs.Trees.{no_stmt}
use Rattle.asm_lang.specs.Machine.{goes, at_stmts}
use Rattle.asm_grammar_nodes.specs.Views.{lexeme_view}
use Rattle.asm_grammar_stmts.specs.declared.frame.Listing.TheVariants as listings
use Rattle.asm_grammar_stmts.specs.Views.{around_view, listing_view}
use Rattle.asm_grammar_stmts.proofs.StepLemmas.{ok_map, wanted, unwanted}
use Rattle.asm_grammar_stmts.proofs.clauses.default_step.Goals as goal

pub returns-then-is : goal.returns-then-is
returns-then-is c =
    let t = lexeme_view c.args.token.now in
    ok_map c.enter.result
    (λ r is k.
    let after = listing_view (listings.Default c.args.switch) (around_view c.args.around k) in
    is k t ∙ ap (λ ss. goes (at_stmts ss after)) c.new.ensures
    ∙ wanted colon t (goes (at_stmts no_stmt after)) c.is.result c.is.ensures c.if-is.true)
    c.enter.ensures

pub returns-else-is : goal.returns-else-is
returns-else-is c = λ k.
    let after = listing_view (listings.Default c.args.switch) (around_view c.args.around k) in
    unwanted colon (lexeme_view c.args.token.now) (goes (at_stmts no_stmt after)) c.is.result c.is.ensures c.if-is.false
