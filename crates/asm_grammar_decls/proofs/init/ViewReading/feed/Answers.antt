use Rattle.std.proofs.Common.{refl}
use Rattle.asm_grammar_nodes.specs.Views.{lexeme_view}
use Rattle.asm_grammar_decls.proofs.init.ViewReading.feed.Goals as goal

pub returns-in-New : goal.returns-in-New
returns-in-New c = λ k. let e = c.view_if.ensures k (lexeme_view c.args.token.now) in rw (c.in-New.is, e, c.is-a_name.ensures) refl

pub returns-in-Property : goal.returns-in-Property
returns-in-Property c = λ k. let e = c.view_if-in-Property.ensures k (lexeme_view c.args.token.now) in rw (c.in-Property.is, e, c.is_word.ensures) refl
