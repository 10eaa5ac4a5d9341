use Rattle.std.proofs.Common.{◌∙◌}
use Rattle.asm_grammar_nodes.specs.Views.{lexeme_view}
use Rattle.asm_grammar_modules.proofs.Begins.{begins}
use Rattle.asm_grammar_modules.proofs.module.ModuleReading.feed.Goals as goal

pub returns-in-Function-2 : goal.returns-in-Function-2
returns-in-Function-2 c =
    c.begin_function.ensures
    ∙ begins c.in_ok-in_outside-in-Outside.field-0 c.in_outside.new.place c.in_outside.new.parts c.in-Outside.place c.args.self.now.place c.args.self.now.parts (lexeme_view c.args.token.now)
    c.in-Function-2.is c.in-Outside.is c.in_ok-in_outside-in-Outside.ensures
