use Rattle.asm_grammar_modules.specs.Readings.{reading_view}
use Rattle.asm_grammar.proofs.All.{refused, lacks_use, too_high}
use Rattle.asm_grammar.proofs.Laws.{verdict_of}
use Rattle.asm_grammar.proofs.parsing.Parser.feed.Goals as goal

pub returns-in-Stuck-clause-fault : goal.returns-in-Stuck-clause-fault
returns-in-Stuck-clause-fault c = λ ts us end h. verdict_of end _ c.refusal.result
    (refused c.in_ok-feed.field-0 c.args.self.now (reading_view c.feed.new.reading) c.args.token.now c.refusal.result end ts us c.in-Stuck.is c.in_ok-feed.ensures c.refusal.ensures h)

pub returns-in-NoUseAsm-clause-fault : goal.returns-in-NoUseAsm-clause-fault
returns-in-NoUseAsm-clause-fault c = λ ts us end h. verdict_of end _ _
    (lacks_use c.in_ok-feed.field-0 c.args.self.now (reading_view c.feed.new.reading) c.args.token.now end ts us c.in-NoUseAsm.is c.in_ok-feed.ensures h)

pub returns-in-High-clause-fault : goal.returns-in-High-clause-fault
returns-in-High-clause-fault c = λ ts us end h. verdict_of end _ _
    (too_high c.in_ok-feed.field-0 c.args.self.now (reading_view c.feed.new.reading) c.args.token.now end ts us c.in-High.is c.in_ok-feed.ensures h)
