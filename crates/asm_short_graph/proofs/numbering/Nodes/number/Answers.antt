use Rattle.std.proofs.Common.{ap, ◌∙◌}
use Rattle.std.specs.Option.{unwrap_or}
use Rattle.asm_names.specs.Members.{number_in}
use Rattle.asm_short_graph.proofs.numbering.Nodes.number.Goals as goal

pub returns-in-Some : goal.returns-in-Some
returns-in-Some c = λ names h.
    ap (λ o. unwrap_or o c.args.self.now.count) c.in-Some.ensures.value ∙ ap (λ n. number_in c.args.self.now.numbers n c.args.self.now.count) c.of.ensures ∙ h.known c.args.name.now

pub returns-in-None : goal.returns-in-None
returns-in-None c = λ names h.
    ap (λ o. unwrap_or o c.args.self.now.count) c.in-None.ensures.value ∙ ap (λ n. number_in c.args.self.now.numbers n c.args.self.now.count) c.of.ensures ∙ h.known c.args.name.now
