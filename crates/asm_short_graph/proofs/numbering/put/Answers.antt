use Rattle.std.proofs.Common.{ap, ◌∙◌}
use Rattle.std.specs.Prelude.{if◌then◌else◌}
use Rattle.std.specs.Str.{bytes_eq}
use Rattle.asm_names.specs.Members.{number_in}
use Rattle.asm_short_graph.proofs.Numbers.{found_put}
use Rattle.asm_short_graph.proofs.numbering.put.Goals as goal

pub returns : goal.returns
returns c = λ n o.
    found_put (bytes_eq c.of.result n) c.args.number o _ _ (c.in_ok-insert.ensures.updates.0 n)
    ∙ ap (λ k. if bytes_eq k n then c.args.number else number_in c.args.numbers.now n o) c.of.ensures
