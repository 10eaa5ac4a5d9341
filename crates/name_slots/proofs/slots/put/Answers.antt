use Rattle.std.proofs.Common.{ap, ◌∙◌}
use Rattle.std.specs.Prelude.{Some, if◌then◌else◌}
use Rattle.std.specs.Str.{bytes_eq}
use Rattle.name_slots.specs.Names.{found}
use Rattle.name_slots.proofs.slots.put.Goals as goal

pub returns : goal.returns
returns c = λ n. c.in_ok-insert.ensures.updates.0 n ∙ ap (λ k. if bytes_eq k n then Some c.args.slot else found c.args.slots.now n) c.of.ensures
