use Rattle.wat_read_rows.proofs.Types.{lengths_differ}
use Rattle.wat_read_rows.proofs.heads.same_types.Goals as goal

pub returns-then-a-b : goal.returns-then-a-b
returns-then-a-b c = lengths_differ c.args.a.now c.args.b.now c.if-a-b.true
