use Rattle.std.proofs.Common.{ap, ◌∙◌}
use Rattle.wasm_tree.specs.Views.{locals_in}
use Rattle.wat_read_bodies.proofs.Runs.{locals_more}
use Rattle.wat_read_bodies.proofs.locals.push_run.Goals as goal

pub returns : goal.returns
returns c = ap locals_in c.in_ok-push.ensures.items ∙ locals_more c.args.runs.now.items (record { count = c.args.count; kind = c.args.kind })
