use Rattle.std.proofs.Common.{sym}
use Rattle.wasm_link_rows.proofs.Chained.{refused_by_sum}
use Rattle.wasm_link_rows.proofs.checking.after_names.Goals as goal

pub returns-in-Some : goal.returns-in-Some
returns-in-Some c = refused_by_sum c.args.bindings c.in-Some.refused c.requires.memory c.requires.names (sym c.in-Some.ensures)
