use Rattle.std.proofs.Common.{sym}
use Rattle.wasm_link_rows.proofs.Chained.{refused_by_name}
use Rattle.wasm_link_rows.proofs.checking.after_memory.Goals as goal

pub returns-in-Some : goal.returns-in-Some
returns-in-Some c = refused_by_name c.args.bindings c.in-Some.refused c.requires (sym c.in-Some.ensures)
