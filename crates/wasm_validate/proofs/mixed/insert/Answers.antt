use Rattle.wasm_validate.proofs.ImportNames.{holds_more}
use Rattle.wasm_validate.proofs.mixed.insert.Goals as goal

pub returns-in-Ok : goal.returns-in-Ok
returns-in-Ok c = holds_more c.args.name c.args.names.now.keys c.insert.new.self.keys c.in-Ok.ensures.keys
