use Rattle.asm_validate_facts.proofs.Counting.{added_is}
use Rattle.asm_validate_facts.proofs.globals.insert.Goals as goal

pub returns : goal.returns
returns c = added_is c.args.names.now.keys c.insert.new.self.keys c.as_bytes.result _ c.as_bytes.ensures c.in_ok-insert.ensures.keys
