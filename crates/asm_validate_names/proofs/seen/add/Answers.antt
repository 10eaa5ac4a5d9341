use Rattle.asm_validate_names.proofs.Rest.{new_is, added_is}
use Rattle.asm_validate_names.proofs.seen.add.Goals as goal

pub returns-clause-is_new : goal.returns-clause-is_new
returns-clause-is_new c = new_is c.args.seen.now.keys c.as_bytes.result _ _ c.as_bytes.ensures c.in_ok-is_new.ensures.added

pub returns-clause-added : goal.returns-clause-added
returns-clause-added c = added_is c.args.seen.now.keys c.insert.new.self.keys c.as_bytes.result _ c.as_bytes.ensures c.in_ok-is_new.ensures.keys
