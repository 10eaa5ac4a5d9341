use Rattle.asm_validate_names.proofs.Rest.{no_names}
use Rattle.asm_validate_names.proofs.names.module_names.Goals as goal

pub all_names-requires : goal.all_names-requires
all_names-requires c = record { complete = c.requires.complete; none = no_names _ c.in_ok-seen.ensures.empty; room = c.requires.room }

pub returns : goal.returns
returns c = c.all_names.ensures
