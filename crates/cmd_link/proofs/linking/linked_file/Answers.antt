use Rattle.cmd_link.proofs.Joining.{is_joined, is_apart}
use Rattle.cmd_link.proofs.linking.linked_file.Goals as goal

pub returns-in-Ok-output-clause-joined : goal.returns-in-Ok-output-clause-joined
returns-in-Ok-output-clause-joined c =
    is_joined c.sessions.ensures.allowed c.sessions.ensures.bounded c.writable.ensures.writable c.spelling_laws.ensures.spells c.spelling_laws.ensures.shortest
    c.args.first.now c.args.bytes.now c.in-Ok.second c.in-Ok-output.output.items c.requires.short c.module-first.ensures.valid c.requires.length c.in-Ok.ensures.valid
    c.in-Ok-output.ensures.0 c.in-Ok-output.ensures.1

pub returns-in-Err-output-clause-apart : goal.returns-in-Err-output-clause-apart
returns-in-Err-output-clause-apart c = rw c.of_fault.ensures (is_apart c.args.first.now c.args.bytes.now c.in-Ok.second c.in-Err-output.fault c.in-Ok.ensures.valid c.in-Err-output.ensures)
