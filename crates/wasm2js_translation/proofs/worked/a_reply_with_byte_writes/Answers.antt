use Rattle.wasm2js_translation.proofs.Sessions.{asking_is_alike, asked_at_2, asked_at_3, asked_at_4}
use Rattle.wasm2js_translation.proofs.worked.a_reply_with_byte_writes.Goals as goal

pub returns-clause-alike : goal.returns-clause-alike
returns-clause-alike c = asking_is_alike

pub returns-clause-at_2 : goal.returns-clause-at_2
returns-clause-at_2 c = asked_at_2

pub returns-clause-at_3 : goal.returns-clause-at_3
returns-clause-at_3 c = asked_at_3

pub returns-clause-at_4 : goal.returns-clause-at_4
returns-clause-at_4 c = asked_at_4
