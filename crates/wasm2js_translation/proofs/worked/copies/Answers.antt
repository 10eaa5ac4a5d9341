use Rattle.wasm2js_translation.proofs.Sessions.{copying_is_alike, events_in_a_copy, events_after_a_copy, bytes_after_a_copy}
use Rattle.wasm2js_translation.proofs.worked.copies.Goals as goal

pub returns-clause-alike : goal.returns-clause-alike
returns-clause-alike c = copying_is_alike

pub returns-clause-before_the_last_turn : goal.returns-clause-before_the_last_turn
returns-clause-before_the_last_turn c = events_in_a_copy

pub returns-clause-after_it : goal.returns-clause-after_it
returns-clause-after_it c = events_after_a_copy

pub returns-clause-at_the_end : goal.returns-clause-at_the_end
returns-clause-at_the_end c = bytes_after_a_copy
