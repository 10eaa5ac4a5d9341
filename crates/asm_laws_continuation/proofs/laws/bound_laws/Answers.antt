use Rattle.asm_laws_continuation.proofs.Bounds.{calls_are_bounded, turns_are_bounded, do_turns_are_bounded}
use Rattle.asm_laws_continuation.proofs.laws.bound_laws.Goals as goal

pub returns-clause-calls : goal.returns-clause-calls
returns-clause-calls c = calls_are_bounded

pub returns-clause-turns : goal.returns-clause-turns
returns-clause-turns c = turns_are_bounded

pub returns-clause-do_turns : goal.returns-clause-do_turns
returns-clause-do_turns c = do_turns_are_bounded
