use Rattle.asm2wasm_laws_simulation.proofs.Sessions.Whole.{sessions_are_matched, sessions_never_trap}
use Rattle.asm2wasm_laws_simulation.proofs.sessions_laws.sessions.Goals as goal

pub returns-clause-matched : goal.returns-clause-matched
returns-clause-matched c =
    sessions_are_matched c.calls.ensures.functions c.heap_lengths.ensures.hold c.heap_lengths.ensures.of_a_heap c.well_formed_modules.ensures.fits
    c.functions.ensures.own c.worth.ensures

pub returns-clause-no_traps : goal.returns-clause-no_traps
returns-clause-no_traps c =
    sessions_never_trap c.calls.ensures.functions c.heap_lengths.ensures.hold c.heap_lengths.ensures.of_a_heap c.well_formed_modules.ensures.fits
    c.functions.ensures.own c.worth.ensures c.scripts.ensures.back
