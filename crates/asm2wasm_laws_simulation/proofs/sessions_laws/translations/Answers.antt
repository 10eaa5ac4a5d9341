use Rattle.asm2wasm_laws_simulation.proofs.Sessions.Whole.{translation_is_allowed, translation_is_bounded}
use Rattle.asm2wasm_laws_simulation.proofs.sessions_laws.translations.Goals as goal

pub returns-clause-allowed : goal.returns-clause-allowed
returns-clause-allowed c =
    translation_is_allowed c.calls.ensures.functions c.heap_lengths.ensures.hold c.heap_lengths.ensures.of_a_heap c.well_formed_modules.ensures.fits
    c.functions.ensures.own c.worth.ensures c.validity.ensures c.calling.ensures c.scripts.ensures.there

pub returns-clause-bounded : goal.returns-clause-bounded
returns-clause-bounded c =
    translation_is_bounded c.calls.ensures.functions c.heap_lengths.ensures.hold c.heap_lengths.ensures.of_a_heap c.well_formed_modules.ensures.fits
    c.functions.ensures.own c.worth.ensures
