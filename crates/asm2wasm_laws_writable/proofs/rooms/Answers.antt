use Rattle.asm2wasm_laws_writable.proofs.Numbers.{numbers_fit_in_translations}
use Rattle.asm2wasm_laws_writable.proofs.Sections.{sections_fit_in_translations}
use Rattle.asm2wasm_laws_writable.proofs.rooms.Goals as goal

pub returns-clause-numbers : goal.returns-clause-numbers
returns-clause-numbers c = numbers_fit_in_translations c.spellings.ensures.again c.spellings.ensures.levels c.heap_lengths.ensures.few c.heap_lengths.ensures.hold

pub returns-clause-sections : goal.returns-clause-sections
returns-clause-sections c = sections_fit_in_translations c.spellings.ensures.again c.spellings.ensures.levels c.heap_lengths.ensures.few c.heap_lengths.ensures.hold
