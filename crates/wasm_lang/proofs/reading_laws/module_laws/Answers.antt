use Rattle.wasm_lang.proofs.ReadingLawsModule.{reads_what_is_spelled, spelled_as_read}
use Rattle.wasm_lang.proofs.ReadingLawsOne.{one_module, module_or_fault}
use Rattle.wasm_lang.proofs.ReadingLawsPlaces.{place_within}
use Rattle.wasm_lang.proofs.Shaped.{spelled_shaped}
use Rattle.wasm_lang.proofs.reading_laws.module_laws.Goals as goal

pub returns-clause-reads_what_is_spelled : goal.returns-clause-reads_what_is_spelled
returns-clause-reads_what_is_spelled c = reads_what_is_spelled

pub returns-clause-spelled_as_read : goal.returns-clause-spelled_as_read
returns-clause-spelled_as_read c = spelled_as_read

pub returns-clause-one_module : goal.returns-clause-one_module
returns-clause-one_module c = one_module

pub returns-clause-module_or_fault : goal.returns-clause-module_or_fault
returns-clause-module_or_fault c = module_or_fault

pub returns-clause-place_within : goal.returns-clause-place_within
returns-clause-place_within c = place_within

pub returns-clause-spelled_shaped : goal.returns-clause-spelled_shaped
returns-clause-spelled_shaped c = spelled_shaped
