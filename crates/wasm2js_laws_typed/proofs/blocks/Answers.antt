use Rattle.wasm2js_laws_typed.proofs.FineBlocks.{blocks_are_fine, loops_are_fine, arms_are_fine, tests_are_fine}
use Rattle.wasm2js_laws_typed.proofs.blocks.Goals as goal

pub returns-clause-plain : goal.returns-clause-plain
returns-clause-plain c = blocks_are_fine

pub returns-clause-repeated : goal.returns-clause-repeated
returns-clause-repeated c = loops_are_fine

pub returns-clause-arms : goal.returns-clause-arms
returns-clause-arms c = arms_are_fine

pub returns-clause-tests : goal.returns-clause-tests
returns-clause-tests c = tests_are_fine
