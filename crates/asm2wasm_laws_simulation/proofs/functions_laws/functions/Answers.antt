use Rattle.asm2wasm_laws_simulation.proofs.Functions.Whole.{functions_are_kept, calls_in_modules_are_kept}
use Rattle.asm2wasm_laws_simulation.proofs.functions_laws.functions.Goals as goal

pub returns-clause-own : goal.returns-clause-own
returns-clause-own c = functions_are_kept c.calls.ensures.functions c.calls.ensures.made

pub returns-clause-all : goal.returns-clause-all
returns-clause-all c = calls_in_modules_are_kept c.calls.ensures.functions c.calls.ensures.made
