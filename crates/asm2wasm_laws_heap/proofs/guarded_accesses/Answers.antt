use Rattle.asm2wasm_laws_heap.proofs.Places.{bytes_are_there}
use Rattle.asm2wasm_laws_heap.proofs.Accesses.{stores_are_guarded, loads_are_guarded}
use Rattle.asm2wasm_laws_heap.proofs.guarded_accesses.Goals as goal

pub returns-clause-stores : goal.returns-clause-stores
returns-clause-stores c = stores_are_guarded

pub returns-clause-loads : goal.returns-clause-loads
returns-clause-loads c = loads_are_guarded

pub returns-clause-there : goal.returns-clause-there
returns-clause-there c = bytes_are_there
