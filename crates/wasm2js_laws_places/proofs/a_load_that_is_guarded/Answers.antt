use Rattle.std.specs.Prelude.{refl}
use Rattle.heap_lang.specs.Heap.{load, load_bytes, run_at}
use Rattle.wasm2js_laws_places.proofs.a_load_that_is_guarded.Goals as goal

pub returns-clause-together : goal.returns-clause-together
unfolding load load_bytes run_at
returns-clause-together c = refl
