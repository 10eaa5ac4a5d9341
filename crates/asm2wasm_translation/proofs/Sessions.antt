-- Sessions that are compared by computing both.
use Rattle.std.specs.Prelude.{[], ◌∷◌, refl}
use Rattle.heap_lang.specs.Heap as heaps
use Rattle.session_lang.specs.Observation.{call_returned, done}
use Rattle.asm2wasm_translation.specs.Pieces.{storing, storing_script, small_elements, small_script, long_switch, long_script}
use Rattle.asm2wasm_translation.specs.Worked.{IsAlike, ShowsSame}

pub stores_are_alike : IsAlike storing 8 storing_script 10 1000 (call_returned ∷ call_returned ∷ []) done (9 ∷ 0 ∷ 0 ∷ 0 ∷ 7 ∷ 0 ∷ 0 ∷ 0 ∷ [])
unfolding heaps.load heaps.store heaps.load_bytes heaps.store_bytes heaps.run_at heaps.with_run
stores_are_alike = record { fits = refl; source = refl; target_events = refl; target_end = refl; target_heap = refl }

pub elements_are_alike : ShowsSame small_elements 8 small_script 10 1000
unfolding heaps.load heaps.store heaps.load_bytes heaps.store_bytes heaps.run_at heaps.with_run
elements_are_alike = record { fits = refl; source_end = refl; target_end = refl; events = refl; heap = refl }

pub many_are_alike : ShowsSame long_switch 0 long_script 10 20000
many_are_alike = record { fits = refl; source_end = refl; target_end = refl; events = refl; heap = refl }
