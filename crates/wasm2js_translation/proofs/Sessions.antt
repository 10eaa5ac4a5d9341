-- Sessions that are compared by computing both.
use Rattle.std.specs.Prelude.{◌≡◌, [], ◌∷◌, Some, refl, codes}
use Rattle.hex.specs.Hex.{encode_with}
use Rattle.heap_lang.specs.Heap as heaps
use Rattle.sem_words.specs.declared.word.Word.TheVariants.{W32}
use Rattle.session_lang.specs.Observation.{call_returned, call_gave, import_called}
use Rattle.sem_words.specs.Words.{leading_zeros_of, trailing_zeros_of, set_bits_of}
use Rattle.wasm2js_lang.specs.Heaps.{heap_for}
use Rattle.wasm2js_translation.specs.Programs.{no_shape, asking, asking_script, asking_shape, copying, copying_script, narrow, narrow_script, wide, wide_shape, wide_script}
use Rattle.wasm2js_translation.specs.Sessions.{branching, branching_script, calling, calling_shapes, calling_script, remembering, memory_shape, memory_script}
use Rattle.wasm2js_translation.specs.Worked.{events_at, first_bytes, IsAlike}

pub narrow_is_alike : IsAlike narrow no_shape narrow_script 2000 1000
unfolding heap_for leading_zeros_of trailing_zeros_of set_bits_of
narrow_is_alike = record { within = refl; accepted = refl; fits = refl; target_fits = refl; ends = refl; same = refl }

pub wide_is_alike : IsAlike wide wide_shape wide_script 2000 2000
unfolding heap_for leading_zeros_of trailing_zeros_of set_bits_of
wide_is_alike = record { within = refl; accepted = refl; fits = refl; target_fits = refl; ends = refl; same = refl }

pub calls_are_alike : IsAlike calling calling_shapes calling_script 300 300
unfolding heap_for encode_with
calls_are_alike = record { within = refl; accepted = refl; fits = refl; target_fits = refl; ends = refl; same = refl }

pub asking_is_alike : IsAlike asking asking_shape asking_script 100 100
unfolding heap_for heaps.load heaps.store heaps.load_bytes heaps.store_bytes heaps.run_at heaps.with_run
asking_is_alike = record { within = refl; accepted = refl; fits = refl; target_fits = refl; ends = refl; same = refl }

pub asked_at_2 : events_at asking asking_shape asking_script 2 ≡ Some (call_returned ∷ [])
unfolding heap_for heaps.load heaps.store heaps.load_bytes heaps.store_bytes heaps.run_at heaps.with_run
asked_at_2 = refl

pub asked_at_3 : events_at asking asking_shape asking_script 3 ≡ Some (call_returned ∷ import_called (codes "p") [] ∷ call_gave (W32 4294967247) ∷ [])
unfolding heap_for heaps.load heaps.store heaps.load_bytes heaps.store_bytes heaps.run_at heaps.with_run
asked_at_3 = refl

pub asked_at_4 : events_at asking asking_shape asking_script 4 ≡ Some (call_returned ∷ import_called (codes "p") [] ∷ call_gave (W32 4294967247) ∷ call_gave (W32 4) ∷ [])
unfolding heap_for heaps.load heaps.store heaps.load_bytes heaps.store_bytes heaps.run_at heaps.with_run
asked_at_4 = refl

pub copying_is_alike : IsAlike copying no_shape copying_script 100 100
unfolding heap_for heaps.load heaps.store heaps.load_bytes heaps.store_bytes heaps.run_at heaps.with_run heaps.copied
copying_is_alike = record { within = refl; accepted = refl; fits = refl; target_fits = refl; ends = refl; same = refl }

pub events_in_a_copy : events_at copying no_shape copying_script 8 ≡ Some (call_returned ∷ [])
unfolding heap_for heaps.load heaps.store heaps.load_bytes heaps.store_bytes heaps.run_at heaps.with_run
events_in_a_copy = refl

pub events_after_a_copy : events_at copying no_shape copying_script 9 ≡ Some (call_returned ∷ call_returned ∷ [])
unfolding heap_for heaps.load heaps.store heaps.load_bytes heaps.store_bytes heaps.run_at heaps.with_run
events_after_a_copy = refl

pub bytes_after_a_copy : first_bytes 8 copying no_shape copying_script 11 ≡ Some (1 ∷ 1 ∷ 2 ∷ 3 ∷ 4 ∷ 5 ∷ 0 ∷ 0 ∷ [])
unfolding heap_for heaps.load heaps.store heaps.load_bytes heaps.store_bytes heaps.run_at heaps.with_run
bytes_after_a_copy = refl

pub remembering_is_alike : IsAlike remembering memory_shape memory_script 500 500
unfolding heap_for heaps.load heaps.store heaps.load_bytes heaps.store_bytes heaps.run_at heaps.with_run heaps.filled
remembering_is_alike = record { within = refl; accepted = refl; fits = refl; target_fits = refl; ends = refl; same = refl }

pub many_labels_are_alike : IsAlike branching no_shape branching_script 200 200
unfolding heap_for
many_labels_are_alike = record { within = refl; accepted = refl; fits = refl; target_fits = refl; ends = refl; same = refl }
