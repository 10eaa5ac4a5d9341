-- The sessions in which bytes are read and written.
use Rattle.std.specs.Prelude.{[], ◌∷◌, ◌++◌, replicate, codes, refl}
use Rattle.heap_lang.specs.Heap as heaps
use Rattle.session_lang.specs.Observation.{done, ended}
use Rattle.asm_worked.specs.Forms.{gave, imported}
use Rattle.asm_worked.specs.Worked.{Shows}
use Rattle.asm_worked.specs.Rows as rows

pub nothing_is_written : Shows rows.outside 4096 rows.outside_script 1 (ended (gave 0 ∷ []) done (replicate 4096 0))
unfolding heaps.load heaps.store heaps.load_bytes heaps.store_bytes heaps.run_at heaps.with_run
nothing_is_written = record { fits = refl; is_seen = refl; is_checked = refl }

pub nine_is_written : Shows rows.outside 4100 rows.outside_script 1 (ended (gave 9 ∷ []) done (replicate 4096 0 ++ 9 ∷ 0 ∷ 0 ∷ 0 ∷ []))
unfolding heaps.load heaps.store heaps.load_bytes heaps.store_bytes heaps.run_at heaps.with_run
nine_is_written = record { fits = refl; is_seen = refl; is_checked = refl }

pub views_are_mixed : Shows rows.mixed 4 rows.mixed_script 2 (ended (gave 254 ∷ gave 4294967295 ∷ []) done (254 ∷ 255 ∷ 255 ∷ 255 ∷ []))
unfolding heaps.load heaps.store heaps.load_bytes heaps.store_bytes heaps.run_at heaps.with_run
views_are_mixed = record { fits = refl; is_seen = refl; is_checked = refl }

pub index_comes_first : Shows rows.ordered 4 rows.ordered_script 1 (ended (imported (codes "g") (5 ∷ 5 ∷ []) ∷ gave 1 ∷ []) done (0 ∷ 7 ∷ 0 ∷ 0 ∷ []))
unfolding heaps.load heaps.store heaps.load_bytes heaps.store_bytes heaps.run_at heaps.with_run
index_comes_first = record { fits = refl; is_seen = refl; is_checked = refl }

pub bytes_are_there : Shows rows.heard 8 rows.heard_script 1 (ended (imported (codes "g") [] ∷ gave 10 ∷ []) done (7 ∷ 0 ∷ 0 ∷ 0 ∷ 1 ∷ 2 ∷ 0 ∷ 0 ∷ []))
unfolding heaps.load heaps.store heaps.load_bytes heaps.store_bytes heaps.run_at heaps.with_run
bytes_are_there = record { fits = refl; is_seen = refl; is_checked = refl }
