-- The sessions, computed.
use Rattle.std.specs.Prelude.{[], ◌∷◌, refl}
use Rattle.heap_lang.specs.Heap as heaps
use Rattle.asm2wasm_translation.specs.Pieces.{dividing, operating, operating_script, small_elements, small_script, storing, storing_script, tabled, tabled_script}
use Rattle.asm_run_code.specs.Slots.{get, put, put_all}
use Rattle.asm_run_code.specs.Machine.{step, followed}
use Rattle.asm_run_code.specs.Values.{value}
use Rattle.asm_run_code.specs.Bodies.{stmt, body}
use Rattle.asm_run_code.specs.Worked.{AreAlike, assigning, assigning_script, jumping, jumping_script, waiting, waiting_script, storing_a_value, storing_a_value_script, dividing_script}

pub assigning_is_alike : AreAlike assigning 0 assigning_script 100 (0 ∷ 1 ∷ 2 ∷ [])
unfolding get put put_all step followed value stmt body heaps.load heaps.store heaps.load_bytes heaps.store_bytes heaps.run_at heaps.with_run
assigning_is_alike = (refl, (refl, (refl, tt)))

pub waiting_is_alike : AreAlike waiting 0 waiting_script 100 (0 ∷ 1 ∷ 2 ∷ 3 ∷ [])
unfolding get put put_all step followed value stmt body heaps.load heaps.store heaps.load_bytes heaps.store_bytes heaps.run_at heaps.with_run
waiting_is_alike = (refl, (refl, (refl, (refl, tt))))

pub storing_a_value_is_alike : AreAlike storing_a_value 8 storing_a_value_script 100 (1 ∷ 2 ∷ [])
unfolding get put put_all step followed value stmt body heaps.load heaps.store heaps.load_bytes heaps.store_bytes heaps.run_at heaps.with_run
storing_a_value_is_alike = (refl, (refl, tt))

pub storing_is_alike : AreAlike storing 8 storing_script 100 (0 ∷ 1 ∷ 2 ∷ [])
unfolding get put put_all step followed value stmt body heaps.load heaps.store heaps.load_bytes heaps.store_bytes heaps.run_at heaps.with_run
storing_is_alike = (refl, (refl, (refl, tt)))

pub small_elements_is_alike : AreAlike small_elements 8 small_script 100 (4 ∷ [])
unfolding get put put_all step followed value stmt body heaps.load heaps.store heaps.load_bytes heaps.store_bytes heaps.run_at heaps.with_run
small_elements_is_alike = (refl, tt)

pub dividing_is_alike : AreAlike dividing 0 dividing_script 100 (3 ∷ [])
unfolding get put put_all step followed value stmt body heaps.load heaps.store heaps.load_bytes heaps.store_bytes heaps.run_at heaps.with_run
dividing_is_alike = (refl, tt)

pub operating_is_alike : AreAlike operating 0 operating_script 1000 (4 ∷ 5 ∷ 8 ∷ 9 ∷ 10 ∷ 11 ∷ 100 ∷ [])
unfolding get put put_all step followed value stmt body heaps.load heaps.store heaps.load_bytes heaps.store_bytes heaps.run_at heaps.with_run
operating_is_alike = (refl, (refl, (refl, (refl, (refl, (refl, (refl, tt)))))))

pub tabled_is_alike : AreAlike tabled 0 tabled_script 1000 (0 ∷ 3 ∷ 4 ∷ 5 ∷ 6 ∷ 100 ∷ [])
unfolding get put put_all step followed value stmt body heaps.load heaps.store heaps.load_bytes heaps.store_bytes heaps.run_at heaps.with_run
tabled_is_alike = (refl, (refl, (refl, (refl, (refl, (refl, tt))))))

pub jumping_is_alike : AreAlike jumping 0 jumping_script 100 (7 ∷ 8 ∷ [])
unfolding get put put_all step followed value stmt body heaps.load heaps.store heaps.load_bytes heaps.store_bytes heaps.run_at heaps.with_run
jumping_is_alike = (refl, (refl, tt))
