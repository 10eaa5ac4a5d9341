-- The places that the code tells.
use Rattle.std.specs.Prelude.{ℕ, List, slice_get}
use Rattle.asm2wasm_translation.specs.Numbers.{VariablePlace, a_local, a_global, nowhere}
use Rattle.name_slots.specs.Names.{or_else}
use Rattle.asm2wasm_numbers.specs.declared.place.Place.{Place}
use Rattle.asm2wasm_numbers.specs.declared.place.Place.TheVariants.{Local, Global, Nowhere}

abbrev pub place_seen : Place → VariablePlace
place_seen (Local i) = a_local i
place_seen (Global i) = a_global i
place_seen Nowhere = nowhere

abbrev pub base_or_zero : List ℕ → ℕ → ℕ
base_or_zero bases i = or_else (slice_get bases i) 0
