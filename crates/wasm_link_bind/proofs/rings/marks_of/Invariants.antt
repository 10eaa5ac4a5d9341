use Rattle.std.proofs.Common.{◌≡◌, ℕ, ◌<◌, length, take}
use Rattle.std.specs.Prelude.{slice_get, Some}
use Rattle.wasm_link_bind.specs.Marks.{has}
use Rattle.wasm_link_bind.proofs.rings.marks_of.Given as goal

abbrev pub invariant-loop-place : goal.invariant-loop-place
invariant-loop-place l = record {
  count : length l.marks.items ≡ length l.places;
  here : (b : ℕ) → b < length l.places → slice_get l.marks.items b ≡ Some (has (take l.place-index l.places) b);
}
