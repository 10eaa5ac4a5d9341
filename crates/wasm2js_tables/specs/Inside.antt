-- Elements that lie inside a table.
use Rattle.std.specs.Prelude.{◌≡◌, ℕ, ◌+◌, ◌≤◌, List, length, Some, slice_get}
use Rattle.wasm_lang.specs.Modules.{ElementSegment}
use Rattle.wasm_lang_valid.specs.Profile.{constant_offset, or_zero}

-- each of these, of a table of so many entries
abbrev pub AreInside : (room : ℕ) → List ElementSegment → Type 0
AreInside room elements = (i : ℕ) (e : ElementSegment) → slice_get elements i ≡ Some e → or_zero (constant_offset e.offset) + length e.functions ≤ room
