-- The lines of a part of a heap.
use Rattle.std.specs.Prelude.{ℕ, ◌-◌, List}
use Rattle.std.specs.List.{flat_map, range_with_len}
use Rattle.script_lang.specs.Texts.{heap_line}

-- the lines of these numbers, from the first up to the end
abbrev pub lines_between : List ℕ → ℕ → ℕ → List ℕ
lines_between heap first end = flat_map (heap_line heap) (range_with_len first (end - first))
