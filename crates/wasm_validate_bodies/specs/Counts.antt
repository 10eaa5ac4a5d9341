-- The blocks that are open after an instruction, where so many were open before it.
use Rattle.std.specs.Prelude.{ℕ, ◌+◌, ◌-◌}
use Rattle.wasm_lang.specs.Instructions.{Instruction, block, loop, if_block, end_mark}

abbrev pub depth_after : ℕ → Instruction → ℕ
depth_after depth (block r) = depth + 1
depth_after depth (loop r) = depth + 1
depth_after depth (if_block r) = depth + 1
depth_after depth end_mark = depth - 1
depth_after depth i = depth
