-- What holds of the fields of a block.
use Rattle.std.specs.Prelude.{◌≡◌, ℕ, ◌*◌, ◌^◌, ◌<◌, List, length}
use Rattle.heap_views.specs.declared.block.Block.{Block}

-- the bytes and the right to free them are those of the block, and all bytes are written
abbrev pub IsBlock : Block → Type 0
IsBlock b = (b.cells.at ≡ b.base.ptr) × (length b.cells.bytes ≡ b.words * 4) × (b.cells.spare ≡ 0) × (b.deed.at ≡ b.base.ptr) × (b.deed.words ≡ b.words) × (b.deed.alloc ≡ b.alloc) × (b.words * 4 < 2 ^ 63)

-- the later block has these bytes, as many as before
abbrev pub Becomes : Block → Block → List ℕ → Type 0
Becomes old new bytes = IsBlock new × (new.cells.bytes ≡ bytes) × (length bytes ≡ length old.cells.bytes)
