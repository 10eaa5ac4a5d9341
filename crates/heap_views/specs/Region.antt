-- What the parts of a region own and lend. A region is a block of 32-bit words, read and written as bytes.
use Rattle.std.specs.Prelude.{ℕ, ◌+◌, ◌*◌, ◌^◌, List, length}
use base.Fraction.{full_share}
use base.Fml.{Lft, Fml, ffalse, fsep, flt, froom, fwand}
use mir.Syntax.{Ty, w8, w32, ty_int, ty_array}
use denote.Builtin.{u8}
use denote.Index.{row}
use denote.RawPtr.{Ptr, block_ptr, null_ptr}
use denote.Sharing.{said, beside}
use denote.Slice.{elements_shared}

-- so many bytes, whatever they hold
abbrev pub bytes_of : ℕ → Ty
bytes_of n = ty_array (ty_int w8) n

-- so many words: they are aligned to 4 bytes
abbrev pub words_of : ℕ → Ty
words_of n = ty_array (ty_int w32) n

-- fewer than 2 ^ 63 bytes, of which the last `spare` aren't written
abbrev pub cells_own : Ptr → List ℕ → ℕ → Fml
cells_own (block_ptr b o) bytes spare = fsep (flt (length bytes + spare) (2 ^ 63)) (fsep (row u8 full_share bytes b o) (froom (bytes_of spare) b (length bytes + o)))
cells_own null_ptr bytes spare = ffalse

abbrev pub cells_lent : Ptr → List ℕ → ℕ → Lft → Fml
cells_lent (block_ptr b o) bytes spare = beside (said (flt (length bytes + spare) (2 ^ 63))) (elements_shared u8 bytes b o)
cells_lent null_ptr bytes spare = said ffalse

-- the allocator's token for the words, and that room for their bytes is room for them
abbrev pub deed_owns : (Ty → Ptr → Fml) → Ptr → ℕ → Fml
deed_owns token (block_ptr b o) words = fsep (token (words_of words) (block_ptr b o)) (fwand (froom (bytes_of (words * 4)) b o) (froom (words_of words) b o))
deed_owns token null_ptr words = ffalse
