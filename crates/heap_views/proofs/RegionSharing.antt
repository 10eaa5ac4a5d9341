-- A `&` to the bytes of a region is made where one to a byte is. Assumes `Logic`.
use Rattle.std.proofs.Common.{ℕ, ◌+◌, ◌^◌, List, [], ◌∷◌, length, refl}
use seplogic.Ra.Ura.{Ura}
use base.Fraction.{full_share}
use base.Fml.{Lft, Incl, ftrue, ffalse, fsep, flt, froom}
use types.Logic.{Logic}
use denote.Builtin.{u8}
use denote.Index.{row}
use denote.Memory.{part_at, shared_of}
use denote.Param.Laws.{Laws, of_field}
use denote.Param.Shared.{copy_shared}
use denote.RawPtr.{Ptr, block_ptr, null_ptr}
use denote.Sharing.{ShrLaws, said}
use denote.SharingLaws.{beside_shr_laws, said_shr_laws}
use denote.Shares.{Shares-less}
use denote.Slice.{elements_shared, elements_shr_laws}
use denote.Struct.Field.{u8-field}
use denote.Struct.Laws.{u8-laws, u8-copy}
use denote.Struct.Lending.{Lends, Lends-both, Lends-first, Lends-nothing, Lends-said, Lends-false}
use Rattle.heap_views.specs.Region.{bytes_of, cells_own, cells_lent}

abbrev pub byte_laws : Laws u8
byte_laws = of_field u8-field u8-laws refl (copy_shared u8-field u8-copy)

pub cells_lent_laws : (p : Ptr) (bytes : List ℕ) (spare : ℕ) → ShrLaws (cells_lent p bytes spare)
cells_lent_laws (block_ptr b o) bytes spare = beside_shr_laws _ _ (said_shr_laws (flt (length bytes + spare) (2 ^ 63)) tt) (elements_shr_laws u8 byte_laws.shr_laws bytes b o)
cells_lent_laws null_ptr bytes spare = said_shr_laws ffalse tt

module _ {M : Type 1} {𝓤 : Ura M} (𝓛 : Logic 𝓤) (l : Lft) (inc : Incl l []) where
  Lends-row : (b o : ℕ) (bytes : List ℕ) → Lends 𝓛 (row u8 full_share bytes b o) (elements_shared u8 bytes b o) l
  Lends-row b o [] = Lends-nothing 𝓛 ftrue l
  Lends-row b o (x ∷ xs) =
      Lends-both 𝓛 (part_at u8 full_share x b o) (row u8 full_share xs b (o + 1)) (shared_of u8 x b o) (elements_shared u8 xs b (o + 1)) l
      (λ κ ts. Shares-less 𝓛 u8 u8.lives l inc (byte_laws.shares 𝓛) x κ ts b o) (Lends-row b (o + 1) xs)

  pub Lends-cells : (p : Ptr) (bytes : List ℕ) (spare : ℕ) → Lends 𝓛 (cells_own p bytes spare) (cells_lent p bytes spare) l
  Lends-cells (block_ptr b o) bytes spare =
      let small = flt (length bytes + spare) (2 ^ 63) in
      let left = froom (bytes_of spare) b (length bytes + o) in
      Lends-both 𝓛 small (fsep (row u8 full_share bytes b o) left) (said small) (elements_shared u8 bytes b o) l (Lends-said 𝓛 small tt l)
      (Lends-first 𝓛 (row u8 full_share bytes b o) left (elements_shared u8 bytes b o) l (Lends-row b o bytes))
  Lends-cells null_ptr bytes spare = Lends-false 𝓛 (said ffalse) l
