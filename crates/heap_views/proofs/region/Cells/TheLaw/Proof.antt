-- A `&` to the bytes reaches each one. Assumes `Logic`.
use mathlib.Core.List.{[]}
use base.Fml.{Incl-refl}
use denote.RawPtr.{RawPtr}
use denote.Param.Shared.{copy_shared}
use denote.Struct.Laws.{field_copy}
use denote.Struct.Lending.{of_Lends}
use Rattle.std.specs.contracts.marker.PhantomData as marker
use Rattle.heap_views.specs.contracts.region.Cells as C
use Rattle.heap_views.proofs.region.Cells.TheLaw.Statement.{statement}
use Rattle.heap_views.proofs.RegionSharing.{cells_lent_laws, Lends-cells}

pub shares : statement
shares = of_Lends C.struct (C.the_codes (marker.the_row RawPtr).coded) C.the_heap C.the_lent
    (λ d p. cells_lent_laws d.at d.bytes d.spare) (copy_shared (marker.the_field RawPtr) (field_copy (marker.the_type RawPtr) tt), tt)
    (λ M 𝓤 𝓛 d p. Lends-cells 𝓛 C.the_row.lives (Incl-refl []) d.at d.bytes d.spare)
