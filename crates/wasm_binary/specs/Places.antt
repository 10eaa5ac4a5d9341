-- Where a module's names, segments' bytes and bodies' code begin. Its sections are passed over in their order, and the places
-- are read in those that have any.
use Rattle.std.specs.Prelude.{ℕ, List, [], ◌∷◌, Result, Ok}
use Rattle.wasm_lang.specs.declared.fault.Fault.{Fault}
use Rattle.wasm_lang.specs.declared.fault.Row.TheVariants.{Magic, Version}
use Rattle.wasm_lang.specs.Reading.{Input, ◌>>=◌, vec_field}
use Rattle.wasm_lang.specs.ReadingModule.{header_field}
use Rattle.wasm_binary_entries.specs.Places.{import_places, export_place, body_place, segment_place}
use Rattle.wasm_binary.specs.Parts.{Part, absent_before, found_part, part_head, part_by}

-- each import has two, of its module's name and of its own
pub record Places : Type 0 where
  pub imports : List (ℕ × ℕ)
  pub exports : List ℕ
  pub bodies : List ℕ
  pub segments : List ℕ

-- what follows a section that may stand next
abbrev pub after_part : Part → Input
after_part (absent_before rest) = rest
after_part (found_part content after) = after

abbrev pub past_part : ℕ → Input → Result Input Fault
past_part id i = part_head id i >>= λ p. Ok (after_part p)

-- from the code on, with the places that were read before it
abbrev pub contents_places : List (ℕ × ℕ) → List ℕ → Input → Result Places Fault
contents_places is es i =
    part_by 10 [] (vec_field body_place) i >>= λ bodies.
    part_by 11 [] (vec_field segment_place) bodies.1 >>= λ segments.
    Ok (record { imports = is; exports = es; bodies = bodies.0; segments = segments.0 })

-- from the exports on
abbrev pub definitions_places : List (ℕ × ℕ) → Input → Result Places Fault
definitions_places is i =
    part_by 7 [] (vec_field export_place) i >>= λ es.
    past_part 8 es.1 >>= λ i.
    past_part 9 i >>= λ i.
    past_part 12 i >>= λ i.
    contents_places is es.0 i

-- from the functions on
abbrev pub declarations_places : List (ℕ × ℕ) → Input → Result Places Fault
declarations_places is i =
    past_part 3 i >>= λ i.
    past_part 4 i >>= λ i.
    past_part 5 i >>= λ i.
    past_part 6 i >>= λ i.
    definitions_places is i

-- after the header
abbrev pub sections_places : Input → Result Places Fault
sections_places i =
    past_part 1 i >>= λ i.
    part_by 2 [] (vec_field import_places) i >>= λ is.
    declarations_places is.0 is.1

abbrev pub module_places : List ℕ → Result Places Fault
module_places bytes =
    header_field Magic (0x00 ∷ 0x61 ∷ 0x73 ∷ 0x6d ∷ []) (record { at = 0; bytes = bytes }) >>= λ i.
    header_field Version (0x01 ∷ 0x00 ∷ 0x00 ∷ 0x00 ∷ []) i >>= λ i.
    sections_places i
