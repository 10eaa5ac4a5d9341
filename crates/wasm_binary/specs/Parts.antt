-- How a section stands in the input: absent, or its content and what follows it.
use Rattle.std.specs.Prelude.{◌≡◌, ℕ, ◌+◌, length, nat_le, if◌then◌else◌, Result, Ok, Err}
use Rattle.wasm_lang.specs.declared.fault.Fault.{Fault}
use Rattle.wasm_lang.specs.declared.fault.Row.TheVariants.{Truncated}
use Rattle.wasm_lang.specs.Reading.{Input, Field, ◌>>=◌, expects, u32_field, nothing_left}
use Rattle.wasm_lang.specs.ReadingModule.{begins_with, after_id, customs_field}
use Rattle.wasm_tree.specs.Inputs.{input_of, Continues}
use Rattle.wasm_tree.specs.declared.input.Input.{Input as Place}
use Rattle.wasm_binary_entries.specs.Sized.{split_at}
use Rattle.wasm_binary.specs.declared.sections.Part.{Part as Placed}
use Rattle.wasm_binary.specs.declared.sections.Part.TheVariants as parts

-- a section after its id: its content, whose size has to fit the input, and what follows it
abbrev pub section_head : Input → Result (Input × Input) Fault
section_head i =
    u32_field Truncated i >>= λ size.
    expects (nat_le size.0 (length size.1.bytes)) Truncated (size.1.at + length size.1.bytes) >>= λ _.
    Ok (split_at size.0 size.1)

-- all of a part, by one field
abbrev pub whole : {X : Type 0} → (Input → Field X) → Input × Input → Field X
whole content h = content h.0 >>= λ x. nothing_left x.1 >>= λ _. Ok (x.0, h.1)

-- a section that may stand next
pub data Part : Type 0 where
  absent_before : (rest : Input) → Part
  found_part : (content after : Input) → Part

abbrev pub part_head : ℕ → Input → Result Part Fault
part_head id i =
    customs_field i >>= λ j.
    if begins_with id j.bytes then (section_head (after_id j) >>= λ h. Ok (found_part h.0 h.1)) else Ok (absent_before j)

abbrev pub part_on : {X : Type 0} → X → (Input → Field X) → Part → Field X
part_on absent content (absent_before rest) = Ok (absent, rest)
part_on absent content (found_part part after) = whole content (part, after)

abbrev pub part_by : {X : Type 0} → ℕ → X → (Input → Field X) → Input → Field X
part_by id absent content i = part_head id i >>= λ p. part_on absent content p

-- what the code found is this
abbrev pub IsPlaced : Result Placed Fault → Result Part Fault → Type 0
IsPlaced (Ok (parts.Absent rest)) head = head ≡ Ok (absent_before (input_of rest))
IsPlaced (Ok (parts.Found content after)) head = head ≡ Ok (found_part (input_of content) (input_of after))
IsPlaced (Err fault) head = head ≡ Err fault

-- what the code found are parts of this input
abbrev pub IsPartOf : Place → Placed → Type 0
IsPartOf input (parts.Absent rest) = Continues rest input
IsPartOf input (parts.Found content after) = Continues content input × Continues after input
