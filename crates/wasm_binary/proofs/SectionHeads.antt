-- Sections by their heads.
use Rattle.std.proofs.Common.{◌≡◌, ℕ, Bool, true, false, suc, ◌+◌, ◌-◌, ◌<◌, List, [], length, refl, ap, ◌∙◌, arith}
use Rattle.std.specs.Prelude.{Result, Ok, Err, nat_le, if◌then◌else◌}
use Rattle.wasm_lang.specs.declared.fault.Fault.{Fault}
use Rattle.wasm_lang.specs.declared.fault.Row.{Row}
use Rattle.wasm_lang.specs.declared.fault.Row.TheVariants.{Truncated}
use Rattle.wasm_lang.specs.Reading.{Input, Field, ◌>>=◌, expects, u32_field, sized, nothing_left, name_field}
use Rattle.wasm_lang.specs.ReadingModule.{begins_with, after_id, section_field, custom_content, customs_within, customs_field, part_field}
use Rattle.wasm_binary_entries.specs.Sized.{split_at}
use Rattle.wasm_binary.specs.Parts.{section_head, whole, part_on, part_by, found_part, absent_before}

expects_head : {X : Type 0} (content : Input → Field X) (fits : Bool) (row : Row) (at : ℕ) (size : ℕ) (i : Input)
    → (expects fits row at >>= λ _. sized size content i) ≡ ((expects fits row at >>= λ _. Ok (split_at size i)) >>= λ h. whole content h)
expects_head content true row at size i = refl
expects_head content false row at size i = refl

size_head : {X : Type 0} (content : Input → Field X) (size : Field ℕ)
    → (size >>= λ size. expects (nat_le size.0 (length size.1.bytes)) Truncated (size.1.at + length size.1.bytes) >>= λ _. sized size.0 content size.1)
    ≡ ((size >>= λ size. expects (nat_le size.0 (length size.1.bytes)) Truncated (size.1.at + length size.1.bytes) >>= λ _. Ok (split_at size.0 size.1)) >>= λ h. whole content h)
size_head content (Err e) = refl
size_head content (Ok s) = expects_head content (nat_le s.0 (length s.1.bytes)) Truncated (s.1.at + length s.1.bytes) s.0 s.1

pub section_is : {X : Type 0} (content : Input → Field X) (i : Input) → section_field content i ≡ (section_head i >>= λ h. whole content h)
section_is content i = size_head content (u32_field Truncated i)

head_on : {X : Type 0} (absent : X) (content : Input → Field X) (head : Result (Input × Input) Fault)
    → (head >>= λ h. whole content h) ≡ ((head >>= λ h. Ok (found_part h.0 h.1)) >>= λ p. part_on absent content p)
head_on absent content (Err e) = refl
head_on absent content (Ok h) = refl

found_on : {X : Type 0} (absent : X) (content : Input → Field X) (found : Bool) (j : Input)
    → (if found then section_field content (after_id j) else Ok (absent, j))
    ≡ ((if found then (section_head (after_id j) >>= λ h. Ok (found_part h.0 h.1)) else Ok (absent_before j)) >>= λ p. part_on absent content p)
found_on absent content true j = section_is content (after_id j) ∙ head_on absent content (section_head (after_id j))
found_on absent content false j = refl

customs_on : {X : Type 0} (id : ℕ) (absent : X) (content : Input → Field X) (before : Result Input Fault)
    → (before >>= λ j. if begins_with id j.bytes then section_field content (after_id j) else Ok (absent, j))
    ≡ ((before >>= λ j. if begins_with id j.bytes then (section_head (after_id j) >>= λ h. Ok (found_part h.0 h.1)) else Ok (absent_before j)) >>= λ p. part_on absent content p)
customs_on id absent content (Err e) = refl
customs_on id absent content (Ok j) = found_on absent content (begins_with id j.bytes) j

pub part_is : {X : Type 0} (id : ℕ) (absent : X) (content : Input → Field X) (i : Input) → part_field id absent content i ≡ part_by id absent content i
part_is id absent content i = customs_on id absent content (customs_field i)

customs_turn : (count k : ℕ) (i : Input) (found : Bool) → k < count → begins_with 0 i.bytes ≡ found
    → customs_within (count - k) i ≡ (if found then (section_field custom_content (after_id i) >>= λ x. customs_within (count - (k + 1)) x.1) else Ok i)
customs_turn count k i found lt is =
    let n : count - k ≡ suc (count - (k + 1)) = omega arith in
    ap (λ n. customs_within n i) n ∙ ap (λ (t : Bool). if t then (section_field custom_content (after_id i) >>= λ x. customs_within (count - (k + 1)) x.1) else Ok i) is

pub customs_step : (count k : ℕ) (i j : Input) (x : List ℕ) → k < count → begins_with 0 i.bytes ≡ true → section_field custom_content (after_id i) ≡ Ok (x, j)
    → customs_within (count - k) i ≡ customs_within (count - (k + 1)) j
customs_step count k i j x lt is e = customs_turn count k i true lt is ∙ ap (λ r. r >>= λ x. customs_within (count - (k + 1)) x.1) e

pub customs_stop : (count k : ℕ) (i : Input) (f : Fault) → k < count → begins_with 0 i.bytes ≡ true → section_field custom_content (after_id i) ≡ Err f
    → customs_within (count - k) i ≡ Err f
customs_stop count k i f lt is e = customs_turn count k i true lt is ∙ ap (λ r. r >>= λ x. customs_within (count - (k + 1)) x.1) e

pub customs_end : (count k : ℕ) (i : Input) → k < count → begins_with 0 i.bytes ≡ false → customs_within (count - k) i ≡ Ok i
customs_end count k i lt is = customs_turn count k i false lt is

abbrev past_name : Field (List ℕ) → Field (List ℕ)
past_name r = ◌>>=◌ {A = List ℕ × Input} {B = List ℕ × Input} r (λ n. Ok (n.0, record { at = n.1.at + length n.1.bytes; bytes = [] }))

pub custom_found : (i content after : Input) (name : List ℕ) (rest : Input) → section_head i ≡ Ok (content, after) → name_field content ≡ Ok (name, rest)
    → section_field custom_content i ≡ Ok (name, after)
custom_found i content after name rest e f =
    section_is custom_content i
    ∙ ap (λ r. r >>= λ h. whole custom_content h) e
    ∙ ap (λ r. past_name r >>= λ x. nothing_left x.1 >>= λ _. Ok (x.0, after)) f

pub custom_no_head : (i : Input) (f : Fault) → section_head i ≡ Err f → section_field custom_content i ≡ Err f
custom_no_head i f e = section_is custom_content i ∙ ap (λ r. r >>= λ h. whole custom_content h) e

pub custom_no_name : (i content after : Input) (f : Fault) → section_head i ≡ Ok (content, after) → name_field content ≡ Err f → section_field custom_content i ≡ Err f
custom_no_name i content after f e g =
    section_is custom_content i
    ∙ ap (λ r. r >>= λ h. whole custom_content h) e
    ∙ ap (λ r. past_name r >>= λ x. nothing_left x.1 >>= λ _. Ok (x.0, after)) g
