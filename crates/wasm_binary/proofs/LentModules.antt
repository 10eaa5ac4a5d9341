-- The places of a module are read by its sections' heads.
use Rattle.std.proofs.Common.{◌≡◌, ℕ, List, [], ◌∷◌, sym, subst, ap, ◌∙◌}
use Rattle.std.specs.Prelude.{Result, Ok}
use Rattle.wasm_lang.specs.declared.fault.Fault.{Fault}
use Rattle.wasm_lang.specs.declared.fault.Row.TheVariants.{Magic, Version}
use Rattle.wasm_lang.specs.Reading.{Input, Field, ◌>>=◌, u32, items_field, vec_field, nothing_left}
use Rattle.wasm_lang.specs.ReadingModule.{header_field}
use Rattle.wasm_lang.proofs.Inversion.{bind_ok}
use Rattle.wasm_lang.proofs.Numbers.{ok_is}
use Rattle.wasm_tree.specs.declared.module.Module.{Module}
use Rattle.wasm_binary_entries.specs.Lent.{Source, EachAt, Located}
use Rattle.wasm_binary_entries.specs.Places.{import_places, export_place, body_place, segment_place}
use Rattle.wasm_binary_entries.proofs.Lending.{each_from}
use Rattle.wasm_binary.specs.Lent.{IsLentBy}
use Rattle.wasm_binary.specs.Parts.{Part, absent_before, found_part, part_head, part_on, part_by}
use Rattle.wasm_binary.specs.Places.{Places, after_part, past_part, contents_places, definitions_places, declarations_places, sections_places, module_places}

-- ---- one section

after_on : {X : Type 0} (absent : X) (content : Input → Field X) (p : Part) (y : X × Input) → part_on absent content p ≡ Ok y → after_part p ≡ y.1
after_on absent content (absent_before rest) y q = ap (λ p. p.1) (ok_is (absent, rest) y q)
after_on absent content (found_part part after) y q =
    let x = bind_ok (content part) _ y q in
    let u = bind_ok (nothing_left x.0.1) _ y x.2 in
    ap (λ p. p.1) (ok_is (x.0.0, after) y u.2)

-- what follows a section that was read
pub past_is : {X : Type 0} (id : ℕ) (absent : X) (content : Input → Field X) (i : Input) (y : X × Input) → part_by id absent content i ≡ Ok y → past_part id i ≡ Ok y.1
past_is id absent content i y q =
    let p = bind_ok (part_head id i) _ y q in
    ap (λ r. r >>= λ p. Ok (after_part p)) p.1 ∙ ap (λ j. Ok j) (after_on absent content p.0 y p.2)

-- nothing is lent where a section is absent
pub absent_lent : {P X : Type 0} (id : ℕ) (field : Input → Field P) (i rest : Input) (A : P → X → Type 0) (xs : List X) → xs ≡ []
    → part_head id i ≡ Ok (absent_before rest) → Located (part_by id [] (vec_field field) i) rest (λ ps. EachAt A ps xs)
absent_lent id field i rest A xs none head = record {
  place = [];
  read = ap (λ r. r >>= λ p. part_on [] (vec_field field) p) head;
  stands = subst (λ xs. EachAt A [] xs) (sym none) tt;
}

pub found_lent : {P X : Type 0} (id : ℕ) (field : Input → Field P) (i content first rest after : Input) (n : ℕ) (A B : P → X → Type 0) (xs : List X)
    → ((p : P) (x : X) → A p x → B p x) → part_head id i ≡ Ok (found_part content after) → u32 content ≡ Ok (n, first) → nothing_left rest ≡ Ok tt
    → Located (items_field field n first) rest (λ ps. EachAt A ps xs) → Located (part_by id [] (vec_field field) i) after (λ ps. EachAt B ps xs)
found_lent id field i content first rest after n A B xs gives head count left row = record {
  place = row.place;
  read =
      ap (λ r. r >>= λ p. part_on [] (vec_field field) p) head
      ∙ ap (λ r. (r >>= λ n. items_field field n.0 n.1) >>= λ x. nothing_left x.1 >>= λ _. Ok (x.0, after)) count
      ∙ ap (λ r. r >>= λ x. nothing_left x.1 >>= λ _. Ok (x.0, after)) row.read
      ∙ ap (λ r. r >>= λ _. Ok (row.place, after)) left;
  stands = each_from A B gives row.place xs row.stands;
}

-- ---- section after section

pub contents_read : (is : List (ℕ × ℕ)) (es : List ℕ) (i j k : Input) (bodies segments : List ℕ)
    → part_by 10 [] (vec_field body_place) i ≡ Ok (bodies, j) → part_by 11 [] (vec_field segment_place) j ≡ Ok (segments, k)
    → contents_places is es i ≡ Ok (record { imports = is; exports = es; bodies = bodies; segments = segments })
contents_read is es i j k bodies segments e f =
    ap (λ r. r >>= λ bodies. part_by 11 [] (vec_field segment_place) bodies.1 >>= λ segments. Ok (record { imports = is; exports = es; bodies = bodies.0; segments = segments.0 })) e
    ∙ ap (λ r. r >>= λ segments. Ok (record { imports = is; exports = es; bodies = bodies; segments = segments.0 })) f

pub definitions_read : (is : List (ℕ × ℕ)) (i j k l m : Input) (es : List ℕ)
    → part_by 7 [] (vec_field export_place) i ≡ Ok (es, j) → past_part 8 j ≡ Ok k → past_part 9 k ≡ Ok l → past_part 12 l ≡ Ok m
    → definitions_places is i ≡ contents_places is es m
definitions_read is i j k l m es e f g h =
    ap (λ r. r >>= λ es. past_part 8 es.1 >>= λ i. past_part 9 i >>= λ i. past_part 12 i >>= λ i. contents_places is es.0 i) e
    ∙ ap (λ r. r >>= λ i. past_part 9 i >>= λ i. past_part 12 i >>= λ i. contents_places is es i) f
    ∙ ap (λ r. r >>= λ i. past_part 12 i >>= λ i. contents_places is es i) g
    ∙ ap (λ r. r >>= λ i. contents_places is es i) h

pub declarations_read : (is : List (ℕ × ℕ)) (i j k l m : Input) → past_part 3 i ≡ Ok j → past_part 4 j ≡ Ok k → past_part 5 k ≡ Ok l → past_part 6 l ≡ Ok m
    → declarations_places is i ≡ definitions_places is m
declarations_read is i j k l m e f g h =
    ap (λ r. r >>= λ i. past_part 4 i >>= λ i. past_part 5 i >>= λ i. past_part 6 i >>= λ i. definitions_places is i) e
    ∙ ap (λ r. r >>= λ i. past_part 5 i >>= λ i. past_part 6 i >>= λ i. definitions_places is i) f
    ∙ ap (λ r. r >>= λ i. past_part 6 i >>= λ i. definitions_places is i) g
    ∙ ap (λ r. r >>= λ i. definitions_places is i) h

pub sections_read : (i j k : Input) (is : List (ℕ × ℕ)) → past_part 1 i ≡ Ok j → part_by 2 [] (vec_field import_places) j ≡ Ok (is, k)
    → sections_places i ≡ declarations_places is k
sections_read i j k is e f =
    ap (λ r. r >>= λ i. part_by 2 [] (vec_field import_places) i >>= λ is. declarations_places is.0 is.1) e
    ∙ ap (λ r. r >>= λ is. declarations_places is.0 is.1) f

pub module_read : (bytes : List ℕ) (i j : Input) → header_field Magic (0x00 ∷ 0x61 ∷ 0x73 ∷ 0x6d ∷ []) (record { at = 0; bytes = bytes }) ≡ Ok i
    → header_field Version (0x01 ∷ 0x00 ∷ 0x00 ∷ 0x00 ∷ []) i ≡ Ok j → module_places bytes ≡ sections_places j
module_read bytes i j e f =
    ap (λ r. r >>= λ i. header_field Version (0x01 ∷ 0x00 ∷ 0x00 ∷ 0x00 ∷ []) i >>= λ j. sections_places j) e ∙ ap (λ r. r >>= λ j. sections_places j) f

pub lent_as : {r s : Result Places Fault} (source : Source) (m : Module) → r ≡ s → IsLentBy source s m → IsLentBy source r m
lent_as source m e h = record { places = h.places; read = e ∙ h.read; lent = h.lent }
