-- Flags of one part of the code after another.
use Rattle.std.proofs.Common.{◌≡◌, ℕ, ◌+◌, ◌<◌, ◌≤◌, Bool, true, false, List, [], ◌∷◌, length, map, drop, refl, sym, ap, ◌∙◌}
use Rattle.std.specs.Prelude.{◌||◌, get_or}
use Rattle.std.specs.List.{list_any}
use Rattle.std.proofs.lemmas.List.{drop_more, drop_all}
use Rattle.wasm_lang.specs.Instructions.{Instruction}
use Rattle.wasm_lang.specs.Modules.{FunctionBody}
use Rattle.wasm_tree.specs.declared.instr.Instr.{Instr}
use Rattle.wasm_tree.specs.declared.module.Body.{Body}
use Rattle.wasm_tree.specs.Views.{instr_of, body_of}
use Rattle.wasm2js_lang.specs.Helpers.{is_wide_operator}
use Rattle.wasm2js_lang.specs.Parts.Functions.{counts_set_bits, is_signed_quotient, is_quotient, is_signed_remainder, is_remainder, is_load, is_store, is_copy, is_fill}
use Rattle.wasm2js_needs.specs.declared.needs.Needs.{Needs}
use Rattle.wasm2js_needs.specs.Needs.{noted}

or_in_turn : (a b c : Bool) → ((a || b) || c) ≡ (a || (b || c))
or_in_turn true b c = refl
or_in_turn false b c = refl

or_none : (a : Bool) → (a || false) ≡ a
or_none true = refl
or_none false = refl

pub in_turn : (n : Needs) (a b : (Instruction → Bool) → Bool) → noted (noted n a) b ≡ noted n (λ is_one. a is_one || b is_one)
in_turn n a b =
    let wide = or_in_turn n.wide (a is_wide_operator) (b is_wide_operator) in
    let set_bits = or_in_turn n.set_bits (a counts_set_bits) (b counts_set_bits) in
    let signed_quotient = or_in_turn n.signed_quotient (a is_signed_quotient) (b is_signed_quotient) in
    let quotient = or_in_turn n.quotient (a is_quotient) (b is_quotient) in
    let signed_remainder = or_in_turn n.signed_remainder (a is_signed_remainder) (b is_signed_remainder) in
    let remainder = or_in_turn n.remainder (a is_remainder) (b is_remainder) in
    let load_32 = or_in_turn n.load_32 (a (is_load 4)) (b (is_load 4)) in
    let load_64 = or_in_turn n.load_64 (a (is_load 8)) (b (is_load 8)) in
    let store_32 = or_in_turn n.store_32 (a (is_store 4)) (b (is_store 4)) in
    let store_64 = or_in_turn n.store_64 (a (is_store 8)) (b (is_store 8)) in
    let copy = or_in_turn n.copy (a is_copy) (b is_copy) in
    let fill = or_in_turn n.fill (a is_fill) (b is_fill) in
    cc (wide, set_bits, signed_quotient, quotient, signed_remainder, remainder, load_32, load_64, store_32, store_64, copy, fill)

-- by its fields
abbrev whole : Needs → Needs
whole n = record {
  wide = n.wide;
  set_bits = n.set_bits;
  signed_quotient = n.signed_quotient;
  quotient = n.quotient;
  signed_remainder = n.signed_remainder;
  remainder = n.remainder;
  load_32 = n.load_32;
  load_64 = n.load_64;
  store_32 = n.store_32;
  store_64 = n.store_64;
  copy = n.copy;
  fill = n.fill;
  long_segments = n.long_segments;
}

pub noted_none : (n : Needs) → noted n (λ is_one. false) ≡ n
noted_none n =
    let wide = or_none n.wide in
    let set_bits = or_none n.set_bits in
    let signed_quotient = or_none n.signed_quotient in
    let quotient = or_none n.quotient in
    let signed_remainder = or_none n.signed_remainder in
    let remainder = or_none n.remainder in
    let load_32 = or_none n.load_32 in
    let load_64 = or_none n.load_64 in
    let store_32 = or_none n.store_32 in
    let store_64 = or_none n.store_64 in
    let copy = or_none n.copy in
    let fill = or_none n.fill in
    let all : noted n (λ is_one. false) ≡ whole n = cc (wide, set_bits, signed_quotient, quotient, signed_remainder, remainder, load_32, load_64, store_32, store_64, copy, fill) in
    all

-- ---- loops over instructions and over bodies, with what is left

abbrev pub left_of_code : Needs → List Instr → Needs
left_of_code n code = noted n (λ is_one. list_any is_one (map instr_of code))

abbrev pub left_of_bodies : Needs → List Body → Needs
left_of_bodies n bodies = noted n (λ is_one. list_any (λ (b : FunctionBody). list_any is_one b.code) (map body_of bodies))

first_dropped : {A : Type 0} (xs : List A) (i : ℕ) (at : A) → at ≡ get_or xs i at → i < length xs → at ∷ drop (i + 1) xs ≡ drop i xs
first_dropped xs i at is h = ap (λ x. x ∷ drop (i + 1) xs) is ∙ sym (drop_more xs i at h)

pub code_step : (n m : Needs) (code : List Instr) (i : ℕ) (at : Instr) → at ≡ get_or code i at → i < length code → m ≡ noted n (λ is_one. is_one (instr_of at))
    → left_of_code m (drop (i + 1) code) ≡ left_of_code n (drop i code)
code_step n m code i at is h e =
    ap (λ m. left_of_code m (drop (i + 1) code)) e
    ∙ in_turn n (λ is_one. is_one (instr_of at)) (λ is_one. list_any is_one (map instr_of (drop (i + 1) code)))
    ∙ ap (left_of_code n) (first_dropped code i at is h)

pub code_end : (n : Needs) (code : List Instr) (i : ℕ) → length code ≤ i → left_of_code n (drop i code) ≡ n
code_end n code i h = ap (left_of_code n) (drop_all i code h) ∙ noted_none n

pub bodies_step : (n m : Needs) (bodies : List Body) (i : ℕ) (at : Body) → at ≡ get_or bodies i at → i < length bodies
    → m ≡ noted n (λ is_one. list_any is_one (body_of at).code) → left_of_bodies m (drop (i + 1) bodies) ≡ left_of_bodies n (drop i bodies)
bodies_step n m bodies i at is h e =
    ap (λ m. left_of_bodies m (drop (i + 1) bodies)) e
    ∙ in_turn n (λ is_one. list_any is_one (body_of at).code) (λ is_one. list_any (λ (b : FunctionBody). list_any is_one b.code) (map body_of (drop (i + 1) bodies)))
    ∙ ap (left_of_bodies n) (first_dropped bodies i at is h)

pub bodies_end : (n : Needs) (bodies : List Body) (i : ℕ) → length bodies ≤ i → left_of_bodies n (drop i bodies) ≡ n
bodies_end n bodies i h = ap (left_of_bodies n) (drop_all i bodies h) ∙ noted_none n
