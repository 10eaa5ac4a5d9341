-- What the table of opcodes says of each form.
use Rattle.std.proofs.Common.{◌≡◌, ℕ, Bool, true, false, cond, eqb, leb, List, [], ◌∷◌, Option, Some, None, refl, sym, ap, ◌∙◌}
use Rattle.std.specs.Prelude.{◌==◌, ◌&&◌}
use Rattle.std.specs.Map.{lookup}
use Rattle.std.proofs.lemmas.Bool.{false≢true, eqb-true}
use Rattle.wasm_lang.specs.Instructions.{Plain, local_get, local_set, local_tee, global_get, global_set, load, store, memory_fill, const32, const64, Instruction, block, loop, if_block, else_mark, br, br_if, br_table, call, call_indirect, plain}
use Rattle.wasm_lang.specs.Opcodes.{opcodes, form_at, form_of, plain_form_of}

module _ (test : ℕ → Instruction → Bool) where
  abbrev pub all_pass : List (ℕ × Instruction) → Bool
  all_pass [] = true
  all_pass (row ∷ rows) = cond (test row.0 row.1) (all_pass rows) false

  -- what a look-up finds passes a test that all rows pass
  pub found_passes : (byte : ℕ) (rows : List (ℕ × Instruction)) (i : Instruction) → all_pass rows ≡ true → lookup (λ b. b == byte) rows ≡ Some i → test byte i ≡ true
  found_passes byte [] i all e = cc
  found_passes byte (row ∷ rows) i all e = by (λ a f. found_passes byte rows i a f) (test row.0 row.1) (eqb row.0 byte) refl refl
    where
      by : (all_pass rows ≡ true → lookup (λ b. b == byte) rows ≡ Some i → test byte i ≡ true) → (t u : Bool) → test row.0 row.1 ≡ t → eqb row.0 byte ≡ u → test byte i ≡ true
      by below false u et eu = absurd (false≢true (rw et at all))
      by below true true et eu =
          let q : Some row.1 ≡ Some i = rw eu at e in
          let is : row.1 ≡ i = cc in
          let same : row.0 ≡ byte = eqb-true row.0 byte eu in
          ap (λ i. test byte i) (sym is) ∙ ap (λ b. test b row.1) (sym same) ∙ et
      by below true false et eu = below (rw et at all) (rw eu at e)

-- whether the immediates are those of a form in the table
abbrev is_plain_form : Plain → Bool
is_plain_form (local_get x) = eqb x 0
is_plain_form (local_set x) = eqb x 0
is_plain_form (local_tee x) = eqb x 0
is_plain_form (global_get x) = eqb x 0
is_plain_form (global_set x) = eqb x 0
is_plain_form (load op align offset) = cond (eqb align 0) (eqb offset 0) false
is_plain_form (store op align offset) = cond (eqb align 0) (eqb offset 0) false
is_plain_form memory_fill = false
is_plain_form (const32 n) = eqb n 0
is_plain_form (const64 n) = eqb n 0
is_plain_form p = true

abbrev is_no_type : {X : Type 0} → Option X → Bool
is_no_type None = true
is_no_type (Some t) = false

abbrev is_form : Instruction → Bool
is_form (block r) = is_no_type r
is_form (loop r) = is_no_type r
is_form (if_block r) = is_no_type r
is_form (br l) = eqb l 0
is_form (br_if l) = eqb l 0
is_form (br_table [] l) = eqb l 0
is_form (br_table (x ∷ ls) l) = false
is_form (call f) = eqb f 0
is_form (call_indirect t) = eqb t 0
is_form (plain p) = is_plain_form p
is_form i = true

all_forms : all_pass (λ b i. is_form i) opcodes ≡ true
all_forms = refl

zero_of : (n : ℕ) → eqb n 0 ≡ true → 0 ≡ n
zero_of n e = sym (eqb-true n 0 e)

both_zero : (a o : ℕ) → cond (eqb a 0) (eqb o 0) false ≡ true → (0 ≡ a) × (0 ≡ o)
both_zero a o e = by (eqb a 0) refl e
  where
    by : (t : Bool) → eqb a 0 ≡ t → cond t (eqb o 0) false ≡ true → (0 ≡ a) × (0 ≡ o)
    by true p q = (zero_of a p, zero_of o q)
    by false p q = absurd (false≢true q)

plain_form_is : (p : Plain) → is_plain_form p ≡ true → plain_form_of p ≡ p
plain_form_is (local_get x) e = ap local_get (zero_of x e)
plain_form_is (local_set x) e = ap local_set (zero_of x e)
plain_form_is (local_tee x) e = ap local_tee (zero_of x e)
plain_form_is (global_get x) e = ap global_get (zero_of x e)
plain_form_is (global_set x) e = ap global_set (zero_of x e)
plain_form_is (load op a o) e = let z = both_zero a o e in ap (λ a. load op a 0) z.0 ∙ ap (λ o. load op a o) z.1
plain_form_is (store op a o) e = let z = both_zero a o e in ap (λ a. store op a 0) z.0 ∙ ap (λ o. store op a o) z.1
plain_form_is memory_fill e = absurd (false≢true e)
plain_form_is (const32 n) e = ap const32 (zero_of n e)
plain_form_is (const64 n) e = ap const64 (zero_of n e)
plain_form_is p e = refl

no_type_is : {X : Type 0} (r : Option X) → is_no_type r ≡ true → None ≡ r
no_type_is None e = refl
no_type_is (Some t) e = absurd (false≢true e)

form_is : (i : Instruction) → is_form i ≡ true → form_of i ≡ i
form_is (block r) e = ap block (no_type_is r e)
form_is (loop r) e = ap loop (no_type_is r e)
form_is (if_block r) e = ap if_block (no_type_is r e)
form_is (br l) e = ap br (zero_of l e)
form_is (br_if l) e = ap br_if (zero_of l e)
form_is (br_table [] l) e = ap (λ l. br_table [] l) (zero_of l e)
form_is (br_table (x ∷ ls) l) e = absurd (false≢true e)
form_is (call f) e = ap call (zero_of f e)
form_is (call_indirect t) e = ap call_indirect (zero_of t e)
form_is (plain p) e = ap plain (plain_form_is p e)
form_is i e = refl

-- a form of the table is its own form
pub form_of_form : (b : ℕ) (i : Instruction) → form_at b ≡ Some i → form_of i ≡ i
unfolding form_at
form_of_form b i e = form_is i (found_passes (λ b i. is_form i) b opcodes i all_forms e)

-- a block is opened by 2, 3 and 4, and else is 5
abbrev pub opens_by : ℕ → Instruction → Bool
opens_by b (block r) = leb 2 b && leb b 4
opens_by b (loop r) = leb 2 b && leb b 4
opens_by b (if_block r) = leb 2 b && leb b 4
opens_by b else_mark = eqb b 5
opens_by b i = true

all_open : all_pass opens_by opcodes ≡ true
all_open = refl

pub opens_by_opcode : (b : ℕ) (i : Instruction) → form_at b ≡ Some i → opens_by b i ≡ true
unfolding form_at
opens_by_opcode b i e = found_passes opens_by b opcodes i all_open e
