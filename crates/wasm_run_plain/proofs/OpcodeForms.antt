-- What the table of opcodes says of loads, stores and sign extensions.
use Rattle.std.proofs.Common.{◌≡◌, inl, inr, ℕ, ◌*◌, ◌<◌, ◌≤◌, Bool, true, false, cond, eqb, leb, ltb, List, [], ◌∷◌, Some, refl, sym, ap, ◌∙◌, arith}
use Rattle.std.specs.Map.{lookup}
use Rattle.std.specs.Prelude.{◌==◌}
use Rattle.std.proofs.lemmas.Bool.{false≢true, eqb-true}
use Rattle.std.proofs.lemmas.Bool.Decides.{nat_tests}
use Rattle.heap_lang.specs.Heap.{IsWordSize}
use Rattle.wasm_lang.specs.declared.types.MemOp.{MemOp}
use Rattle.wasm_lang.specs.Instructions.{load, store, sign_extend, Instruction, plain}
use Rattle.wasm_lang.specs.Opcodes.{opcodes, form_at, form_of}
use Rattle.wasm_lang.specs.Shape.{HasOpcode}
use Rattle.wasm_run_operands.specs.Effects.{IsMemForm, IsExtension, width}
use Rattle.wasm_run_plain.specs.Forms.{IsForm}

abbrev pub is_size : ℕ → Bool
is_size n = cond (eqb n 1) true (cond (eqb n 2) true (cond (eqb n 4) true (eqb n 8)))

abbrev pub is_fewer : Bool → (bits most : ℕ) → Bool
is_fewer true bits most = ltb bits most
is_fewer false bits most = true

abbrev pub is_access : MemOp → Bool
is_access op = cond (is_size op.size) (cond (leb (8 * op.size) (width op.wide)) (is_fewer op.signed (8 * op.size) (width op.wide)) false) false

abbrev pub is_extension : (wide : Bool) → ℕ → Bool
is_extension wide bits = cond (ltb 0 bits) (ltb bits (width wide)) false

abbrev pub passes : Instruction → Bool
passes (plain (load op align offset)) = is_access op
passes (plain (store op align offset)) = is_access op
passes (plain (sign_extend wide bits)) = is_extension wide bits
passes _ = true

abbrev all_pass : List (ℕ × Instruction) → Bool
all_pass [] = true
all_pass (row ∷ rows) = cond (passes row.1) (all_pass rows) false

all_do : all_pass opcodes ≡ true
all_do = refl

-- what a look-up finds passes the test that all rows pass
found : (byte : ℕ) (rows : List (ℕ × Instruction)) (i : Instruction) → all_pass rows ≡ true → lookup (λ b. b == byte) rows ≡ Some i → passes i ≡ true
found byte [] i all e = cc
found byte (row ∷ rows) i all e = by (λ a f. found byte rows i a f) (passes row.1) (eqb row.0 byte) refl refl
  where
    by : (all_pass rows ≡ true → lookup (λ b. b == byte) rows ≡ Some i → passes i ≡ true) → (t u : Bool) → passes row.1 ≡ t → eqb row.0 byte ≡ u → passes i ≡ true
    by below false u et eu = absurd (false≢true (rw et at all))
    by below true true et eu = let is : row.1 ≡ i = let q : Some row.1 ≡ Some i = rw eu at e in cc in ap passes (sym is) ∙ et
    by below true false et eu = below (rw et at all) (rw eu at e)

both : (a b : Bool) → cond a b false ≡ true → (a ≡ true) × (b ≡ true)
both true b e = (refl, e)
both false b e = absurd (false≢true e)

size_is : (n : ℕ) → is_size n ≡ true → IsWordSize n
size_is n e = by (eqb n 1) (eqb n 2) (eqb n 4) refl refl refl
  where
    by : (a b c : Bool) → eqb n 1 ≡ a → eqb n 2 ≡ b → eqb n 4 ≡ c → IsWordSize n
    by true b c ea eb ec = inl (eqb-true n 1 ea)
    by false true c ea eb ec = inr (inl (eqb-true n 2 eb))
    by false false true ea eb ec = inr (inr (inl (eqb-true n 4 ec)))
    by false false false ea eb ec = inr (inr (inr (eqb-true n 8 (rw ec at (rw eb at (rw ea at e))))))

fewer_is : (signed : Bool) (bits most : ℕ) → is_fewer signed bits most ≡ true → signed ≡ true → bits < most
fewer_is true bits most e h = grind (arith, nat_tests)
fewer_is false bits most e h = absurd (false≢true h)

at_most : (bits most : ℕ) → leb bits most ≡ true → bits ≤ most
at_most bits most e = grind (arith, nat_tests)

below : (bits most : ℕ) → ltb bits most ≡ true → bits < most
below bits most e = grind (arith, nat_tests)

access_is : (op : MemOp) → is_access op ≡ true → IsMemForm op
access_is op e =
    let a = both (is_size op.size) _ e in
    let b = both (leb (8 * op.size) (width op.wide)) _ a.1 in
    record { size = size_is op.size a.0; fits = at_most _ _ b.0; fewer = fewer_is op.signed _ _ b.1 }

extension_is : (wide : Bool) (bits : ℕ) → is_extension wide bits ≡ true → IsExtension wide bits
extension_is wide bits e = let a = both (ltb 0 bits) _ e in record { some = below _ _ a.0; fewer = below _ _ a.1 }

passes_form : (i : Instruction) → passes (form_of i) ≡ true → IsForm i
passes_form (plain (load op align offset)) e = access_is op e
passes_form (plain (store op align offset)) e = access_is op e
passes_form (plain (sign_extend wide bits)) e = extension_is wide bits e
passes_form (plain p) e = tt
passes_form i e = tt

pub opcode_has_form : (i : Instruction) → HasOpcode i → IsForm i
unfolding form_at
opcode_has_form i h = passes_form i (found h.0 opcodes (form_of i) all_do h.1)
