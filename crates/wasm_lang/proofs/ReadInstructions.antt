-- Instructions that are read so are spelled so.
use Rattle.std.proofs.Common.{◌≡◌, ℕ, Bool, true, false, eqb, List, [], ◌∷◌, refl, sym, ap, subst, ◌∙◌}
use Rattle.std.specs.Prelude.{Ok, Option, Some, None}
use Rattle.std.proofs.lemmas.Bool.{eqb-true}
use Rattle.wasm_lang.specs.declared.fault.Fault.{Fault}
use Rattle.wasm_lang.specs.declared.fault.Row.TheVariants.{SectionSize, UnknownByte}
use Rattle.wasm_lang.specs.Instructions.{Plain, local_get, local_set, local_tee, global_get, global_set, load, store, memory_size, memory_copy, memory_fill, const32, const64, Instruction, block, loop, if_block, br, br_if, br_table, call, call_indirect, plain}
use Rattle.wasm_lang.specs.Opcodes.{form_at, form_of, plain_form_of}
use Rattle.wasm_lang.specs.Numbers.{IsU32}
use Rattle.wasm_lang.specs.Grammar.{IsMemoryImmediate, ArePlainImmediates, AreImmediates, IsInstruction, instruction}
use Rattle.wasm_lang.specs.Reading.{Input, Field, fault, byte, u32, integer, exactly, onto, vec_field, block_type_field}
use Rattle.wasm_lang.specs.ReadingCode.{access_field, copy_or_fill_on, copy_or_fill, plain_immediates, immediates, by_form, after_opcode, instruction_field}
use Rattle.wasm_lang.proofs.Numbers.{ok_is}
use Rattle.wasm_lang.proofs.Inversion.{bind_ok, byte_is, u32_is, word_is, exactly_is, onto_is, vec_is, block_type_is}
use Rattle.wasm_lang.proofs.Table.{form_of_form}

-- an instruction of this form, and a spelling of its immediates
abbrev PlainIs : Plain → Input → Input → Plain → Type 0
PlainIs f i j p = (plain_form_of p ≡ plain_form_of f) × ArePlainImmediates p i.bytes j.bytes

abbrev InstructionIs : Instruction → Input → Input → Instruction → Type 0
InstructionIs f i j x = (form_of x ≡ form_of f) × AreImmediates x i.bytes j.bytes

plain_onto : {A : Type 0} (c : A → Plain) (f : Plain) (i j : Input) (p : Plain) (r : Field A) → onto c r ≡ Ok (p, j) → ((x : A) → r ≡ Ok (x, j) → PlainIs f i j (c x)) → PlainIs f i j p
plain_onto c f i j p r q k = let o = onto_is c r p j q in subst (λ p. PlainIs f i j p) o.2 (k o.0 o.1)

plain_bare : (f : Plain) (i j : Input) (p : Plain) → ◌≡◌ {A = Field Plain} (Ok (f, i)) (Ok (p, j)) → ArePlainImmediates f i.bytes i.bytes → PlainIs f i j p
plain_bare f i j p q h = subst (λ p. PlainIs f i p.1 p.0) (ok_is {E = Fault} (f, i) (p, j) q) (refl, h)

access_is : (i : Input) (a : ℕ × ℕ) (j : Input) → access_field i ≡ Ok (a, j) → IsMemoryImmediate a.0 a.1 i.bytes j.bytes
access_is i a j q =
    let x = bind_ok (u32 i) _ (a, j) q in
    let y = bind_ok (u32 x.0.1) _ (a, j) x.2 in
    subst (λ p. IsMemoryImmediate p.0.0 p.0.1 i.bytes p.1.bytes) (ok_is ((x.0.0, y.0.0), y.0.1) (a, j) y.2) (x.0.1.bytes, u32_is i x.0.0 x.0.1 x.1, u32_is x.0.1 y.0.0 y.0.1 y.1)

copy_or_fill_is : (i j : Input) (p : Plain) → copy_or_fill i ≡ Ok (p, j) → PlainIs memory_copy i j p
copy_or_fill_is i j p q =
    let n = bind_ok (u32 i) _ (p, j) q in
    by n.0.0 n.0.1 (u32_is i n.0.0 n.0.1 n.1) (eqb n.0.0 10) (eqb n.0.0 11) refl refl n.2
  where
    by : (n : ℕ) (k : Input) → IsU32 n i.bytes k.bytes → (t u : Bool) → eqb n 10 ≡ t → eqb n 11 ≡ u → copy_or_fill_on i.at n k ≡ Ok (p, j) → PlainIs memory_copy i j p
    by n k h true u e f q =
        let a = bind_ok (exactly 0 k) _ (p, j) (rw e at q) in
        plain_onto (λ b. memory_copy) memory_copy i j p (exactly 0 a.0.1) a.2
        (λ b r. (refl, subst (λ (l : List ℕ). IsU32 10 i.bytes l) (exactly_is 0 k a.0.0 a.0.1 a.1 ∙ ap (λ (l : List ℕ). 0 ∷ l) (exactly_is 0 a.0.1 b j r)) (subst (λ n. IsU32 n i.bytes k.bytes) (eqb-true n 10 e) h)))
    by n k h false true e f q =
        plain_onto (λ a. memory_fill) memory_copy i j p (exactly 0 k) (rw f at (rw e at q))
        (λ b r. (refl, subst (λ (l : List ℕ). IsU32 11 i.bytes l) (exactly_is 0 k b j r) (subst (λ n. IsU32 n i.bytes k.bytes) (eqb-true n 11 f) h)))
    by n k h false false e f q = absurd (let q : ◌≡◌ {A = Field Plain} (fault UnknownByte i.at) (Ok (p, j)) = rw f at (rw e at q) in cc)

plain_is : (f : Plain) (i j : Input) (p : Plain) → plain_form_of f ≡ f → plain_immediates f i ≡ Ok (p, j) → PlainIs f i j p
plain_is (local_get x) i j p form q = plain_onto local_get (local_get x) i j p (u32 i) q (λ n r. (refl, u32_is i n j r))
plain_is (local_set x) i j p form q = plain_onto local_set (local_set x) i j p (u32 i) q (λ n r. (refl, u32_is i n j r))
plain_is (local_tee x) i j p form q = plain_onto local_tee (local_tee x) i j p (u32 i) q (λ n r. (refl, u32_is i n j r))
plain_is (global_get x) i j p form q = plain_onto global_get (global_get x) i j p (u32 i) q (λ n r. (refl, u32_is i n j r))
plain_is (global_set x) i j p form q = plain_onto global_set (global_set x) i j p (u32 i) q (λ n r. (refl, u32_is i n j r))
plain_is (load op a o) i j p form q = plain_onto (λ a. load op a.0 a.1) (load op a o) i j p (access_field i) q (λ a r. (refl, access_is i a j r))
plain_is (store op a o) i j p form q = plain_onto (λ a. store op a.0 a.1) (store op a o) i j p (access_field i) q (λ a r. (refl, access_is i a j r))
plain_is memory_size i j p form q = plain_onto (λ b. memory_size) memory_size i j p (exactly 0 i) q (λ b r. (refl, exactly_is 0 i b j r))
plain_is memory_copy i j p form q = copy_or_fill_is i j p q
plain_is (const32 n) i j p form q = plain_onto const32 (const32 n) i j p (integer 32 i) q (λ n r. (refl, word_is 32 i n j r))
plain_is (const64 n) i j p form q = plain_onto const64 (const64 n) i j p (integer 64 i) q (λ n r. (refl, word_is 64 i n j r))
plain_is memory_fill i j p form q = absurd cc
plain_is f i j p form q = plain_bare f i j p q refl

-- the same for all instructions

instruction_onto : {A : Type 0} (c : A → Instruction) (f : Instruction) (i j : Input) (x : Instruction) (r : Field A) → onto c r ≡ Ok (x, j) → ((v : A) → r ≡ Ok (v, j) → InstructionIs f i j (c v)) → InstructionIs f i j x
instruction_onto c f i j x r q k = let o = onto_is c r x j q in subst (λ x. InstructionIs f i j x) o.2 (k o.0 o.1)

instruction_bare : (f : Instruction) (i j : Input) (x : Instruction) → ◌≡◌ {A = Field Instruction} (Ok (f, i)) (Ok (x, j)) → AreImmediates f i.bytes i.bytes → InstructionIs f i j x
instruction_bare f i j x q h = subst (λ p. InstructionIs f i p.1 p.0) (ok_is {E = Fault} (f, i) (x, j) q) (refl, h)

br_table_is : (f : Instruction) (i j : Input) (x : Instruction) → form_of f ≡ br_table [] 0 → immediates (br_table [] 0) i ≡ Ok (x, j) → InstructionIs f i j x
br_table_is f i j x form q =
    let v = bind_ok (vec_field u32 i) _ (x, j) q in
    let d = bind_ok (u32 v.0.1) _ (x, j) v.2 in
    subst (λ p. InstructionIs f i p.1 p.0) (ok_is (br_table v.0.0 d.0.0, d.0.1) (x, j) d.2) (sym form, (v.0.1.bytes, vec_is IsU32 u32 u32_is i v.0.0 v.0.1 v.1, u32_is v.0.1 d.0.0 d.0.1 d.1))

call_indirect_is : (f : Instruction) (i j : Input) (x : Instruction) → form_of f ≡ call_indirect 0 → immediates (call_indirect 0) i ≡ Ok (x, j) → InstructionIs f i j x
call_indirect_is f i j x form q =
    let t = bind_ok (u32 i) _ (x, j) q in
    let b = bind_ok (exactly 0 t.0.1) _ (x, j) t.2 in
    let h = subst (λ (l : List ℕ). IsU32 t.0.0 i.bytes l) (exactly_is 0 t.0.1 b.0.0 b.0.1 b.1) (u32_is i t.0.0 t.0.1 t.1) in
    subst (λ p. InstructionIs f i p.1 p.0) (ok_is (call_indirect t.0.0, b.0.1) (x, j) b.2) (sym form, h)

immediates_are : (f : Instruction) (i j : Input) (x : Instruction) → form_of f ≡ f → immediates f i ≡ Ok (x, j) → InstructionIs f i j x
immediates_are (block r) i j x form q = instruction_onto block (block r) i j x (block_type_field i) q (λ r e. (refl, block_type_is i r j e))
immediates_are (loop r) i j x form q = instruction_onto loop (loop r) i j x (block_type_field i) q (λ r e. (refl, block_type_is i r j e))
immediates_are (if_block r) i j x form q = instruction_onto if_block (if_block r) i j x (block_type_field i) q (λ r e. (refl, block_type_is i r j e))
immediates_are (br l) i j x form q = instruction_onto br (br l) i j x (u32 i) q (λ n e. (refl, u32_is i n j e))
immediates_are (br_if l) i j x form q = instruction_onto br_if (br_if l) i j x (u32 i) q (λ n e. (refl, u32_is i n j e))
immediates_are (br_table ls l) i j x form q = br_table_is (br_table ls l) i j x refl q
immediates_are (call f) i j x form q = instruction_onto call (call f) i j x (u32 i) q (λ n e. (refl, u32_is i n j e))
immediates_are (call_indirect t) i j x form q = call_indirect_is (call_indirect t) i j x refl q
immediates_are (plain p) i j x form q =
    instruction_onto plain (plain p) i j x (plain_immediates p i) q
    (λ y e. let h = plain_is p i j y (plain_form p form) e in (ap plain h.0, h.1))
  where
    plain_form : (p : Plain) → plain (plain_form_of p) ≡ plain p → plain_form_of p ≡ p
    plain_form p e = cc
immediates_are f i j x form q = instruction_bare f i j x q refl

pub instruction_is : (i : Input) (x : Instruction) (j : Input) → instruction_field i ≡ Ok (x, j) → IsInstruction x i.bytes j.bytes
unfolding after_opcode
instruction_is i x j q =
    let b = bind_ok (byte i) _ (x, j) q in
    let h = by b.0.0 b.0.1 (form_at b.0.0) refl b.2 in
    subst (λ (l : List ℕ). IsInstruction x l j.bytes) (sym (byte_is SectionSize i b.0.0 b.0.1 b.1)) h
  where
    by : (b : ℕ) (k : Input) (o : Option Instruction) → form_at b ≡ o → by_form i.at b o k ≡ Ok (x, j) → IsInstruction x (b ∷ k.bytes) j.bytes
    by b k None e q = cc
    by b k (Some f) e q =
        let form = form_of_form b f e in
        let h = immediates_are f k j x form q in
        instruction (e ∙ ap (λ f. Some f) (sym form ∙ sym h.0)) h.1
