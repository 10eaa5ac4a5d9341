-- The opcode of an instruction is the one of the table.
use Rattle.std.proofs.Common.{◌≡◌, ℕ, ◌+◌, Bool, true, false, eqb, List, [], ◌∷◌, ◌++◌, Option, Some, None, refl, sym, ap, subst, ◌∙◌, append_assoc, append-nil}
use Rattle.std.specs.Prelude.{◌==◌, ◌&&◌}
use Rattle.std.proofs.lemmas.Bool.{false≢true, eqb-true, and_parts}
use Rattle.sem_words.specs.declared.word.Bin.{Bin}
use Rattle.sem_words.specs.declared.word.Bin.TheVariants.{Add, Sub, Mul, DivS, DivU, RemS, RemU, And, Or, Xor, Shl, ShrS, ShrU, Rotl, Rotr}
use Rattle.sem_words.specs.declared.word.Un.{Un}
use Rattle.sem_words.specs.declared.word.Un.TheVariants.{Clz, Ctz, Popcnt}
use Rattle.sem_words.specs.declared.word.Rel.{Rel}
use Rattle.sem_words.specs.declared.word.Rel.TheVariants.{Eq, Ne, LtS, LtU, GtS, GtU, LeS, LeU, GeS, GeU}
use Rattle.wasm_lang.specs.declared.types.MemOp.{MemOp}
use Rattle.wasm_lang.specs.Instructions.{Plain, nop, drop_operand, select, local_get, local_set, local_tee, global_get, global_set, load, store, memory_size, memory_copy, memory_fill, const32, const64, eqz32, eqz64, rel32, rel64, un32, un64, bin32, bin64, wrap, extend_s, extend_u, sign_extend, Instruction, unreachable, block, loop, if_block, else_mark, end_mark, br, br_if, br_table, return, call, call_indirect, plain}
use Rattle.wasm_lang.specs.Opcodes.{opcodes, load_opcodes, store_opcodes, form_at, form_of, plain_form_of, IsOpcode, HasNoOpcode}
use Rattle.wasm_lang.proofs.Table.{all_pass, found_passes}
use Rattle.wasm_binary_write.specs.Opcodes.{row_of, same_bool, same_memory_op, comparison_place, count_place, operator_place, extension_opcodes, same_extension, plain_opcode_of, opcode_of}
use Rattle.wasm_binary_write.specs.Spelling.{instruction, immediates, behind}

abbrev is_some : Option ℕ → ℕ → Bool
is_some None b = false
is_some (Some a) b = eqb a b

some_of : (o : Option ℕ) (b : ℕ) → is_some o b ≡ true → o ≡ Some b
some_of None b e = absurd (false≢true e)
some_of (Some a) b e = ap Some (eqb-true a b e)

-- each row of the table has the opcode that its form is given
all_rows : all_pass (λ b i. is_some (opcode_of i) b) opcodes ≡ true
unfolding opcode_of
all_rows = refl

plain_form : (p : Plain) → plain_opcode_of (plain_form_of p) ≡ plain_opcode_of p
plain_form memory_fill = refl
plain_form p = refl

same_form : (i : Instruction) → opcode_of (form_of i) ≡ opcode_of i
unfolding opcode_of
same_form (plain p) = plain_form p
same_form i = refl

pub opcode_found : (byte : ℕ) (i : Instruction) → IsOpcode byte i → opcode_of i ≡ Some byte
unfolding form_at
opcode_found byte i e =
    sym (same_form i) ∙ some_of (opcode_of (form_of i)) byte (found_passes (λ b i. is_some (opcode_of i) b) byte opcodes (form_of i) all_rows e)

-- ---- an instruction that no byte is the opcode of

abbrev rows : {X : Type 0} → (ℕ → X → Type 0) → List (ℕ × X) → Type 0
rows P [] = Unit {0}
rows P (row ∷ rest) = P row.0 row.1 × rows P rest

row_sound : {X : Type 0} (same : X → X → Bool) (P : ℕ → X → Type 0) (list : List (ℕ × X)) (x : X) (b : ℕ) → ((a c : X) → same a c ≡ true → a ≡ c) → rows P list → row_of same list x ≡ Some b → P b x
row_sound same P [] x b sound all e = absurd cc
row_sound same P (row ∷ rest) x b sound all e = by (same row.1 x) refl (row_sound same P rest x b sound all.1)
  where
    by : (t : Bool) → same row.1 x ≡ t → (row_of same rest x ≡ Some b → P b x) → P b x
    by false s others = others (rw s at e)
    by true s others =
        let q : Some row.0 ≡ Some b = rw s at e in
        let number : row.0 ≡ b = cc in
        subst (λ n. P n x) number (subst (λ y. P row.0 y) (sound row.1 x s) all.0)

bool_sound : (a b : Bool) → same_bool a b ≡ true → a ≡ b
bool_sound true true e = refl
bool_sound true false e = absurd (false≢true e)
bool_sound false true e = absurd (false≢true e)
bool_sound false false e = refl

memory_op_sound : (a b : MemOp) → same_memory_op a b ≡ true → a ≡ b
memory_op_sound a b e =
    let p = and_parts (same_bool a.wide b.wide) (same_bool a.signed b.signed && (a.size == b.size)) e in
    let q = and_parts (same_bool a.signed b.signed) (a.size == b.size) p.1 in
    let w = bool_sound a.wide b.wide p.0 in
    let s = bool_sound a.signed b.signed q.0 in
    let z = eqb-true a.size b.size q.1 in
    ap (λ (w : Bool). record { wide = w; size = a.size; signed = a.signed }) w
    ∙ ap (λ (z : ℕ). record { wide = b.wide; size = z; signed = a.signed }) z
    ∙ ap (λ (s : Bool). record { wide = b.wide; size = b.size; signed = s }) s

extension_sound : (a b : Bool × ℕ) → same_extension a b ≡ true → a ≡ b
extension_sound a b e =
    let p = and_parts (same_bool a.0 b.0) (a.1 == b.1) e in
    ap (λ (w : Bool). (w, a.1)) (bool_sound a.0 b.0 p.0) ∙ ap (λ (n : ℕ). (b.0, n)) (eqb-true a.1 b.1 p.1)

load_rows : rows (λ b op. form_at b ≡ Some (plain (load op 0 0))) load_opcodes
unfolding form_at
load_rows = (refl, (refl, (refl, (refl, (refl, (refl, (refl, (refl, (refl, (refl, (refl, (refl, tt))))))))))))

store_rows : rows (λ b op. form_at b ≡ Some (plain (store op 0 0))) store_opcodes
unfolding form_at
store_rows = (refl, (refl, (refl, (refl, (refl, (refl, (refl, tt)))))))

extension_rows : rows (λ b x. form_at b ≡ Some (plain (sign_extend x.0 x.1))) extension_opcodes
unfolding form_at
extension_rows = (refl, (refl, (refl, (refl, (refl, tt)))))

comparison_is : (op : Rel) → IsOpcode (0x46 + comparison_place op) (plain (rel32 op)) × IsOpcode (0x51 + comparison_place op) (plain (rel64 op))
unfolding form_at
comparison_is Eq = (refl, refl)
comparison_is Ne = (refl, refl)
comparison_is LtS = (refl, refl)
comparison_is LtU = (refl, refl)
comparison_is GtS = (refl, refl)
comparison_is GtU = (refl, refl)
comparison_is LeS = (refl, refl)
comparison_is LeU = (refl, refl)
comparison_is GeS = (refl, refl)
comparison_is GeU = (refl, refl)

count_is : (op : Un) → IsOpcode (0x67 + count_place op) (plain (un32 op)) × IsOpcode (0x79 + count_place op) (plain (un64 op))
unfolding form_at
count_is Clz = (refl, refl)
count_is Ctz = (refl, refl)
count_is Popcnt = (refl, refl)

operator_is : (op : Bin) → IsOpcode (0x6a + operator_place op) (plain (bin32 op)) × IsOpcode (0x7c + operator_place op) (plain (bin64 op))
unfolding form_at
operator_is Add = (refl, refl)
operator_is Sub = (refl, refl)
operator_is Mul = (refl, refl)
operator_is DivS = (refl, refl)
operator_is DivU = (refl, refl)
operator_is RemS = (refl, refl)
operator_is RemU = (refl, refl)
operator_is And = (refl, refl)
operator_is Or = (refl, refl)
operator_is Xor = (refl, refl)
operator_is Shl = (refl, refl)
operator_is ShrS = (refl, refl)
operator_is ShrU = (refl, refl)
operator_is Rotl = (refl, refl)
operator_is Rotr = (refl, refl)

none_where : (o : Option ℕ) → ((b : ℕ) → o ≡ Some b → ⊥) → o ≡ None
none_where None none = refl
none_where (Some b) none = absurd (none b refl)

plain_missing : (p : Plain) → HasNoOpcode (plain p) → plain_opcode_of p ≡ None
unfolding form_at
plain_missing nop none = absurd (none 0x01 refl)
plain_missing drop_operand none = absurd (none 0x1a refl)
plain_missing select none = absurd (none 0x1b refl)
plain_missing (local_get x) none = absurd (none 0x20 refl)
plain_missing (local_set x) none = absurd (none 0x21 refl)
plain_missing (local_tee x) none = absurd (none 0x22 refl)
plain_missing (global_get x) none = absurd (none 0x23 refl)
plain_missing (global_set x) none = absurd (none 0x24 refl)
plain_missing (load op a o) none = none_where (row_of same_memory_op load_opcodes op) (λ b e. none b (row_sound same_memory_op (λ b op. form_at b ≡ Some (plain (load op 0 0))) load_opcodes op b memory_op_sound load_rows e))
plain_missing (store op a o) none = none_where (row_of same_memory_op store_opcodes op) (λ b e. none b (row_sound same_memory_op (λ b op. form_at b ≡ Some (plain (store op 0 0))) store_opcodes op b memory_op_sound store_rows e))
plain_missing memory_size none = absurd (none 0x3f refl)
plain_missing memory_copy none = absurd (none 0xfc refl)
plain_missing memory_fill none = absurd (none 0xfc refl)
plain_missing (const32 word) none = absurd (none 0x41 refl)
plain_missing (const64 word) none = absurd (none 0x42 refl)
plain_missing eqz32 none = absurd (none 0x45 refl)
plain_missing eqz64 none = absurd (none 0x50 refl)
plain_missing (rel32 op) none = absurd (none (0x46 + comparison_place op) (comparison_is op).0)
plain_missing (rel64 op) none = absurd (none (0x51 + comparison_place op) (comparison_is op).1)
plain_missing (un32 op) none = absurd (none (0x67 + count_place op) (count_is op).0)
plain_missing (un64 op) none = absurd (none (0x79 + count_place op) (count_is op).1)
plain_missing (bin32 op) none = absurd (none (0x6a + operator_place op) (operator_is op).0)
plain_missing (bin64 op) none = absurd (none (0x7c + operator_place op) (operator_is op).1)
plain_missing wrap none = absurd (none 0xa7 refl)
plain_missing extend_s none = absurd (none 0xac refl)
plain_missing extend_u none = absurd (none 0xad refl)
plain_missing (sign_extend wide bits) none = none_where (row_of same_extension extension_opcodes (wide, bits)) (λ b e. none b (row_sound same_extension (λ b x. form_at b ≡ Some (plain (sign_extend x.0 x.1))) extension_opcodes (wide, bits) b extension_sound extension_rows e))

pub opcode_missing : (i : Instruction) → HasNoOpcode i → opcode_of i ≡ None
unfolding opcode_of form_at
opcode_missing unreachable none = absurd (none 0x00 refl)
opcode_missing (block r) none = absurd (none 0x02 refl)
opcode_missing (loop r) none = absurd (none 0x03 refl)
opcode_missing (if_block r) none = absurd (none 0x04 refl)
opcode_missing else_mark none = absurd (none 0x05 refl)
opcode_missing end_mark none = absurd (none 0x0b refl)
opcode_missing (br l) none = absurd (none 0x0c refl)
opcode_missing (br_if l) none = absurd (none 0x0d refl)
opcode_missing (br_table ls l) none = absurd (none 0x0e refl)
opcode_missing return none = absurd (none 0x0f refl)
opcode_missing (call f) none = absurd (none 0x10 refl)
opcode_missing (call_indirect t) none = absurd (none 0x11 refl)
opcode_missing (plain p) none = plain_missing p none

pub instruction_found : (byte : ℕ) (i : Instruction) → IsOpcode byte i → instruction i ≡ byte ∷ immediates i
unfolding instruction
instruction_found byte i is = ap (λ o. behind o (immediates i)) (opcode_found byte i is)

pub instruction_missing : (i : Instruction) → HasNoOpcode i → instruction i ≡ []
unfolding instruction
instruction_missing i none = ap (λ o. behind o (immediates i)) (opcode_missing i none)

pub with_opcode : (front mid : List ℕ) (byte : ℕ) (i : Instruction) → IsOpcode byte i → mid ≡ front ++ byte ∷ [] → mid ++ immediates i ≡ front ++ instruction i
with_opcode front mid byte i is m =
    ap (λ m. m ++ immediates i) m ∙ append_assoc front (byte ∷ []) (immediates i) ∙ ap (λ b. front ++ b) (sym (instruction_found byte i is))

pub without_opcode : (front : List ℕ) (i : Instruction) → HasNoOpcode i → front ≡ front ++ instruction i
without_opcode front i none = sym (append-nil front) ∙ ap (λ b. front ++ b) (sym (instruction_missing i none))
