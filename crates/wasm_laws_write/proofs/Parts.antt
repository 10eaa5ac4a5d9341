-- Vectors, names, types and instructions are spelled.
use Rattle.std.proofs.Common.{◌≡◌, ℕ, suc, ◌^◌, ◌<◌, ◌≤◌, Bool, true, false, List, [], ◌∷◌, ◌++◌, length, Option, Some, None, refl, sym, ap, subst, arith, inl, inr, append_assoc, append-nil, length-append}
use Rattle.std.specs.Prelude.{All, nat_lt, ◌&&◌}
use Rattle.std.specs.List.{AllByRecursion}
use Rattle.std.proofs.lemmas.List.Elements.{All-head, All-tail}
use Rattle.std.proofs.lemmas.Bool.{cases_lt, lt-ltb, le-ltb}
use Rattle.std.proofs.lemmas.Bool.Decides.{nat_tests}
use Rattle.std.specs.Str.{IsUtf8, chars}
use Rattle.std.proofs.lemmas.Str.{encodes-chars, scalars-chars}
use Rattle.std.proofs.Math.Utf8.{encode, encodes, scalar, scalars, scalar_cases}
use Rattle.wasm_lang.specs.declared.types.ValType.{ValType}
use Rattle.wasm_lang.specs.declared.types.ValType.TheVariants.{I32, I64}
use Rattle.wasm_lang.specs.declared.types.Limits.{Limits}
use Rattle.wasm_lang.specs.declared.types.GlobalType.{GlobalType}
use Rattle.wasm_lang.specs.Instructions.{Plain, local_get, local_set, local_tee, global_get, global_set, load, store, memory_size, memory_copy, memory_fill, const32, const64, Instruction, block, loop, if_block, br, br_if, br_table, call, call_indirect, plain}
use Rattle.wasm_lang.specs.Numbers.{last_unsigned, IsU32}
use Rattle.wasm_lang.specs.Opcodes.{opcodes, form_at, form_of, IsOpcode}
use Rattle.wasm_lang.specs.Shape.{HasOpcode, IsShapedCode}
use Rattle.wasm_lang.specs.Grammar.{Spelling, Items, no_item, item, IsVec, IsBytes, IsName, IsSized, IsValType, i32_type, i64_type, IsBlockType, no_result, one_result, IsFunctionType, function_type, IsLimits, only_min, min_and_max, IsTable, a_table, IsMutable, is_constant, is_variable, IsGlobalType, global_type, IsMemoryImmediate, ArePlainImmediates, AreImmediates, IsInstruction, instruction, IsCode}
use Rattle.wasm_lang.proofs.Table.{all_pass, found_passes}
use Rattle.wasm_binary_write.specs.Spelling.{unsigned, items, vector, sized, value_type, block_type, limits_to, limits, table, mutability, plain_immediates, immediates}
use Rattle.wasm_binary_write.specs.Spelling as own
use Rattle.wasm_binary_write.proofs.Groups.{groups_last, groups_more}
use Rattle.wasm_binary_write.proofs.Opcodes.{instruction_found}
use Rattle.wasm_binary_write.proofs.Best.{AreBytes, bytes_append}
use Rattle.wasm_laws_write.specs.Fits.{FitsU32, PlainFits, InstructionFits, OptionFits, LimitsFit}
use Rattle.wasm_laws_write.proofs.Numbers.{Spelled, Writes, two, behind_byte, one_byte, u32_spelled, word_spelled}

-- ---- lists

pub each : {X : Type 0} (P : X → Type 0) (xs : List X) → All P xs → AllByRecursion P xs
each P [] a = tt
each P (x ∷ xs) a = (All-head P x xs a, each P xs (All-tail P x xs a))

pub both : {X : Type 0} (P Q : X → Type 0) (xs : List X) → AllByRecursion P xs → AllByRecursion Q xs → AllByRecursion (λ x. P x × Q x) xs
both P Q [] a b = tt
both P Q (x ∷ xs) a b = ((a.0, b.0), both P Q xs a.1 b.1)

pub bytes_from : (xs : List ℕ) → All (λ b. b < 256) xs → AreBytes xs
bytes_from [] a = tt
bytes_from (x ∷ xs) a = (All-head (λ b. b < 256) x xs a, bytes_from xs (All-tail (λ b. b < 256) x xs a))

-- ---- what has a byte at least

abbrev pub NeverEmpty : {X : Type 0} → (X → List ℕ) → Type 0
NeverEmpty {X = X} f = (v : X) → 1 ≤ length (f v)

pub some_number : NeverEmpty unsigned
some_number n = elim (cases_lt n 128) [ inl small ↦ omega (arith, ap length (groups_last 128 false n small)) | inr large ↦ omega (arith, ap length (groups_more 128 false n (omega arith) large)) ]

pub some_front : (a b : List ℕ) → 1 ≤ length a → 1 ≤ length (a ++ b)
some_front a b h = omega (arith, length-append a b)

pub some_sized : NeverEmpty sized
some_sized bytes = some_front (unsigned (length bytes)) bytes (some_number (length bytes))

pub some_value : NeverEmpty value_type
some_value I32 = omega arith
some_value I64 = omega arith

pub as_many : {X : Type 0} (f : X → List ℕ) → NeverEmpty f → (vs : List X) → length vs ≤ length (items f vs)
as_many f some [] = omega arith
as_many f some (v ∷ vs) = omega (arith, as_many f some vs, some v, length-append (f v) (items f vs))

-- ---- vectors, names and sized parts

pub items_spelled : {X : Type 0} (P : Spelling X) (f : X → List ℕ) (Fits : X → Type 0) → Writes P f Fits → (vs : List X) → AllByRecursion Fits vs → length (items f vs) < 2 ^ 32 → Spelled (Items P vs) (items f vs)
items_spelled P f Fits one [] fit h = record { spells = λ us. no_item; bytes = tt }
items_spelled P f Fits one (v ∷ vs) fit h =
    let whole : length (f v ++ items f vs) < 2 ^ 32 = h in
    let parts = length-append (f v) (items f vs) in
    two (P v) (Items P vs) (Items P (v ∷ vs)) (f v) (items f vs) (one v fit.0 (omega arith)) (items_spelled P f Fits one vs fit.1 (omega arith)) (λ us p q. item p q)

pub vec_spelled : {X : Type 0} (P : Spelling X) (f : X → List ℕ) (Fits : X → Type 0) → NeverEmpty f → Writes P f Fits → (vs : List X) → AllByRecursion Fits vs → length (vector f vs) < 2 ^ 32 → Spelled (IsVec P vs) (vector f vs)
vec_spelled P f Fits some one vs fit h =
    let parts = length-append (unsigned (length vs)) (items f vs) in
    let few = as_many f some vs in
    two (IsU32 (length vs)) (Items P vs) (IsVec P vs) (unsigned (length vs)) (items f vs) (u32_spelled (length vs) (omega arith)) (items_spelled P f Fits one vs fit (omega arith))
    (λ us p q. record { after_count = items f vs ++ us; count = p; items = q })

stands : (bytes : List ℕ) → AreBytes bytes → Spelled (λ xs ys. xs ≡ bytes ++ ys) bytes
stands bytes h = record { spells = λ us. refl; bytes = h }

-- where the size of the part can be said
pub sized_part : {X : Type 0} (P : Spelling X) (f : X → List ℕ) (v : X) → Spelled (P v) (f v) → length (f v) < 2 ^ 32 → Spelled (IsSized P v) (sized (f v))
sized_part P f v inside few =
    two (IsU32 (length (f v))) (λ xs ys. xs ≡ f v ++ ys) (IsSized P v) (unsigned (length (f v))) (f v) (u32_spelled (length (f v)) few) (stands (f v) inside.bytes)
    (λ us p q. record { content = f v; after_size = f v ++ us; size = p; stands = refl; is = subst (λ l. P v l []) (append-nil (f v)) (inside.spells []) })

pub sized_spelled : {X : Type 0} (P : Spelling X) (f : X → List ℕ) (Fits : X → Type 0) → Writes P f Fits → Writes (IsSized P) (λ v. sized (f v)) Fits
sized_spelled P f Fits one v fit h =
    let parts = length-append (unsigned (length (f v))) (f v) in
    let few : length (f v) < 2 ^ 32 = omega arith in
    sized_part P f v (one v fit few) few

pub bytes_spelled : Writes IsBytes sized AreBytes
bytes_spelled bytes fit h =
    let parts = length-append (unsigned (length bytes)) bytes in
    two (IsU32 (length bytes)) (λ xs ys. xs ≡ bytes ++ ys) (IsBytes bytes) (unsigned (length bytes)) bytes (u32_spelled (length bytes) (omega arith)) (stands bytes fit)
    (λ us p q. record { after_count = bytes ++ us; count = p; stand = refl })

-- each character is of bytes
character_bytes : (c : ℕ) → c < 1114112 → AreBytes (encode c)
unfolding encode
character_bytes c h =
    elim (cases_lt c 128) [
      | inl a ↦ (let t = lt-ltb c 128 a in rw t (omega arith, tt))
      | inr a ↦
          elim (cases_lt c 2048) [
            | inl b ↦ (let t = le-ltb c 128 a in let u = lt-ltb c 2048 b in rw t (rw u (omega arith, (omega arith, tt))))
            | inr b ↦
                elim (cases_lt c 65536) [
                  | inl d ↦ (let t = le-ltb c 128 a in let u = le-ltb c 2048 b in let v = lt-ltb c 65536 d in rw t (rw u (rw v (omega arith, (omega arith, (omega arith, tt))))))
                  | inr d ↦ (let t = le-ltb c 128 a in let u = le-ltb c 2048 b in let v = le-ltb c 65536 d in rw t (rw u (rw v (omega arith, (omega arith, (omega arith, (omega arith, tt)))))))
                ]
          ]
    ]

scalar_bound : (c : ℕ) → scalar c ≡ true → c < 1114112
scalar_bound c h = elim (scalar_cases c h) [ inl low ↦ omega arith | inr high ↦ high.1 ]

both_true : (a b : Bool) → (a && b) ≡ true → (a ≡ true) × (b ≡ true)
both_true true b h = (refl, h)
both_true false b h = cc

text_bytes : (cs : List ℕ) → scalars cs ≡ true → AreBytes (encodes cs)
text_bytes [] h = tt
text_bytes (c ∷ cs) h = let parts = both_true (scalar c) (scalars cs) h in bytes_append (encode c) (encodes cs) (character_bytes c (scalar_bound c parts.0)) (text_bytes cs parts.1)

name_bytes : (name : List ℕ) → IsUtf8 name → AreBytes name
name_bytes name h = subst AreBytes (encodes-chars name h) (text_bytes (chars name) (scalars-chars name h))

pub name_spelled : Writes IsName sized IsUtf8
name_spelled name utf8 h = let b = bytes_spelled name (name_bytes name utf8) h in record { spells = λ us. record { bytes = b.spells us; utf8 = utf8 }; bytes = b.bytes }

-- ---- types

abbrev pub Always : {X : Type 0} → X → Type 0
Always x = Unit {0}

pub always : {X : Type 0} (xs : List X) → AllByRecursion Always xs
always [] = tt
always (x ∷ xs) = (tt, always xs)

pub value_spelled : (t : ValType) → Spelled (IsValType t) (value_type t)
value_spelled I32 = one_byte (IsValType I32) 0x7f (omega arith) (λ us. i32_type)
value_spelled I64 = one_byte (IsValType I64) 0x7e (omega arith) (λ us. i64_type)

block_spelled : (t : Option ValType) → Spelled (IsBlockType t) (block_type t)
block_spelled None = one_byte (IsBlockType None) 0x40 (omega arith) (λ us. no_result)
block_spelled (Some t) = let v = value_spelled t in record { spells = λ us. one_result (v.spells us); bytes = v.bytes }

values_spelled : (ts : List ValType) → length (vector value_type ts) < 2 ^ 32 → Spelled (IsVec IsValType ts) (vector value_type ts)
values_spelled ts h = vec_spelled IsValType value_type Always some_value (λ t fit few. value_spelled t) ts (always ts) h

pub function_type_spelled : Writes IsFunctionType own.function_type Always
function_type_spelled t fit h =
    let ps = vector value_type t.params in
    let rs = vector value_type t.results in
    let parts = length-append ps rs in
    let whole : suc (length (ps ++ rs)) < 2 ^ 32 = h in
    let p = values_spelled t.params (omega arith) in
    let r = values_spelled t.results (omega arith) in
    record {
      spells = λ us. function_type (subst (λ l. IsVec IsValType t.params l (rs ++ us)) (sym (append_assoc ps rs us)) (p.spells (rs ++ us))) (r.spells us);
      bytes = (omega arith, bytes_append ps rs p.bytes r.bytes);
    }

limits_to_spelled : (min : ℕ) (max : Option ℕ) → FitsU32 min → OptionFits max → Spelled (IsLimits (record { min = min; max = max })) (limits_to min max)
limits_to_spelled n None p q = behind_byte (IsU32 n) (IsLimits (record { min = n; max = None })) 0x00 (unsigned n) (omega arith) (u32_spelled n p) (λ us s. only_min s)
limits_to_spelled n (Some m) p q =
    behind_byte (λ xs zs. IsLimits (record { min = n; max = Some m }) (0x01 ∷ xs) zs) (IsLimits (record { min = n; max = Some m })) 0x01 (unsigned n ++ unsigned m) (omega arith)
    (two (IsU32 n) (IsU32 m) (λ xs zs. IsLimits (record { min = n; max = Some m }) (0x01 ∷ xs) zs) (unsigned n) (unsigned m) (u32_spelled n p) (u32_spelled m q) (λ us p q. min_and_max p q))
    (λ us s. s)

pub limits_spelled : (l : Limits) → LimitsFit l → Spelled (IsLimits l) (limits l)
limits_spelled l fit = limits_to_spelled l.min l.max fit.0 fit.1

pub some_limits : NeverEmpty limits
some_limits l = by l.max
  where
    by : (max : Option ℕ) → 1 ≤ length (limits_to l.min max)
    by None = omega arith
    by (Some m) = omega arith

pub table_spelled : (l : Limits) → LimitsFit l → Spelled (IsTable l) (table l)
table_spelled l fit = behind_byte (IsLimits l) (IsTable l) 0x70 (limits l) (omega arith) (limits_spelled l fit) (λ us s. a_table s)

mutable_spelled : (m : Bool) → Spelled (IsMutable m) (mutability m)
mutable_spelled false = one_byte (IsMutable false) 0x00 (omega arith) (λ us. is_constant)
mutable_spelled true = one_byte (IsMutable true) 0x01 (omega arith) (λ us. is_variable)

pub global_type_spelled : (g : GlobalType) → Spelled (IsGlobalType g) (own.global_type g)
global_type_spelled g = two (IsValType g.kind) (IsMutable g.mutable) (IsGlobalType g) (value_type g.kind) (mutability g.mutable) (value_spelled g.kind) (mutable_spelled g.mutable) (λ us p q. global_type p q)

-- ---- instructions

access_spelled : (align offset : ℕ) → FitsU32 align → FitsU32 offset → Spelled (IsMemoryImmediate align offset) (unsigned align ++ unsigned offset)
access_spelled align offset p q =
    two (IsU32 align) (IsU32 offset) (IsMemoryImmediate align offset) (unsigned align) (unsigned offset) (u32_spelled align p) (u32_spelled offset q) (λ us p q. (unsigned offset ++ us, p, q))

plain_spelled : (p : Plain) → PlainFits p → Spelled (ArePlainImmediates p) (plain_immediates p)
plain_spelled (local_get x) fit = u32_spelled x fit
plain_spelled (local_set x) fit = u32_spelled x fit
plain_spelled (local_tee x) fit = u32_spelled x fit
plain_spelled (global_get x) fit = u32_spelled x fit
plain_spelled (global_set x) fit = u32_spelled x fit
plain_spelled (load op align offset) fit = access_spelled align offset fit.0 fit.1
plain_spelled (store op align offset) fit = access_spelled align offset fit.0 fit.1
plain_spelled memory_size fit = record { spells = λ us. refl; bytes = (omega arith, tt) }
plain_spelled memory_copy fit = record { spells = λ us. last_unsigned (omega arith) (omega arith); bytes = (omega arith, (omega arith, (omega arith, tt))) }
plain_spelled memory_fill fit = record { spells = λ us. last_unsigned (omega arith) (omega arith); bytes = (omega arith, (omega arith, tt)) }
plain_spelled (const32 word) fit = word_spelled 32 word (omega arith) fit
plain_spelled (const64 word) fit = word_spelled 64 word (omega arith) fit
plain_spelled p fit = record { spells = λ us. refl; bytes = tt }

pub numbers_spelled : (ns : List ℕ) → All FitsU32 ns → length (vector unsigned ns) < 2 ^ 32 → Spelled (IsVec IsU32 ns) (vector unsigned ns)
numbers_spelled ns fit h = vec_spelled IsU32 unsigned FitsU32 some_number (λ n fit few. u32_spelled n fit) ns (each FitsU32 ns fit) h

branches_spelled : (ls : List ℕ) (l : ℕ) → All FitsU32 ls → FitsU32 l → length (vector unsigned ls ++ unsigned l) < 2 ^ 32 → Spelled (AreImmediates (br_table ls l)) (vector unsigned ls ++ unsigned l)
branches_spelled ls l fits fit h =
    let parts = length-append (vector unsigned ls) (unsigned l) in
    two (IsVec IsU32 ls) (IsU32 l) (AreImmediates (br_table ls l)) (vector unsigned ls) (unsigned l) (numbers_spelled ls fits (omega arith)) (u32_spelled l fit) (λ us p q. (unsigned l ++ us, p, q))

indirect_spelled : (t : ℕ) → FitsU32 t → Spelled (λ xs ys. IsU32 t xs (0x00 ∷ ys)) (unsigned t ++ (0x00 ∷ []))
indirect_spelled t fit =
    two (IsU32 t) (λ xs ys. xs ≡ 0x00 ∷ ys) (λ xs ys. IsU32 t xs (0x00 ∷ ys)) (unsigned t) (0x00 ∷ []) (u32_spelled t fit) (one_byte (λ xs ys. xs ≡ 0x00 ∷ ys) 0x00 (omega arith) (λ us. refl)) (λ us p q. p)

immediates_spelled : (i : Instruction) → InstructionFits i → length (immediates i) < 2 ^ 32 → Spelled (AreImmediates i) (immediates i)
immediates_spelled (block r) fit h = block_spelled r
immediates_spelled (loop r) fit h = block_spelled r
immediates_spelled (if_block r) fit h = block_spelled r
immediates_spelled (br l) fit h = u32_spelled l fit
immediates_spelled (br_if l) fit h = u32_spelled l fit
immediates_spelled (br_table ls l) fit h = branches_spelled ls l fit.0 fit.1 h
immediates_spelled (call f) fit h = u32_spelled f fit
immediates_spelled (call_indirect t) fit h = indirect_spelled t fit
immediates_spelled (plain p) fit h = plain_spelled p fit
immediates_spelled i fit h = record { spells = λ us. refl; bytes = tt }

all_bytes : all_pass (λ b i. nat_lt b 256) opcodes ≡ true
all_bytes = refl

opcode_byte : (byte : ℕ) (i : Instruction) → IsOpcode byte i → byte < 256
unfolding form_at
opcode_byte byte i e = let t : nat_lt byte 256 ≡ true = found_passes (λ b i. nat_lt b 256) byte opcodes (form_of i) all_bytes e in grind (arith, nat_tests)

instruction_spelled : Writes IsInstruction own.instruction (λ i. HasOpcode i × InstructionFits i)
instruction_spelled i fit h =
    let byte = fit.0.0 in
    let found = instruction_found byte i fit.0.1 in
    let few : suc (length (immediates i)) < 2 ^ 32 = subst (λ l. length l < 2 ^ 32) found h in
    subst (Spelled (IsInstruction i)) (sym found)
    (behind_byte (AreImmediates i) (IsInstruction i) byte (immediates i) (opcode_byte byte i fit.0.1) (immediates_spelled i fit.1 (omega arith)) (λ us s. instruction fit.0.1 s))

-- an expression whose numbers fit
abbrev pub CodeFits : List Instruction → Type 0
CodeFits code = IsShapedCode code × All InstructionFits code

pub code_spelled : Writes IsCode (items own.instruction) CodeFits
code_spelled code fit h =
    let s = items_spelled IsInstruction own.instruction (λ i. HasOpcode i × InstructionFits i) instruction_spelled code (both HasOpcode InstructionFits code (each HasOpcode code fit.0.opcodes) (each InstructionFits code fit.1)) h in
    record { spells = λ us. record { instructions = s.spells us; expression = fit.0.expression }; bytes = s.bytes }
