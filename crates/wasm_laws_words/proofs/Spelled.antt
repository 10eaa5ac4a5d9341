-- Each instruction that bytes spell has words.
use Rattle.std.proofs.Common.{◌≡◌, ℕ, zero, suc, ◌-◌, ◌^◌, ◌<◌, ◌≤◌, List, ◌∷◌, length, refl, subst, arith}
use Rattle.std.specs.Prelude.{Option, Ok, Err}
use Rattle.std.specs.List.{AllByRecursion}
use Rattle.std.proofs.Math.Pow.{pow_mono}
use Rattle.wasm_lang.specs.declared.types.ValType.{ValType}
use Rattle.wasm_lang.specs.Instructions.{Plain, local_get, local_set, local_tee, global_get, global_set, load, store, memory_size, memory_copy, memory_fill, const32, const64, Instruction, block, loop, if_block, br, br_if, br_table, call, call_indirect, plain}
use Rattle.wasm_lang.specs.Numbers.{IsUnsigned, last_unsigned, more_unsigned, IsInteger, last_positive, last_negative, more_integer, IsU32}
use Rattle.wasm_lang.specs.Grammar.{Items, no_item, item, i32_type, i64_type, IsBlockType, no_result, one_result, ArePlainImmediates, AreImmediates, IsInstruction, instruction}
use Rattle.wasm_lang.specs.Reading.{Input, Field}
use Rattle.wasm_lang.specs.ReadingCode.{instruction_field, spelled, spelled_within, spelled_on}
use Rattle.wasm_lang.proofs.ReadInstructions.{instruction_is}
use Rattle.wasm_tree.proofs.Powers.{joined_below}
use Rattle.wat_laws_print.specs.Words.{AreBytes, IsNumber, HasPlainWords, HasWords}

-- ---- bytes are followed by bytes

unsigned_rest : (bits n : ℕ) (xs ys : List ℕ) → IsUnsigned bits n xs ys → AreBytes xs → AreBytes ys
unsigned_rest bits n xs ys (last_unsigned h l) r = r.1
unsigned_rest bits n xs ys (more_unsigned {high = high} {xs = bs} h l s) r = unsigned_rest (bits - 7) high bs ys s r.1

integer_rest : (bits n : ℕ) (xs ys : List ℕ) → IsInteger bits n xs ys → AreBytes xs → AreBytes ys
integer_rest bits n xs ys (last_positive h l) r = r.1
integer_rest bits n xs ys (last_negative h k l) r = r.1
integer_rest bits n xs ys (more_integer {high = high} {xs = bs} h l s) r = integer_rest (bits - 7) high bs ys s r.1

block_type_rest : (t : Option ValType) (xs ys : List ℕ) → IsBlockType t xs ys → AreBytes xs → AreBytes ys
block_type_rest t xs ys no_result r = r.1
block_type_rest t xs ys (one_result i32_type) r = r.1
block_type_rest t xs ys (one_result i64_type) r = r.1

-- ---- a word of so many bits

integer_word : (bits n : ℕ) (xs ys : List ℕ) → IsInteger bits n xs ys → 0 < bits → AreBytes xs → n < 2 ^ bits
integer_word bits n xs ys (last_positive {b = b} h l) some r =
    let k : bits - 1 ≤ bits = omega arith in
    let p : 2 ^ (bits - 1) ≤ 2 ^ bits = pow_mono k in
    omega arith
integer_word bits n xs ys (last_negative {b = b} h k l) some r =
    let j : bits - 1 ≤ bits = omega arith in
    let p : 2 ^ (bits - 1) ≤ 2 ^ bits = pow_mono j in
    omega arith
integer_word bits n xs ys (more_integer {b = b} {high = high} {xs = bs} h l s) some r =
    let m : high < 2 ^ (bits - 7) = integer_word (bits - 7) high bs ys s (omega arith) r.1 in
    joined_below bits high b l m r.0

-- ---- instructions

unsigned_word : (bits n : ℕ) (xs ys : List ℕ) → IsUnsigned bits n xs ys → AreBytes xs → n < 2 ^ bits
unsigned_word bits n xs ys (last_unsigned h l) r = l
unsigned_word bits n xs ys (more_unsigned {b = b} {high = high} {xs = bs} h l s) r =
    let m : high < 2 ^ (bits - 7) = unsigned_word (bits - 7) high bs ys s r.1 in
    joined_below bits high b l m r.0

number : (n : ℕ) (xs ys : List ℕ) → IsUnsigned 32 n xs ys → AreBytes xs → IsNumber n × AreBytes ys
number n xs ys h r = (unsigned_word 32 n xs ys h r, unsigned_rest 32 n xs ys h r)

numbers : (ns xs ys : List ℕ) → Items IsU32 ns xs ys → AreBytes xs → AllByRecursion IsNumber ns × AreBytes ys
numbers ns xs ys no_item r = (tt, r)
numbers ns xs zs (item {v = n} {vs = more} {ys = ys} h hs) r =
    let first = number n xs ys h r in
    let rest = numbers more ys zs hs first.1 in
    ((first.0, rest.0), rest.1)

plain_word : (p : Plain) (xs ys : List ℕ) → ArePlainImmediates p xs ys → AreBytes xs → HasPlainWords p × AreBytes ys
plain_word (local_get x) xs ys h r = number x xs ys h r
plain_word (local_set x) xs ys h r = number x xs ys h r
plain_word (local_tee x) xs ys h r = number x xs ys h r
plain_word (global_get x) xs ys h r = number x xs ys h r
plain_word (global_set x) xs ys h r = number x xs ys h r
plain_word (load op align offset) xs ys h r = number offset h.0 ys h.2 (unsigned_rest 32 align xs h.0 h.1 r)
plain_word (store op align offset) xs ys h r = number offset h.0 ys h.2 (unsigned_rest 32 align xs h.0 h.1 r)
plain_word memory_size xs ys h r = let s = subst AreBytes h r in (tt, s.1)
plain_word memory_copy xs ys h r = let s = unsigned_rest 32 10 xs (0 ∷ 0 ∷ ys) h r in (tt, s.1.1)
plain_word memory_fill xs ys h r = let s = unsigned_rest 32 11 xs (0 ∷ ys) h r in (tt, s.1)
plain_word (const32 word) xs ys h r = (integer_word 32 word xs ys h (omega arith) r, integer_rest 32 word xs ys h r)
plain_word (const64 word) xs ys h r = (integer_word 64 word xs ys h (omega arith) r, integer_rest 64 word xs ys h r)
plain_word p xs ys h r = (tt, subst AreBytes h r)

immediates_word : (i : Instruction) (xs ys : List ℕ) → AreImmediates i xs ys → AreBytes xs → HasWords i × AreBytes ys
immediates_word (block t) xs ys h r = (tt, block_type_rest t xs ys h r)
immediates_word (loop t) xs ys h r = (tt, block_type_rest t xs ys h r)
immediates_word (if_block t) xs ys h r = (tt, block_type_rest t xs ys h r)
immediates_word (br l) xs ys h r = number l xs ys h r
immediates_word (br_if l) xs ys h r = number l xs ys h r
immediates_word (br_table ls l) xs ys h r =
    let counted = unsigned_rest 32 (length ls) xs h.1.after_count h.1.count r in
    let labels = numbers ls h.1.after_count h.0 h.1.items counted in
    let default = number l h.0 ys h.2 labels.1 in
    ((labels.0, default.0), default.1)
immediates_word (call f) xs ys h r = number f xs ys h r
immediates_word (call_indirect t) xs ys h r = let s = number t xs (0 ∷ ys) h r in (s.0, s.1.1)
immediates_word (plain p) xs ys h r = plain_word p xs ys h r
immediates_word i xs ys h r = (tt, subst AreBytes h r)

instruction_word : (i : Instruction) (xs ys : List ℕ) → IsInstruction i xs ys → AreBytes xs → HasWords i × AreBytes ys
instruction_word i xs ys (instruction {xs = bs} op h) r = immediates_word i bs ys h r.1

within_words : (n : ℕ) (i : Input) → AreBytes i.bytes → AllByRecursion HasWords (spelled_within n i)
within_words zero i r = tt
within_words (suc n) i r = by (instruction_field i) refl (λ j. within_words n j)
  where
    by : (f : Field Instruction) → instruction_field i ≡ f → ((j : Input) → AreBytes j.bytes → AllByRecursion HasWords (spelled_within n j)) → AllByRecursion HasWords (spelled_on f (λ j. spelled_within n j))
    by (Ok x) e rest = let w = instruction_word x.0 i.bytes x.1.bytes (instruction_is i x.0 x.1 e) r in (w.0, rest x.1 w.1)
    by (Err f) e rest = tt

pub spelled_words : (bytes : List ℕ) → AreBytes bytes → AllByRecursion HasWords (spelled bytes)
unfolding spelled
spelled_words bytes h = within_words (length bytes) (record { at = 0; bytes = bytes }) h
