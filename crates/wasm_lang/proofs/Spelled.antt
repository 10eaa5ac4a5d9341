-- Instructions that are spelled so are read so.
use Rattle.std.proofs.Common.{◌≡◌, ℕ, zero, suc, ◌+◌, ◌<◌, ◌≤◌, List, [], ◌∷◌, length, refl, ap, ◌∙◌, arith}
use Rattle.std.specs.Prelude.{Ok}
use Rattle.wasm_lang.specs.Instructions.{Plain, local_get, local_set, local_tee, global_get, global_set, load, store, memory_size, memory_copy, memory_fill, const32, const64, Instruction, block, loop, if_block, br, br_if, br_table, call, call_indirect, plain}
use Rattle.wasm_lang.specs.Opcodes.{form_of, plain_form_of}
use Rattle.wasm_lang.specs.Numbers.{IsU32}
use Rattle.wasm_lang.specs.Grammar.{Items, no_item, item, IsMemoryImmediate, ArePlainImmediates, AreImmediates, IsInstruction, instruction}
use Rattle.wasm_lang.specs.Reading.{◌>>=◌, u32, integer, exactly, onto}
use Rattle.wasm_lang.specs.ReadingCode.{access_field, copy_or_fill_on, plain_immediates, immediates, by_form, after_opcode, instruction_field, spelled, spelled_within, spelled_on}
use Rattle.wasm_lang.proofs.Fields.{ReadsAs, u32_reads, word_reads, onto_reads, vec_reads, block_type_reads, unsigned_shrinks, integer_shrinks, vec_shrinks, block_type_shrinks, items_shrink}

access_reads : (align offset : ℕ) (xs zs : List ℕ) → IsMemoryImmediate align offset xs zs → ReadsAs access_field (align, offset) xs zs
access_reads align offset xs zs h at =
    let a = u32_reads align xs h.0 h.1 at in
    let o = u32_reads offset h.0 zs h.2 a.0 in
    (o.0, ap (λ r. r >>= λ align. u32 align.1 >>= λ offset. Ok ((align.0, offset.0), offset.1)) a.1 ∙ ap (λ r. r >>= λ offset. Ok ((align, offset.0), offset.1)) o.1)

plain_reads : (p : Plain) (xs ys : List ℕ) → ArePlainImmediates p xs ys → ReadsAs (plain_immediates (plain_form_of p)) p xs ys
plain_reads (local_get x) xs ys h at = onto_reads local_get u32 x xs ys (u32_reads x xs ys h) at
plain_reads (local_set x) xs ys h at = onto_reads local_set u32 x xs ys (u32_reads x xs ys h) at
plain_reads (local_tee x) xs ys h at = onto_reads local_tee u32 x xs ys (u32_reads x xs ys h) at
plain_reads (global_get x) xs ys h at = onto_reads global_get u32 x xs ys (u32_reads x xs ys h) at
plain_reads (global_set x) xs ys h at = onto_reads global_set u32 x xs ys (u32_reads x xs ys h) at
plain_reads (load op align offset) xs ys h at = onto_reads (λ a. load op a.0 a.1) access_field (align, offset) xs ys (access_reads align offset xs ys h) at
plain_reads (store op align offset) xs ys h at = onto_reads (λ a. store op a.0 a.1) access_field (align, offset) xs ys (access_reads align offset xs ys h) at
plain_reads memory_size xs ys h at = (at + 1, ap (λ (l : List ℕ). plain_immediates memory_size (record { at = at; bytes = l })) h)
plain_reads memory_copy xs ys h at =
    let n = u32_reads 10 xs (0 ∷ 0 ∷ ys) h at in
    (n.0 + 1 + 1, ap (λ r. r >>= λ n. copy_or_fill_on at n.0 n.1) n.1)
plain_reads memory_fill xs ys h at =
    let n = u32_reads 11 xs (0 ∷ ys) h at in
    (n.0 + 1, ap (λ r. r >>= λ n. copy_or_fill_on at n.0 n.1) n.1)
plain_reads (const32 word) xs ys h at = onto_reads const32 (integer 32) word xs ys (word_reads 32 word xs ys h) at
plain_reads (const64 word) xs ys h at = onto_reads const64 (integer 64) word xs ys (word_reads 64 word xs ys h) at
plain_reads p xs ys h at = (at, ap (λ (l : List ℕ). Ok (p, record { at = at; bytes = l })) h)

immediates_read : (i : Instruction) (xs ys : List ℕ) → AreImmediates i xs ys → ReadsAs (immediates (form_of i)) i xs ys
immediates_read (block r) xs ys h at = let e = block_type_reads r xs ys h at in (e.0, ap (onto block) e.1)
immediates_read (loop r) xs ys h at = let e = block_type_reads r xs ys h at in (e.0, ap (onto loop) e.1)
immediates_read (if_block r) xs ys h at = let e = block_type_reads r xs ys h at in (e.0, ap (onto if_block) e.1)
immediates_read (br l) xs ys h at = onto_reads br u32 l xs ys (u32_reads l xs ys h) at
immediates_read (br_if l) xs ys h at = onto_reads br_if u32 l xs ys (u32_reads l xs ys h) at
immediates_read (br_table ls l) xs zs h at =
    let v = vec_reads IsU32 u32 u32_reads ls xs h.0 h.1 at in
    let d = u32_reads l h.0 zs h.2 v.0 in
    (d.0, ap (λ r. r >>= λ ls. u32 ls.1 >>= λ l. Ok (br_table ls.0 l.0, l.1)) v.1 ∙ ap (λ r. r >>= λ l. Ok (br_table ls l.0, l.1)) d.1)
immediates_read (call f) xs ys h at = onto_reads call u32 f xs ys (u32_reads f xs ys h) at
immediates_read (call_indirect t) xs ys h at =
    let n = u32_reads t xs (0 ∷ ys) h at in
    (n.0 + 1, ap (λ r. r >>= λ t. exactly 0 t.1 >>= λ b. Ok (call_indirect t.0, b.1)) n.1)
immediates_read (plain p) xs ys h at = let e = plain_reads p xs ys h at in (e.0, ap (onto plain) e.1)
immediates_read i xs ys h at = (at, ap (λ (l : List ℕ). Ok (i, record { at = at; bytes = l })) h)

pub instruction_reads : (i : Instruction) (xs ys : List ℕ) → IsInstruction i xs ys → ReadsAs instruction_field i xs ys
unfolding after_opcode
instruction_reads i xs ys (instruction {byte = b} {xs = bs} op h) at =
    let e = immediates_read i bs ys h (at + 1) in
    (e.0, ap (λ o. by_form at b o (record { at = at + 1; bytes = bs })) op ∙ e.1)

-- ---- each takes at least a byte

plain_shrinks : (p : Plain) (xs ys : List ℕ) → ArePlainImmediates p xs ys → length ys ≤ length xs
plain_shrinks (local_get x) xs ys h = let k = unsigned_shrinks 32 x xs ys h in omega arith
plain_shrinks (local_set x) xs ys h = let k = unsigned_shrinks 32 x xs ys h in omega arith
plain_shrinks (local_tee x) xs ys h = let k = unsigned_shrinks 32 x xs ys h in omega arith
plain_shrinks (global_get x) xs ys h = let k = unsigned_shrinks 32 x xs ys h in omega arith
plain_shrinks (global_set x) xs ys h = let k = unsigned_shrinks 32 x xs ys h in omega arith
plain_shrinks (load op align offset) xs ys h = let k = unsigned_shrinks 32 align xs h.0 h.1 in let l = unsigned_shrinks 32 offset h.0 ys h.2 in omega arith
plain_shrinks (store op align offset) xs ys h = let k = unsigned_shrinks 32 align xs h.0 h.1 in let l = unsigned_shrinks 32 offset h.0 ys h.2 in omega arith
plain_shrinks memory_size xs ys h = let k = ap length h in omega arith
plain_shrinks memory_copy xs ys h = let k = unsigned_shrinks 32 10 xs (0 ∷ 0 ∷ ys) h in omega arith
plain_shrinks memory_fill xs ys h = let k = unsigned_shrinks 32 11 xs (0 ∷ ys) h in omega arith
plain_shrinks (const32 word) xs ys h = let k = integer_shrinks 32 word xs ys h in omega arith
plain_shrinks (const64 word) xs ys h = let k = integer_shrinks 64 word xs ys h in omega arith
plain_shrinks p xs ys h = let k = ap length h in omega arith

immediates_shrink : (i : Instruction) (xs ys : List ℕ) → AreImmediates i xs ys → length ys ≤ length xs
immediates_shrink (block r) xs ys h = let k = block_type_shrinks r xs ys h in omega arith
immediates_shrink (loop r) xs ys h = let k = block_type_shrinks r xs ys h in omega arith
immediates_shrink (if_block r) xs ys h = let k = block_type_shrinks r xs ys h in omega arith
immediates_shrink (br l) xs ys h = let k = unsigned_shrinks 32 l xs ys h in omega arith
immediates_shrink (br_if l) xs ys h = let k = unsigned_shrinks 32 l xs ys h in omega arith
immediates_shrink (br_table ls l) xs ys h = let k = vec_shrinks IsU32 (unsigned_shrinks 32) ls xs h.0 h.1 in let n = unsigned_shrinks 32 l h.0 ys h.2 in omega arith
immediates_shrink (call f) xs ys h = let k = unsigned_shrinks 32 f xs ys h in omega arith
immediates_shrink (call_indirect t) xs ys h = let k = unsigned_shrinks 32 t xs (0 ∷ ys) h in omega arith
immediates_shrink (plain p) xs ys h = plain_shrinks p xs ys h
immediates_shrink i xs ys h = let k = ap length h in omega arith

pub instruction_shrinks : (i : Instruction) (xs ys : List ℕ) → IsInstruction i xs ys → length ys < length xs
instruction_shrinks i xs ys (instruction {byte = b} {xs = bs} op h) = let k = immediates_shrink i bs ys h in omega arith

-- ---- the instructions that bytes spell

pub instructions_shrink : (code : List Instruction) (xs ys : List ℕ) → Items IsInstruction code xs ys → length code + length ys ≤ length xs
instructions_shrink code xs ys h = items_shrink IsInstruction instruction_shrinks code xs ys h

spelled_within_is : (n at : ℕ) (code : List Instruction) (xs : List ℕ) → Items IsInstruction code xs [] → length code ≤ n → spelled_within n (record { at = at; bytes = xs }) ≡ code
spelled_within_is zero at code xs no_item le = refl
spelled_within_is (suc n) at code xs no_item le = refl
spelled_within_is zero at code xs (item {v = i} {vs = is} {ys = ys} h hs) le = absurd (omega arith)
spelled_within_is (suc n) at code xs (item {v = i} {vs = is} {ys = ys} h hs) le =
    let e = instruction_reads i xs ys h at in
    ap (λ r. spelled_on r (λ j. spelled_within n j)) e.1 ∙ ap (λ (l : List Instruction). i ∷ l) (spelled_within_is n e.0 is ys hs (omega arith))

pub spelled_is : (code : List Instruction) (bytes : List ℕ) → Items IsInstruction code bytes [] → spelled bytes ≡ code
unfolding spelled
spelled_is code bytes h = spelled_within_is (length bytes) 0 code bytes h (let k = instructions_shrink code bytes [] h in omega arith)
