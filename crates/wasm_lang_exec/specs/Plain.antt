-- The instructions that compute, and read and write locals, globals and the memory (sections 4.4.1 to 4.4.4). The topmost
-- value stands first. Nothing here says that operands have their types: where they don't, nothing is reduced.
use Rattle.std.specs.Prelude.{ℕ, ◌+◌, ◌*◌, ◌/◌, ◌%◌, ◌^◌, Bool, true, false, List, [], ◌∷◌, length, Option, Some, None, Result, Ok, Err, slice_get, slice_set, ◌==◌, if◌then◌else◌}
use Rattle.sem_words.specs.declared.word.Word.{Word}
use Rattle.sem_words.specs.declared.word.Word.TheVariants.{W32, W64}
use Rattle.sem_words.specs.declared.word.TrapKind.{TrapKind}
use Rattle.sem_words.specs.declared.word.TrapKind.TheVariants as kinds
use Rattle.sem_words.specs.Words.{signed_of, word_of, bin_of, un_of, rel_of, extend_of}
use Rattle.wasm_lang.specs.declared.types.MemOp.{MemOp}
use Rattle.wasm_lang.specs.Instructions.{Plain, nop, drop_operand, select, local_get, local_set, local_tee, global_get, global_set, load, store, memory_size, memory_copy, memory_fill, const32, const64, eqz32, eqz64, rel32, rel64, un32, un64, bin32, bin64, wrap, extend_s, extend_u, sign_extend}
use Rattle.heap_lang.specs.Heap.{is_inside, load_bytes, store_bytes, can_copy, copied, filled}
use Rattle.wasm_lang_exec.specs.Store.{Store, page}

-- what an instruction does: values, locals and store after it, a trap, or nothing for want of an operand
pub data Effect : Type 0 where
  goes : (values locals : List Word) → Store → Effect
  traps : TrapKind → Effect
  sticks : Effect

-- ---- operands

abbrev pub flag : Bool → ℕ
flag true = 1
flag false = 0

abbrev pub answer32 : Result ℕ TrapKind → List Word → List Word → Store → Effect
answer32 (Ok n) values locals s = goes (W32 n ∷ values) locals s
answer32 (Err kind) values locals s = traps kind

abbrev pub answer64 : Result ℕ TrapKind → List Word → List Word → Store → Effect
answer64 (Ok n) values locals s = goes (W64 n ∷ values) locals s
answer64 (Err kind) values locals s = traps kind

-- one operand, and two, of which the second is the topmost
abbrev pub with32 : (ℕ → Result ℕ TrapKind) → (Result ℕ TrapKind → List Word → List Word → Store → Effect) → List Word → List Word → Store → Effect
with32 f answer (W32 a ∷ values) locals s = answer (f a) values locals s
with32 f answer _ locals s = sticks

abbrev pub with64 : (ℕ → Result ℕ TrapKind) → (Result ℕ TrapKind → List Word → List Word → Store → Effect) → List Word → List Word → Store → Effect
with64 f answer (W64 a ∷ values) locals s = answer (f a) values locals s
with64 f answer _ locals s = sticks

abbrev pub both32 : (ℕ → ℕ → Result ℕ TrapKind) → List Word → List Word → Store → Effect
both32 f (W32 b ∷ W32 a ∷ values) locals s = answer32 (f a b) values locals s
both32 f _ locals s = sticks

abbrev pub both64 : (ℕ → ℕ → Result ℕ TrapKind) → (Result ℕ TrapKind → List Word → List Word → Store → Effect) → List Word → List Word → Store → Effect
both64 f answer (W64 b ∷ W64 a ∷ values) locals s = answer (f a b) values locals s
both64 f answer _ locals s = sticks

-- ---- variables

abbrev pub pushed : Option Word → List Word → List Word → Store → Effect
pushed None values locals s = sticks
pushed (Some v) values locals s = goes (v ∷ values) locals s

abbrev pub with_local : ℕ → Word → List Word → Option Word → List Word → Store → Effect
with_local x v values None locals s = sticks
with_local x v values (Some old) locals s = goes values (slice_set locals x v) s

abbrev pub with_global : ℕ → Word → List Word → Option Word → List Word → Store → Effect
with_global x v values None locals s = sticks
with_global x v values (Some old) locals s = goes values locals (record s { globals = slice_set s.globals x v })

-- ---- memory: the address is the sum of operand and offset, without wrapping

-- the number that bytes of the memory stand for, as a load of this form gives it
abbrev pub loaded_number : MemOp → ℕ → ℕ → ℕ
loaded_number op bits n = if op.signed then word_of bits (signed_of (8 * op.size) n) else n

abbrev pub loaded : MemOp → Option ℕ → List Word → List Word → Store → Effect
loaded op None values locals s = traps kinds.Memory
loaded op (Some n) values locals s = goes ((if op.wide then W64 (loaded_number op 64 n) else W32 (loaded_number op 32 n)) ∷ values) locals s

abbrev pub put_memory : List ℕ → Store → Store
put_memory memory s = record s { memory = memory }

abbrev pub stored : Bool → ℕ → ℕ → ℕ → List Word → List Word → Store → Effect
stored true at size word values locals s = goes values locals (put_memory (store_bytes at size word s.memory) s)
stored false at size word values locals s = traps kinds.Memory

abbrev pub copied_run : Bool → ℕ → ℕ → ℕ → List Word → List Word → Store → Effect
copied_run true to from len values locals s = goes values locals (put_memory (copied to from len s.memory) s)
copied_run false to from len values locals s = traps kinds.Memory

abbrev pub filled_run : Bool → ℕ → ℕ → ℕ → List Word → List Word → Store → Effect
filled_run true at byte len values locals s = goes values locals (put_memory (filled at len byte s.memory) s)
filled_run false at byte len values locals s = traps kinds.Memory

abbrev pub store_wide : ℕ → MemOp → List Word → List Word → Store → Effect
store_wide offset op (W64 v ∷ W32 a ∷ values) locals s = stored (is_inside (a + offset) op.size s.memory) (a + offset) op.size v values locals s
store_wide offset op _ locals s = sticks

abbrev pub store_narrow : ℕ → MemOp → List Word → List Word → Store → Effect
store_narrow offset op (W32 v ∷ W32 a ∷ values) locals s = stored (is_inside (a + offset) op.size s.memory) (a + offset) op.size v values locals s
store_narrow offset op _ locals s = sticks

-- ---- each instruction

abbrev pub do_plain : Plain → List Word → List Word → Store → Effect
do_plain nop values locals s = goes values locals s
do_plain drop_operand (v ∷ values) locals s = goes values locals s
do_plain drop_operand [] locals s = sticks
do_plain select (W32 c ∷ b ∷ a ∷ values) locals s = goes ((if c == 0 then b else a) ∷ values) locals s
do_plain select _ locals s = sticks
do_plain (local_get x) values locals s = pushed (slice_get locals x) values locals s
do_plain (local_set x) (v ∷ values) locals s = with_local x v values (slice_get locals x) locals s
do_plain (local_set x) [] locals s = sticks
do_plain (local_tee x) (v ∷ values) locals s = with_local x v (v ∷ values) (slice_get locals x) locals s
do_plain (local_tee x) [] locals s = sticks
do_plain (global_get x) values locals s = pushed (slice_get s.globals x) values locals s
do_plain (global_set x) (v ∷ values) locals s = with_global x v values (slice_get s.globals x) locals s
do_plain (global_set x) [] locals s = sticks
do_plain (load op align offset) (W32 a ∷ values) locals s = loaded op (load_bytes (a + offset) op.size s.memory) values locals s
do_plain (load op align offset) _ locals s = sticks
do_plain (store op align offset) values locals s = if op.wide then store_wide offset op values locals s else store_narrow offset op values locals s
do_plain memory_size values locals s = goes (W32 (length s.memory / page) ∷ values) locals s
do_plain memory_copy (W32 len ∷ W32 from ∷ W32 to ∷ values) locals s = copied_run (can_copy to from len s.memory) to from len values locals s
do_plain memory_copy _ locals s = sticks
do_plain memory_fill (W32 len ∷ W32 value ∷ W32 at ∷ values) locals s = filled_run (is_inside at len s.memory) at (value % 256) len values locals s
do_plain memory_fill _ locals s = sticks
do_plain (const32 n) values locals s = goes (W32 n ∷ values) locals s
do_plain (const64 n) values locals s = goes (W64 n ∷ values) locals s
do_plain eqz32 values locals s = with32 (λ a. Ok (flag (a == 0))) answer32 values locals s
do_plain eqz64 values locals s = with64 (λ a. Ok (flag (a == 0))) answer32 values locals s
do_plain (rel32 op) values locals s = both32 (λ a b. Ok (flag (rel_of 32 op a b))) values locals s
do_plain (rel64 op) values locals s = both64 (λ a b. Ok (flag (rel_of 64 op a b))) answer32 values locals s
do_plain (un32 op) values locals s = with32 (λ a. Ok (un_of 32 op a)) answer32 values locals s
do_plain (un64 op) values locals s = with64 (λ a. Ok (un_of 64 op a)) answer64 values locals s
do_plain (bin32 op) values locals s = both32 (bin_of 32 op) values locals s
do_plain (bin64 op) values locals s = both64 (bin_of 64 op) answer64 values locals s
do_plain wrap values locals s = with64 (λ a. Ok (a % 2 ^ 32)) answer32 values locals s
do_plain extend_s values locals s = with32 (λ a. Ok (extend_of 64 32 a)) answer64 values locals s
do_plain extend_u values locals s = with32 (λ a. Ok a) answer64 values locals s
do_plain (sign_extend true bits) values locals s = with64 (λ a. Ok (extend_of 64 bits a)) answer64 values locals s
do_plain (sign_extend false bits) values locals s = with32 (λ a. Ok (extend_of 32 bits a)) answer32 values locals s
