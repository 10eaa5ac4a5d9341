-- No plain instruction changes the table.
use Rattle.std.proofs.Common.{◌≡◌, ℕ, Bool, true, false, List, [], ◌∷◌, Option, Some, None, Result, Ok, Err, refl}
use Rattle.std.specs.Prelude.{slice_get, if◌then◌else◌, ◌==◌, ◌+◌, ◌%◌, ◌^◌}
use Rattle.sem_words.specs.declared.word.Word.{Word}
use Rattle.sem_words.specs.declared.word.Word.TheVariants.{W32, W64}
use Rattle.sem_words.specs.declared.word.TrapKind.{TrapKind}
use Rattle.sem_words.specs.Words.{bin_of, un_of, rel_of, extend_of}
use Rattle.heap_lang.specs.Heap.{is_inside, load_bytes, can_copy}
use Rattle.wasm_lang.specs.declared.types.MemOp.{MemOp}
use Rattle.wasm_lang.specs.Instructions.{Plain, nop, drop_operand, select, local_get, local_set, local_tee, global_get, global_set, load, store, memory_size, memory_copy, memory_fill, const32, const64, eqz32, eqz64, rel32, rel64, un32, un64, bin32, bin64, wrap, extend_s, extend_u, sign_extend}
use Rattle.wasm_lang_exec.specs.Store.{Store}
use Rattle.wasm_lang_exec.specs.Plain.{Effect, goes, traps, sticks, flag, answer32, answer64, with32, with64, both32, both64, pushed, with_local, with_global, loaded, stored, copied_run, filled_run, store_wide, store_narrow, do_plain}

abbrev pub Keeps : List (Option ℕ) → Effect → Type 0
Keeps table (goes values locals s) = s.table ≡ table
Keeps table (traps kind) = Unit {0}
Keeps table sticks = Unit {0}

module _ (locals : List Word) (s : Store) where
  abbrev Kept : (List Word → List Word → Store → Effect) → Type 0
  Kept f = (values : List Word) → Keeps s.table (f values locals s)

  as32 : (r : Result ℕ TrapKind) → Kept (answer32 r)
  as32 (Ok n) values = refl
  as32 (Err kind) values = tt

  as64 : (r : Result ℕ TrapKind) → Kept (answer64 r)
  as64 (Ok n) values = refl
  as64 (Err kind) values = tt

  one32 : (f : ℕ → Result ℕ TrapKind) (answer : Result ℕ TrapKind → List Word → List Word → Store → Effect) → ((r : Result ℕ TrapKind) → Kept (answer r)) → Kept (with32 f answer)
  one32 f answer h (W32 a ∷ values) = h (f a) values
  one32 f answer h (W64 a ∷ values) = tt
  one32 f answer h [] = tt

  one64 : (f : ℕ → Result ℕ TrapKind) (answer : Result ℕ TrapKind → List Word → List Word → Store → Effect) → ((r : Result ℕ TrapKind) → Kept (answer r)) → Kept (with64 f answer)
  one64 f answer h (W64 a ∷ values) = h (f a) values
  one64 f answer h (W32 a ∷ values) = tt
  one64 f answer h [] = tt

  two32 : (f : ℕ → ℕ → Result ℕ TrapKind) → Kept (both32 f)
  two32 f (W32 b ∷ W32 a ∷ values) = as32 (f a b) values
  two32 f (W32 b ∷ W64 a ∷ values) = tt
  two32 f (W32 b ∷ []) = tt
  two32 f (W64 b ∷ values) = tt
  two32 f [] = tt

  two64 : (f : ℕ → ℕ → Result ℕ TrapKind) (answer : Result ℕ TrapKind → List Word → List Word → Store → Effect) → ((r : Result ℕ TrapKind) → Kept (answer r)) → Kept (both64 f answer)
  two64 f answer h (W64 b ∷ W64 a ∷ values) = h (f a b) values
  two64 f answer h (W64 b ∷ W32 a ∷ values) = tt
  two64 f answer h (W64 b ∷ []) = tt
  two64 f answer h (W32 b ∷ values) = tt
  two64 f answer h [] = tt

  push : (o : Option Word) → Kept (pushed o)
  push None values = tt
  push (Some v) values = refl

  put_local : (x : ℕ) (v : Word) (o : Option Word) (values : List Word) → Keeps s.table (with_local x v values o locals s)
  put_local x v None values = tt
  put_local x v (Some old) values = refl

  put_global : (x : ℕ) (v : Word) (o : Option Word) (values : List Word) → Keeps s.table (with_global x v values o locals s)
  put_global x v None values = tt
  put_global x v (Some old) values = refl

  load_it : (op : MemOp) (o : Option ℕ) → Kept (loaded op o)
  load_it op None values = tt
  load_it op (Some n) values = refl

  store_it : (b : Bool) (at size word : ℕ) → Kept (stored b at size word)
  store_it true at size word values = refl
  store_it false at size word values = tt

  copy_it : (b : Bool) (x y n : ℕ) → Kept (copied_run b x y n)
  copy_it true x y n values = refl
  copy_it false x y n values = tt

  fill_it : (b : Bool) (x y n : ℕ) → Kept (filled_run b x y n)
  fill_it true x y n values = refl
  fill_it false x y n values = tt

  wide : (offset : ℕ) (op : MemOp) → Kept (store_wide offset op)
  wide offset op (W64 v ∷ W32 a ∷ values) = store_it (is_inside (a + offset) op.size s.memory) (a + offset) op.size v values
  wide offset op (W64 v ∷ W64 a ∷ values) = tt
  wide offset op (W64 v ∷ []) = tt
  wide offset op (W32 v ∷ values) = tt
  wide offset op [] = tt

  narrow : (offset : ℕ) (op : MemOp) → Kept (store_narrow offset op)
  narrow offset op (W32 v ∷ W32 a ∷ values) = store_it (is_inside (a + offset) op.size s.memory) (a + offset) op.size v values
  narrow offset op (W32 v ∷ W64 a ∷ values) = tt
  narrow offset op (W32 v ∷ []) = tt
  narrow offset op (W64 v ∷ values) = tt
  narrow offset op [] = tt

  pub table_stays : (p : Plain) → Kept (do_plain p)
  table_stays nop values = refl
  table_stays drop_operand (v ∷ values) = refl
  table_stays drop_operand [] = tt
  table_stays select (W32 c ∷ b ∷ a ∷ values) = refl
  table_stays select (W32 c ∷ b ∷ []) = tt
  table_stays select (W32 c ∷ []) = tt
  table_stays select (W64 c ∷ values) = tt
  table_stays select [] = tt
  table_stays (local_get x) values = push (slice_get locals x) values
  table_stays (local_set x) (v ∷ values) = put_local x v (slice_get locals x) values
  table_stays (local_set x) [] = tt
  table_stays (local_tee x) (v ∷ values) = put_local x v (slice_get locals x) (v ∷ values)
  table_stays (local_tee x) [] = tt
  table_stays (global_get x) values = push (slice_get s.globals x) values
  table_stays (global_set x) (v ∷ values) = put_global x v (slice_get s.globals x) values
  table_stays (global_set x) [] = tt
  table_stays (load op align offset) (W32 a ∷ values) = load_it op (load_bytes (a + offset) op.size s.memory) values
  table_stays (load op align offset) (W64 a ∷ values) = tt
  table_stays (load op align offset) [] = tt
  table_stays (store op align offset) values = by op.wide
    where
      by : (b : Bool) → Keeps s.table (if b then store_wide offset op values locals s else store_narrow offset op values locals s)
      by true = wide offset op values
      by false = narrow offset op values
  table_stays memory_size values = refl
  table_stays memory_copy (W32 len ∷ W32 from ∷ W32 at ∷ values) = copy_it (can_copy at from len s.memory) at from len values
  table_stays memory_copy (W32 len ∷ W32 from ∷ W64 at ∷ values) = tt
  table_stays memory_copy (W32 len ∷ W32 from ∷ []) = tt
  table_stays memory_copy (W32 len ∷ W64 from ∷ values) = tt
  table_stays memory_copy (W32 len ∷ []) = tt
  table_stays memory_copy (W64 len ∷ values) = tt
  table_stays memory_copy [] = tt
  table_stays memory_fill (W32 len ∷ W32 value ∷ W32 at ∷ values) = fill_it (is_inside at len s.memory) at (value % 256) len values
  table_stays memory_fill (W32 len ∷ W32 value ∷ W64 at ∷ values) = tt
  table_stays memory_fill (W32 len ∷ W32 value ∷ []) = tt
  table_stays memory_fill (W32 len ∷ W64 value ∷ values) = tt
  table_stays memory_fill (W32 len ∷ []) = tt
  table_stays memory_fill (W64 len ∷ values) = tt
  table_stays memory_fill [] = tt
  table_stays (const32 n) values = refl
  table_stays (const64 n) values = refl
  table_stays eqz32 values = one32 (λ a. Ok (flag (a == 0))) answer32 as32 values
  table_stays eqz64 values = one64 (λ a. Ok (flag (a == 0))) answer32 as32 values
  table_stays (rel32 op) values = two32 (λ a b. Ok (flag (rel_of 32 op a b))) values
  table_stays (rel64 op) values = two64 (λ a b. Ok (flag (rel_of 64 op a b))) answer32 as32 values
  table_stays (un32 op) values = one32 (λ a. Ok (un_of 32 op a)) answer32 as32 values
  table_stays (un64 op) values = one64 (λ a. Ok (un_of 64 op a)) answer64 as64 values
  table_stays (bin32 op) values = two32 (bin_of 32 op) values
  table_stays (bin64 op) values = two64 (bin_of 64 op) answer64 as64 values
  table_stays wrap values = one64 (λ a. Ok (a % 2 ^ 32)) answer32 as32 values
  table_stays extend_s values = one32 (λ a. Ok (extend_of 64 32 a)) answer64 as64 values
  table_stays extend_u values = one32 (λ a. Ok a) answer64 as64 values
  table_stays (sign_extend true bits) values = one64 (λ a. Ok (extend_of 64 bits a)) answer64 as64 values
  table_stays (sign_extend false bits) values = one32 (λ a. Ok (extend_of 32 bits a)) answer32 as32 values
