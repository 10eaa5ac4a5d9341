-- A plain instruction does to the linked module's store and locals what it does to the pair's.
use Rattle.std.proofs.Common.{◌≡◌, ℕ, zero, suc, ◌+◌, ◌<◌, Bool, true, false, List, [], ◌∷◌, ◌++◌, length, Option, Some, None, Result, Ok, Err, refl, sym, ap, ◌∙◌, subst, arith}
use Rattle.std.specs.Prelude.{slice_get, if◌then◌else◌, ◌==◌, ◌%◌, ◌^◌}
use Rattle.std.proofs.lemmas.List.{length-set, set-append_left}
use Rattle.sem_words.specs.declared.word.Word.{Word}
use Rattle.sem_words.specs.declared.word.Word.TheVariants.{W32, W64}
use Rattle.sem_words.specs.declared.word.TrapKind.{TrapKind}
use Rattle.sem_words.specs.Words.{bin_of, un_of, rel_of, extend_of}
use Rattle.heap_lang.specs.Heap.{is_inside, load_bytes, can_copy}
use Rattle.wasm_lang.specs.declared.types.MemOp.{MemOp}
use Rattle.wasm_lang.specs.Instructions.{Plain, nop, drop_operand, select, local_get, local_set, local_tee, global_get, global_set, load, store, memory_size, memory_copy, memory_fill, const32, const64, eqz32, eqz64, rel32, rel64, un32, un64, bin32, bin64, wrap, extend_s, extend_u, sign_extend}
use Rattle.wasm_lang_exec.specs.Store.{Store}
use Rattle.wasm_lang_exec.specs.Plain.{Effect, goes, traps, sticks, flag, answer32, answer64, with32, with64, both32, both64, pushed, with_local, with_global, loaded, stored, copied_run, filled_run, store_wide, store_narrow, do_plain}
use Rattle.wasm_link_lang.specs.Pairs.{Pair}
use Rattle.wasm_link_code.specs.Numbers.{global_number}
use Rattle.wasm_link_code.specs.Trees.{moved_plain}
use Rattle.wasm_link_laws_sessions.specs.Alike.{PlainInRange, KeepsGlobals, store_of, moved_effect}

get_front : {A : Type 0} → (xs ys : List A) (i : ℕ) → i < length xs → slice_get (xs ++ ys) i ≡ slice_get xs i
get_front [] ys i h = absurd (omega (arith, h))
get_front (x ∷ xs) ys zero h = refl
get_front (x ∷ xs) ys (suc i) h = get_front xs ys i (omega (arith, h))

module _ (w : Pair) (g : ℕ) (order : List Word → List Word) (room : List Word) where
  -- what becomes of it, moved, is this; and the locals and globals are as many as they were, and the table is the same
  abbrev pub Keeps : ℕ → List (Option ℕ) → Effect → Type 0
  Keeps k table (goes values locals s) = (length locals ≡ k) × (length s.globals ≡ g) × (s.table ≡ table)
  Keeps k table (traps kind) = Unit {0}
  Keeps k table sticks = Unit {0}

  abbrev pub Moved : ℕ → List (Option ℕ) → Effect → Effect → Type 0
  Moved k table e' e = (e' ≡ moved_effect w order room e) × Keeps k table e

  abbrev st : Store → Store
  st s = store_of w order s

  module _ (locals : List Word) (s : Store) (many : length s.globals ≡ g) where
    abbrev all : List Word
    all = locals ++ room

    abbrev Answers : (List Word → List Word → Store → Effect) → Type 0
    Answers f = (values : List Word) → Moved (length locals) s.table (f values all (st s)) (f values locals s)

    as32 : (r : Result ℕ TrapKind) → Answers (answer32 r)
    as32 (Ok n) values = (refl, (refl, many, refl))
    as32 (Err kind) values = (refl, tt)

    as64 : (r : Result ℕ TrapKind) → Answers (answer64 r)
    as64 (Ok n) values = (refl, (refl, many, refl))
    as64 (Err kind) values = (refl, tt)

    one32 : (f : ℕ → Result ℕ TrapKind) (answer : Result ℕ TrapKind → List Word → List Word → Store → Effect) → ((r : Result ℕ TrapKind) → Answers (answer r)) → Answers (with32 f answer)
    one32 f answer h (W32 a ∷ values) = h (f a) values
    one32 f answer h (W64 a ∷ values) = (refl, tt)
    one32 f answer h [] = (refl, tt)

    one64 : (f : ℕ → Result ℕ TrapKind) (answer : Result ℕ TrapKind → List Word → List Word → Store → Effect) → ((r : Result ℕ TrapKind) → Answers (answer r)) → Answers (with64 f answer)
    one64 f answer h (W64 a ∷ values) = h (f a) values
    one64 f answer h (W32 a ∷ values) = (refl, tt)
    one64 f answer h [] = (refl, tt)

    two32 : (f : ℕ → ℕ → Result ℕ TrapKind) → Answers (both32 f)
    two32 f (W32 b ∷ W32 a ∷ values) = as32 (f a b) values
    two32 f (W32 b ∷ W64 a ∷ values) = (refl, tt)
    two32 f (W32 b ∷ []) = (refl, tt)
    two32 f (W64 b ∷ values) = (refl, tt)
    two32 f [] = (refl, tt)

    two64 : (f : ℕ → ℕ → Result ℕ TrapKind) (answer : Result ℕ TrapKind → List Word → List Word → Store → Effect) → ((r : Result ℕ TrapKind) → Answers (answer r)) → Answers (both64 f answer)
    two64 f answer h (W64 b ∷ W64 a ∷ values) = h (f a b) values
    two64 f answer h (W64 b ∷ W32 a ∷ values) = (refl, tt)
    two64 f answer h (W64 b ∷ []) = (refl, tt)
    two64 f answer h (W32 b ∷ values) = (refl, tt)
    two64 f answer h [] = (refl, tt)

    push : (o : Option Word) → Answers (pushed o)
    push None values = (refl, tt)
    push (Some v) values = (refl, (refl, many, refl))

    load_it : (op : MemOp) (o : Option ℕ) → Answers (loaded op o)
    load_it op None values = (refl, tt)
    load_it op (Some n) values = (refl, (refl, many, refl))

    store_it : (b : Bool) (at size word : ℕ) → Answers (stored b at size word)
    store_it true at size word values = (refl, (refl, many, refl))
    store_it false at size word values = (refl, tt)

    copy_it : (b : Bool) (x y n : ℕ) → Answers (copied_run b x y n)
    copy_it true x y n values = (refl, (refl, many, refl))
    copy_it false x y n values = (refl, tt)

    fill_it : (b : Bool) (x y n : ℕ) → Answers (filled_run b x y n)
    fill_it true x y n values = (refl, (refl, many, refl))
    fill_it false x y n values = (refl, tt)

    wide : (offset : ℕ) (op : MemOp) → Answers (store_wide offset op)
    wide offset op (W64 v ∷ W32 a ∷ values) = store_it (is_inside (a + offset) op.size s.memory) (a + offset) op.size v values
    wide offset op (W64 v ∷ W64 a ∷ values) = (refl, tt)
    wide offset op (W64 v ∷ []) = (refl, tt)
    wide offset op (W32 v ∷ values) = (refl, tt)
    wide offset op [] = (refl, tt)

    narrow : (offset : ℕ) (op : MemOp) → Answers (store_narrow offset op)
    narrow offset op (W32 v ∷ W32 a ∷ values) = store_it (is_inside (a + offset) op.size s.memory) (a + offset) op.size v values
    narrow offset op (W32 v ∷ W64 a ∷ values) = (refl, tt)
    narrow offset op (W32 v ∷ []) = (refl, tt)
    narrow offset op (W64 v ∷ values) = (refl, tt)
    narrow offset op [] = (refl, tt)

    -- a local stands left of the room
    put_local : (x : ℕ) (v : Word) (values : List Word) → x < length locals
        → Moved (length locals) s.table (with_local x v values (slice_get all x) all (st s)) (with_local x v values (slice_get locals x) locals s)
    put_local x v values h =
        subst (λ o. Moved (length locals) s.table (with_local x v values o all (st s)) (with_local x v values (slice_get locals x) locals s)) (sym (get_front locals room x h)) (by (slice_get locals x))
      where
        by : (o : Option Word) → Moved (length locals) s.table (with_local x v values o all (st s)) (with_local x v values o locals s)
        by None = (refl, tt)
        by (Some old) = (ap (λ ls. goes values ls (st s)) (set-append_left locals room x v h), (length-set locals x v, many, refl))

    put_global : KeepsGlobals w g order → (x : ℕ) (v : Word) (values : List Word) → x < g
        → Moved (length locals) s.table (with_global (global_number w x) v values (slice_get (order s.globals) (global_number w x)) all (st s)) (with_global x v values (slice_get s.globals x) locals s)
    put_global keeps x v values h =
        subst (λ o. Moved (length locals) s.table (with_global (global_number w x) v values o all (st s)) (with_global x v values (slice_get s.globals x) locals s)) (sym (keeps.get s.globals x many h)) (by (slice_get s.globals x))
      where
        by : (o : Option Word) → Moved (length locals) s.table (with_global (global_number w x) v values o all (st s)) (with_global x v values o locals s)
        by None = (refl, tt)
        by (Some old) = (ap (λ gs. goes values all (record (st s) { globals = gs })) (keeps.put s.globals x v many h), (refl, length-set s.globals x v ∙ many, refl))

    -- each of them
    pub plain_moves : KeepsGlobals w g order → (p : Plain) (values : List Word) → PlainInRange (length locals) g p
        → Moved (length locals) s.table (do_plain (moved_plain w p) values all (st s)) (do_plain p values locals s)
    plain_moves keeps nop values fine = (refl, (refl, many, refl))
    plain_moves keeps drop_operand (v ∷ values) fine = (refl, (refl, many, refl))
    plain_moves keeps drop_operand [] fine = (refl, tt)
    plain_moves keeps select (W32 c ∷ b ∷ a ∷ values) fine = (refl, (refl, many, refl))
    plain_moves keeps select (W32 c ∷ b ∷ []) fine = (refl, tt)
    plain_moves keeps select (W32 c ∷ []) fine = (refl, tt)
    plain_moves keeps select (W64 c ∷ values) fine = (refl, tt)
    plain_moves keeps select [] fine = (refl, tt)
    plain_moves keeps (local_get x) values fine = subst (λ o. Moved (length locals) s.table (pushed o values all (st s)) (pushed (slice_get locals x) values locals s)) (sym (get_front locals room x fine)) (push (slice_get locals x) values)
    plain_moves keeps (local_set x) (v ∷ values) fine = put_local x v values fine
    plain_moves keeps (local_set x) [] fine = (refl, tt)
    plain_moves keeps (local_tee x) (v ∷ values) fine = put_local x v (v ∷ values) fine
    plain_moves keeps (local_tee x) [] fine = (refl, tt)
    plain_moves keeps (global_get x) values fine =
        subst (λ o. Moved (length locals) s.table (pushed o values all (st s)) (pushed (slice_get s.globals x) values locals s)) (sym (keeps.get s.globals x many fine)) (push (slice_get s.globals x) values)
    plain_moves keeps (global_set x) (v ∷ values) fine = put_global keeps x v values fine
    plain_moves keeps (global_set x) [] fine = (refl, tt)
    plain_moves keeps (load op align offset) (W32 a ∷ values) fine = load_it op (load_bytes (a + offset) op.size s.memory) values
    plain_moves keeps (load op align offset) (W64 a ∷ values) fine = (refl, tt)
    plain_moves keeps (load op align offset) [] fine = (refl, tt)
    plain_moves keeps (store op align offset) values fine = by op.wide
      where
        by : (b : Bool) → Moved (length locals) s.table (if b then store_wide offset op values all (st s) else store_narrow offset op values all (st s)) (if b then store_wide offset op values locals s else store_narrow offset op values locals s)
        by true = wide offset op values
        by false = narrow offset op values
    plain_moves keeps memory_size values fine = (refl, (refl, many, refl))
    plain_moves keeps memory_copy (W32 len ∷ W32 from ∷ W32 at ∷ values) fine = copy_it (can_copy at from len s.memory) at from len values
    plain_moves keeps memory_copy (W32 len ∷ W32 from ∷ W64 at ∷ values) fine = (refl, tt)
    plain_moves keeps memory_copy (W32 len ∷ W32 from ∷ []) fine = (refl, tt)
    plain_moves keeps memory_copy (W32 len ∷ W64 from ∷ values) fine = (refl, tt)
    plain_moves keeps memory_copy (W32 len ∷ []) fine = (refl, tt)
    plain_moves keeps memory_copy (W64 len ∷ values) fine = (refl, tt)
    plain_moves keeps memory_copy [] fine = (refl, tt)
    plain_moves keeps memory_fill (W32 len ∷ W32 value ∷ W32 at ∷ values) fine = fill_it (is_inside at len s.memory) at (value % 256) len values
    plain_moves keeps memory_fill (W32 len ∷ W32 value ∷ W64 at ∷ values) fine = (refl, tt)
    plain_moves keeps memory_fill (W32 len ∷ W32 value ∷ []) fine = (refl, tt)
    plain_moves keeps memory_fill (W32 len ∷ W64 value ∷ values) fine = (refl, tt)
    plain_moves keeps memory_fill (W32 len ∷ []) fine = (refl, tt)
    plain_moves keeps memory_fill (W64 len ∷ values) fine = (refl, tt)
    plain_moves keeps memory_fill [] fine = (refl, tt)
    plain_moves keeps (const32 n) values fine = (refl, (refl, many, refl))
    plain_moves keeps (const64 n) values fine = (refl, (refl, many, refl))
    plain_moves keeps eqz32 values fine = one32 (λ a. Ok (flag (a == 0))) answer32 as32 values
    plain_moves keeps eqz64 values fine = one64 (λ a. Ok (flag (a == 0))) answer32 as32 values
    plain_moves keeps (rel32 op) values fine = two32 (λ a b. Ok (flag (rel_of 32 op a b))) values
    plain_moves keeps (rel64 op) values fine = two64 (λ a b. Ok (flag (rel_of 64 op a b))) answer32 as32 values
    plain_moves keeps (un32 op) values fine = one32 (λ a. Ok (un_of 32 op a)) answer32 as32 values
    plain_moves keeps (un64 op) values fine = one64 (λ a. Ok (un_of 64 op a)) answer64 as64 values
    plain_moves keeps (bin32 op) values fine = two32 (bin_of 32 op) values
    plain_moves keeps (bin64 op) values fine = two64 (bin_of 64 op) answer64 as64 values
    plain_moves keeps wrap values fine = one64 (λ a. Ok (a % 2 ^ 32)) answer32 as32 values
    plain_moves keeps extend_s values fine = one32 (λ a. Ok (extend_of 64 32 a)) answer64 as64 values
    plain_moves keeps extend_u values fine = one32 (λ a. Ok a) answer64 as64 values
    plain_moves keeps (sign_extend true bits) values fine = one64 (λ a. Ok (extend_of 64 bits a)) answer64 as64 values
    plain_moves keeps (sign_extend false bits) values fine = one32 (λ a. Ok (extend_of 32 bits a)) answer32 as32 values
