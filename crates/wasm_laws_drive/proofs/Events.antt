-- A reduction keeps the events that were there.
use Rattle.std.proofs.Common.{◌≡◌, ℕ, zero, suc, ◌+◌, ◌%◌, ◌^◌, List, [], ◌∷◌, Option, Some, None, Result, Ok, Err, Bool, true, false, refl, sym}
use Rattle.std.specs.Prelude.{reverse, slice_get, ◌==◌, if◌then◌else◌}
use Rattle.sem_words.specs.declared.word.Word.{Word}
use Rattle.sem_words.specs.declared.word.Word.TheVariants.{W32, W64}
use Rattle.sem_words.specs.declared.word.TrapKind.{TrapKind}
use Rattle.sem_words.specs.declared.word.TrapKind.TheVariants as kinds
use Rattle.sem_words.specs.Words.{bin_of, un_of, rel_of, extend_of}
use Rattle.session_lang.specs.Observation.{trapped, IsPrefix}
use Rattle.session_lang.specs.Imports.{ImportAnswer, goes_on, ends, answer_import}
use Rattle.session_lang.proofs.BelowLaws.{prefix_same}
use Rattle.wasm_lang.specs.declared.types.ValType.{ValType}
use Rattle.wasm_lang.specs.declared.types.MemOp.{MemOp}
use Rattle.wasm_lang.specs.Instructions.{Plain, nop, drop_operand, select, local_get, local_set, local_tee, global_get, global_set, load, store, memory_size, memory_copy, memory_fill, const32, const64, eqz32, eqz64, rel32, rel64, un32, un64, bin32, bin64, wrap, extend_s, extend_u, sign_extend}
use Rattle.wasm_lang.specs.Modules.{WasmModule}
use Rattle.heap_lang.specs.Heap.{is_inside, load_bytes, can_copy}
use Rattle.wasm_lang_exec.specs.Code.{unreachable, block, loop, if_block, br, br_if, br_table, return, call, call_indirect, plain, Trees, ε, ◌▹◌, ◌⊕◌}
use Rattle.wasm_lang_exec.specs.Store.{Store}
use Rattle.wasm_lang_exec.specs.Plain.{Effect, goes, traps, sticks, flag, answer32, answer64, with32, with64, both32, both64, pushed, with_local, with_global, loaded, stored, copied_run, filled_run, store_wide, store_narrow, do_plain}
use Rattle.wasm_lang_exec.specs.Reductions.{Callee, an_import, a_function, callee_at, params_of, top_of, below_top, of_type, Config, Code, Label, Frame, Reduct, to, is_values, branches, returns, stops, is_stuck, after_answer, enter, do_call, call_entry, after_effect, leave, reduce_code, reduce_label, reduce_frame, reduce, choose}

-- ---- plain instructions make no events

abbrev Keeps : Store → Effect → Type 0
Keeps s (goes values locals s') = s'.events ≡ s.events
Keeps s (traps kind) = Unit {0}
Keeps s sticks = Unit {0}

answer32_keeps : (r : Result ℕ TrapKind) (values locals : List Word) (s : Store) → Keeps s (answer32 r values locals s)
answer32_keeps (Ok n) values locals s = refl
answer32_keeps (Err kind) values locals s = tt

answer64_keeps : (r : Result ℕ TrapKind) (values locals : List Word) (s : Store) → Keeps s (answer64 r values locals s)
answer64_keeps (Ok n) values locals s = refl
answer64_keeps (Err kind) values locals s = tt

abbrev Answer : Type 0
Answer = Result ℕ TrapKind → List Word → List Word → Store → Effect

with32_keeps : (f : ℕ → Result ℕ TrapKind) (answer : Answer) (values locals : List Word) (s : Store)
    → ((r : Result ℕ TrapKind) (values : List Word) → Keeps s (answer r values locals s)) → Keeps s (with32 f answer values locals s)
with32_keeps f answer (W32 a ∷ values) locals s keeps = keeps (f a) values
with32_keeps f answer (W64 a ∷ values) locals s keeps = tt
with32_keeps f answer [] locals s keeps = tt

with64_keeps : (f : ℕ → Result ℕ TrapKind) (answer : Answer) (values locals : List Word) (s : Store)
    → ((r : Result ℕ TrapKind) (values : List Word) → Keeps s (answer r values locals s)) → Keeps s (with64 f answer values locals s)
with64_keeps f answer (W64 a ∷ values) locals s keeps = keeps (f a) values
with64_keeps f answer (W32 a ∷ values) locals s keeps = tt
with64_keeps f answer [] locals s keeps = tt

both32_keeps : (f : ℕ → ℕ → Result ℕ TrapKind) (values locals : List Word) (s : Store) → Keeps s (both32 f values locals s)
both32_keeps f (W32 b ∷ W32 a ∷ values) locals s = answer32_keeps (f a b) values locals s
both32_keeps f values locals s = tt

both64_keeps : (f : ℕ → ℕ → Result ℕ TrapKind) (answer : Answer) (values locals : List Word) (s : Store)
    → ((r : Result ℕ TrapKind) (values : List Word) → Keeps s (answer r values locals s)) → Keeps s (both64 f answer values locals s)
both64_keeps f answer (W64 b ∷ W64 a ∷ values) locals s keeps = keeps (f a b) values
both64_keeps f answer values locals s keeps = tt

pushed_keeps : (o : Option Word) (values locals : List Word) (s : Store) → Keeps s (pushed o values locals s)
pushed_keeps None values locals s = tt
pushed_keeps (Some v) values locals s = refl

local_keeps : (x : ℕ) (v : Word) (values : List Word) (old : Option Word) (locals : List Word) (s : Store) → Keeps s (with_local x v values old locals s)
local_keeps x v values None locals s = tt
local_keeps x v values (Some old) locals s = refl

global_keeps : (x : ℕ) (v : Word) (values : List Word) (old : Option Word) (locals : List Word) (s : Store) → Keeps s (with_global x v values old locals s)
global_keeps x v values None locals s = tt
global_keeps x v values (Some old) locals s = refl

loaded_keeps : (op : MemOp) (o : Option ℕ) (values locals : List Word) (s : Store) → Keeps s (loaded op o values locals s)
loaded_keeps op None values locals s = tt
loaded_keeps op (Some n) values locals s = refl

stored_keeps : (inside : Bool) (at size word : ℕ) (values locals : List Word) (s : Store) → Keeps s (stored inside at size word values locals s)
stored_keeps true at size word values locals s = refl
stored_keeps false at size word values locals s = tt

wide_keeps : (offset : ℕ) (op : MemOp) (values locals : List Word) (s : Store) → Keeps s (store_wide offset op values locals s)
wide_keeps offset op (W64 v ∷ W32 a ∷ values) locals s = stored_keeps (is_inside (a + offset) op.size s.memory) (a + offset) op.size v values locals s
wide_keeps offset op values locals s = tt

narrow_keeps : (offset : ℕ) (op : MemOp) (values locals : List Word) (s : Store) → Keeps s (store_narrow offset op values locals s)
narrow_keeps offset op (W32 v ∷ W32 a ∷ values) locals s = stored_keeps (is_inside (a + offset) op.size s.memory) (a + offset) op.size v values locals s
narrow_keeps offset op values locals s = tt

store_keeps : (wide : Bool) (offset : ℕ) (op : MemOp) (values locals : List Word) (s : Store)
    → Keeps s (if wide then store_wide offset op values locals s else store_narrow offset op values locals s)
store_keeps true offset op values locals s = wide_keeps offset op values locals s
store_keeps false offset op values locals s = narrow_keeps offset op values locals s

copy_keeps : (inside : Bool) (at from len : ℕ) (values locals : List Word) (s : Store) → Keeps s (copied_run inside at from len values locals s)
copy_keeps true at from len values locals s = refl
copy_keeps false at from len values locals s = tt

fill_keeps : (inside : Bool) (at byte len : ℕ) (values locals : List Word) (s : Store) → Keeps s (filled_run inside at byte len values locals s)
fill_keeps true at byte len values locals s = refl
fill_keeps false at byte len values locals s = tt

plain_keeps : (p : Plain) (values locals : List Word) (s : Store) → Keeps s (do_plain p values locals s)
plain_keeps nop values locals s = refl
plain_keeps drop_operand (v ∷ values) locals s = refl
plain_keeps drop_operand [] locals s = tt
plain_keeps select (W32 c ∷ b ∷ a ∷ values) locals s = refl
plain_keeps select values locals s = tt
plain_keeps (local_get x) values locals s = pushed_keeps (slice_get locals x) values locals s
plain_keeps (local_set x) (v ∷ values) locals s = local_keeps x v values (slice_get locals x) locals s
plain_keeps (local_set x) [] locals s = tt
plain_keeps (local_tee x) (v ∷ values) locals s = local_keeps x v (v ∷ values) (slice_get locals x) locals s
plain_keeps (local_tee x) [] locals s = tt
plain_keeps (global_get x) values locals s = pushed_keeps (slice_get s.globals x) values locals s
plain_keeps (global_set x) (v ∷ values) locals s = global_keeps x v values (slice_get s.globals x) locals s
plain_keeps (global_set x) [] locals s = tt
plain_keeps (load op align offset) (W32 a ∷ values) locals s = loaded_keeps op (load_bytes (a + offset) op.size s.memory) values locals s
plain_keeps (load op align offset) values locals s = tt
plain_keeps (store op align offset) values locals s = store_keeps op.wide offset op values locals s
plain_keeps memory_size values locals s = refl
plain_keeps memory_copy (W32 len ∷ W32 from ∷ W32 at ∷ values) locals s = copy_keeps (can_copy at from len s.memory) at from len values locals s
plain_keeps memory_copy values locals s = tt
plain_keeps memory_fill (W32 len ∷ W32 value ∷ W32 at ∷ values) locals s = fill_keeps (is_inside at len s.memory) at (value % 256) len values locals s
plain_keeps memory_fill values locals s = tt
plain_keeps (const32 n) values locals s = refl
plain_keeps (const64 n) values locals s = refl
plain_keeps eqz32 values locals s = with32_keeps (λ a. Ok (flag (a == 0))) answer32 values locals s (λ r values. answer32_keeps r values locals s)
plain_keeps eqz64 values locals s = with64_keeps (λ a. Ok (flag (a == 0))) answer32 values locals s (λ r values. answer32_keeps r values locals s)
plain_keeps (rel32 op) values locals s = both32_keeps (λ a b. Ok (flag (rel_of 32 op a b))) values locals s
plain_keeps (rel64 op) values locals s = both64_keeps (λ a b. Ok (flag (rel_of 64 op a b))) answer32 values locals s (λ r values. answer32_keeps r values locals s)
plain_keeps (un32 op) values locals s = with32_keeps (λ a. Ok (un_of 32 op a)) answer32 values locals s (λ r values. answer32_keeps r values locals s)
plain_keeps (un64 op) values locals s = with64_keeps (λ a. Ok (un_of 64 op a)) answer64 values locals s (λ r values. answer64_keeps r values locals s)
plain_keeps (bin32 op) values locals s = both32_keeps (bin_of 32 op) values locals s
plain_keeps (bin64 op) values locals s = both64_keeps (bin_of 64 op) answer64 values locals s (λ r values. answer64_keeps r values locals s)
plain_keeps wrap values locals s = with64_keeps (λ a. Ok (a % 2 ^ 32)) answer32 values locals s (λ r values. answer32_keeps r values locals s)
plain_keeps extend_s values locals s = with32_keeps (λ a. Ok (extend_of 64 32 a)) answer64 values locals s (λ r values. answer64_keeps r values locals s)
plain_keeps extend_u values locals s = with32_keeps (λ a. Ok a) answer64 values locals s (λ r values. answer64_keeps r values locals s)
plain_keeps (sign_extend true bits) values locals s = with64_keeps (λ a. Ok (extend_of 64 bits a)) answer64 values locals s (λ r values. answer64_keeps r values locals s)
plain_keeps (sign_extend false bits) values locals s = with32_keeps (λ a. Ok (extend_of 32 bits a)) answer32 values locals s (λ r values. answer32_keeps r values locals s)

-- ---- a reduct keeps the events that were there

pub same_events : (s : Store) → IsPrefix s.events s.events
same_events s = prefix_same s.events s.events refl

abbrev pub Lasts : Store → Reduct → Type 0
Lasts s (to c locals s') = IsPrefix s.events s'.events
Lasts s (is_values values) = Unit {0}
Lasts s (branches k values) = Unit {0}
Lasts s (returns values) = Unit {0}
Lasts s (stops e s') = IsPrefix s.events s'.events
Lasts s is_stuck = Unit {0}

effect_lasts : (e : Effect) (code : Trees) (s : Store) → Keeps s e → Lasts s (after_effect e code s)
effect_lasts (goes values locals s') code s keeps = prefix_same s.events s'.events (sym keeps)
effect_lasts (traps kind) code s keeps = same_events s
effect_lasts sticks code s keeps = tt

answer_lasts : (a : ImportAnswer) (results : List ValType) (values : List Word) (code : Trees) (locals : List Word) (s : Store) → Lasts s (after_answer a results values code locals s)
answer_lasts (ends e) results values code locals s = same_events s
answer_lasts (goes_on g) results values code locals s = (g.events, refl)

enter_lasts : (c : Option Callee) (arguments : Option (List Word)) (values : List Word) (code : Trees) (locals : List Word) (s : Store) → Lasts s (enter c arguments values code locals s)
enter_lasts (Some (an_import name f)) (Some arguments) values code locals s = answer_lasts (answer_import name (reverse arguments) s.replies) f.results values code locals s
enter_lasts (Some (a_function f more body)) (Some arguments) values code locals s = same_events s
enter_lasts c arguments values code locals s = tt

call_lasts : (c : Option Callee) (values : List Word) (code : Trees) (locals : List Word) (s : Store) → Lasts s (do_call c values code locals s)
call_lasts c values code locals s = enter_lasts c (top_of (params_of c) values) (below_top (params_of c) values) code locals s

typed_lasts : (is : Bool) (c : Option Callee) (values : List Word) (code : Trees) (locals : List Word) (s : Store)
    → Lasts s (if is then do_call c values code locals s else stops (trapped kinds.OtherType) s)
typed_lasts true c values code locals s = call_lasts c values code locals s
typed_lasts false c values code locals s = same_events s

choice_lasts : (c l : ℕ) (values : List Word) (code : Trees) (locals : List Word) (s : Store) → Lasts s (choose c (branches l values) (to (Code values code) locals s))
choice_lasts zero l values code locals s = same_events s
choice_lasts (suc c) l values code locals s = tt

module _ (m : WasmModule) where
  entry_lasts : (type : ℕ) (e : Option (Option ℕ)) (values : List Word) (code : Trees) (locals : List Word) (s : Store) → Lasts s (call_entry m type e values code locals s)
  entry_lasts type (Some (Some f)) values code locals s = typed_lasts (of_type (slice_get m.types type) (callee_at m f)) (callee_at m f) values code locals s
  entry_lasts type (Some None) values code locals s = same_events s
  entry_lasts type None values code locals s = same_events s

  code_lasts : (code : Trees) (values locals : List Word) (s : Store) → Lasts s (reduce_code m code values locals s)
  code_lasts ε values locals s = tt
  code_lasts (plain (const32 n) ▹ code) values locals s = code_lasts code (W32 n ∷ values) locals s
  code_lasts (plain (const64 n) ▹ code) values locals s = code_lasts code (W64 n ∷ values) locals s
  code_lasts (plain p ▹ code) values locals s = effect_lasts (do_plain p values locals s) code s (plain_keeps p values locals s)
  code_lasts (unreachable ▹ code) values locals s = same_events s
  code_lasts (block r body ▹ code) values locals s = same_events s
  code_lasts (loop r body ▹ code) values locals s = same_events s
  code_lasts (if_block r x y ▹ code) [] locals s = tt
  code_lasts (if_block r x y ▹ code) (W32 c ∷ values) locals s = same_events s
  code_lasts (if_block r x y ▹ code) (W64 c ∷ values) locals s = tt
  code_lasts (br l ▹ code) values locals s = tt
  code_lasts (br_if l ▹ code) [] locals s = tt
  code_lasts (br_if l ▹ code) (W32 c ∷ values) locals s = choice_lasts c l values code locals s
  code_lasts (br_if l ▹ code) (W64 c ∷ values) locals s = tt
  code_lasts (br_table ls d ▹ code) [] locals s = tt
  code_lasts (br_table ls d ▹ code) (W32 i ∷ values) locals s = tt
  code_lasts (br_table ls d ▹ code) (W64 i ∷ values) locals s = tt
  code_lasts (return ▹ code) values locals s = tt
  code_lasts (call f ▹ code) values locals s = call_lasts (callee_at m f) values code locals s
  code_lasts (call_indirect t ▹ code) [] locals s = tt
  code_lasts (call_indirect t ▹ code) (W32 i ∷ values) locals s = entry_lasts t (slice_get s.table i) values code locals s
  code_lasts (call_indirect t ▹ code) (W64 i ∷ values) locals s = tt

  leave_lasts : (o : Option (List Word)) (values : List Word) (code : Trees) (locals : List Word) (s : Store) → Lasts s (leave m o values code locals s)
  leave_lasts None values code locals s = tt
  leave_lasts (Some top) values code locals s = same_events s

  label_lasts : (r : Reduct) (values : List Word) (n : ℕ) (continuation code : Trees) (locals : List Word) (s : Store)
      → Lasts s r → Lasts s (reduce_label m r values n continuation code locals s)
  label_lasts (to c l s') values n continuation code locals s lasts = lasts
  label_lasts (is_values top) values n continuation code locals s lasts = same_events s
  label_lasts (branches zero top) values n continuation code locals s lasts = leave_lasts (top_of n top) values (continuation ⊕ code) locals s
  label_lasts (branches (suc k) top) values n continuation code locals s lasts = tt
  label_lasts (returns top) values n continuation code locals s lasts = tt
  label_lasts (stops e s') values n continuation code locals s lasts = lasts
  label_lasts is_stuck values n continuation code locals s lasts = tt

  frame_lasts : (r : Reduct) (values : List Word) (n : ℕ) (code : Trees) (locals : List Word) (s : Store)
      → Lasts s r → Lasts s (reduce_frame m r values n code locals s)
  frame_lasts (to c l s') values n code locals s lasts = lasts
  frame_lasts (is_values top) values n code locals s lasts = same_events s
  frame_lasts (branches zero top) values n code locals s lasts = leave_lasts (top_of n top) values code locals s
  frame_lasts (branches (suc k) top) values n code locals s lasts = tt
  frame_lasts (returns top) values n code locals s lasts = leave_lasts (top_of n top) values code locals s
  frame_lasts (stops e s') values n code locals s lasts = lasts
  frame_lasts is_stuck values n code locals s lasts = tt

  pub reduce_lasts : (c : Config) (locals : List Word) (s : Store) → Lasts s (reduce m c locals s)
  reduce_lasts (Code values code) locals s = code_lasts code values locals s
  reduce_lasts (Label values n continuation inside code) locals s = label_lasts (reduce m inside locals s) values n continuation code locals s (reduce_lasts inside locals s)
  reduce_lasts (Frame values n inner inside code) locals s = frame_lasts (reduce m inside inner s) values n code locals s (reduce_lasts inside inner s)
