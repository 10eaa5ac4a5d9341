-- The statements of a segment, by calls, words and bytes.
use Rattle.std.proofs.Common.{◌≡◌, ℕ, zero, suc, ◌+◌, ◌*◌, ◌/◌, ◌%◌, ◌^◌, ◌<◌, ◌≤◌, List, [], ◌∷◌, ◌++◌, append_assoc, length, take, drop, take-append-drop, pos, ⊎_elim, refl, sym, ap, ◌∙◌, subst, arith}
use Rattle.std.specs.Prelude.{◌-◌, ◌==◌, true, false, Bool, if◌then◌else◌}
use Rattle.std.specs.List.{AllByRecursion, flat_map}
use Rattle.std.proofs.lemmas.Bool.{and_parts, cases_lt}
use Rattle.std.proofs.lemmas.Bool.Decides.{Decides-eqb}
use Rattle.std.proofs.lemmas.List.{length-take-le, take_all, drop_all, length-append, length-drop}
use Rattle.std.proofs.lemmas.List.Elements.{All-from_recursion}
use Rattle.sem_words.specs.declared.js_value.JsValue.{JsValue}
use Rattle.sem_words.specs.declared.js_value.JsValue.TheVariants.{Whole}
use Rattle.sem_words.specs.Words.{word_of, signed_of}
use Rattle.sem_words.proofs.WordLaws.{word_of-signed_of_32}
use Rattle.heap_lang.specs.declared.kind.ViewKind.TheVariants.{U8, I32}
use Rattle.heap_lang.specs.Heap.{with_run, store_bytes}
use Rattle.heap_lang.specs.Heap as heaps
use Rattle.heap_lang.specs.Numbers.{little_endian, bytes_of}
use Rattle.heap_lang.proofs.NumberLemmas.{bytes_of-little_endian}
use Rattle.heap_lang.proofs.HeapLemmas.{store_is}
use Rattle.heap_lang.proofs.RunLemmas.{length-with_run, with_run-append_bytes, with_run_none}
use Rattle.wasm_lang.specs.Modules.{DataSegment}
use Rattle.wasm_lang_valid.specs.Profile.{constant_offset, or_zero, memory_bytes}
use Rattle.asm_lang.specs.Modules.{Stmt, Module}
use Rattle.asm_lang_valid.specs.Typing.{Scope, named}
use Rattle.asm_lang_exec.specs.Runs.{Place, Run, Part, and_then}
use Rattle.asm_lang_exec.specs.Values.{write_element}
use Rattle.asm_lang_exec.specs.Meaning.{Completion, normal}
use Rattle.asm_laws_continuation.specs.Following.{CallsBefore, call_named_to, eval_all_to, exec_all_to, call_at_to}
use Rattle.wasm2js_translation.specs.Names.{data_words, data_zeros}
use Rattle.wasm2js_translation.specs.Words.{tell, simple_statement, name_of, arguments, stmts_in}
use Rattle.wasm2js_translation.specs.Pairs.{literal}
use Rattle.wasm2js_translation.specs.Helpers.{put_function, zero_function}
use Rattle.wasm2js_translation.specs.Modules.{set_byte, set_word, set_bytes, set_words, words_in, are_zeros, set_zeros, put_chunk, put_chunks, put_run, to_word, set_run, segment_stmts, translated}
use Rattle.wasm2js_laws_scopes.specs.Provided.{HasMemory}
use Rattle.wasm2js_lang.specs.Allowed.{segment_bytes}
use Rattle.wasm2js_lang.specs.Parts.Functions.{is_long}
use Rattle.wasm2js_laws_simulation.specs.SegmentsLaws.{with_segments, zeros_units, chunks_units, run_units, segments_units, Takes, through, short, SegmentsAreStored}
use Rattle.wasm2js_laws_simulation.proofs.SegmentsPut.{with_words, words_are_put, no_words_are_put}
use Rattle.wasm2js_laws_simulation.proofs.SegmentsZeros.{zero_words, turn_units, turns_long, zeros_are_put}
use Rattle.wasm2js_laws_simulation.proofs.SegmentsLying.{CanPut, IsLying, init_scope, all_lie, few_bytes}

-- ---- one element

abbrev AreBytes : List ℕ → Type 0
AreBytes bytes = AllByRecursion (λ b. b < 256) bytes

byte_is : (b : ℕ) → b < 256 → b % 2 ^ 32 % 256 ≡ b
byte_is b h = omega (arith, h)

byte_stored : (at b : ℕ) (heap : List ℕ) → b < 256 → heaps.store U8 (pos at) (b % 2 ^ 32) heap ≡ with_run at (b ∷ []) heap
unfolding store_bytes
byte_stored at b heap h =
    let one : 1 * at ≡ at = omega arith in
    store_is U8 at (b % 2 ^ 32) heap ∙ ap (λ n. with_run n (b % 2 ^ 32 % 256 ∷ []) heap) one ∙ ap (λ n. with_run at (n ∷ []) heap) (byte_is b h)

module _ (a b c d : ℕ) (are : AreBytes (a ∷ b ∷ c ∷ d ∷ [])) where
  abbrev four : List ℕ
  four = a ∷ b ∷ c ∷ d ∷ []

  small : little_endian four < 2 ^ 32
  small = let h = are.0 in let i = are.1.0 in let j = are.1.1.0 in let k = are.1.1.1.0 in omega (arith, h, i, j, k)

  word_stored : (at : ℕ) (heap : List ℕ) → at % 4 ≡ 0 → heaps.store I32 (pos (at / 4)) (word_of 32 (signed_of 32 (little_endian four))) heap ≡ with_run at four heap
  unfolding store_bytes
  word_stored at heap h =
      let whole : 4 * (at / 4) ≡ at = omega (arith, h) in
      ap (λ n. heaps.store I32 (pos (at / 4)) n heap) (word_of-signed_of_32 (little_endian four) small)
      ∙ store_is I32 (at / 4) (little_endian four) heap
      ∙ ap (λ n. with_run n (bytes_of 4 (little_endian four)) heap) whole
      ∙ ap (λ bs. with_run at bs heap) (bytes_of-little_endian four (All-from_recursion (λ b. b < 256) four are))

-- ---- statements

module _ (calls : CallsBefore (Unit {0})) (s : Scope) (memory : HasMemory s) (bound : ℕ) (next : Completion → Part (Unit {0})) where
  abbrev done : List Stmt → Part (Unit {0})
  done ss = exec_all_to calls s bound (stmts_in ss) next

  abbrev with_heap : Place → List ℕ → Place
  with_heap p heap = record p { heap = heap }

  byte_done : (at b : ℕ) (ss : List Stmt) (p : Place) → b < 256 → done (set_byte at b ∷ ss) p ≡ done ss (with_heap p (with_run at (b ∷ []) p.heap))
  byte_done at b ss p h =
      ap (λ m. and_then (write_element m (Whole (pos at)) (Whole (pos b))) (λ v. done ss) p) memory.bytes
      ∙ ap (λ heap. done ss (with_heap p heap)) (byte_stored at b p.heap h)

  word_done : (at a b c d : ℕ) (ss : List Stmt) (p : Place) → AreBytes (a ∷ b ∷ c ∷ d ∷ []) → at % 4 ≡ 0
      → done (set_word at (a ∷ b ∷ c ∷ d ∷ []) ∷ ss) p ≡ done ss (with_heap p (with_run at (a ∷ b ∷ c ∷ d ∷ []) p.heap))
  word_done at a b c d ss p are h =
      ap (λ m. and_then (write_element m (Whole (pos (at / 4))) (Whole (signed_of 32 (little_endian (a ∷ b ∷ c ∷ d ∷ []))))) (λ v. done ss) p) memory.words
      ∙ ap (λ heap. done ss (with_heap p heap)) (word_stored a b c d are at p.heap h)

  -- ---- lists

  bytes_done : (at : ℕ) (xs : List ℕ) (ss : List Stmt) (p : Place) → AreBytes xs → at + length xs ≤ length p.heap → done (set_bytes at xs ++ ss) p ≡ done ss (with_heap p (with_run at xs p.heap))
  bytes_done at [] ss p are le = ap (λ heap. done ss (with_heap p heap)) (sym (with_run_none at p.heap))
  bytes_done at (x ∷ xs) ss p are le =
      let p' = with_heap p (with_run at (x ∷ []) p.heap) in
      let long = length-with_run at (x ∷ []) p.heap in
      byte_done at x (set_bytes (at + 1) xs ++ ss) p are.0
      ∙ bytes_done (at + 1) xs ss p' are.1 (omega (arith, le, long))
      ∙ ap (λ heap. done ss (with_heap p heap)) (sym (with_run-append_bytes at (x ∷ []) xs p.heap (omega (arith, le))))

  words_done : (at : ℕ) (xs : List ℕ) (ss : List Stmt) (p : Place) → AreBytes xs → at % 4 ≡ 0 → at + length xs ≤ length p.heap
      → done (set_words at xs ++ ss) p ≡ done ss (with_heap p (with_run at xs p.heap))
  words_done at [] ss p are even le = bytes_done at [] ss p are le
  words_done at (a ∷ []) ss p are even le = bytes_done at (a ∷ []) ss p are le
  words_done at (a ∷ b ∷ []) ss p are even le = bytes_done at (a ∷ b ∷ []) ss p are le
  words_done at (a ∷ b ∷ c ∷ []) ss p are even le = bytes_done at (a ∷ b ∷ c ∷ []) ss p are le
  words_done at (a ∷ b ∷ c ∷ d ∷ xs) ss p are even le =
      let four = a ∷ b ∷ c ∷ d ∷ [] in
      let p' = with_heap p (with_run at four p.heap) in
      let long = length-with_run at four p.heap in
      word_done at a b c d (set_words (at + 4) xs ++ ss) p (are.0, (are.1.0, (are.1.1.0, (are.1.1.1.0, tt)))) even
      ∙ words_done (at + 4) xs ss p' are.1.1.1.1 (omega (arith, even)) (omega (arith, le, long))
      ∙ ap (λ heap. done ss (with_heap p heap)) (sym (with_run-append_bytes at four xs p.heap (omega (arith, le))))

-- ---- parts of a run

front_bytes : (n : ℕ) (xs : List ℕ) → AreBytes xs → AreBytes (take n xs)
front_bytes zero xs are = tt
front_bytes (suc n) [] are = tt
front_bytes (suc n) (x ∷ xs) are = (are.0, front_bytes n xs are.1)

back_bytes : (n : ℕ) (xs : List ℕ) → AreBytes xs → AreBytes (drop n xs)
back_bytes zero xs are = are
back_bytes (suc n) [] are = tt
back_bytes (suc n) (x ∷ xs) are = back_bytes n xs are.1

both_lengths : (n : ℕ) (xs : List ℕ) → length (take n xs) + length (drop n xs) ≡ length xs
both_lengths n xs = sym (length-append (take n xs) (drop n xs)) ∙ ap length (take-append-drop n xs)

-- one after the other
both_runs : (at n : ℕ) (xs heap : List ℕ) → n ≤ length xs → at + length xs ≤ length heap → with_run (at + n) (drop n xs) (with_run at (take n xs) heap) ≡ with_run at xs heap
both_runs at n xs heap h le =
    let many : length (take n xs) ≡ n = length-take-le n xs h in
    let both = both_lengths n xs in
    ap (λ k. with_run (at + k) (drop n xs) (with_run at (take n xs) heap)) (sym many)
    ∙ sym (with_run-append_bytes at (take n xs) (drop n xs) heap (omega (arith, le, both)))
    ∙ ap (λ ys. with_run at ys heap) (take-append-drop n xs)

-- ---- the words of a call

abbrev values_in : List ℕ → List JsValue
values_in (a ∷ b ∷ c ∷ d ∷ xs) = Whole (signed_of 32 (little_endian (a ∷ b ∷ c ∷ d ∷ []))) ∷ values_in xs
values_in xs = []

values_passed : (calls : CallsBefore (Unit {0})) (s : Scope) (xs : List ℕ) (next : List JsValue → Part (Unit {0})) (p : Place)
    → eval_all_to calls s (arguments (words_in xs)) next p ≡ next (values_in xs) p
values_passed calls s [] next p = refl
values_passed calls s (a ∷ []) next p = refl
values_passed calls s (a ∷ b ∷ []) next p = refl
values_passed calls s (a ∷ b ∷ c ∷ []) next p = refl
values_passed calls s (a ∷ b ∷ c ∷ d ∷ xs) next p = values_passed calls s xs (λ vs. next (Whole (signed_of 32 (little_endian (a ∷ b ∷ c ∷ d ∷ []))) ∷ vs)) p

values_long : (k : ℕ) (xs : List ℕ) → length xs ≡ 4 * k → length (values_in xs) ≡ k
values_long zero [] e = refl
values_long zero (a ∷ xs) e = absurd (omega (arith, e))
values_long (suc k) [] e = absurd (omega (arith, e))
values_long (suc k) (a ∷ []) e = absurd (omega (arith, e))
values_long (suc k) (a ∷ b ∷ []) e = absurd (omega (arith, e))
values_long (suc k) (a ∷ b ∷ c ∷ []) e = absurd (omega (arith, e))
values_long (suc k) (a ∷ b ∷ c ∷ d ∷ xs) e = ap suc (values_long k xs (omega (arith, e)))

values_stored : (k at : ℕ) (xs heap : List ℕ) → AreBytes xs → length xs ≡ 4 * k → at % 4 ≡ 0 → at + length xs ≤ length heap → with_words at (values_in xs) heap ≡ with_run at xs heap
values_stored zero at [] heap are e even le = sym (with_run_none at heap)
values_stored zero at (a ∷ xs) heap are e even le = absurd (omega (arith, e))
values_stored (suc k) at [] heap are e even le = absurd (omega (arith, e))
values_stored (suc k) at (a ∷ []) heap are e even le = absurd (omega (arith, e))
values_stored (suc k) at (a ∷ b ∷ []) heap are e even le = absurd (omega (arith, e))
values_stored (suc k) at (a ∷ b ∷ c ∷ []) heap are e even le = absurd (omega (arith, e))
values_stored (suc k) at (a ∷ b ∷ c ∷ d ∷ xs) heap are e even le =
    let four = a ∷ b ∷ c ∷ d ∷ [] in
    let long = length-with_run at four heap in
    ap (with_words (at + 4) (values_in xs)) (word_stored a b c d (are.0, (are.1.0, (are.1.1.0, (are.1.1.1.0, tt)))) at heap even)
    ∙ values_stored k (at + 4) xs (with_run at four heap) are.1.1.1.1 (omega (arith, e)) (omega (arith, even)) (omega (arith, le, long))
    ∙ sym (with_run-append_bytes at four xs heap (omega (arith, le)))

-- ---- zeros

abbrev zero_bytes : (words : ℕ) → List ℕ
zero_bytes zero = []
zero_bytes (suc k) = 0 ∷ 0 ∷ 0 ∷ 0 ∷ zero_bytes k

zero_long : (k : ℕ) → length (zero_bytes k) ≡ 4 * k
zero_long zero = refl
zero_long (suc k) = let e = zero_long k in omega (arith, e)

zero_more : (j k : ℕ) → zero_bytes (j + k) ≡ zero_bytes j ++ zero_bytes k
zero_more zero k = ap zero_bytes (omega arith)
zero_more (suc j) k = let e : suc j + k ≡ suc (j + k) = omega arith in ap zero_bytes e ∙ ap (λ xs. 0 ∷ 0 ∷ 0 ∷ 0 ∷ xs) (zero_more j k)

zeros_stored : (k at : ℕ) (heap : List ℕ) → at % 4 ≡ 0 → at + 4 * k ≤ length heap → zero_words k at heap ≡ with_run at (zero_bytes k) heap
zeros_stored zero at heap even le = sym (with_run_none at heap)
zeros_stored (suc k) at heap even le =
    let four = 0 ∷ 0 ∷ 0 ∷ 0 ∷ [] in
    let long = length-with_run at four heap in
    let more = zero_long k in
    ap (zero_words k (at + 4)) (word_stored 0 0 0 0 (omega arith, (omega arith, (omega arith, (omega arith, tt)))) at heap even)
    ∙ zeros_stored k (at + 4) (with_run at four heap) (omega (arith, even)) (omega (arith, le, long))
    ∙ sym (with_run-append_bytes at four (zero_bytes k) heap (omega (arith, le, more)))

is_zero : (x : ℕ) → (x == 0) ≡ true → x ≡ 0
is_zero x h = (Decides-eqb x 0).0 h

zeros_are : (k : ℕ) (xs : List ℕ) → length xs ≡ 4 * k → are_zeros xs ≡ true → xs ≡ zero_bytes k
zeros_are zero [] e h = refl
zeros_are zero (a ∷ xs) e h = absurd (omega (arith, e))
zeros_are (suc k) [] e h = absurd (omega (arith, e))
zeros_are (suc k) (a ∷ []) e h = absurd (omega (arith, e))
zeros_are (suc k) (a ∷ b ∷ []) e h = absurd (omega (arith, e))
zeros_are (suc k) (a ∷ b ∷ c ∷ []) e h = absurd (omega (arith, e))
zeros_are (suc k) (a ∷ b ∷ c ∷ d ∷ xs) e h =
    let p = and_parts (a == 0) _ h in
    let q = and_parts (b == 0) _ p.1 in
    let r = and_parts (c == 0) _ q.1 in
    let s = and_parts (d == 0) _ r.1 in
    let w = is_zero a p.0 in
    let x = is_zero b q.0 in
    let y = is_zero c r.0 in
    let z = is_zero d s.0 in
    let rest = zeros_are k xs (omega (arith, e)) s.1 in
    cc (w, x, y, z, rest)

-- ---- statements that take units

run_is : (u : ℕ) (heap : List ℕ) (p : Place) (after : Place → Run (Unit {0})) (run same : Run (Unit {0})) → run ≡ same → Takes u heap p after same → Takes u heap p after run
run_is u heap p after run same e (through left many r) = through left many (e ∙ r)
run_is u heap p after run same e (short q few shown r) = short q few shown (e ∙ r)

heap_is : (u : ℕ) (heap same : List ℕ) (p : Place) (after : Place → Run (Unit {0})) (run : Run (Unit {0})) → same ≡ heap → Takes u same p after run → Takes u heap p after run
heap_is u heap same p after run e (through left many r) = through left many (r ∙ ap (λ h. after (record p { heap = h; units = left })) e)
heap_is u heap same p after run e (short q few shown r) = short q few shown r

-- from a place with another heap
placed_at : (u : ℕ) (before heap : List ℕ) (p : Place) (after : Place → Run (Unit {0})) (run : Run (Unit {0})) → Takes u heap (record p { heap = before }) after run → Takes u heap p after run
placed_at u before heap p after run (through left many r) = through left many r
placed_at u before heap p after run (short q few shown r) = short q few shown r

-- some, and then some more
then_takes : (u more : ℕ) (heap last : List ℕ) (p : Place) (after further : Place → Run (Unit {0})) (run : Run (Unit {0})) → Takes u heap p after run
    → ((left : ℕ) → p.units ≡ left + u → Takes more last (record p { heap = heap; units = left }) further (after (record p { heap = heap; units = left }))) → Takes (u + more) last p further run
then_takes u more heap last p after further run (short q few shown r) f = short q (omega (arith, few)) shown r
then_takes u more heap last p after further run (through left many r) f = by (f left many)
  where
    by : Takes more last (record p { heap = heap; units = left }) further (after (record p { heap = heap; units = left })) → Takes (u + more) last p further run
    by (through rest e s) = through rest (omega (arith, many, e)) (r ∙ s)
    by (short q few shown s) = short q (omega (arith, many, few)) shown (r ∙ s)

-- .. and then what takes none
then_same : (u : ℕ) (heap last : List ℕ) (p : Place) (after further : Place → Run (Unit {0})) (run : Run (Unit {0})) → Takes u heap p after run
    → ((left : ℕ) → after (record p { heap = heap; units = left }) ≡ further (record p { heap = last; units = left })) → Takes u last p further run
then_same u heap last p after further run (through left many r) f = through left many (r ∙ f left)
then_same u heap last p after further run (short q few shown r) f = short q few shown r

module _ (m : Module) (s : Scope) (memory : HasMemory s) (bound : ℕ) (next : Completion → Part (Unit {0})) where
  abbrev run : List Stmt → Part (Unit {0})
  run ss = exec_all_to (call_at_to m bound) s bound (stmts_in ss) next

  -- zeros that wait, so many times 64 bytes
  zeros_done : (can : CanPut m s) (z from at : ℕ) (ss : List Stmt) (p : Place) → at ≡ from + 64 * z → from % 4 ≡ 0 → at ≤ length p.heap → at ≤ 2 ^ 28 → p.units ≤ bound
      → Takes (zeros_units from at) (with_run from (zero_bytes (16 * z)) p.heap) p (run ss) (run (set_zeros from at ++ ss) p)
  zeros_done can zero from at ss p e even le few room =
      let same : from ≡ at = omega (arith, e) in
      let is : (from == at) ≡ true = (Decides-eqb from at).1 same in
      subst (λ t. Takes (if t then 0 else 2 + (at - from) / 4) (with_run from [] p.heap) p (run ss) (run ((if t then [] else simple_statement (tell data_zeros (literal from ∷ literal at ∷ [])) ∷ []) ++ ss) p)) (sym is)
      (through p.units (omega arith) (ap (λ heap. run ss (record p { heap = heap })) (sym (with_run_none from p.heap))))
  zeros_done can (suc z) from at ss p e even le few room =
      let is : (from == at) ≡ false = apart (from == at) refl in
      let words : 16 * suc z ≡ (at - from) / 4 = omega (arith, e) in
      let count : suc (turn_units (16 * suc z)) ≡ 2 + (at - from) / 4 = (let l = turns_long (16 * suc z) in omega (arith, l, words)) in
      subst (λ t. Takes (if t then 0 else 2 + (at - from) / 4) (with_run from (zero_bytes (16 * suc z)) p.heap) p (run ss) (run ((if t then [] else simple_statement (tell data_zeros (literal from ∷ literal at ∷ [])) ∷ []) ++ ss) p)) (sym is)
      (subst (λ u. Takes u (with_run from (zero_bytes (16 * suc z)) p.heap) p (run ss) (run (simple_statement (tell data_zeros (literal from ∷ literal at ∷ [])) ∷ ss) p)) count
      (run_is (suc (turn_units (16 * suc z))) (with_run from (zero_bytes (16 * suc z)) p.heap) p (run ss) (run (simple_statement (tell data_zeros (literal from ∷ literal at ∷ [])) ∷ ss) p)
      (call_at_to m bound zero_function (Whole (pos from) ∷ Whole (pos at) ∷ []) (λ v. run ss) p)
      (ap (λ o. call_named_to (call_at_to m bound) o (Whole (pos from) ∷ Whole (pos at) ∷ []) (λ v. run ss) p) can.zeros)
      (heap_is (suc (turn_units (16 * suc z))) (with_run from (zero_bytes (16 * suc z)) p.heap) (zero_words (16 * suc z) from p.heap) p (run ss) _ (zeros_stored (16 * suc z) from p.heap even (omega (arith, e, le)))
      (zeros_are_put m (16 * suc z) from at (omega (arith, e)) few can.zero_views (λ v. run ss) bound p room))))
    where
      apart : (t : Bool) → (from == at) ≡ t → (from == at) ≡ false
      apart true k = let same = (Decides-eqb from at).0 k in absurd (omega (arith, e, same))
      apart false k = k

  chunk_called : (can : CanPut m s) (at : ℕ) (xs : List ℕ) (ss : List Stmt) (p : Place)
      → run (put_chunk at xs ∷ ss) p ≡ call_at_to m bound put_function (Whole (pos at) ∷ values_in xs) (λ v. run ss) p
  chunk_called can at xs ss p =
      values_passed (call_at_to m bound) s xs (λ vs. call_named_to (call_at_to m bound) (named s (name_of data_words)) (Whole (pos at) ∷ vs) (λ v. run ss)) p
      ∙ ap (λ o. call_named_to (call_at_to m bound) o (Whole (pos at) ∷ values_in xs) (λ v. run ss) p) can.function

  chunk_done : (can : CanPut m s) (at : ℕ) (xs : List ℕ) (ss : List Stmt) (p : Place) (n : ℕ) → AreBytes xs → length xs ≡ 64 → at % 4 ≡ 0 → at + 64 ≤ length p.heap → at + 64 ≤ 2 ^ 28 → p.units ≡ suc n
      → p.units ≤ bound → run (put_chunk at xs ∷ ss) p ≡ run ss (record p { heap = with_run at xs p.heap; units = n })
  chunk_done can at xs ss p n are long even le few e room =
      chunk_called can at xs ss p
      ∙ words_are_put m 16 at (values_in xs) (values_long 16 xs long) can.views few (λ v. run ss) bound n p (omega (arith, e, room)) e
      ∙ ap (λ heap. run ss (record p { heap = heap; units = n })) (values_stored 16 at xs p.heap are long even (omega (arith, le, long)))

  -- a call and what comes after it
  module _ (can : CanPut m s) (n at : ℕ) (xs : List ℕ) (ss : List Stmt) (p : Place) where
    abbrev chunk : List ℕ
    chunk = take 64 xs

    abbrev further : List Stmt
    further = put_chunks n (at + 64) (at + 64) (drop 64 xs) ++ ss

    abbrev more : ℕ
    more = chunks_units n (at + 64) (at + 64) (drop 64 xs)

    -- with so many units left
    abbrev behind : ℕ → Place
    behind u = record p { heap = with_run at chunk p.heap; units = u }

    abbrev last : List ℕ
    last = with_run (at + 64) (drop 64 xs) (with_run (at + 64) [] (with_run at chunk p.heap))

    one_more : (u : ℕ) → p.units ≡ suc u → (r : Run (Unit {0})) → Takes more last (behind u) (run ss) r → Takes (suc more) last p (run ss) r
    one_more u e r (through left enough is) = through left (omega (arith, e, enough)) is
    one_more u e r (short q less shown is) = short q (omega (arith, e, less)) shown is

    chunk_then : AreBytes xs → at % 4 ≡ 0 → 64 ≤ length xs → at + length xs ≤ length p.heap → at + length xs ≤ 2 ^ 28 → p.units ≤ bound
        → ((u : ℕ) → p.units ≡ suc u → Takes more last (behind u) (run ss) (run further (behind u))) → Takes (suc more) (with_run at xs p.heap) p (run ss) (run (put_chunk at chunk ∷ further) p)
    chunk_then are even many le few room rest = by p.units refl
      where
        by : (u : ℕ) → p.units ≡ u → Takes (suc more) (with_run at xs p.heap) p (run ss) (run (put_chunk at chunk ∷ further) p)
        by zero e = short p (omega (arith, e)) refl (chunk_called can at chunk further p ∙ no_words_are_put m 16 at (values_in chunk) (λ v. run further) bound p e)
        by (suc u) e =
            let sixty : length chunk ≡ 64 = length-take-le 64 xs many in
            run_is (suc more) (with_run at xs p.heap) p (run ss) (run (put_chunk at chunk ∷ further) p) (run further (behind u))
            (chunk_done can at chunk further p u (front_bytes 64 xs are) sixty even (omega (arith, many, le)) (omega (arith, many, few)) e room)
            (heap_is (suc more) (with_run at xs p.heap) last p (run ss) (run further (behind u))
            (ap (with_run (at + 64) (drop 64 xs)) (with_run_none (at + 64) (with_run at chunk p.heap)) ∙ both_runs at 64 xs p.heap many le) (one_more u e (run further (behind u)) (rest u e)))

  -- zeros that wait, and then zeros of a chunk
  waiting : (z from at : ℕ) (xs heap : List ℕ) → at ≡ from + 64 * z → 64 ≤ length xs → at + length xs ≤ length heap → are_zeros (take 64 xs) ≡ true
      → with_run (at + 64) (drop 64 xs) (with_run from (zero_bytes (16 * suc z)) heap) ≡ with_run at xs (with_run from (zero_bytes (16 * z)) heap)
  waiting z from at xs heap e many le zeros =
      let old = zero_bytes (16 * z) in
      let sixty : length (take 64 xs) ≡ 64 = length-take-le 64 xs many in
      let long = zero_long (16 * z) in
      let count : 16 * suc z ≡ 16 * z + 16 = omega arith in
      let here : from + length old ≡ at = omega (arith, e, long) in
      let size = length-with_run from old heap in
      ap (λ k. with_run (at + 64) (drop 64 xs) (with_run from (zero_bytes k) heap)) count
      ∙ ap (λ ys. with_run (at + 64) (drop 64 xs) (with_run from ys heap)) (zero_more (16 * z) 16)
      ∙ ap (with_run (at + 64) (drop 64 xs)) (with_run-append_bytes from old (zero_bytes 16) heap (omega (arith, e, long, le, many)))
      ∙ ap (λ k. with_run (at + 64) (drop 64 xs) (with_run k (zero_bytes 16) (with_run from old heap))) here
      ∙ ap (λ ys. with_run (at + 64) (drop 64 xs) (with_run at ys (with_run from old heap))) (sym (zeros_are 16 (take 64 xs) sixty zeros))
      ∙ both_runs at 64 xs (with_run from old heap) many (omega (arith, le, size))

  -- 64 bytes, and what comes after them
  module _ (can : CanPut m s) (n z from at : ℕ) (xs : List ℕ) (ss : List Stmt) (p : Place) where
    abbrev waited : List ℕ
    waited = with_run from (zero_bytes (16 * z)) p.heap

    abbrev behind_it : List Stmt
    behind_it = put_chunks n (at + 64) (at + 64) (drop 64 xs)

    -- after zeros and a call, with so many units left
    abbrev put_place : ℕ → Place
    put_place u = record p { heap = with_run at (take 64 xs) waited; units = u }

    chunk_step : at ≡ from + 64 * z → AreBytes xs → from % 4 ≡ 0 → 64 ≤ length xs → at + length xs ≤ length p.heap → at + length xs ≤ 2 ^ 28 → p.units ≤ bound
        → Takes (chunks_units n from (at + 64) (drop 64 xs)) (with_run (at + 64) (drop 64 xs) (with_run from (zero_bytes (16 * suc z)) p.heap)) p (run ss) (run (put_chunks n from (at + 64) (drop 64 xs) ++ ss) p)
        → ((u : ℕ) → u ≤ bound
        → Takes (chunks_units n (at + 64) (at + 64) (drop 64 xs)) (with_run (at + 64) (drop 64 xs) (with_run (at + 64) [] (with_run at (take 64 xs) waited))) (put_place u) (run ss) (run (behind_it ++ ss) (put_place u)))
        → Takes (chunks_units (suc n) from at xs) (with_run at xs waited) p (run ss) (run (put_chunks (suc n) from at xs ++ ss) p)
    chunk_step e are even many le few room waits goes = by (are_zeros (take 64 xs)) refl
      where
        by : (t : Bool) → are_zeros (take 64 xs) ≡ t
            → Takes (if t then chunks_units n from (at + 64) (drop 64 xs) else zeros_units from at + suc (chunks_units n (at + 64) (at + 64) (drop 64 xs))) (with_run at xs waited) p (run ss)
            (run (((if t then [] else set_zeros from at ++ put_chunk at (take 64 xs) ∷ []) ++ put_chunks n (if t then from else at + 64) (at + 64) (drop 64 xs)) ++ ss) p)
        by true h =
            heap_is (chunks_units n from (at + 64) (drop 64 xs)) (with_run at xs waited) (with_run (at + 64) (drop 64 xs) (with_run from (zero_bytes (16 * suc z)) p.heap)) p (run ss)
            (run (put_chunks n from (at + 64) (drop 64 xs) ++ ss) p) (waiting z from at xs p.heap e many le h) waits
        by false h =
            let size = length-with_run from (zero_bytes (16 * z)) p.heap in
            run_is (zeros_units from at + suc (chunks_units n (at + 64) (at + 64) (drop 64 xs))) (with_run at xs waited) p (run ss)
            (run (((set_zeros from at ++ put_chunk at (take 64 xs) ∷ []) ++ behind_it) ++ ss) p) (run (set_zeros from at ++ (put_chunk at (take 64 xs) ∷ behind_it ++ ss)) p)
            (ap (λ ss. run ss p) (append_assoc (set_zeros from at ++ put_chunk at (take 64 xs) ∷ []) behind_it ss ∙ append_assoc (set_zeros from at) (put_chunk at (take 64 xs) ∷ []) (behind_it ++ ss)))
            (then_takes (zeros_units from at) (suc (chunks_units n (at + 64) (at + 64) (drop 64 xs))) waited (with_run at xs waited) p (run (put_chunk at (take 64 xs) ∷ behind_it ++ ss)) (run ss)
            (run (set_zeros from at ++ (put_chunk at (take 64 xs) ∷ behind_it ++ ss)) p)
            (zeros_done can z from at (put_chunk at (take 64 xs) ∷ behind_it ++ ss) p e even (omega (arith, le)) (omega (arith, few)) room)
            (λ left enough.
            chunk_then can n at xs ss (record p { heap = waited; units = left }) are (omega (arith, e, even)) many (omega (arith, le, size)) few (omega (arith, enough, room)) (λ u has. goes u (omega (arith, enough, has, room)))))

  chunks_done : (can : CanPut m s) (count z from at : ℕ) (xs : List ℕ) (ss : List Stmt) (p : Place) → at ≡ from + 64 * z → AreBytes xs → from % 4 ≡ 0 → 64 * count ≤ length xs → at + length xs ≤ length p.heap
      → at + length xs ≤ 2 ^ 28 → p.units ≤ bound
      → Takes (chunks_units count from at xs) (with_run at xs (with_run from (zero_bytes (16 * z)) p.heap)) p (run ss) (run (put_chunks count from at xs ++ ss) p)
  chunks_done can zero z from at xs ss p e are even many le few room =
      let waited = with_run from (zero_bytes (16 * z)) p.heap in
      let size = length-with_run from (zero_bytes (16 * z)) p.heap in
      run_is (zeros_units from at) (with_run at xs waited) p (run ss) (run ((set_zeros from at ++ set_words at xs) ++ ss) p) (run (set_zeros from at ++ (set_words at xs ++ ss)) p)
      (ap (λ ss. run ss p) (append_assoc (set_zeros from at) (set_words at xs) ss))
      (then_same (zeros_units from at) waited (with_run at xs waited) p (run (set_words at xs ++ ss)) (run ss) (run (set_zeros from at ++ (set_words at xs ++ ss)) p)
      (zeros_done can z from at (set_words at xs ++ ss) p e even (omega (arith, le)) (omega (arith, few)) room)
      (λ left. words_done (call_at_to m bound) s memory bound next at xs ss (record p { heap = waited; units = left }) are (omega (arith, e, even)) (omega (arith, le, size))))
  chunks_done can (suc n) z from at xs ss p e are even many le few room =
      let both = both_lengths 64 xs in
      let sixty : length (take 64 xs) ≡ 64 = length-take-le 64 xs (omega (arith, many)) in
      let size = length-with_run from (zero_bytes (16 * z)) p.heap in
      let longer = length-with_run at (take 64 xs) (with_run from (zero_bytes (16 * z)) p.heap) in
      chunk_step can n z from at xs ss p e are even (omega (arith, many)) le few room
      (chunks_done can n (suc z) from (at + 64) (drop 64 xs) ss p (omega (arith, e)) (back_bytes 64 xs are) even (omega (arith, many, both, sixty)) (omega (arith, le, both, sixty)) (omega (arith, few, both, sixty)) room)
      (λ u fits.
      chunks_done can n 0 (at + 64) (at + 64) (drop 64 xs) ss (record p { heap = with_run at (take 64 xs) (with_run from (zero_bytes (16 * z)) p.heap); units = u }) (omega arith) (back_bytes 64 xs are)
      (omega (arith, e, even)) (omega (arith, many, both, sixty)) (omega (arith, le, both, sixty, size, longer)) (omega (arith, few, both, sixty)) fits)

  -- ---- a run that begins anywhere

  aligned_done : (long : Bool) (can : long ≡ true → CanPut m s) (at : ℕ) (xs : List ℕ) (ss : List Stmt) (p : Place) → AreBytes xs → at % 4 ≡ 0 → at + length xs ≤ length p.heap → at + length xs ≤ 2 ^ 28
      → p.units ≤ bound → Takes (run_units long at xs) (with_run at xs p.heap) p (run ss) (run (put_run long at xs ++ ss) p)
  aligned_done true can at xs ss p are even le few room =
      heap_is (chunks_units (length xs / 64) at at xs) (with_run at xs p.heap) (with_run at xs (with_run at [] p.heap)) p (run ss) (run (put_chunks (length xs / 64) at at xs ++ ss) p)
      (ap (with_run at xs) (with_run_none at p.heap))
      (chunks_done (can refl) (length xs / 64) 0 at at xs ss p (omega arith) are even (omega arith) le few room)
  aligned_done false can at xs ss p are even le few room = through p.units (omega arith) (words_done (call_at_to m bound) s memory bound next at xs ss p are even le)

  module _ (long : Bool) (can : long ≡ true → CanPut m s) (at : ℕ) (xs : List ℕ) (ss : List Stmt) (p : Place) (are : AreBytes xs) (le : at + length xs ≤ length p.heap) (few : at + length xs ≤ 2 ^ 28)
      (room : p.units ≤ bound) where
    abbrev k : ℕ
    k = to_word at

    abbrev front : List ℕ
    front = take k xs

    abbrev back : List ℕ
    back = drop k xs

    abbrev p' : Place
    p' = record p { heap = with_run at front p.heap }

    abbrev Goal : Type 0
    Goal = Takes (run_units long (at + k) back) (with_run at xs p.heap) p (run ss) (run (set_run long at xs ++ ss) p)

    even : (at + k) % 4 ≡ 0
    even = omega arith

    first : run (set_run long at xs ++ ss) p ≡ run (put_run long (at + k) back ++ ss) p'
    first =
        let both = both_lengths k xs in
        ap (λ ss. run ss p) (append_assoc (set_bytes at front) (put_run long (at + k) back) ss)
        ∙ bytes_done (call_at_to m bound) s memory bound next at front (put_run long (at + k) back ++ ss) p (front_bytes k xs are) (omega (arith, le, both))

    -- it ends before a whole word begins
    nothing_left : (long : Bool) → length xs < k → Takes (run_units long (at + k) []) (with_run at xs p.heap) p (run ss) (run (put_run long (at + k) [] ++ ss) p')
    nothing_left true h =
        let is : (at + k == at + k) ≡ true = (Decides-eqb (at + k) (at + k)).1 refl in
        subst (λ t. Takes (if t then 0 else 2 + (at + k - (at + k)) / 4) (with_run at xs p.heap) p (run ss)
        (run (((if t then [] else simple_statement (tell data_zeros (literal (at + k) ∷ literal (at + k) ∷ [])) ∷ []) ++ []) ++ ss) p')) (sym is)
        (through p.units (omega arith) (ap (λ ys. run ss (record p { heap = with_run at ys p.heap })) (take_all k xs (omega (arith, h)))))
    nothing_left false h = through p.units (omega arith) (ap (λ ys. run ss (record p { heap = with_run at ys p.heap })) (take_all k xs (omega (arith, h))))

    ends_early : length xs < k → Goal
    ends_early h =
        run_is (run_units long (at + k) back) (with_run at xs p.heap) p (run ss) (run (set_run long at xs ++ ss) p) (run (put_run long (at + k) back ++ ss) p') first
        (subst (λ ys. Takes (run_units long (at + k) ys) (with_run at xs p.heap) p (run ss) (run (put_run long (at + k) ys ++ ss) p')) (sym (drop_all k xs (omega (arith, h)))) (nothing_left long h))

    goes_on : k ≤ length xs → Goal
    goes_on h =
        let both = both_lengths k xs in
        let many : length front ≡ k = length-take-le k xs h in
        let same = length-with_run at front p.heap in
        run_is (run_units long (at + k) back) (with_run at xs p.heap) p (run ss) (run (set_run long at xs ++ ss) p) (run (put_run long (at + k) back ++ ss) p') first
        (heap_is (run_units long (at + k) back) (with_run at xs p.heap) (with_run (at + k) back p'.heap) p (run ss) (run (put_run long (at + k) back ++ ss) p') (both_runs at k xs p.heap h le)
        (placed_at (run_units long (at + k) back) p'.heap (with_run (at + k) back p'.heap) p (run ss) (run (put_run long (at + k) back ++ ss) p')
        (aligned_done long can (at + k) back ss p' (back_bytes k xs are) even (omega (arith, le, both, many, same)) (omega (arith, few, both, many)) room)))

    run_done : Goal
    run_done = ⊎_elim ends_early goes_on (cases_lt (length xs) k)

  -- ---- all segments

  pub segments_done : (size : ℕ) (ds : List DataSegment) (p : Place) → AllByRecursion (IsLying m s size) ds → size ≤ length p.heap → size ≤ 2 ^ 28 → p.units ≤ bound
      → Takes (segments_units ds) (with_segments ds p.heap) p (next normal) (run (flat_map segment_stmts ds) p)
  segments_done size [] p all le few room = through p.units (omega arith) refl
  segments_done size (d ∷ ds) p all le few room =
      let at = or_zero (constant_offset d.offset) in
      let inside = all.0.inside in
      let long = length-with_run at d.bytes p.heap in
      then_takes (run_units (is_long d) (at + to_word at) (drop (to_word at) d.bytes)) (segments_units ds) (with_run at d.bytes p.heap) (with_segments ds (with_run at d.bytes p.heap)) p (run (flat_map segment_stmts ds)) (next normal)
      (run (flat_map segment_stmts (d ∷ ds)) p)
      (run_done (is_long d) all.0.can at d.bytes (flat_map segment_stmts ds) p all.0.bytes (omega (arith, inside, le)) (omega (arith, inside, few)) room)
      (λ left e. segments_done size ds (record p { heap = with_run at d.bytes p.heap; units = left }) all.1 (omega (arith, le, long)) few (omega (arith, e, room)))

-- no more than one unit for a byte

zeros_few : (from at z : ℕ) → at ≡ from + 64 * z → zeros_units from at ≤ 64 * z
zeros_few from at z e = by (from == at) refl
  where
    by : (t : Bool) → (from == at) ≡ t → (if t then 0 else 2 + (at - from) / 4) ≤ 64 * z
    by true h = omega arith
    by false h = some z e
      where
        some : (z : ℕ) → at ≡ from + 64 * z → 2 + (at - from) / 4 ≤ 64 * z
        some zero k = let same : from ≡ at = omega (arith, k) in let is = (Decides-eqb from at).1 same in absurd (cc (is, h))
        some (suc n) k = omega (arith, k)

chunks_few : (count z from at : ℕ) (xs : List ℕ) → at ≡ from + 64 * z → 64 * count ≤ length xs → chunks_units count from at xs ≤ 64 * z + length xs
chunks_few zero z from at xs e many = let few = zeros_few from at z e in omega (arith, few)
chunks_few (suc n) z from at xs e many =
    let shorter = length-drop 64 xs in
    by (are_zeros (take 64 xs)) (chunks_few n (suc z) from (at + 64) (drop 64 xs) (omega (arith, e)) (omega (arith, many, shorter)))
    (chunks_few n 0 (at + 64) (at + 64) (drop 64 xs) (omega arith) (omega (arith, many, shorter)))
  where
    by : (t : Bool) → chunks_units n from (at + 64) (drop 64 xs) ≤ 64 * suc z + length (drop 64 xs) → chunks_units n (at + 64) (at + 64) (drop 64 xs) ≤ 64 * 0 + length (drop 64 xs)
        → (if t then chunks_units n from (at + 64) (drop 64 xs) else zeros_units from at + suc (chunks_units n (at + 64) (at + 64) (drop 64 xs))) ≤ 64 * z + length xs
    by true few last = let shorter = length-drop 64 xs in omega (arith, few, many, shorter)
    by false few last = let waits = zeros_few from at z e in let shorter = length-drop 64 xs in omega (arith, waits, last, many, shorter)

run_few : (long : Bool) (at k : ℕ) (xs : List ℕ) → run_units long at (drop k xs) ≤ length xs
run_few true at k xs =
    let e = length-drop k xs in
    let few = chunks_few (length (drop k xs) / 64) 0 at at (drop k xs) (omega arith) (omega arith) in
    omega (arith, e, few)
run_few false at k xs = omega arith

pub segments_few : (ds : List DataSegment) → segments_units ds ≤ segment_bytes ds
segments_few [] = omega arith
segments_few (d ∷ ds) =
    let at = or_zero (constant_offset d.offset) in
    let few = run_few (is_long d) (at + to_word at) (to_word at) d.bytes in
    let more = segments_few ds in
    omega (arith, few, more)

-- with no segment no view is needed
pub segments_are_stored : SegmentsAreStored
segments_are_stored w source bound next p le room = by w.segments (all_lie w source)
  where
    by : (ds : List DataSegment) → AllByRecursion (IsLying (translated w) (init_scope w source) (memory_bytes w)) ds
        → Takes (segments_units ds) (with_segments ds p.heap) p (next normal) (exec_all_to (call_at_to (translated w) bound) (init_scope w source) bound (stmts_in (flat_map segment_stmts ds)) next p)
    by [] all = through p.units (omega arith) refl
    by (d ∷ ds) all = segments_done (translated w) (init_scope w source) all.0.memory bound next (memory_bytes w) (d ∷ ds) p all le (few_bytes w source) room
