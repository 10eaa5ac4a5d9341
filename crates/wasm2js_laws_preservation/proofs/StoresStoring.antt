-- Stores, by the number of their bytes.
use Rattle.std.proofs.Common.{◌≡◌, ℕ, ◌+◌, ◌%◌, ◌^◌, ◌<◌, ◌≤◌, Bool, true, false, List, [], ◌∷◌, ◌++◌, length, take, Ok, refl, sym, ap, ◌∙◌, subst, arith}
use Rattle.std.specs.Prelude.{◌==◌, if◌then◌else◌, bit_and}
use Rattle.sem_words.specs.Words.{shr_u_of}
use Rattle.session_lang.specs.Imports.{Replies}
use Rattle.session_lang.specs.Observation.{EventPlain}
use Rattle.heap_lang.specs.declared.kind.ViewKind.TheVariants as views
use Rattle.heap_lang.specs.Heap as heaps
use Rattle.heap_lang.specs.Heap.{is_inside, store_bytes}
use Rattle.heap_lang.proofs.RunLemmas.{is_inside_within, is_inside_past}
use Rattle.wasm_lang.specs.declared.types.ValType.{ValType}
use Rattle.wasm_lang.specs.declared.types.ValType.TheVariants.{I32}
use Rattle.wasm_lang.specs.declared.types.MemOp.{MemOp}
use Rattle.wasm_lang.specs.Instructions.{store}
use Rattle.wasm_lang_valid.specs.declared.rule.Rule.TheVariants.{NoMemory}
use Rattle.wasm_lang_valid.specs.Typing.{Shape, Fixed, Acts, unless, kind_of}
use Rattle.wasm_lang_exec.specs.Plain.{Effect, stored, do_plain}
use Rattle.wasm2js_translation.specs.Names as names
use Rattle.wasm2js_translation.specs.Words.{conjunction, shift_right, read, both, write_byte, write_whole, tell, Action, simply, either}
use Rattle.wasm2js_translation.specs.Pairs.{operand_pair, literal}
use Rattle.wasm2js_translation.specs.Actions.{place, store_word}
use Rattle.wasm2js_translation.specs.Bodies.{after_form}
use Rattle.wasm2js_laws_numbers.specs.Laws.{joined}
use Rattle.wasm2js_laws_places.specs.Straight.{Words, value, index_at, Helping, Outcome, goes, stops, told, then_do, ActionsAsk, run_simples, run_action, run_actions, simples_units, actions_units}
use Rattle.wasm2js_laws_places.specs.Places.{operands, locals_of, globals_of, store_with, IsHeap}
use Rattle.wasm2js_laws_typed.specs.Laws.{is_stored}
use Rattle.wasm2js_laws_preservation.specs.ControlControl.{Function}
use Rattle.wasm2js_laws_preservation.specs.InstructionsPlain.{AreWords, IsAlike, IsPlain, Supports}
use Rattle.wasm2js_laws_preservation.proofs.WideKept.{low, high}
use Rattle.wasm2js_laws_typed.proofs.SoundPlain.{of_fixed}
use Rattle.wasm2js_laws_preservation.proofs.LoadsGuarded.{guarded_asks, guarded_units, guarded_run, nothing_after, place_is}
use Rattle.wasm2js_laws_preservation.proofs.LoadsNumbers.{memory_length, is_aligned}
use Rattle.wasm2js_laws_preservation.proofs.LoadsWords.{access_to}
use Rattle.wasm2js_laws_preservation.proofs.LoadsLoaded.{one_of_three, one_of_four}
use Rattle.wasm2js_laws_preservation.specs.StoresAnswers.{with_byte, with_low_word, with_high_word}
use Rattle.wasm2js_laws_preservation.specs.StoresLaws.{AreWriters, StoresAreWritten}
use Rattle.wasm2js_laws_preservation.proofs.StoresWritten.{byte_stored, two_stored, whole_stored, writes_word, writes_words, same_stored, both_stored, memory_stored, past_stays}

-- the number that is stored, of the operand of this number
abbrev stored_number : (wide : Bool) → (d : ℕ) → Words → ℕ
stored_number wide d words = if wide then joined (words (low d)) (words (high d)) else words (low d)

-- code that stores, by the number of the address; the value stands above it
pub record CodeStores (helping : Helping) (bytes : ℕ) (op : MemOp) (offset : ℕ) (code : ℕ → List Action) : Type 0 where
  pub asks : (d : ℕ) → ActionsAsk (code d)
  pub units : (d : ℕ) (words : Words) (heap : List ℕ) → actions_units helping (code d) words heap ≤ 1
  pub runs : (d : ℕ) (words : Words) (heap : List ℕ) → AreWords words → IsHeap bytes heap → words (low d) + offset + op.size ≤ bytes
      → run_actions helping (code d) words heap ≡ goes words (store_bytes (words (low d) + offset) op.size (stored_number op.wide (d + 1) words) heap)

-- only the low word counts, for as many bytes
low_counts : (wide : Bool) (d at size : ℕ) (words : Words) (heap : List ℕ) → (words (low d) % 256 ^ size ≡ joined (words (low d)) (words (high d)) % 256 ^ size)
    → store_bytes at size (words (low d)) heap ≡ store_bytes at size (stored_number wide d words) heap
low_counts false d at size words heap e = refl
low_counts true d at size words heap e = same_stored at size (words (low d)) (joined (words (low d)) (words (high d))) heap e

module _ (helping : Helping) (bytes offset : ℕ) where
  module _ (d : ℕ) (words : Words) (heap : List ℕ) (h : IsHeap bytes heap) where
    abbrev at : ℕ
    at = words (low d) + offset

    abbrev x : ℕ
    x = words (low (d + 1))

    -- the place of a byte that lies in the memory, in any heap
    byte_place : (k : ℕ) (other : List ℕ) → at + k < bytes → value (place (low d) (offset + k)) words other ≡ at + k
    byte_place k other within =
        let holds = h.holds in
        let small = h.small in
        place_is (low d) (offset + k) words other (omega (arith, within, holds, small)) ∙ omega arith

    first_place : (other : List ℕ) → at < bytes → value (place (low d) offset) words other ≡ at
    first_place other within =
        let holds = h.holds in
        let small = h.small in
        place_is (low d) offset words other (omega (arith, within, holds, small))

    -- it is a multiple of four where this is
    test_says : at < bytes → (bit_and (value (place (low d) (offset % 4)) words heap) 3 == 0) ≡ true → at % 4 ≡ 0
    test_says within is =
        let holds = h.holds in
        let small = h.small in
        let e : value (place (low d) (offset % 4)) words heap ≡ words (low d) + offset % 4 = place_is (low d) (offset % 4) words heap (omega (arith, within, holds, small)) in
        let four = is_aligned (words (low d) + offset % 4) (subst (λ n. (bit_and n 3 == 0) ≡ true) e is) in
        omega (arith, four)

  -- ---- one and two bytes

  byte_stores : (wide : Bool) → CodeStores helping bytes (access_to wide 1 false) offset (λ d. simply (write_byte (place (low d) offset) (read (low (d + 1)))) ∷ [])
  byte_stores wide = record {
    asks = λ d. (tt, tt);
    units = λ d words heap. omega arith;
    runs = λ d words heap are h within.
        let a = words (low d) + offset in
        let x = words (low (d + 1)) in
        let holds = h.holds in
        let small = h.small in
        ap (goes words)
        (ap (λ i. with_byte i x heap) (first_place d words heap h heap (omega (arith, within)))
        ∙ byte_stored a x heap (omega (arith, within, holds, small))
        ∙ low_counts wide (d + 1) a 1 words heap (omega arith));
  }

  half_stores : (wide : Bool)
      → CodeStores helping bytes (access_to wide 2 false) offset
      (λ d. simply (write_byte (place (low d) offset) (read (low (d + 1)))) ∷ simply (write_byte (place (low d) (offset + 1)) (both shift_right (read (low (d + 1))) (literal 8))) ∷ [])
  half_stores wide = record {
    asks = λ d. (tt, (tt, tt));
    units = λ d words heap. omega arith;
    runs = λ d words heap are h within.
        let a = words (low d) + offset in
        let x = words (low (d + 1)) in
        let i = value (place (low d) offset) words heap in
        let holds = h.holds in
        let inside : a + 2 ≤ length heap = omega (arith, within, holds) in
        ap (goes words)
        (ap (λ j. with_byte j (shr_u_of 32 x 8) (with_byte i x heap)) (byte_place d words heap h 1 (with_byte i x heap) (omega (arith, within)))
        ∙ ap (λ j. with_byte (a + 1) (shr_u_of 32 x 8) (with_byte j x heap)) (first_place d words heap h heap (omega (arith, within)))
        ∙ two_stored a x heap h.small (a + 1) refl inside
        ∙ low_counts wide (d + 1) a 2 words heap (omega arith));
  }

  -- ---- four bytes

  module _ (writers : AreWriters helping) where
    abbrev word_code : ℕ → Action
    word_code d =
        either (both conjunction (place (low d) (offset % 4)) (literal 3)) (tell names.store_32 (place (low d) offset ∷ read (low (d + 1)) ∷ []) ∷ []) (write_whole (place (low d) offset) (read (low (d + 1))) ∷ [])

    word_units : (d : ℕ) (words : Words) (heap : List ℕ) → actions_units helping (word_code d ∷ []) words heap ≤ 1
    word_units d words heap =
        let few = by (bit_and (value (place (low d) (offset % 4)) words heap) 3 == 0) in
        let none = nothing_after (run_action helping (word_code d) words heap) (actions_units helping []) (λ words heap. refl) in
        omega (arith, few, none)
      where
        v : ℕ
        v = value (place (low d) offset) words heap

        by : (t : Bool) → (if t then simples_units helping (write_whole (place (low d) offset) (read (low (d + 1))) ∷ []) words heap
            else simples_units helping (tell names.store_32 (place (low d) offset ∷ read (low (d + 1)) ∷ []) ∷ []) words heap) ≤ 1
        by true = omega arith
        by false =
            let once = (writers.store_32 (v ∷ words (low (d + 1)) ∷ []) heap).1 in
            let none = nothing_after (told (helping.answer names.store_32 (v ∷ words (low (d + 1)) ∷ []) heap) words heap) (simples_units helping []) (λ words heap. refl) in
            omega (arith, once, none)

    word_runs : (d : ℕ) (words : Words) (heap : List ℕ) → IsHeap bytes heap → words (low d) + offset + 4 ≤ bytes
        → run_action helping (word_code d) words heap ≡ goes words (store_bytes (words (low d) + offset) 4 (words (low (d + 1))) heap)
    word_runs d words heap h within = by (bit_and (value (place (low d) (offset % 4)) words heap) 3 == 0) refl
      where
        v : ℕ
        v = value (place (low d) offset) words heap

        a : ℕ
        a = words (low d) + offset

        y : ℕ
        y = words (low (d + 1))

        e : v ≡ a
        e = first_place d words heap h heap (omega (arith, within))

        by : (t : Bool) → (bit_and (value (place (low d) (offset % 4)) words heap) 3 == 0) ≡ t
            → (if t then run_simples helping (write_whole (place (low d) offset) (read (low (d + 1))) ∷ []) words heap
            else run_simples helping (tell names.store_32 (place (low d) offset ∷ read (low (d + 1)) ∷ []) ∷ []) words heap)
            ≡ goes words (store_bytes a 4 y heap)
        by true is =
            let holds = h.holds in
            let small = h.small in
            ap (goes words)
            (ap (λ i. heaps.store views.I32 (index_at 2 i) y heap) e
            ∙ whole_stored a y heap (omega (arith, within, holds, small)) (test_says d words heap h (omega (arith, within)) is))
        by false is =
            let holds = h.holds in
            ap (λ r. then_do (told r words heap) (run_simples helping [])) (writers.store_32 (v ∷ y ∷ []) heap).0
            ∙ ap (λ i. goes words (with_low_word i y heap)) e
            ∙ ap (goes words) (writes_word a y heap h.small (omega (arith, within, holds)))

    word_stores : (wide : Bool) → CodeStores helping bytes (access_to wide 4 false) offset (λ d. word_code d ∷ [])
    word_stores wide = record {
      asks = λ d. (((refl, tt), (tt, tt)), tt);
      units = word_units;
      runs = λ d words heap are h within.
          let low_is = are (low (d + 1)) in
          ap (λ o. then_do o (run_actions helping [])) (word_runs d words heap h within)
          ∙ ap (goes words) (low_counts wide (d + 1) (words (low d) + offset) 4 words heap (omega (arith, low_is)));
    }

    -- ---- eight bytes

    abbrev words_code : ℕ → Action
    words_code d =
        either (both conjunction (place (low d) (offset % 4)) (literal 3))
        (tell names.store_64 (place (low d) offset ∷ read (low (d + 1)) ∷ read (high (d + 1)) ∷ []) ∷ [])
        (write_whole (place (low d) offset) (read (low (d + 1))) ∷ write_whole (place (low d) (offset + 4)) (read (high (d + 1))) ∷ [])

    words_units : (d : ℕ) (words : Words) (heap : List ℕ) → actions_units helping (words_code d ∷ []) words heap ≤ 1
    words_units d words heap =
        let few = by (bit_and (value (place (low d) (offset % 4)) words heap) 3 == 0) in
        let none = nothing_after (run_action helping (words_code d) words heap) (actions_units helping []) (λ words heap. refl) in
        omega (arith, few, none)
      where
        v : ℕ
        v = value (place (low d) offset) words heap

        by : (t : Bool)
            → (if t then simples_units helping (write_whole (place (low d) offset) (read (low (d + 1))) ∷ write_whole (place (low d) (offset + 4)) (read (high (d + 1))) ∷ []) words heap
            else simples_units helping (tell names.store_64 (place (low d) offset ∷ read (low (d + 1)) ∷ read (high (d + 1)) ∷ []) ∷ []) words heap) ≤ 1
        by true = omega arith
        by false =
            let once = (writers.store_64 (v ∷ words (low (d + 1)) ∷ words (high (d + 1)) ∷ []) heap).1 in
            let none = nothing_after (told (helping.answer names.store_64 (v ∷ words (low (d + 1)) ∷ words (high (d + 1)) ∷ []) heap) words heap) (simples_units helping []) (λ words heap. refl) in
            omega (arith, once, none)

    words_runs : (d : ℕ) (words : Words) (heap : List ℕ) → AreWords words → IsHeap bytes heap → words (low d) + offset + 8 ≤ bytes
        → run_action helping (words_code d) words heap ≡ goes words (store_bytes (words (low d) + offset) 8 (joined (words (low (d + 1))) (words (high (d + 1)))) heap)
    words_runs d words heap are h within = by (bit_and (value (place (low d) (offset % 4)) words heap) 3 == 0) refl
      where
        v : ℕ
        v = value (place (low d) offset) words heap

        a : ℕ
        a = words (low d) + offset

        y : ℕ
        y = words (low (d + 1))

        z : ℕ
        z = words (high (d + 1))

        e : v ≡ a
        e = first_place d words heap h heap (omega (arith, within))

        inside : a + 8 ≤ length heap
        inside = let holds = h.holds in omega (arith, within, holds)

        first : List ℕ
        first = heaps.store views.I32 (index_at 2 v) y heap

        by : (t : Bool) → (bit_and (value (place (low d) (offset % 4)) words heap) 3 == 0) ≡ t
            → (if t then run_simples helping (write_whole (place (low d) offset) (read (low (d + 1))) ∷ write_whole (place (low d) (offset + 4)) (read (high (d + 1))) ∷ []) words heap
            else run_simples helping (tell names.store_64 (place (low d) offset ∷ read (low (d + 1)) ∷ read (high (d + 1)) ∷ []) ∷ []) words heap)
            ≡ goes words (store_bytes a 8 (joined y z) heap)
        by true is =
            let holds = h.holds in
            let small = h.small in
            let aligned = test_says d words heap h (omega (arith, within)) is in
            ap (goes words)
            (ap (λ i. heaps.store views.I32 (index_at 2 i) z first) (byte_place d words heap h 4 first (omega (arith, within)))
            ∙ whole_stored (a + 4) z first (omega (arith, within, holds, small)) (omega (arith, aligned))
            ∙ ap (λ i. store_bytes (a + 4) 4 z (heaps.store views.I32 (index_at 2 i) y heap)) e
            ∙ ap (store_bytes (a + 4) 4 z) (whole_stored a y heap (omega (arith, within, holds, small)) aligned)
            ∙ both_stored a y z heap (are (low (d + 1))) inside)
        by false is =
            ap (λ r. then_do (told r words heap) (run_simples helping [])) (writers.store_64 (v ∷ y ∷ z ∷ []) heap).0
            ∙ ap (λ i. goes words (with_high_word i z (with_low_word i y heap))) e
            ∙ ap (goes words) (writes_words a y z heap (are (low (d + 1))) h.small inside)

    words_stores : CodeStores helping bytes (access_to true 8 false) offset (λ d. words_code d ∷ [])
    words_stores = record {
      asks = λ d. (((refl, tt), (tt, (tt, tt))), tt);
      units = words_units;
      runs = λ d words heap are h within. ap (λ o. then_do o (run_actions helping [])) (words_runs d words heap are h within);
    }

    -- ---- each form

    abbrev pub Code : (wide : Bool) → (size : ℕ) → (signed : Bool) → Type 0
    Code wide size signed = CodeStores helping bytes (access_to wide size signed) offset (λ d. store_word (access_to wide size signed) offset (low d) (operand_pair (d + 1)))

    pub code_stores : (wide signed : Bool) (n : ℕ) → is_stored wide signed n ≡ true → Code wide n signed
    code_stores false false n h = one_of_three (λ n. Code false n false) n (byte_stores false) (half_stores false) (word_stores false) (n == 1) (n == 2) (n == 4) refl refl refl h
    code_stores true false n h =
        one_of_four (λ n. Code true n false) n (byte_stores true) (half_stores true) (word_stores true) words_stores (n == 1) (n == 2) (n == 4) (n == 8) refl refl refl refl h
    code_stores wide true n h = absurd (cc h)

-- ---- the instruction

module _ (f : Function) (helping : Helping) (supports : Supports f helping) (wide signed : Bool) (size align offset b : ℕ) (below : List ValType) where
  abbrev op : MemOp
  op = access_to wide size signed

  abbrev code : ℕ → List Action
  code d = store_word op offset (low d) (operand_pair (d + 1))

  abbrev d : ℕ
  d = b + length below

  abbrev kinds : List ValType
  kinds = kind_of wide ∷ I32 ∷ below

  module _ (words : Words) (heap : List ℕ) (replies : Replies) (events : List EventPlain) where
    abbrev Alike : Effect → Outcome → Type 0
    Alike e o = IsAlike f helping b below words heap replies events e o

    abbrev effect : Bool → ℕ → Effect
    effect inside number =
        stored inside (words (low d) + offset) size number (operands b below words) (locals_of f.context.locals words) (store_with f.setting words heap replies events)

  module _ (words : Words) (heap : List ℕ) (replies : Replies) (events : List EventPlain) where
    -- what it does, by its value
    does : (w : Bool)
        → do_plain (store (access_to w size signed) align offset) (operands b (kind_of w ∷ I32 ∷ below) words) (locals_of f.context.locals words) (store_with f.setting words heap replies events)
        ≡ effect words heap replies events (is_inside (words (low d) + offset) size (take f.setting.bytes heap)) (stored_number w (d + 1) words)
    does false =
        let top : b + length (I32 ∷ below) ≡ d + 1 = omega arith in
        ap (λ n. effect words heap replies events (is_inside (words (low d) + offset) size (take f.setting.bytes heap)) (words (low n))) top
    does true =
        let top : b + length (I32 ∷ below) ≡ d + 1 = omega arith in
        ap (λ n. effect words heap replies events (is_inside (words (low d) + offset) size (take f.setting.bytes heap)) (joined (words (low n)) (words (high n)))) top

  pub store_plain : CodeStores helping f.setting.bytes op offset code → f.context.memory ≡ true → IsPlain f helping (store op align offset) b kinds below
  store_plain stores memory = record {
    types = ap (λ m. after_form (unless m NoMemory (Fixed (kind_of wide ∷ I32 ∷ []) [])) kinds) memory;
    asks = guarded_asks helping f.setting.bytes size offset (low d) (code d) (stores.asks d);
    paid = λ words heap.
        let few = guarded_units helping f.setting.bytes size offset (low d) (code d) 1 (stores.units d) words heap in
        let pace = supports.pace in
        omega (arith, few, pace);
    free = λ e words heap. absurd (cc e);
    alike = λ words heap replies events are h.
        let a = words (low d) + offset in
        let n = stored_number wide (d + 1) words in
        let memory = take f.setting.bytes heap in
        let long = memory_length f.setting.bytes a size heap h in
        guarded_run helping f.setting.bytes size offset (low d) (code d) words heap
        (Alike words heap replies events (do_plain (store op align offset) (operands b kinds words) (locals_of f.context.locals words) (store_with f.setting words heap replies events)))
        (λ past. subst (λ e. Alike words heap replies events e (stops 2 heap))
        (sym (does words heap replies events wide ∙ ap (λ t. effect words heap replies events t n) (is_inside_past a size memory (subst (λ m. m < a + size) (sym long) past)))) (refl, refl))
        (λ within. subst (λ e. Alike words heap replies events e (run_actions helping (code d) words heap))
        (sym (does words heap replies events wide ∙ ap (λ t. effect words heap replies events t n) (is_inside_within a size memory (subst (λ m. a + size ≤ m) (sym long) within))))
        (subst (λ o. Alike words heap replies events (effect words heap replies events true n) o) (sym (stores.runs d words heap are h within)) (
          refl,
          refl,
          ap (λ m. record { memory = m; globals = globals_of f.setting.kinds words; table = f.setting.table; events = events; replies = replies }) (memory_stored f.setting.bytes a size n heap h within),
          record { low = λ d less. refl; high = λ d less. refl },
          past_stays f.setting.bytes a size n heap h within,
        )));
  }

store_is_kept : (f : Function) (helping : Helping) (op : MemOp) (align offset b : ℕ) (form : Shape) (takes gives below : List ValType) → Acts form takes gives
    → (f.context.memory ≡ true → IsPlain f helping (store op align offset) b (kind_of op.wide ∷ I32 ∷ below) below) → (m : Bool) → f.context.memory ≡ m
    → unless m NoMemory (Fixed (kind_of op.wide ∷ I32 ∷ []) []) ≡ Ok form → IsPlain f helping (store op align offset) b (takes ++ below) (gives ++ below)
store_is_kept f helping op align offset b form takes gives below acts h false c is = absurd (cc is)
store_is_kept f helping op align offset b form takes gives below acts h true c is =
    of_fixed (λ takes gives. IsPlain f helping (store op align offset) b (takes ++ below) (gives ++ below)) (kind_of op.wide ∷ I32 ∷ []) [] takes gives form is acts (h c)

pub stores_are_written : StoresAreWritten
stores_are_written op align offset formed f helping supports writers ls b form takes gives below is acts =
    store_is_kept f helping op align offset b form takes gives below acts
    (store_plain f helping supports op.wide op.signed op.size align offset b below (code_stores helping f.setting.bytes offset writers op.wide op.signed op.size formed)) f.context.memory refl is
