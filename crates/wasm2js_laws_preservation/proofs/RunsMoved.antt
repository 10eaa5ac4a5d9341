-- Fills and copies: their code calls a helper, whose loops a reduction may pay for.
use Rattle.std.proofs.Common.{◌≡◌, ℕ, ◌+◌, ◌%◌, ◌≤◌, Bool, true, false, ◌&&◌, List, [], ◌∷◌, ◌++◌, length, take, drop, take-append-drop, take_all, drop_of_length-le, replicate, Some, None, Ok, refl, sym, ap, ◌∙◌, subst, arith}
use Rattle.std.specs.Prelude.{if◌then◌else◌, nat_le}
use Rattle.std.proofs.lemmas.List.{take-append-le, drop-append-le, length-append, length-take, length-drop, length-replicate}
use Rattle.std.proofs.lemmas.Bool.Decides.{nat_tests}
use Rattle.session_lang.specs.Imports.{Replies}
use Rattle.session_lang.specs.Observation.{EventPlain}
use Rattle.heap_lang.specs.Heap.{with_run, copied, filled}
use Rattle.heap_lang.proofs.RunLemmas.{run_at_within, run_at-append, length-copied, length-filled, with_run-append, copied_within}
use Rattle.wasm_lang.specs.declared.types.ValType.{ValType}
use Rattle.wasm_lang.specs.declared.types.ValType.TheVariants.{I32}
use Rattle.sem_words.specs.declared.word.Word.{Word}
use Rattle.wasm_lang.specs.Instructions.{Plain, memory_copy, memory_fill}
use Rattle.wasm_lang_exec.specs.Store.{Store}
use Rattle.wasm_lang_valid.specs.declared.rule.Rule.TheVariants.{NoMemory}
use Rattle.wasm_lang_valid.specs.Typing.{Shape, Fixed, Acts, unless}
use Rattle.wasm_lang_exec.specs.Plain as machine
use Rattle.wasm_lang_exec.specs.Plain.{Effect, do_plain}
use Rattle.wasm2js_translation.specs.Names as names
use Rattle.wasm2js_translation.specs.Bodies.{after_form}
use Rattle.wasm2js_laws_places.specs.Straight as straight
use Rattle.wasm2js_laws_places.specs.Straight.{Words, Answer, traps, Helping, Outcome, goes, told, then_do, units_after, run_actions, actions_units}
use Rattle.wasm2js_laws_places.specs.Places.{operands, locals_of, globals_of, store_with, IsHeap}
use Rattle.wasm2js_laws_preservation.specs.ControlControl.{Function}
use Rattle.wasm2js_laws_preservation.specs.InstructionsPlain.{IsAlike, IsPlain}
use Rattle.wasm2js_laws_preservation.proofs.WideKept.{low}
use Rattle.wasm2js_laws_typed.proofs.SoundPlain.{of_fixed}
use Rattle.wasm2js_laws_preservation.proofs.LoadsGuarded.{nothing_after}
use Rattle.wasm2js_laws_preservation.proofs.LoadsNumbers.{memory_length}
use Rattle.wasm2js_laws_preservation.specs.RunsAnswers.{filled_run, fill_units, copied_run, copy_units, loops_units, bytes_before, units_upwards, units_downwards, are_alike}
use Rattle.wasm2js_laws_preservation.specs.RunsLaws.{AreMovers, FillIsDone, CopyIsDone}
use Rattle.wasm2js_laws_preservation.proofs.RunsTests.{fits}

-- ---- units

loops_few : (t : Bool) (head len : ℕ) → head ≤ 3 → loops_units t head len ≤ len + 7
loops_few true head len few = omega (arith, few)
loops_few false head len few = omega arith

before_few : (at : ℕ) → bytes_before at ≤ 3
before_few at = omega arith

few_left : (len at bytes : ℕ) → nat_le (at + len) bytes ≡ true → len ≤ bytes
few_left len at bytes e = let le : at + len ≤ bytes = grind (arith, nat_tests, e) in omega (arith, le)

fill_few : (bytes at byte len : ℕ) → fill_units bytes (at ∷ byte ∷ len ∷ []) ≤ bytes + 8
fill_few bytes at byte len = by (nat_le (at + len) bytes) refl
  where
    by : (t : Bool) → nat_le (at + len) bytes ≡ t → (if t then 1 + units_upwards (nat_le 4 len) at len else 1) ≤ bytes + 8
    by true e = let few = loops_few (nat_le 4 len) (bytes_before at) len (before_few at) in let le = few_left len at bytes e in omega (arith, few, le)
    by false e = omega arith

abbrev copy_loops : (to from len : ℕ) (up : Bool) → ℕ
copy_loops to from len up = if up then units_upwards (are_alike to from len) to len else units_downwards (are_alike to from len) to len

copy_few : (bytes to from len : ℕ) → copy_units bytes (to ∷ from ∷ len ∷ []) ≤ bytes + 8
copy_few bytes to from len = by (nat_le (to + len) bytes) (nat_le (from + len) bytes) refl
  where
    loops : (up : Bool) → copy_loops to from len up ≤ len + 7
    loops true = loops_few (are_alike to from len) (bytes_before to) len (before_few to)
    loops false = loops_few (are_alike to from len) ((to + len) % 4) len (omega arith)

    by : (s t : Bool) → nat_le (to + len) bytes ≡ s
        → (if s && t then 1 + copy_loops to from len (nat_le to from) else 1) ≤ bytes + 8
    by true true e = let few = loops (nat_le to from) in let le = few_left len to bytes e in omega (arith, few, le)
    by true false e = omega arith
    by false t e = omega arith

-- ---- a heap that begins with another one

filled-append : (at len byte : ℕ) (heap more : List ℕ) → at + len ≤ length heap → filled at len byte (heap ++ more) ≡ filled at len byte heap ++ more
unfolding filled
filled-append at len byte heap more within = let e = length-replicate len byte in with_run-append at (replicate len byte) heap more (omega (arith, within, e))

taken_is : (a b : List ℕ) → Some a ≡ Some b → a ≡ b
taken_is a b e = cc e

copied-append : (to from len : ℕ) (heap more : List ℕ) → to + len ≤ length heap → from + len ≤ length heap → copied to from len (heap ++ more) ≡ copied to from len heap ++ more
copied-append to from len heap more there here =
    let e = length-append heap more in
    let inside : from + len ≤ length (heap ++ more) = omega (arith, here, e) in
    let run = take len (drop from heap) in
    let long : length run ≡ len = simp (length-take, length-drop) (omega arith) in
    let same : take len (drop from (heap ++ more)) ≡ run = taken_is _ _ (sym (run_at_within from len (heap ++ more) inside) ∙ run_at-append from len heap more here ∙ run_at_within from len heap here) in
    copied_within to from len (heap ++ more) (omega (arith, there, e)) inside
    ∙ ap (λ bs. with_run to bs (heap ++ more)) same
    ∙ with_run-append to run heap more (omega (arith, there, long))
    ∙ ap (λ h. h ++ more) (sym (copied_within to from len heap there here))

-- ---- the memory, which the heap begins with

module _ (bytes : ℕ) (heap : List ℕ) (h : IsHeap bytes heap) where
  memory_is : length (take bytes heap) ≡ bytes
  memory_is = memory_length bytes 0 0 heap h

  split : (long : List ℕ) → length long ≡ bytes → (take bytes (long ++ drop bytes heap) ≡ long) × (drop bytes (long ++ drop bytes heap) ≡ drop bytes heap)
  split long e = (
    take-append-le bytes long (drop bytes heap) (omega (arith, e)) ∙ take_all bytes long (omega (arith, e)),
    drop-append-le bytes long (drop bytes heap) (omega (arith, e)) ∙ ap (λ xs. xs ++ drop bytes heap) (drop_of_length-le long (omega (arith, e))),
  )

  -- what is written in the memory is written in the heap, and past it nothing changes
  abbrev IsInFront : List ℕ → List ℕ → Type 0
  IsInFront memory after = (memory ≡ take bytes after) × (drop bytes after ≡ drop bytes heap)

  in_front : (memory after : List ℕ) → length memory ≡ bytes → after ≡ memory ++ drop bytes heap → IsInFront memory after
  in_front memory after e is = let parts = split memory e in (sym (ap (take bytes) is ∙ parts.0), ap (drop bytes) is ∙ parts.1)

  filled_in_front : (at len byte : ℕ) → at + len ≤ bytes → IsInFront (filled at len byte (take bytes heap)) (filled at len byte heap)
  filled_in_front at len byte within =
      let e = memory_is in
      in_front (filled at len byte (take bytes heap)) (filled at len byte heap) (length-filled at len byte (take bytes heap) ∙ e)
      (ap (filled at len byte) (sym (take-append-drop bytes heap)) ∙ filled-append at len byte (take bytes heap) (drop bytes heap) (omega (arith, within, e)))

  copied_in_front : (to from len : ℕ) → to + len ≤ bytes → from + len ≤ bytes → IsInFront (copied to from len (take bytes heap)) (copied to from len heap)
  copied_in_front to from len there here =
      let e = memory_is in
      in_front (copied to from len (take bytes heap)) (copied to from len heap) (length-copied to from len (take bytes heap) ∙ e)
      (ap (copied to from len) (sym (take-append-drop bytes heap)) ∙ copied-append to from len (take bytes heap) (drop bytes heap) (omega (arith, there, e)) (omega (arith, here, e)))

-- ---- the instructions

module _ (f : Function) (helping : Helping) (movers : AreMovers f.setting.bytes helping) (pace : f.setting.bytes + 80 ≤ f.pace) (b : ℕ) (below : List ValType) where
  abbrev d : ℕ
  d = b + length below

  abbrev bytes : ℕ
  bytes = f.setting.bytes

  abbrev kinds : List ValType
  kinds = I32 ∷ I32 ∷ I32 ∷ below

  abbrev args : Words → List ℕ
  args words = words (low d) ∷ words (low (d + 1)) ∷ words (low (d + 2)) ∷ []

  middle : b + length (I32 ∷ below) ≡ d + 1
  middle = omega arith

  top : b + length (I32 ∷ I32 ∷ below) ≡ d + 2
  top = omega arith

  -- a call of a helper is paid for
  paid_for : (cost most : ℕ) (o : Outcome) → cost ≤ most → most ≤ bytes + 8 → cost + units_after o (actions_units helping []) ≤ f.pace
  paid_for cost most o le few = let none = nothing_after o (actions_units helping []) (λ words heap. refl) in omega (arith, le, few, none, pace)

  module _ (words : Words) (heap : List ℕ) (replies : Replies) (events : List EventPlain) (h : IsHeap bytes heap) where
    abbrev Alike : Effect → Answer → Type 0
    Alike e a = IsAlike f helping b below words heap replies events e (then_do (told a words heap) (run_actions helping []))

    abbrev store : Store
    store = store_with f.setting words heap replies events

    abbrev locals : List Word
    locals = locals_of f.context.locals words

    abbrev left : List Word
    left = operands b below words

    -- the same run in the memory and in the heap
    written_alike : (memory after : List ℕ) → IsInFront bytes heap h memory after → Alike (machine.goes left locals (machine.put_memory memory store)) (straight.gives 0 None after)
    written_alike memory after parts = (
      refl,
      refl,
      ap (λ m. record { memory = m; globals = globals_of f.setting.kinds words; table = f.setting.table; events = events; replies = replies }) parts.0,
      record { low = λ d less. refl; high = λ d less. refl },
      parts.1,
    )

    -- ---- fills

    abbrev fill_effect : (n2 n1 size : ℕ) → Effect
    fill_effect n2 n1 size = machine.filled_run (nat_le (words (low d) + words (low n2)) size) (words (low d)) (words (low n1) % 256) (words (low n2)) left locals store

    fill_does : do_plain memory_fill (operands b kinds words) locals store ≡ fill_effect (d + 2) (d + 1) bytes
    fill_does =
        ap (λ n. fill_effect n (b + length (I32 ∷ below)) (length (take bytes heap))) top
        ∙ ap (λ n. fill_effect (d + 2) n (length (take bytes heap))) middle
        ∙ ap (fill_effect (d + 2) (d + 1)) (memory_is bytes heap h)

    fill_same : (t : Bool) → nat_le (words (low d) + words (low (d + 2))) bytes ≡ t
        → Alike (machine.filled_run t (words (low d)) (words (low (d + 1)) % 256) (words (low (d + 2))) left locals store)
        (if t then straight.gives 0 None (filled (words (low d)) (words (low (d + 2))) (words (low (d + 1)) % 256) heap) else traps 2)
    fill_same true e =
        written_alike (filled (words (low d)) (words (low (d + 2))) (words (low (d + 1)) % 256) (take bytes heap)) (filled (words (low d)) (words (low (d + 2))) (words (low (d + 1)) % 256) heap)
        (filled_in_front bytes heap h (words (low d)) (words (low (d + 2))) (words (low (d + 1)) % 256) (fits (words (low d) + words (low (d + 2))) bytes e))
    fill_same false e = (refl, refl)

    fill_alike : Alike (do_plain memory_fill (operands b kinds words) locals store) (helping.answer names.fill (args words) heap)
    fill_alike =
        subst (λ a. Alike (do_plain memory_fill (operands b kinds words) locals store) a) (sym (movers.fill (args words) heap).0)
        (subst (λ e. Alike e (filled_run bytes (args words) heap)) (sym fill_does) (fill_same (nat_le (words (low d) + words (low (d + 2))) bytes) refl))

    -- ---- copies

    abbrev copy_effect : (n2 n1 size : ℕ) → Effect
    copy_effect n2 n1 size =
        machine.copied_run (nat_le (words (low d) + words (low n2)) size && nat_le (words (low n1) + words (low n2)) size) (words (low d)) (words (low n1)) (words (low n2)) left locals store

    copy_does : do_plain memory_copy (operands b kinds words) locals store ≡ copy_effect (d + 2) (d + 1) bytes
    copy_does =
        ap (λ n. copy_effect n (b + length (I32 ∷ below)) (length (take bytes heap))) top
        ∙ ap (λ n. copy_effect (d + 2) n (length (take bytes heap))) middle
        ∙ ap (copy_effect (d + 2) (d + 1)) (memory_is bytes heap h)

    copy_same : (s t : Bool) → nat_le (words (low d) + words (low (d + 2))) bytes ≡ s → nat_le (words (low (d + 1)) + words (low (d + 2))) bytes ≡ t
        → Alike (machine.copied_run (s && t) (words (low d)) (words (low (d + 1))) (words (low (d + 2))) left locals store)
        (if s && t then straight.gives 0 None (copied (words (low d)) (words (low (d + 1))) (words (low (d + 2))) heap) else traps 2)
    copy_same true true e g =
        written_alike (copied (words (low d)) (words (low (d + 1))) (words (low (d + 2))) (take bytes heap)) (copied (words (low d)) (words (low (d + 1))) (words (low (d + 2))) heap)
        (copied_in_front bytes heap h (words (low d)) (words (low (d + 1))) (words (low (d + 2))) (fits (words (low d) + words (low (d + 2))) bytes e) (fits (words (low (d + 1)) + words (low (d + 2))) bytes g))
    copy_same true false e g = (refl, refl)
    copy_same false t e g = (refl, refl)

    copy_alike : Alike (do_plain memory_copy (operands b kinds words) locals store) (helping.answer names.copy (args words) heap)
    copy_alike =
        subst (λ a. Alike (do_plain memory_copy (operands b kinds words) locals store) a) (sym (movers.copy (args words) heap).0)
        (subst (λ e. Alike e (copied_run bytes (args words) heap)) (sym copy_does)
        (copy_same (nat_le (words (low d) + words (low (d + 2))) bytes) (nat_le (words (low (d + 1)) + words (low (d + 2))) bytes) refl refl))

  fill_plain : f.context.memory ≡ true → IsPlain f helping memory_fill b kinds below
  fill_plain has = record {
    types = ap (λ m. after_form (unless m NoMemory (Fixed (I32 ∷ I32 ∷ I32 ∷ []) [])) kinds) has;
    asks = (refl, tt);
    paid = λ words heap.
        let cost = (movers.fill (args words) heap).1 in
        paid_for (helping.cost names.fill (args words)) (fill_units bytes (args words)) (told (helping.answer names.fill (args words) heap) words heap) (omega (arith, cost))
        (fill_few bytes (words (low d)) (words (low (d + 1))) (words (low (d + 2))));
    free = λ e words heap. absurd (cc e);
    alike = λ words heap replies events are h. fill_alike words heap replies events h;
  }

  copy_plain : f.context.memory ≡ true → IsPlain f helping memory_copy b kinds below
  copy_plain has = record {
    types = ap (λ m. after_form (unless m NoMemory (Fixed (I32 ∷ I32 ∷ I32 ∷ []) [])) kinds) has;
    asks = (refl, tt);
    paid = λ words heap.
        let cost = (movers.copy (args words) heap).1 in
        paid_for (helping.cost names.copy (args words)) (copy_units bytes (args words)) (told (helping.answer names.copy (args words) heap) words heap) (omega (arith, cost))
        (copy_few bytes (words (low d)) (words (low (d + 1))) (words (low (d + 2))));
    free = λ e words heap. absurd (cc e);
    alike = λ words heap replies events are h. copy_alike words heap replies events h;
  }

run_is_kept : (f : Function) (helping : Helping) (q : Plain) (b : ℕ) (form : Shape) (takes gives below : List ValType) → Acts form takes gives
    → (f.context.memory ≡ true → IsPlain f helping q b (I32 ∷ I32 ∷ I32 ∷ below) below) → (m : Bool) → f.context.memory ≡ m
    → unless m NoMemory (Fixed (I32 ∷ I32 ∷ I32 ∷ []) []) ≡ Ok form → IsPlain f helping q b (takes ++ below) (gives ++ below)
run_is_kept f helping q b form takes gives below acts h false c is = absurd (cc is)
run_is_kept f helping q b form takes gives below acts h true c is =
    of_fixed (λ takes gives. IsPlain f helping q b (takes ++ below) (gives ++ below)) (I32 ∷ I32 ∷ I32 ∷ []) [] takes gives form is acts (h c)

pub fill_is_done : FillIsDone
fill_is_done f helping supports movers pace ls b form takes gives below is acts =
    run_is_kept f helping memory_fill b form takes gives below acts (fill_plain f helping movers pace b below) f.context.memory refl is

pub copy_is_done : CopyIsDone
copy_is_done f helping supports movers pace ls b form takes gives below is acts =
    run_is_kept f helping memory_copy b form takes gives below acts (copy_plain f helping movers pace b below) f.context.memory refl is
