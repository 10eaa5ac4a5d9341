-- A call of the helper that copies.
use Rattle.std.proofs.Common.{◌≡◌, ℕ, ◌+◌, ◌^◌, ◌≤◌, Bool, true, false, ◌&&◌, List, [], ◌∷◌, None, refl, subst, arith}
use Rattle.std.specs.Prelude.{if◌then◌else◌, nat_le}
use Rattle.sem_words.specs.declared.js_value.JsValue.{JsValue}
use Rattle.sem_words.specs.JsValues.{to_uint32_of}
use Rattle.sem_words.specs.JsOperators.{signed_value}
use Rattle.heap_lang.specs.Heap.{copied}
use Rattle.heap_lang.proofs.RunLemmas.{length-copied, IsBytes-copied}
use Rattle.asm_lang.specs.Modules.{Stmt, if_else, Module}
use Rattle.asm_lang_valid.specs.Typing.{Scope}
use Rattle.asm_lang_valid.specs.Typed.{scope_of}
use Rattle.asm_lang_exec.specs.Runs.{Place}
use Rattle.asm_lang_exec.specs.Values.{Calls}
use Rattle.asm_lang_exec.specs.Meaning.{call_at}
use Rattle.wasm2js_translation.specs.Words.{at_most, greater, compare, int_of}
use Rattle.wasm2js_translation.specs.Pairs.{literal, minus}
use Rattle.wasm2js_translation.specs.Helpers.{first, second, third, block_of, length_test, start_test, copy_up, copy_down, copy_function}
use Rattle.wasm2js_laws_places.specs.Places.{word_at, IsHeap}
use Rattle.wasm2js_laws_places.specs.Helped.{Helps}
use Rattle.wasm2js_laws_helpers.proofs.Called.{placed, called}
use Rattle.wasm2js_laws_helpers.proofs.Bodies.{run}
use Rattle.wasm2js_laws_helpers.proofs.Turned.{marked_word}
use Rattle.wasm2js_laws_preservation.proofs.LoadsLoaded.{any_heap}
use Rattle.wasm2js_laws_preservation.specs.RunsAnswers.{are_alike, copied_run, copy_units, units_upwards, units_downwards}
use Rattle.wasm2js_laws_preservation.specs.RunsLaws.{HasViews, CopyHelps}
use Rattle.wasm2js_laws_preservation.proofs.RunsLoops.{Works, settled}
use Rattle.wasm2js_laws_preservation.proofs.RunsCalled.{Traps, guard_then, test_then, either_then, Comes, called_job}
use Rattle.wasm2js_laws_preservation.proofs.RunsTests.{run_within, run_fits, fits, is_past}
use Rattle.wasm2js_laws_preservation.proofs.RunsUpwards.{nothing, copy_locals, up_works}
use Rattle.wasm2js_laws_preservation.proofs.RunsDownwards.{down_works}

module _ (m : Module) (has : HasViews m) (bytes : ℕ) (d : ℕ) (p : Place) (a b l : JsValue) where
  abbrev calls : Calls
  calls = call_at false m d

  abbrev c : Scope
  c = scope_of m (copy_function bytes)

  abbrev to : ℕ
  to = to_uint32_of a

  abbrev from : ℕ
  from = to_uint32_of b

  abbrev len : ℕ
  len = to_uint32_of l

  abbrev target : List ℕ
  target = copied to from len p.heap

  abbrev loops_units : Bool → ℕ
  loops_units up = if up then units_upwards (are_alike to from len) to len else units_downwards (are_alike to from len) to len

  abbrev start : ℕ → Place
  start n = placed p n (copy_locals m has bytes d p a b l nothing)

  abbrev both_ways : List Stmt
  both_ways = if_else (int_of (compare false at_most first second)) (block_of copy_up) (block_of copy_down) ∷ []

  abbrev tests : List Stmt
  tests = length_test bytes ∷ start_test bytes first ∷ start_test bytes second ∷ both_ways

  module _ (h : IsHeap bytes p.heap) where
    bytes_small : bytes ≤ 2 ^ 28
    bytes_small = let holds = h.holds in let small = h.small in omega (arith, holds, small)

    loops_work : to + len ≤ bytes → from + len ≤ bytes → (n : ℕ) → n ≤ d → (up : Bool) → nat_le to from ≡ up → Works p target (loops_units up) n (run calls c d both_ways (start n))
    loops_work there here n le true is =
        let holds = h.holds in
        either_then calls c d (word_at (start n)) false at_most first second (block_of copy_up) (block_of copy_down) [] (start n) (Works p target (loops_units true) n) tt (refl, refl) (refl, refl)
        (λ e. settled p target calls c d (loops_units true) n (run calls c d copy_up (start n))
        (up_works m has bytes d p a b l (any_heap bytes p.heap h) (fits to from is) (omega (arith, here, holds)) n le (are_alike to from len) refl))
        (λ e. absurd (cc (is, e)))
    loops_work there here n le false is =
        let holds = h.holds in
        let above = is_past to from is in
        either_then calls c d (word_at (start n)) false at_most first second (block_of copy_up) (block_of copy_down) [] (start n) (Works p target (loops_units false) n) tt (refl, refl) (refl, refl)
        (λ e. absurd (cc (is, e)))
        (λ e. settled p target calls c d (loops_units false) n (run calls c d copy_down (start n))
        (down_works m has bytes d p a b l (any_heap bytes p.heap h) (omega (arith, above)) (omega (arith, there, holds)) n le (are_alike to from len) refl))

    inside_works : to + len ≤ bytes → from + len ≤ bytes → (n : ℕ) → n ≤ d → Works p target (loops_units (nat_le to from)) n (run calls c d tests (start n))
    inside_works there here n le =
        let first_tests = run_within bytes to len bytes_small there in
        let second_tests = run_within bytes from len bytes_small here in
        guard_then calls c d (word_at (start n)) third bytes (start_test bytes first ∷ start_test bytes second ∷ both_ways) (start n) (Works p target (loops_units (nat_le to from)) n) tt has.traps (refl, refl)
        (λ e. absurd (cc (e, first_tests.0)))
        (λ e. test_then calls c d (word_at (start n)) false greater first (minus (literal bytes) third) (start_test bytes second ∷ both_ways) (start n) (Works p target (loops_units (nat_le to from)) n) tt has.traps (refl, refl) (tt, ((refl, refl), tt))
        (λ e. absurd (cc (e, first_tests.1)))
        (λ e. test_then calls c d (word_at (start n)) false greater second (minus (literal bytes) third) both_ways (start n) (Works p target (loops_units (nat_le to from)) n) tt has.traps (refl, refl) (tt, ((refl, refl), tt))
        (λ e. absurd (cc (e, second_tests.1)))
        (λ e. loops_work there here n le (nat_le to from) refl)))

    outside_traps : (to + len ≤ bytes → from + len ≤ bytes → ⊥) → (n : ℕ) → Traps p (run calls c d tests (start n))
    outside_traps past n =
        guard_then calls c d (word_at (start n)) third bytes (start_test bytes first ∷ start_test bytes second ∷ both_ways) (start n) (Traps p) tt has.traps (refl, refl) (λ e. (refl, refl, refl))
        (λ e. test_then calls c d (word_at (start n)) false greater first (minus (literal bytes) third) (start_test bytes second ∷ both_ways) (start n) (Traps p) tt has.traps (refl, refl) (tt, ((refl, refl), tt)) (λ f. (refl, refl, refl))
        (λ f. test_then calls c d (word_at (start n)) false greater second (minus (literal bytes) third) both_ways (start n) (Traps p) tt has.traps (refl, refl) (tt, ((refl, refl), tt)) (λ g. (refl, refl, refl))
        (λ g. absurd (past (run_fits bytes to len bytes_small e f) (run_fits bytes from len bytes_small e g)))))

    pub copy_comes : (n : ℕ) → n ≤ d → (s t : Bool) → nat_le (to + len) bytes ≡ s → nat_le (from + len) bytes ≡ t → Comes (s && t) target (loops_units (nat_le to from)) p n (run calls c d tests (start n))
    copy_comes n le true true e g = inside_works (fits (to + len) bytes e) (fits (from + len) bytes g) n le
    copy_comes n le true false e g = outside_traps (λ there here. let past = is_past (from + len) bytes g in omega (arith, past, here)) n
    copy_comes n le false t e g = outside_traps (λ there here. let past = is_past (to + len) bytes e in omega (arith, past, there)) n

-- ---- the call

heap_kept : (bytes to from len : ℕ) (heap : List ℕ) → IsHeap bytes heap → IsHeap bytes (copied to from len heap)
heap_kept bytes to from len heap h =
    let e = length-copied to from len heap in
    record { are_bytes = IsBytes-copied to from len heap h.are_bytes; holds = let k = h.holds in omega (arith, e, k); small = let k = h.small in omega (arith, e, k) }

-- the argument as the body finds it
abbrev marked : JsValue → JsValue
marked v = signed_value (to_uint32_of v)

module _ (m : Module) (has : HasViews m) (bytes : ℕ) (v w l : JsValue) (bound : ℕ) (p : Place) (h : IsHeap bytes p.heap) (le : p.units ≤ bound) where
  abbrev Copies : (to from len : ℕ) → Type 0
  Copies to from len = Helps bytes (copied_run bytes (to ∷ from ∷ len ∷ []) p.heap) (copy_units bytes (to ∷ from ∷ len ∷ [])) p (call_at false m bound (copy_function bytes) (v ∷ w ∷ l ∷ []) p)

  marked_copies : Copies (to_uint32_of (marked v)) (to_uint32_of (marked w)) (to_uint32_of (marked l))
  marked_copies =
      let to = to_uint32_of (marked v) in
      let from = to_uint32_of (marked w) in
      let len = to_uint32_of (marked l) in
      called_job m (copy_function bytes) bytes (v ∷ w ∷ l ∷ []) (nat_le (to + len) bytes && nat_le (from + len) bytes) (copied to from len p.heap) (loops_units m has bytes 0 p (marked v) (marked w) (marked l) (nat_le to from))
      (copy_locals m has bytes 0 p (marked v) (marked w) (marked l) nothing) refl bound p (λ e. heap_kept bytes to from len p.heap h) le
      (λ d n le. copy_comes m has bytes d p (marked v) (marked w) (marked l) h n le (nat_le (to + len) bytes) (nat_le (from + len) bytes) refl refl)

  copies : Copies (to_uint32_of v) (to_uint32_of w) (to_uint32_of l)
  copies =
      subst (λ to. Copies to (to_uint32_of w) (to_uint32_of l)) (marked_word v)
      (subst (λ from. Copies (to_uint32_of (marked v)) from (to_uint32_of l)) (marked_word w)
      (subst (λ len. Copies (to_uint32_of (marked v)) (to_uint32_of (marked w)) len) (marked_word l) marked_copies))

pub copy_helps : CopyHelps
copy_helps m has bytes bound [] p h le = called m (copy_function bytes) bytes [] 0 None bound p h le (λ d n locals is. absurd (cc is))
copy_helps m has bytes bound (v ∷ []) p h le = called m (copy_function bytes) bytes (v ∷ []) 0 None bound p h le (λ d n locals is. absurd (cc is))
copy_helps m has bytes bound (v ∷ w ∷ []) p h le = called m (copy_function bytes) bytes (v ∷ w ∷ []) 0 None bound p h le (λ d n locals is. absurd (cc is))
copy_helps m has bytes bound (v ∷ w ∷ l ∷ []) p h le = copies m has bytes v w l bound p h le
copy_helps m has bytes bound (v ∷ w ∷ l ∷ y ∷ more) p h le = called m (copy_function bytes) bytes (v ∷ w ∷ l ∷ y ∷ more) 0 None bound p h le (λ d n locals is. absurd (cc is))
