-- The memory of WebAssembly in the heap of asm.js, as a session begins and after the segments.
use Rattle.std.proofs.Common.{◌≡◌, ℕ, ◌+◌, ◌*◌, ◌^◌, ◌<◌, ◌≤◌, Bool, true, false, List, [], ◌∷◌, ◌++◌, length, map, take, drop, take-append-drop, replicate, Option, Some, None, refl, sym, ap, ◌∙◌, subst, arith}
use Rattle.std.specs.Prelude.{if◌then◌else◌, nat_le}
use Rattle.std.specs.List.{AllByRecursion, list_all}
use Rattle.std.proofs.lemmas.Bool.{and_parts}
use Rattle.std.proofs.lemmas.Bool.Decides.{nat_tests}
use Rattle.std.proofs.lemmas.List.{length-replicate, length-take-le}
use Rattle.std.proofs.lemmas.List.Elements.{recursion_from_All, All-replicate}
use Rattle.std.proofs.Math.Seq.{take-append_seam, drop-append_seam}
use Rattle.heap_lang.specs.Numbers.{IsBytes}
use Rattle.heap_lang.specs.Heap.{with_run}
use Rattle.heap_lang.proofs.RunLemmas.{length-with_run, with_run-append, IsBytes-with_run}
use Rattle.session_lang.specs.Script.{WritePlain, ReplyPlain, give, throw, ReplyLinePlain, ScriptPlain}
use Rattle.session_lang.specs.Fits.{are_bytes}
use Rattle.session_lang.specs.FitLaws.{a_reply, Fits}
use Rattle.session_lang.proofs.Misfits.{no_misfit_fits}
use Rattle.wasm_lang.specs.Modules.{DataSegment, WasmModule}
use Rattle.wasm_lang_valid.specs.Runnable.{pages}
use Rattle.wasm_lang_valid.specs.Profile.{or_zero, constant_offset, memory_bytes}
use Rattle.wasm_lang_exec.specs.Store.{page, written}
use Rattle.wasm_lang_exec.specs.Session.{bytes_in, first_memory}
use Rattle.wasm_lang_exec.specs.Fits as machine
use Rattle.wasm_lang_exec.specs.Fits.{lies_in}
use Rattle.asm_lang_valid.specs.Refusal.{has_heap}
use Rattle.asm_lang_exec.specs.Values.{with_writes}
use Rattle.asm_lang_exec.specs.Session.{heap_length, first_heap}
use Rattle.asm2wasm_lang.specs.Heaps.{is_heap_length}
use Rattle.session_lang.specs.Fits.{writes_of}
use Rattle.session_lang.specs.Written.{AreBytes, WritesBytes}
use Rattle.wasm_lang_exec.proofs.Written.{fitting_writes}
use Rattle.wasm2js_lang.specs.Heaps.{heap_for, heap_bytes}
use Rattle.wasm2js_lang.specs.Calling.{IsCalledAs}
use Rattle.wasm2js_lang.specs.Allowed.{script_for}
use Rattle.wasm2js_lang.proofs.Lengths.{holds, no_shorter}
use Rattle.wasm2js_translation.specs.Modules.{translated}
use Rattle.wasm2js_laws_scripts.proofs.Fitting.{holds_or, all_from_places, memory_is_there}
use Rattle.wasm2js_laws_scripts.proofs.Heaps.{heaps_begin}
use Rattle.wasm2js_laws_acceptance.proofs.ProvidedWithin.{rows_are_within, few_bytes}
use Rattle.wasm2js_laws_acceptance.specs.FunctionsFunctions.{IsSource}
use Rattle.wasm2js_laws_places.specs.Places.{IsHeap, IsWritable, IsReply}
use Rattle.wasm2js_laws_simulation.specs.SegmentsLaws.{with_segments}

-- ---- segments in the front of a heap

-- it lies within so many bytes, and has bytes
abbrev pub FitsIn : ℕ → DataSegment → Type 0
FitsIn n d = (or_zero (constant_offset d.offset) + length d.bytes ≤ n) × IsBytes d.bytes

pub segments_in_front : (ds : List DataSegment) (front more : List ℕ) → AllByRecursion (FitsIn (length front)) ds → with_segments ds (front ++ more) ≡ with_segments ds front ++ more
segments_in_front [] front more all = refl
segments_in_front (d ∷ ds) front more all =
    let at = or_zero (constant_offset d.offset) in
    ap (with_segments ds) (with_run-append at d.bytes front more all.0.0)
    ∙ segments_in_front ds (with_run at d.bytes front) more (subst (λ n. AllByRecursion (FitsIn n) ds) (sym (length-with_run at d.bytes front)) all.1)

pub segments_long : (ds : List DataSegment) (heap : List ℕ) → length (with_segments ds heap) ≡ length heap
segments_long [] heap = refl
segments_long (d ∷ ds) heap = segments_long ds (with_run (or_zero (constant_offset d.offset)) d.bytes heap) ∙ length-with_run (or_zero (constant_offset d.offset)) d.bytes heap

pub segments_bytes : (n : ℕ) (ds : List DataSegment) (heap : List ℕ) → AllByRecursion (FitsIn n) ds → IsBytes heap → IsBytes (with_segments ds heap)
segments_bytes n [] heap all h = h
segments_bytes n (d ∷ ds) heap all h = let at = or_zero (constant_offset d.offset) in segments_bytes n ds (with_run at d.bytes heap) all.1 (IsBytes-with_run at d.bytes heap all.0.1 h)

-- ---- writes

writes_long : (ws : List WritePlain) (heap : List ℕ) → length (with_writes ws heap) ≡ length heap
writes_long [] heap = refl
writes_long (x ∷ ws) heap = writes_long ws (with_run x.at x.bytes heap) ∙ length-with_run x.at x.bytes heap

written_long : (ws : List WritePlain) (memory : List ℕ) → length (written ws memory) ≡ length memory
written_long [] memory = refl
written_long (x ∷ ws) memory = written_long ws (with_run x.at x.bytes memory) ∙ length-with_run x.at x.bytes memory

writes_bytes : (ws : List WritePlain) (heap : List ℕ) → AllByRecursion (λ (x : WritePlain). IsBytes x.bytes) ws → IsBytes heap → IsBytes (with_writes ws heap)
writes_bytes [] heap all h = h
writes_bytes (x ∷ ws) heap all h = writes_bytes ws (with_run x.at x.bytes heap) all.1 (IsBytes-with_run x.at x.bytes heap all.0 h)

pub test_le : (a b : ℕ) → nat_le a b ≡ true → a ≤ b
test_le a b h = grind (arith, nat_tests)

-- ---- the first heap

longest : is_heap_length (2 ^ 28) ≡ true
unfolding is_heap_length
longest = refl

module _ (w : WasmModule) (source : IsSource w) (called : IsCalledAs w (translated w)) (s : ScriptPlain) (fit : machine.misfit w s ≡ None) where
  bytes : WritesBytes s
  bytes = fitting_writes w s fit

  abbrev pub heap : List ℕ
  heap = first_heap (translated w) (heap_bytes w) (script_for w s)

  abbrev long : ℕ
  long = heap_length (translated w) (heap_bytes w)

  heap_long : length heap ≡ long
  heap_long = writes_long s.writes (replicate long 0) ∙ length-replicate long 0

  small_heap : heap_bytes w ≤ 2 ^ 28
  small_heap = no_shorter (or_zero (pages w)) (2 ^ 28) longest (few_bytes w (rows_are_within w source.within))

  pub heap_small : length heap ≤ 2 ^ 28
  heap_small = by (has_heap (translated w)) heap_long small_heap
    where
      by : (b : Bool) → length heap ≡ (if b then heap_bytes w else 0) → heap_bytes w ≤ 2 ^ 28 → length heap ≤ 2 ^ 28
      by true e h = omega (arith, e, h)
      by false e h = omega (arith, e)

  memory_fits : memory_bytes w ≤ long
  memory_fits = by (pages w) refl
    where
      by : (o : Option ℕ) → pages w ≡ o → or_zero o * 65536 ≤ long
      by None e = omega arith
      by (Some n) e =
          let size : long ≡ heap_for n = ap (λ b. if b then heap_bytes w else 0) (called.heap ∙ memory_is_there w n e) ∙ ap (λ o. heap_for (or_zero o)) e in
          let h = holds n in
          omega (arith, size, h)

  pub heap_holds : memory_bytes w ≤ length heap
  heap_holds = let e = heap_long in let h = memory_fits in omega (arith, e, h)

  zeros_are_bytes : (n : ℕ) → IsBytes (replicate n 0)
  zeros_are_bytes n = All-replicate (λ b. b < 256) n 0 (omega arith)

  pub heap_bytes_are : IsBytes heap
  heap_bytes_are = writes_bytes s.writes (replicate long 0) (recursion_from_All (λ (x : WritePlain). IsBytes x.bytes) s.writes bytes.before) (zeros_are_bytes long)

  in_all : (o : Option ℕ) → bytes_in o ≡ or_zero o * 65536
  in_all None = refl
  in_all (Some n) = refl

  pub memory_long : length (first_memory w s) ≡ memory_bytes w
  memory_long = written_long s.writes (replicate (bytes_in (pages w)) 0) ∙ length-replicate (bytes_in (pages w)) 0 ∙ in_all (pages w)

  pub begins_with_memory : take (memory_bytes w) heap ≡ first_memory w s
  begins_with_memory = ap (λ n. take n heap) (sym memory_long) ∙ heaps_begin w (translated w) s called fit

  -- ---- after the segments

  module _ (all : AllByRecursion (FitsIn (memory_bytes w)) w.segments) where
    abbrev pub heap_after : List ℕ
    heap_after = with_segments w.segments heap

    front_long : length (with_segments w.segments (take (memory_bytes w) heap)) ≡ memory_bytes w
    front_long = segments_long w.segments (take (memory_bytes w) heap) ∙ length-take-le (memory_bytes w) heap heap_holds

    after_is : heap_after ≡ with_segments w.segments (take (memory_bytes w) heap) ++ drop (memory_bytes w) heap
    after_is =
        ap (with_segments w.segments) (sym (take-append-drop (memory_bytes w) heap))
        ∙ segments_in_front w.segments (take (memory_bytes w) heap) (drop (memory_bytes w) heap)
        (subst (λ n. AllByRecursion (FitsIn n) w.segments) (sym (length-take-le (memory_bytes w) heap heap_holds)) all)

    pub memory_after : take (memory_bytes w) heap_after ≡ with_segments w.segments (first_memory w s)
    memory_after =
        let front = with_segments w.segments (take (memory_bytes w) heap) in
        ap (take (memory_bytes w)) after_is ∙ ap (λ n. take n (front ++ drop (memory_bytes w) heap)) (sym front_long) ∙ take-append_seam front (drop (memory_bytes w) heap)
        ∙ ap (with_segments w.segments) begins_with_memory

    pub past_after : drop (memory_bytes w) heap_after ≡ drop (memory_bytes w) heap
    past_after =
        let front = with_segments w.segments (take (memory_bytes w) heap) in
        ap (drop (memory_bytes w)) after_is ∙ ap (λ n. drop n (front ++ drop (memory_bytes w) heap)) (sym front_long) ∙ drop-append_seam front (drop (memory_bytes w) heap)

    pub is_heap_after : IsHeap (memory_bytes w) heap_after
    is_heap_after =
        let e = segments_long w.segments heap in
        let h = heap_holds in
        let l = heap_small in
        record { are_bytes = segments_bytes (memory_bytes w) w.segments heap all heap_bytes_are; holds = omega (arith, e, h); small = omega (arith, e, l) }

  -- ---- replies

  fits : Fits (machine.tests w) s
  fits = no_misfit_fits (machine.tests w) s fit

  one_lies : (o : Option ℕ) (x : WritePlain) → lies_in o x ≡ true → x.at + length x.bytes ≤ or_zero o * 65536
  one_lies None x h = cc h
  one_lies (Some n) x h = test_le (x.at + length x.bytes) (n * page) (and_parts (are_bytes x.bytes) (nat_le (x.at + length x.bytes) (n * page)) h).1

  all_writable : (ws : List WritePlain) → list_all (lies_in (pages w)) ws ≡ true → AllByRecursion (λ (x : WritePlain). IsBytes x.bytes) ws → AllByRecursion (IsWritable (memory_bytes w)) ws
  all_writable [] h k = tt
  all_writable (x ∷ ws) h k =
      let p = and_parts (lies_in (pages w) x) (list_all (lies_in (pages w)) ws) h in
      ((one_lies (pages w) x p.0, k.0), all_writable ws p.1 k.1)

  reply_is : (r : ReplyPlain) → machine.fits_reply w r ≡ true → AreBytes (writes_of r) → IsReply (memory_bytes w) r
  reply_is (give word writes) h k = all_writable writes h (recursion_from_All (λ (x : WritePlain). IsBytes x.bytes) writes k)
  reply_is throw h k = tt

  all_replies : (rs : List ReplyLinePlain) → AllByRecursion (λ (r : ReplyLinePlain). machine.fits_reply w r.reply ≡ true) rs → AllByRecursion (λ (r : ReplyLinePlain). AreBytes (writes_of r.reply)) rs
      → AllByRecursion (IsReply (memory_bytes w)) (map (λ (r : ReplyLinePlain). r.reply) rs)
  all_replies [] h k = tt
  all_replies (r ∷ rs) h k = (reply_is r.reply h.0 k.0, all_replies rs h.1 k.1)

  pub replies_are : AllByRecursion (IsReply (memory_bytes w)) (map (λ (r : ReplyLinePlain). r.reply) s.replies)
  replies_are =
      all_replies s.replies
      (all_from_places (λ (r : ReplyLinePlain). machine.fits_reply w r.reply ≡ true) s.replies (λ i r e. holds_or (machine.fits_reply w r.reply) (λ h. fits.all_fit r.line (a_reply i r e h))))
      (recursion_from_All (λ (r : ReplyLinePlain). AreBytes (writes_of r.reply)) s.replies bytes.replied)
