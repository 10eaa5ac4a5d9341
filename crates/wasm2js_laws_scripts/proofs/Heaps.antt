-- The heap begins with the memory: both are zeros with the same writes.
use Rattle.std.proofs.Common.{◌≡◌, ℕ, ◌+◌, ◌-◌, ◌*◌, ◌≤◌, true, List, [], ◌∷◌, ◌++◌, length, take, replicate, Option, Some, None, refl, sym, ap, ◌∙◌, subst, arith}
use Rattle.std.specs.Prelude.{slice_get, if◌then◌else◌, nat_le}
use Rattle.std.specs.List.{AllByRecursion}
use Rattle.std.proofs.lemmas.Bool.{and_parts}
use Rattle.std.proofs.lemmas.Bool.Decides.{nat_tests}
use Rattle.std.proofs.lemmas.List.{length-replicate, replicate-append-replicate}
use Rattle.std.proofs.Math.Seq.{take-append_seam}
use Rattle.session_lang.specs.Script.{WritePlain, ScriptPlain}
use Rattle.heap_lang.specs.Heap.{with_run}
use Rattle.heap_lang.proofs.RunLemmas.{length-with_run, with_run-append}
use Rattle.session_lang.specs.Fits.{are_bytes}
use Rattle.session_lang.specs.FitLaws.{a_write, Fits}
use Rattle.session_lang.proofs.Misfits.{no_misfit_fits}
use Rattle.wasm_lang.specs.Modules.{WasmModule}
use Rattle.wasm_lang_valid.specs.Runnable.{imported_pages, pages}
use Rattle.wasm_lang_exec.specs.Store.{page, written}
use Rattle.wasm_lang_exec.specs.Session.{bytes_in, first_memory}
use Rattle.wasm_lang_exec.specs.Fits as machine
use Rattle.asm_lang.specs.Modules.{Module}
use Rattle.asm_lang_valid.specs.Refusal.{has_heap}
use Rattle.asm_lang_exec.specs.Values.{with_writes}
use Rattle.asm_lang_exec.specs.Session.{first_heap}
use Rattle.wasm2js_lang.specs.Heaps.{heap_for, heap_bytes}
use Rattle.wasm2js_lang.specs.Calling.{IsCalledAs}
use Rattle.wasm2js_lang.specs.Allowed.{script_for}
use Rattle.wasm2js_lang.proofs.Lengths.{holds}
use Rattle.wasm2js_laws_scripts.specs.Laws.{HeapsBegin}
use Rattle.wasm2js_laws_scripts.proofs.Fitting.{holds_or, all_from_places, memory_is_there, imported_are_pages, heap_is_for}

-- writes that lie in the front of a heap leave what is past it
writes_in_front : (ws : List WritePlain) (heap more : List ℕ) → AllByRecursion (λ (x : WritePlain). x.at + length x.bytes ≤ length heap) ws → with_writes ws (heap ++ more) ≡ written ws heap ++ more
writes_in_front [] heap more all = refl
writes_in_front (w ∷ ws) heap more all =
    ap (with_writes ws) (with_run-append w.at w.bytes heap more all.0)
    ∙ writes_in_front ws (with_run w.at w.bytes heap) more (subst (λ n. AllByRecursion (λ (x : WritePlain). x.at + length x.bytes ≤ n) ws) (sym (length-with_run w.at w.bytes heap)) all.1)

module _ (w : WasmModule) (s : ScriptPlain) (fits : Fits (machine.tests w) s) where
  -- where there is no memory nothing is written
  nothing_written : (ws : List WritePlain) → ((i : ℕ) (x : WritePlain) → slice_get ws i ≡ Some x → machine.fits_write w x ≡ true) → pages w ≡ None → ws ≡ []
  nothing_written [] all is = refl
  nothing_written (x ∷ xs) all is = by (imported_pages w.imports) refl (all 0 x refl)
    where
      by : (o : Option ℕ) → imported_pages w.imports ≡ o → machine.lies_in o x ≡ true → x ∷ xs ≡ []
      by None e h = cc h
      by (Some n) e h = absurd (differs (imported_are_pages w n e))
        where
          differs : pages w ≡ Some n → ⊥
          differs e = cc (e, is)

  written_fits : (i : ℕ) (x : WritePlain) → slice_get s.writes i ≡ Some x → machine.fits_write w x ≡ true
  written_fits i x e = holds_or (machine.fits_write w x) (λ h. fits.all_fit x.line (a_write i x e h))

  lies_within : (n : ℕ) → pages w ≡ Some n → (x : WritePlain) → machine.fits_write w x ≡ true → x.at + length x.bytes ≤ n * page
  lies_within n is x h = by (imported_pages w.imports) refl h
    where
      test : (a b : ℕ) → nat_le a b ≡ true → a ≤ b
      test a b h = grind (arith, nat_tests)

      by : (o : Option ℕ) → imported_pages w.imports ≡ o → machine.lies_in o x ≡ true → x.at + length x.bytes ≤ n * page
      by None e h = cc h
      by (Some k) e h =
          let there = imported_are_pages w k e in
          let same : k ≡ n = cc (there, is) in
          subst (λ k. x.at + length x.bytes ≤ k * page) same (test (x.at + length x.bytes) (k * page) (and_parts (are_bytes x.bytes) (nat_le (x.at + length x.bytes) (k * page)) h).1)

  module _ (a : Module) (called : IsCalledAs w a) where
    with_memory : (n : ℕ) → pages w ≡ Some n → take (length (first_memory w s)) (first_heap a (heap_bytes w) (script_for w s)) ≡ first_memory w s
    with_memory n is =
        let zeros = replicate (n * page) 0 in
        let more = replicate (heap_for n - n * page) 0 in
        let memory : first_memory w s ≡ written s.writes zeros = ap (λ o. written s.writes (replicate (bytes_in o) 0)) is in
        let size : (if has_heap a then heap_bytes w else 0) ≡ heap_for n = ap (λ b. if b then heap_bytes w else 0) (called.heap ∙ memory_is_there w n is) ∙ heap_is_for w n is in
        let split : n * page + (heap_for n - n * page) ≡ heap_for n = parts (n * page) (heap_for n) (holds n) in
        let two : replicate (heap_for n) 0 ≡ zeros ++ more = sym (replicate-append-replicate (n * page) (heap_for n - n * page) 0 ∙ ap (λ k. replicate k 0) split) in
        let all = all_from_places (λ (x : WritePlain). x.at + length x.bytes ≤ length zeros) s.writes
        (λ i x e. subst (λ k. x.at + length x.bytes ≤ k) (sym (length-replicate (n * page) 0)) (lies_within n is x (written_fits i x e))) in
        let heap : first_heap a (heap_bytes w) (script_for w s) ≡ written s.writes zeros ++ more =
        ap (λ k. with_writes s.writes (replicate k 0)) size ∙ ap (with_writes s.writes) two ∙ writes_in_front s.writes zeros more all in
        ap (λ m. take (length m) (first_heap a (heap_bytes w) (script_for w s))) memory ∙ ap (take (length (written s.writes zeros))) heap ∙ take-append_seam (written s.writes zeros) more ∙ sym memory
      where
        parts : (a b : ℕ) → a ≤ b → a + (b - a) ≡ b
        parts a b h = omega (arith, h)

    without_memory : pages w ≡ None → take (length (first_memory w s)) (first_heap a (heap_bytes w) (script_for w s)) ≡ first_memory w s
    without_memory is =
        let memory : first_memory w s ≡ [] = ap (λ o. written s.writes (replicate (bytes_in o) 0)) is ∙ ap (λ ws. written ws []) (nothing_written s.writes written_fits is) in
        ap (λ m. take (length m) (first_heap a (heap_bytes w) (script_for w s))) memory ∙ sym memory

pub heaps_begin : HeapsBegin
heaps_begin w a s called fit = by (pages w) refl
  where
    fits : Fits (machine.tests w) s
    fits = no_misfit_fits (machine.tests w) s fit

    by : (o : Option ℕ) → pages w ≡ o → take (length (first_memory w s)) (first_heap a (heap_bytes w) (script_for w s)) ≡ first_memory w s
    by None is = without_memory w s fits a called is
    by (Some n) is = with_memory w s fits a called n is
