-- Byte writes inside the heap, and past it.
use Rattle.std.proofs.Common.{◌≡◌, ⊎_elim, ℕ, ◌+◌, ◌-◌, ◌<◌, ◌≤◌, List, [], ◌∷◌, ◌++◌, length, take, drop, refl, sym, ap, ◌∙◌, subst, arith, length-append, append_assoc}
use Rattle.std.specs.Prelude.{min, map}
use Rattle.std.proofs.lemmas.Bool.{cases_lt}
use Rattle.std.proofs.Math.ListN.{drop_of_length-le}
use Rattle.std.proofs.Math.Seq.{take-append-add, drop-append-add}
use Rattle.std.proofs.lemmas.List.{length-take, length-drop, take-append-drop}
use Rattle.std.proofs.lemmas.List.Elements.{recursion_from_All}
use Rattle.std.specs.List.{AllByRecursion}
use Rattle.heap_lang.specs.Heap.{with_run}
use Rattle.heap_lang.proofs.RunLemmas.{with_run_within, with_run-append, with_run-append_bytes, with_run_none, length-with_run}
use Rattle.session_lang.specs.Script.{WritePlain}
use Rattle.wasm_lang_exec.specs.Store.{written}
use Rattle.asm_lang_exec.specs.Values.{with_writes}
use Rattle.asm2wasm_laws_heap.specs.Guards.{WritesStayInFront, part_in, part_past, WritesHaveTwoParts}

abbrev Within : ℕ → WritePlain → Type 0
Within size w = w.at + length w.bytes ≤ size

writes : (ws : List WritePlain) (heap past : List ℕ) (size : ℕ) → size ≡ length heap → AllByRecursion (Within size) ws → written ws (heap ++ past) ≡ with_writes ws heap ++ past
writes [] heap past size e all = refl
writes (w ∷ ws) heap past size e all =
    ap (written ws) (with_run-append w.at w.bytes heap past (subst (λ n. w.at + length w.bytes ≤ n) e all.0))
    ∙ writes ws (with_run w.at w.bytes heap) past size (e ∙ sym (length-with_run w.at w.bytes heap)) all.1

pub writes_stay_in_front : WritesStayInFront
writes_stay_in_front ws heap past all = writes ws heap past (length heap) refl (recursion_from_All (Within (length heap)) ws all)

-- ---- past it

-- three bytes, of which two lie in a heap of 4096
abbrev three : WritePlain
three = record { at = 4094; bytes = 7 ∷ 8 ∷ 9 ∷ []; line = 1 }

two_in : part_in 4096 three ≡ record { at = 4094; bytes = 7 ∷ 8 ∷ []; line = 1 }
two_in = refl

one_past : part_past 4096 three ≡ record { at = 0; bytes = 9 ∷ []; line = 1 }
one_past = refl

-- a run that begins past the first list
run_past : (at : ℕ) (bytes first more : List ℕ) → at + length bytes ≤ length more → with_run (length first + at) bytes (first ++ more) ≡ first ++ with_run at bytes more
run_past at bytes first more fits =
    let joined = length-append first more in
    let one : length first + at + length bytes ≡ length first + (at + length bytes) = omega arith in
    with_run_within (length first + at) bytes (first ++ more) (omega (arith, joined, fits))
    ∙ ap (λ l. l ++ bytes ++ drop (length first + at + length bytes) (first ++ more)) (take-append-add first more at)
    ∙ ap (λ n. first ++ take at more ++ bytes ++ drop n (first ++ more)) one
    ∙ ap (λ l. first ++ take at more ++ bytes ++ l) (drop-append-add first more (at + length bytes))
    ∙ ap (λ l. l ++ drop (at + length bytes) more) (append_assoc first (take at more) bytes)
    ∙ append_assoc first (take at more ++ bytes) (drop (at + length bytes) more)
    ∙ ap (λ l. first ++ l) (sym (with_run_within at bytes more fits))

module _ (size at : ℕ) (bytes heap past : List ℕ) (is : length heap ≡ size) (fits : at + length bytes ≤ size + length past) where
  abbrev n : ℕ
  n = size - at

  abbrev low : List ℕ
  low = take n bytes

  abbrev high : List ℕ
  high = drop n bytes

  abbrev front : List ℕ
  front = with_run (min at size) low heap

  -- the bytes that lie in the heap
  low_run : with_run at low (heap ++ past) ≡ front ++ past
  low_run = ⊎_elim outside inside (cases_lt size at)
    where
      outside : size < at → with_run at low (heap ++ past) ≡ front ++ past
      outside h =
          let none : n ≡ 0 = omega (arith, h) in
          ap (λ n. with_run at (take n bytes) (heap ++ past)) none ∙ with_run_none at (heap ++ past)
          ∙ ap (λ l. l ++ past) (sym (ap (λ n. with_run (min at size) (take n bytes) heap) none ∙ with_run_none (min at size) heap))

      inside : at ≤ size → with_run at low (heap ++ past) ≡ front ++ past
      inside h =
          let few = length-take n bytes in
          let same : at ≡ min at size = omega (arith, h) in
          with_run-append at low heap past (omega (arith, few, h, is)) ∙ ap (λ at. with_run at low heap ++ past) same

  -- .. and those past it
  high_run : with_run (at + length low) high (front ++ past) ≡ front ++ with_run (at - size) high past
  high_run = ⊎_elim some none (cases_lt n (length bytes))
    where
      some : n < length bytes → with_run (at + length low) high (front ++ past) ≡ front ++ with_run (at - size) high past
      some h =
          let few = length-take n bytes in
          let rest = length-drop n bytes in
          let long = length-with_run (min at size) low heap in
          let place : at + length low ≡ length front + (at - size) = omega (arith, few, h, long, is) in
          ap (λ k. with_run k high (front ++ past)) place ∙ run_past (at - size) high front past (omega (arith, rest, h, fits))

      none : length bytes ≤ n → with_run (at + length low) high (front ++ past) ≡ front ++ with_run (at - size) high past
      none h =
          let empty : high ≡ [] = drop_of_length-le bytes h in
          ap (λ bs. with_run (at + length low) bs (front ++ past)) empty ∙ with_run_none (at + length low) (front ++ past)
          ∙ ap (λ l. front ++ l) (sym (ap (λ bs. with_run (at - size) bs past) empty ∙ with_run_none (at - size) past))

  one_write : with_run at bytes (heap ++ past) ≡ front ++ with_run (at - size) high past
  one_write =
      let few = length-take n bytes in
      let rest = length-drop n bytes in
      let joined = length-append heap past in
      ap (λ bs. with_run at bs (heap ++ past)) (sym (take-append-drop n bytes))
      ∙ with_run-append_bytes at low high (heap ++ past) (omega (arith, few, rest, joined, is, fits))
      ∙ ap (with_run (at + length low) high) low_run ∙ high_run

abbrev Reaches : ℕ → WritePlain → Type 0
Reaches end w = w.at + length w.bytes ≤ end

two_parts : (ws : List WritePlain) (heap past : List ℕ) (size more : ℕ) → length heap ≡ size → length past ≡ more → AllByRecursion (Reaches (size + more)) ws
    → written ws (heap ++ past) ≡ with_writes (map (part_in size) ws) heap ++ with_writes (map (part_past size) ws) past
two_parts [] heap past size more is many all = refl
two_parts (w ∷ ws) heap past size more is many all =
    let a = part_in size w in
    let b = part_past size w in
    ap (written ws) (one_write size w.at w.bytes heap past is (let here = all.0 in omega (arith, here, many)))
    ∙ two_parts ws (with_run a.at a.bytes heap) (with_run b.at b.bytes past) size more (length-with_run a.at a.bytes heap ∙ is) (length-with_run b.at b.bytes past ∙ many) all.1

pub writes_have_two_parts : WritesHaveTwoParts
writes_have_two_parts ws heap past all = two_parts ws heap past (length heap) (length past) refl refl (recursion_from_All (Reaches (length heap + length past)) ws all)
