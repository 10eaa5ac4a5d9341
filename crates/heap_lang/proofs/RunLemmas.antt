-- Runs of bytes of a heap, read and written.
use Rattle.std.proofs.Common.{◌≡◌, refl, sym, ap, ◌∙◌, ◌⊎◌, ⊎_elim, ℕ, ◌+◌, ◌-◌, ◌<◌, ◌≤◌, true, false, cond, List, [], ◌∷◌, ◌++◌, length, get_or, take, drop, take-add, replicate, Some, None, is_some, arith, rules, inl, inr, add-zero, add-one, suc}
use Rattle.std.proofs.lemmas.Bool.{cases_lt}
use Rattle.std.proofs.lemmas.List.{length-take, length-drop, length-append, length-replicate, places, same_lists, take-append-le, drop-append-le, append_assoc, drop-drop, append-nil, take-append-drop, take_more, drop_more, get_or-drop}
use Rattle.std.proofs.lemmas.List.Elements.{All-append, All-take, All-drop, All-replicate}
use Rattle.std.proofs.lemmas.Grind.{replicate_next}
use Rattle.heap_lang.specs.Numbers.{IsBytes}
use Rattle.heap_lang.specs.Heap.{is_inside, run_at, with_run, can_copy, copied, filled}

-- ---- where a run lies in the heap

pub is_inside_within : (at len : ℕ) (heap : List ℕ) → at + len ≤ length heap → is_inside at len heap ≡ true
is_inside_within at len heap within = grind arith

pub is_inside_past : (at len : ℕ) (heap : List ℕ) → length heap < at + len → is_inside at len heap ≡ false
is_inside_past at len heap past = grind arith

pub within_from_is_inside : (at len : ℕ) (heap : List ℕ) → is_inside at len heap ≡ true → at + len ≤ length heap
within_from_is_inside at len heap inside = grind arith

pub past_from_is_inside : (at len : ℕ) (heap : List ℕ) → is_inside at len heap ≡ false → length heap < at + len
past_from_is_inside at len heap outside = grind arith

pub run_at_within : (at len : ℕ) (heap : List ℕ) → at + len ≤ length heap → run_at at len heap ≡ Some (take len (drop at heap))
unfolding run_at
run_at_within at len heap within = grind arith

pub run_at_past : (at len : ℕ) (heap : List ℕ) → length heap < at + len → run_at at len heap ≡ None
unfolding run_at
run_at_past at len heap past = grind arith

pub is_some-run_at : (at len : ℕ) (heap : List ℕ) → is_some (run_at at len heap) ≡ is_inside at len heap
unfolding run_at
is_some-run_at at len heap = grind arith

pub with_run_within : (at : ℕ) (bytes heap : List ℕ) → at + length bytes ≤ length heap → with_run at bytes heap ≡ take at heap ++ bytes ++ drop (at + length bytes) heap
unfolding with_run
with_run_within at bytes heap within = grind arith

pub with_run_past : (at : ℕ) (bytes heap : List ℕ) → length heap < at + length bytes → with_run at bytes heap ≡ heap
unfolding with_run
with_run_past at bytes heap past = grind arith

-- ---- what a write leaves

cases_within : {P : Type 0} (at len : ℕ) (heap : List ℕ) → (at + len ≤ length heap → P) → (length heap < at + len → P) → P
cases_within at len heap inside past = ⊎_elim past inside (cases_lt (length heap) (at + len))

pub length-with_run : (at : ℕ) (bytes heap : List ℕ) → length (with_run at bytes heap) ≡ length heap
length-with_run at bytes heap =
    cases_within at (length bytes) heap
    (λ within. rw (with_run_within at bytes heap within) (simp (length-append, length-take, length-drop) (omega arith)))
    (λ past. ap length (with_run_past at bytes heap past))

pub IsBytes-with_run : (at : ℕ) (bytes heap : List ℕ) → IsBytes bytes → IsBytes heap → IsBytes (with_run at bytes heap)
IsBytes-with_run at bytes heap few all =
    cases_within at (length bytes) heap
    (λ within. rw (with_run_within at bytes heap within)
    (All-append (λ b. b < 256) (take at heap ++ bytes) (drop (at + length bytes) heap)
    (All-append (λ b. b < 256) (take at heap) bytes (All-take (λ b. b < 256) at heap all) few)
    (All-drop (λ b. b < 256) (at + length bytes) heap all)))
    (λ past. rw (with_run_past at bytes heap past) all)

-- the run that was written is read
pub run_at-with_run_same : (at : ℕ) (bytes heap : List ℕ) → at + length bytes ≤ length heap → run_at at (length bytes) (with_run at bytes heap) ≡ Some bytes
run_at-with_run_same at bytes heap within =
    let same_length = length-with_run at bytes heap in
    run_at_within at (length bytes) (with_run at bytes heap) (omega arith) ∙ ap Some (
    rw (with_run_within at bytes heap within)
    (same_lists (take (length bytes) (drop at (take at heap ++ bytes ++ drop (at + length bytes) heap))) bytes (search (rules, places)) (λ k d h. grind (arith, places))))

-- a run with no byte in common with the one that was written stays
pub run_at-with_run_apart : (at len to : ℕ) (bytes heap : List ℕ) → (at + len ≤ to) ⊎ (to + length bytes ≤ at) → run_at at len (with_run to bytes heap) ≡ run_at at len heap
run_at-with_run_apart at len to bytes heap apart =
    let same_length = length-with_run to bytes heap in
    cases_within to (length bytes) heap
    (λ written. cases_within at len heap
    (λ within. run_at_within at len (with_run to bytes heap) (omega arith) ∙ (ap Some (
    rw (with_run_within to bytes heap written)
    (same_lists (take len (drop at (take to heap ++ bytes ++ drop (to + length bytes) heap))) (take len (drop at heap)) (search (rules, places)) (λ k d h. grind (arith, places))))
    ∙ sym (run_at_within at len heap within)))
    (λ past. run_at_past at len (with_run to bytes heap) (omega arith) ∙ sym (run_at_past at len heap past)))
    (λ past. ap (run_at at len) (with_run_past to bytes heap past))

-- one byte after a write
pub get_or-with_run_inside : (at : ℕ) (bytes heap : List ℕ) (k : ℕ) → at + length bytes ≤ length heap → at ≤ k → k < at + length bytes → get_or (with_run at bytes heap) k 0 ≡ get_or bytes (k - at) 0
get_or-with_run_inside at bytes heap k within low high =
    rw (with_run_within at bytes heap within) (grind (arith, places))

pub get_or-with_run_apart : (at : ℕ) (bytes heap : List ℕ) (k : ℕ) → (k < at) ⊎ (at + length bytes ≤ k) → get_or (with_run at bytes heap) k 0 ≡ get_or heap k 0
get_or-with_run_apart at bytes heap k apart =
    cases_within at (length bytes) heap
    (λ within. rw (with_run_within at bytes heap within) (grind (arith, places)))
    (λ past. ap (λ h. get_or h k 0) (with_run_past at bytes heap past))

-- ---- a heap that begins with another one

pub run_at-append : (at len : ℕ) (heap more : List ℕ) → at + len ≤ length heap → run_at at len (heap ++ more) ≡ run_at at len heap
run_at-append at len heap more within =
    run_at_within at len (heap ++ more) (simp length-append (omega arith)) ∙ (ap Some (
    rw (drop-append-le at heap more (omega arith))
    (take-append-le len (drop at heap) more (simp length-drop (omega arith))))
    ∙ sym (run_at_within at len heap within))

pub with_run-append : (at : ℕ) (bytes heap more : List ℕ) → at + length bytes ≤ length heap → with_run at bytes (heap ++ more) ≡ with_run at bytes heap ++ more
with_run-append at bytes heap more within =
    rw (with_run_within at bytes (heap ++ more) (simp length-append (omega arith)), with_run_within at bytes heap within, take-append-le at heap more (omega arith), drop-append-le (at + length bytes) heap more within)
    (sym (append_assoc (take at heap ++ bytes) (drop (at + length bytes) heap) more))

-- ---- copies and fills

pub length-copied : (to from len : ℕ) (heap : List ℕ) → length (copied to from len heap) ≡ length heap
unfolding copied
length-copied to from len heap = grind (arith, length-with_run)

pub length-filled : (at len byte : ℕ) (heap : List ℕ) → length (filled at len byte heap) ≡ length heap
unfolding filled
length-filled at len byte heap = length-with_run at (replicate len byte) heap

pub IsBytes-copied : (to from len : ℕ) (heap : List ℕ) → IsBytes heap → IsBytes (copied to from len heap)
unfolding copied
IsBytes-copied to from len heap all =
    elim (can_copy to from len heap) as (λ v. IsBytes (cond v (with_run to (take len (drop from heap)) heap) heap)) [
      | true ↦ IsBytes-with_run to (take len (drop from heap)) heap (All-take (λ b. b < 256) len (drop from heap) (All-drop (λ b. b < 256) from heap all)) all
      | false ↦ all
    ]

pub IsBytes-filled : (at len byte : ℕ) (heap : List ℕ) → byte < 256 → IsBytes heap → IsBytes (filled at len byte heap)
unfolding filled
IsBytes-filled at len byte heap small all = IsBytes-with_run at (replicate len byte) heap (All-replicate (λ b. b < 256) len byte small) all

-- ---- runs in parts

pub run_at-add : (at m n : ℕ) (heap low high : List ℕ) → run_at at m heap ≡ Some low → run_at (at + m) n heap ≡ Some high → run_at at (m + n) heap ≡ Some (low ++ high)
unfolding run_at
run_at-add at m n heap low high first second =
    let start : low ≡ take m (drop at heap) = grind arith in
    let rest : high ≡ take n (drop (at + m) heap) = grind arith in
    let within : at + m + n ≤ length heap = grind arith in
    let one : run_at at (m + n) heap ≡ Some (take (m + n) (drop at heap)) = run_at_within at (m + n) heap (omega arith) in
    one ∙ ap Some (rw (start, rest, ← drop-drop m at heap) (take-add m n (drop at heap)))

pub with_run-append_bytes : (at : ℕ) (low high heap : List ℕ) → at + (length low + length high) ≤ length heap → with_run at (low ++ high) heap ≡ with_run (at + length low) high (with_run at low heap)
with_run-append_bytes at low high heap within =
    let same_length = length-with_run at low heap in
    same_lists (with_run at (low ++ high) heap) (with_run (at + length low) high (with_run at low heap))
    (length-with_run at (low ++ high) heap ∙ sym (length-with_run (at + length low) high (with_run at low heap) ∙ length-with_run at low heap))
    (λ k d h.
    rw (with_run_within at (low ++ high) heap (simp length-append (omega arith)), with_run_within (at + length low) high (with_run at low heap) (omega arith), with_run_within at low heap (omega arith))
    (grind (arith, places)))

-- writes with no byte in common may be made in either order
pub with_run-with_run_apart : (at to : ℕ) (bytes more heap : List ℕ) → (at + length bytes ≤ to) ⊎ (to + length more ≤ at) → at + length bytes ≤ length heap → to + length more ≤ length heap → with_run at bytes (with_run to more heap) ≡ with_run to more (with_run at bytes heap)
with_run-with_run_apart at to bytes more heap apart one two =
    let first_length = length-with_run at bytes heap in
    let second_length = length-with_run to more heap in
    same_lists (with_run at bytes (with_run to more heap)) (with_run to more (with_run at bytes heap))
    (length-with_run at bytes (with_run to more heap) ∙ (second_length ∙ sym (length-with_run to more (with_run at bytes heap) ∙ first_length)))
    (λ k d h.
    rw (with_run_within at bytes (with_run to more heap) (omega arith), with_run_within to more (with_run at bytes heap) (omega arith), with_run_within at bytes heap one, with_run_within to more heap two)
    (grind (arith, places)))

-- ---- fills and copies, a byte at a time

pub with_run_none : (at : ℕ) (heap : List ℕ) → with_run at [] heap ≡ heap
with_run_none at heap =
    cases_within at 0 heap
    (λ within. rw (with_run_within at [] heap within, append-nil, add-zero) (take-append-drop at heap))
    (λ past. with_run_past at [] heap past)

pub filled_none : (at byte : ℕ) (heap : List ℕ) → filled at 0 byte heap ≡ heap
unfolding filled
filled_none at byte heap = with_run_none at heap

pub filled_more : (at len byte : ℕ) (heap : List ℕ) → at + (len + 1) ≤ length heap → filled at (len + 1) byte heap ≡ with_run (at + len) (byte ∷ []) (filled at len byte heap)
unfolding filled
filled_more at len byte heap within =
    let long = length-replicate len byte in
    rw (replicate_next len byte)
    (with_run-append_bytes at (replicate len byte) (byte ∷ []) heap (rw long within)
    ∙ ap (λ n. with_run (at + n) (byte ∷ []) (with_run at (replicate len byte) heap)) long)

pub copied_within : (to from len : ℕ) (heap : List ℕ) → to + len ≤ length heap → from + len ≤ length heap → copied to from len heap ≡ with_run to (take len (drop from heap)) heap
unfolding copied
copied_within to from len heap there here = grind arith

pub copied_none : (to from : ℕ) (heap : List ℕ) → copied to from 0 heap ≡ heap
unfolding copied
copied_none to from heap =
    elim (can_copy to from 0 heap) as (λ v. cond v (with_run to [] heap) heap ≡ heap) [ true ↦ with_run_none to heap | false ↦ refl ]

-- upwards, where the bytes are copied to places before them
pub copied_up_more : (to from len : ℕ) (heap : List ℕ) → to ≤ from → from + (len + 1) ≤ length heap → copied to from (len + 1) heap ≡ with_run (to + len) (get_or (copied to from len heap) (from + len) 0 ∷ []) (copied to from len heap)
copied_up_more to from len heap up here =
    let run = take len (drop from heap) in
    let byte = get_or heap (from + len) 0 in
    let long : length run ≡ len = simp (length-take, length-drop) (omega arith) in
    let so_far : copied to from len heap ≡ with_run to run heap = copied_within to from len heap (omega arith) (omega arith) in
    let left : length (drop from heap) ≡ length heap - from = length-drop from heap in
    let more : take (len + 1) (drop from heap) ≡ run ++ byte ∷ [] = take_more (drop from heap) len 0 (omega arith) ∙ ap (λ b. run ++ b ∷ []) (get_or-drop from heap len 0) in
    let stays : get_or (with_run to run heap) (from + len) 0 ≡ byte = get_or-with_run_apart to run heap (from + len) (inr (omega arith)) in
    rw (so_far, copied_within to from (len + 1) heap (omega arith) here, more, stays)
    (with_run-append_bytes to run (byte ∷ []) heap (omega arith) ∙ ap (λ n. with_run (to + n) (byte ∷ []) (with_run to run heap)) long)

-- downwards, where the bytes are copied to places after them
pub copied_down_more : (to from len : ℕ) (heap : List ℕ) → from ≤ to → to + (len + 1) ≤ length heap → copied to from (len + 1) heap ≡ with_run to (get_or (copied (to + 1) (from + 1) len heap) from 0 ∷ []) (copied (to + 1) (from + 1) len heap)
copied_down_more to from len heap down there =
    let run = take len (drop (from + 1) heap) in
    let byte = get_or heap from 0 in
    let long : length run ≡ len = simp (length-take, length-drop) (omega arith) in
    let so_far : copied (to + 1) (from + 1) len heap ≡ with_run (to + 1) run heap = copied_within (to + 1) (from + 1) len heap (omega arith) (omega arith) in
    let first : drop from heap ≡ byte ∷ drop (from + 1) heap = drop_more heap from 0 (omega arith) in
    let next : len + 1 ≡ suc len = add-one len in
    let more : take (len + 1) (drop from heap) ≡ byte ∷ run = rw (first, next) in
    let stays : get_or (with_run (to + 1) run heap) from 0 ≡ byte = get_or-with_run_apart (to + 1) run heap from (inl (omega arith)) in
    rw (so_far, copied_within to from (len + 1) heap there (omega arith), more, stays)
    (with_run-append_bytes to (byte ∷ []) run heap (omega arith)
    ∙ sym (with_run-with_run_apart to (to + 1) (byte ∷ []) run heap (inl (omega arith)) (omega arith) (omega arith)))
