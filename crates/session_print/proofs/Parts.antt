-- The lines of a heap, by parts of it.
use Rattle.std.proofs.Common.{◌≡◌, ◌∙◌, ◌<◌, ◌≤◌, ◌&&◌, ◌==◌, ℕ, zero, suc, ◌+◌, ◌-◌, ◌*◌, min, true, List, [], ◌∷◌, ◌++◌, length, take, drop, refl, sym, ap, arith, append_assoc}
use Rattle.std.specs.Int.{div_ceil}
use Rattle.std.specs.List.{flat_map, range_with_len}
use Rattle.std.proofs.Math.Seq.{take-add}
use Rattle.std.proofs.lemmas.Grind.{flat_map-append}
use Rattle.std.proofs.lemmas.Bool.{and_parts}
use Rattle.std.proofs.lemmas.List.{take_min, length-drop, drop-drop, append-nil, flat_map_more}
use Rattle.std.proofs.lemmas.List.Folds.{list_all-append}
use Rattle.script_lang.specs.Texts.{are_zero, bytes_line, sixteen, heap_line, heap_lines}
use Rattle.session_print.specs.Parts.{lines_between}

-- ---- ranges

range_split : (a m n : ℕ) → range_with_len a (m + n) ≡ range_with_len a m ++ range_with_len (a + m) n
range_split a zero n =
    let none : 0 + n ≡ n = omega arith in
    let same : a ≡ a + 0 = omega arith in
    ap (range_with_len a) none ∙ ap (λ k. range_with_len k n) same
range_split a (suc m) n =
    let more : suc m + n ≡ suc (m + n) = omega arith in
    let shifted : (a + 1) + m ≡ a + suc m = omega arith in
    ap (range_with_len a) more ∙ ap (λ r. a ∷ r) (range_split (a + 1) m n ∙ ap (λ k. range_with_len (a + 1) m ++ range_with_len k n) shifted)

between_split : (heap : List ℕ) (a m n : ℕ) → a ≤ m → m ≤ n → lines_between heap a n ≡ lines_between heap a m ++ lines_between heap m n
between_split heap a m n le more =
    let whole : n - a ≡ (m - a) + (n - m) = omega arith in
    let place : a + (m - a) ≡ m = omega arith in
    ap (λ k. flat_map (heap_line heap) (range_with_len a k)) whole
    ∙ ap (flat_map (heap_line heap)) (range_split a (m - a) (n - m))
    ∙ flat_map-append (heap_line heap) (range_with_len a (m - a)) (range_with_len (a + (m - a)) (n - m))
    ∙ ap (λ k. lines_between heap a m ++ flat_map (heap_line heap) (range_with_len k (n - m))) place

-- ---- one line

bytes_of_part : (heap : List ℕ) (n to : ℕ) → to ≡ min (length heap) (16 * n + 16) → take (to - 16 * n) (drop (16 * n) heap) ≡ sixteen heap n
bytes_of_part heap n to is =
    let long = length-drop (16 * n) heap in
    let short : to - 16 * n ≡ min 16 (length (drop (16 * n) heap)) = omega (arith, long, is) in
    ap (λ k. take k (drop (16 * n) heap)) short ∙ take_min 16 (drop (16 * n) heap)

pub next_part : (out heap : List ℕ) (first n to : ℕ) → first ≤ n → to ≡ min (length heap) (16 * n + 16)
    → (out ++ lines_between heap first n) ++ bytes_line (16 * n) (take (to - 16 * n) (drop (16 * n) heap)) ≡ out ++ lines_between heap first (n + 1)
next_part out heap first n to le is =
    let one : (n + 1) - first ≡ (n - first) + 1 = omega arith in
    let place : first + (n - first) ≡ n = omega arith in
    let lines = flat_map (heap_line heap) in
    ap (λ bs. (out ++ lines_between heap first n) ++ bytes_line (16 * n) bs) (bytes_of_part heap n to is)
    ∙ flat_map_more (heap_line heap) out (range_with_len first (n - first)) n
    ∙ ap (λ r. out ++ lines r) (sym (ap (range_with_len first) one ∙ range_split first (n - first) 1 ∙ ap (λ k. range_with_len first (n - first) ++ k ∷ []) place))

-- ---- a block

no_line : (at : ℕ) (bytes : List ℕ) → are_zero bytes ≡ true → bytes_line at bytes ≡ []
no_line at bytes e = rw e

no_lines : (heap : List ℕ) (c first : ℕ) → are_zero (take (16 * c) (drop (16 * first) heap)) ≡ true → flat_map (heap_line heap) (range_with_len first c) ≡ []
no_lines heap zero first e = refl
no_lines heap (suc c) first e =
    let rest = drop (16 * first) heap in
    let count : 16 * suc c ≡ 16 + 16 * c = omega arith in
    let place : 16 * first + 16 ≡ 16 * (first + 1) = omega arith in
    let both : (are_zero (take 16 rest) && are_zero (take (16 * c) (drop 16 rest))) ≡ true =
    sym (ap (λ k. are_zero (take k rest)) count ∙ ap are_zero (take-add 16 (16 * c) rest) ∙ list_all-append (λ b. b == 0) (take 16 rest) (take (16 * c) (drop 16 rest))) ∙ e in
    let later : are_zero (take (16 * c) (drop (16 * (first + 1)) heap)) ≡ true =
    ap (λ xs. are_zero (take (16 * c) xs)) (sym (drop-drop 16 (16 * first) heap ∙ ap (λ k. drop k heap) place)) ∙ (and_parts (are_zero (take 16 rest)) (are_zero (take (16 * c) (drop 16 rest))) both).1 in
    ap (λ bs. bs ++ flat_map (heap_line heap) (range_with_len (first + 1) c)) (no_line (16 * first) (take 16 rest) (and_parts (are_zero (take 16 rest)) (are_zero (take (16 * c) (drop 16 rest))) both).0)
    ∙ no_lines heap c (first + 1) later

pub blank_block : (out heap : List ℕ) (first end to : ℕ) → first < end → to ≡ min (length heap) (16 * end) → are_zero (take (to - 16 * first) (drop (16 * first) heap)) ≡ true
    → out ≡ out ++ lines_between heap first end
blank_block out heap first end to le is e =
    let rest = drop (16 * first) heap in
    let long = length-drop (16 * first) heap in
    let short : to - 16 * first ≡ min (16 * (end - first)) (length rest) = omega (arith, long, is) in
    let zeros : are_zero (take (16 * (end - first)) rest) ≡ true = sym (ap are_zero (ap (λ k. take k rest) short ∙ take_min (16 * (end - first)) rest)) ∙ e in
    sym (ap (λ lines. out ++ lines) (no_lines heap (end - first) first zeros) ∙ append-nil out)

-- ---- all blocks

pub next_block : (out heap : List ℕ) (lines block end : ℕ) → block < div_ceil lines 256 → end ≡ min lines (256 * block + 256)
    → (out ++ lines_between heap 0 (min lines (256 * block))) ++ lines_between heap (256 * block) end ≡ out ++ lines_between heap 0 (min lines (256 * (block + 1)))
next_block out heap lines block end lt is =
    let here : min lines (256 * block) ≡ 256 * block = omega arith in
    let there : end ≡ min lines (256 * (block + 1)) = omega arith in
    let ordered : 256 * block ≤ end = omega arith in
    ap (λ k. (out ++ lines_between heap 0 k) ++ lines_between heap (256 * block) end) here
    ∙ append_assoc out (lines_between heap 0 (256 * block)) (lines_between heap (256 * block) end)
    ∙ ap (λ ls. out ++ ls) (sym (between_split heap 0 (256 * block) end (omega arith) ordered))
    ∙ ap (λ k. out ++ lines_between heap 0 k) there

pub all_blocks : (out heap : List ℕ) (blocks : ℕ) → div_ceil (div_ceil (length heap) 16) 256 ≤ blocks
    → out ++ lines_between heap 0 (min (div_ceil (length heap) 16) (256 * blocks)) ≡ out ++ heap_lines heap
all_blocks out heap blocks le =
    let all : min (div_ceil (length heap) 16) (256 * blocks) ≡ div_ceil (length heap) 16 = omega arith in
    let from_0 : div_ceil (length heap) 16 - 0 ≡ div_ceil (length heap) 16 = omega arith in
    ap (λ k. out ++ lines_between heap 0 k) all ∙ ap (λ k. out ++ flat_map (heap_line heap) (range_with_len 0 k)) from_0

pub ruleset parts = (next_part, blank_block, next_block, all_blocks)
