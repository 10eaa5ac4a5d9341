-- Numbers and runs of bytes that are read and written a word at a time.
use Rattle.std.proofs.Common.{◌≡◌, sym, ap, subst, ◌∙◌, ◌⊎◌, inl, inr, ℕ, zero, suc, ◌+◌, ◌-◌, ◌*◌, ◌/◌, ◌%◌, ◌^◌, ◌<◌, ◌≤◌, List, [], ◌∷◌, ◌++◌, length, take, drop, replicate, take-add, arith, w8, w16, w32}
use Rattle.std.specs.Prelude.{Some}
use Rattle.std.specs.Int.{from_le_bytes, to_le_bytes}
use Rattle.std.proofs.lemmas.List.{length-take, length-drop, drop-drop, length-replicate}
use Rattle.heap_lang.specs.Numbers.{little_endian, bytes_of}
use Rattle.heap_lang.specs.Heap.{run_at, with_run, store_bytes, copied, filled}
use Rattle.heap_lang.proofs.NumberLemmas.{bytes_of-mod, little_endian-append}
use Rattle.heap_lang.proofs.RunLemmas.{run_at_within, run_at-with_run_apart, length-with_run, length-copied, with_run-append_bytes, with_run-with_run_apart, copied_within}
use Rattle.heap_lang.proofs.HeapLemmas.{store_bytes-add}
use Rattle.heap_views.specs.declared.block.Block.{Block}
use Rattle.heap_views.specs.Block.{IsBlock, Becomes}

-- ---- numbers

pub number_1 : (bs : List ℕ) (n : ℕ) → length bs ≡ 1 → n ≡ from_le_bytes w8 bs → n ≡ little_endian bs
number_1 (a ∷ []) n long is = omega arith
number_1 [] n long is = absurd (cc)
number_1 (a ∷ b ∷ bs) n long is = absurd (omega arith)

pub number_2 : (bs : List ℕ) (n : ℕ) → length bs ≡ 2 → n ≡ from_le_bytes w16 bs → n ≡ little_endian bs
number_2 (a ∷ b ∷ []) n long is = omega arith
number_2 [] n long is = absurd (cc)
number_2 (a ∷ []) n long is = absurd (omega arith)
number_2 (a ∷ b ∷ c ∷ bs) n long is = absurd (omega arith)

pub number_4 : (bs : List ℕ) (n : ℕ) → length bs ≡ 4 → n ≡ from_le_bytes w32 bs → n ≡ little_endian bs
number_4 (a ∷ b ∷ c ∷ d ∷ []) n long is = omega arith
number_4 [] n long is = absurd (cc)
number_4 (a ∷ []) n long is = absurd (omega arith)
number_4 (a ∷ b ∷ []) n long is = absurd (omega arith)
number_4 (a ∷ b ∷ c ∷ []) n long is = absurd (omega arith)
number_4 (a ∷ b ∷ c ∷ d ∷ e ∷ bs) n long is = absurd (omega arith)

pub run_length : (size at : ℕ) (heap : List ℕ) → at + size ≤ length heap → length (take size (drop at heap)) ≡ size
run_length size at heap within = omega (arith, within, length-take size (drop at heap), length-drop at heap)

pub number_8 : (at low high n : ℕ) (heap : List ℕ) → at + 8 ≤ length heap → low ≡ little_endian (take 4 (drop at heap)) → high ≡ little_endian (take 4 (drop (at + 4) heap)) → n ≡ low + high * 4294967296
    → n ≡ little_endian (take 8 (drop at heap))
number_8 at low high n heap within is_low is_high is =
    let first = take 4 (drop at heap) in let second = take 4 (drop (at + 4) heap) in
    let long : length first ≡ 4 = run_length 4 at heap (omega (arith, within)) in
    let both : take 8 (drop at heap) ≡ first ++ second = take-add 4 4 (drop at heap) ∙ ap (λ l. first ++ take 4 l) (drop-drop 4 at heap) in
    let value : little_endian (first ++ second) ≡ little_endian first + 4294967296 * little_endian second = subst (λ k. little_endian (first ++ second) ≡ little_endian first + 256 ^ k * little_endian second) long (little_endian-append first second) in
    omega (arith, is, is_low, is_high, value, ap little_endian both)

bytes_1 : (word : ℕ) → to_le_bytes w8 (word % 256) ≡ bytes_of 1 word
bytes_1 word = bytes_of-mod 1 word

bytes_2 : (word : ℕ) → to_le_bytes w16 (word % 65536) ≡ bytes_of 2 word
bytes_2 word =
    let n = word % 65536 in
    bytes_of-mod 2 word

to_le_4 : (n : ℕ) → to_le_bytes w32 n ≡ bytes_of 4 n
to_le_4 n =
    let second : n / 65536 % 256 ≡ n / 256 / 256 % 256 = omega arith in
    let third : n / 16777216 % 256 ≡ n / 256 / 256 / 256 % 256 = omega arith in
    λ i. (n % 256) ∷ (n / 256 % 256) ∷ second i ∷ third i ∷ []

bytes_4 : (word : ℕ) → to_le_bytes w32 (word % 4294967296) ≡ bytes_of 4 word
bytes_4 word = to_le_4 (word % 4294967296) ∙ bytes_of-mod 4 word

pub stored_1 : (at word : ℕ) (bs heap : List ℕ) → bs ≡ to_le_bytes w8 (word % 256) → with_run at bs heap ≡ store_bytes at 1 word heap
unfolding store_bytes
stored_1 at word bs heap is = ap (λ b. with_run at b heap) (is ∙ bytes_1 word)

pub stored_2 : (at word : ℕ) (bs heap : List ℕ) → bs ≡ to_le_bytes w16 (word % 65536) → with_run at bs heap ≡ store_bytes at 2 word heap
unfolding store_bytes
stored_2 at word bs heap is = ap (λ b. with_run at b heap) (is ∙ bytes_2 word)

pub stored_4 : (at word : ℕ) (bs heap : List ℕ) → bs ≡ to_le_bytes w32 (word % 4294967296) → with_run at bs heap ≡ store_bytes at 4 word heap
unfolding store_bytes
stored_4 at word bs heap is = ap (λ b. with_run at b heap) (is ∙ bytes_4 word)

pub stored_8 : (at word : ℕ) (low high heap : List ℕ) → at + 8 ≤ length heap → low ≡ to_le_bytes w32 (word % 4294967296) → high ≡ to_le_bytes w32 (word / 4294967296 % 4294967296)
    → with_run (at + 4) high (with_run at low heap) ≡ store_bytes at 8 word heap
stored_8 at word low high heap within is_low is_high =
    ap (λ h. with_run (at + 4) high h) (stored_4 at word low heap is_low) ∙ stored_4 (at + 4) (word / 4294967296) high (store_bytes at 4 word heap) is_high ∙ sym (store_bytes-add at 4 4 word heap within)

-- ---- runs, a part after another

pub put_by : (at done n : ℕ) (bytes heap : List ℕ) → done + n ≤ length bytes → at + length bytes ≤ length heap
    → with_run (at + done) (take n (drop done bytes)) (with_run at (take done bytes) heap) ≡ with_run at (take (done + n) bytes) heap
put_by at done n bytes heap part within =
    let low = take done bytes in let high = take n (drop done bytes) in
    let long : length low ≡ done = omega (arith, part, length-take done bytes) in
    let more : length high ≡ n = run_length n done bytes part in
    let all : with_run at (low ++ high) heap ≡ with_run (at + length low) high (with_run at low heap) = with_run-append_bytes at low high heap (omega (arith, long, more, part, within)) in
    sym (ap (λ l. with_run at l heap) (take-add done n bytes) ∙ all ∙ ap (λ k. with_run (at + k) high (with_run at low heap)) long)

replicate-add : {X : Type 0} (m n : ℕ) (x : X) → replicate (m + n) x ≡ replicate m x ++ replicate n x
replicate-add zero n x = let same : 0 + n ≡ n = omega arith in ap (λ k. replicate k x) same
replicate-add (suc m) n x = let next : suc m + n ≡ suc (m + n) = omega arith in ap (λ k. replicate k x) next ∙ ap (λ l. x ∷ l) (replicate-add m n x)

pub filled_by : (at done n byte : ℕ) (heap : List ℕ) → at + (done + n) ≤ length heap → with_run (at + done) (replicate n byte) (filled at done byte heap) ≡ filled at (done + n) byte heap
unfolding filled
filled_by at done n byte heap within =
    let long : length (replicate done byte) ≡ done = length-replicate done byte in
    let more : length (replicate n byte) ≡ n = length-replicate n byte in
    let all = with_run-append_bytes at (replicate done byte) (replicate n byte) heap (omega (arith, long, more, within)) in
    sym (ap (λ l. with_run at l heap) (replicate-add done n byte) ∙ all ∙ ap (λ k. with_run (at + k) (replicate n byte) (with_run at (replicate done byte) heap)) long)

-- a run that doesn't meet the one that was written is as before
still : (at len to : ℕ) (bytes heap : List ℕ) → at + len ≤ length heap → (at + len ≤ to) ⊎ (to + length bytes ≤ at) → take len (drop at (with_run to bytes heap)) ≡ take len (drop at heap)
still at len to bytes heap within apart =
    let same : run_at at len (with_run to bytes heap) ≡ run_at at len heap = run_at-with_run_apart at len to bytes heap apart in
    let before : run_at at len heap ≡ Some (take len (drop at heap)) = run_at_within at len heap within in
    let later : run_at at len (with_run to bytes heap) ≡ Some (take len (drop at (with_run to bytes heap))) = run_at_within at len (with_run to bytes heap) (omega (arith, within, length-with_run to bytes heap)) in
    cc

pub copied_up_by : (to from done n : ℕ) (heap : List ℕ) → to ≤ from → from + (done + n) ≤ length heap
    → with_run (to + done) (take n (drop (from + done) (copied to from done heap))) (copied to from done heap) ≡ copied to from (done + n) heap
copied_up_by to from done n heap up within =
    let low = take done (drop from heap) in let high = take n (drop (from + done) heap) in
    let long : length low ≡ done = run_length done from heap (omega (arith, within)) in
    let more : length high ≡ n = run_length n (from + done) heap (omega (arith, within)) in
    let so_far : copied to from done heap ≡ with_run to low heap = copied_within to from done heap (omega (arith, within, up)) (omega (arith, within)) in
    let both : take (done + n) (drop from heap) ≡ low ++ high = take-add done n (drop from heap) ∙ ap (λ l. low ++ take n l) (drop-drop done from heap) in
    let stays : take n (drop (from + done) (with_run to low heap)) ≡ high = still (from + done) n to low heap (omega (arith, within)) (inr (omega (arith, long, up))) in
    let all : with_run to (low ++ high) heap ≡ with_run (to + length low) high (with_run to low heap) = with_run-append_bytes to low high heap (omega (arith, long, more, within, up)) in
    ap (λ h. with_run (to + done) (take n (drop (from + done) h)) h) so_far ∙ ap (λ l. with_run (to + done) l (with_run to low heap)) stays
    ∙ sym (copied_within to from (done + n) heap (omega (arith, within, up)) within ∙ ap (λ l. with_run to l heap) both ∙ all ∙ ap (λ k. with_run (to + k) high (with_run to low heap)) long)

-- `left` bytes are left, of which the last n are copied next
pub copied_down_by : (to from left n rest : ℕ) (heap : List ℕ) → from ≤ to → to + (left + n + rest) ≤ length heap
    → with_run (to + left) (take n (drop (from + left) (copied (to + (left + n)) (from + (left + n)) rest heap))) (copied (to + (left + n)) (from + (left + n)) rest heap) ≡ copied (to + left) (from + left) (n + rest) heap
copied_down_by to from left n rest heap down within =
    let t = to + left in let f = from + left in
    let there : to + (left + n) ≡ t + n = omega arith in let here : from + (left + n) ≡ f + n = omega arith in
    let low = take n (drop f heap) in let high = take rest (drop (f + n) heap) in
    let long : length low ≡ n = run_length n f heap (omega (arith, within, down)) in
    let more : length high ≡ rest = run_length rest (f + n) heap (omega (arith, within, down)) in
    let so_far : copied (to + (left + n)) (from + (left + n)) rest heap ≡ with_run (t + n) high heap = (λ i. copied (there i) (here i) rest heap) ∙ copied_within (t + n) (f + n) rest heap (omega (arith, within)) (omega (arith, within, down)) in
    let both : take (n + rest) (drop f heap) ≡ low ++ high = take-add n rest (drop f heap) ∙ ap (λ l. low ++ take rest l) (drop-drop n f heap) in
    let stays : take n (drop f (with_run (t + n) high heap)) ≡ low = still f n (t + n) high heap (omega (arith, within, down)) (inl (omega (arith, down))) in
    let all : with_run t (low ++ high) heap ≡ with_run (t + length low) high (with_run t low heap) = with_run-append_bytes t low high heap (omega (arith, long, more, within)) in
    let swapped : with_run t low (with_run (t + n) high heap) ≡ with_run (t + n) high (with_run t low heap) = with_run-with_run_apart t (t + n) low high heap (inl (omega (arith, long))) (omega (arith, long, within)) (omega (arith, more, within)) in
    ap (λ h. with_run t (take n (drop f h)) h) so_far ∙ ap (λ l. with_run t l (with_run (t + n) high heap)) stays ∙ swapped
    ∙ sym (copied_within t f (n + rest) heap (omega (arith, within)) (omega (arith, within, down)) ∙ ap (λ l. with_run t l heap) both ∙ all ∙ ap (λ k. with_run (t + k) high (with_run t low heap)) long)

-- after the first `done` bytes, the next n
pub copied_up_on : (to from done n : ℕ) (heap : List ℕ) → to ≤ from → from + (done + n) ≤ length heap → copied (to + done) (from + done) n (copied to from done heap) ≡ copied to from (done + n) heap
copied_up_on to from done n heap up within =
    let long : length (copied to from done heap) ≡ length heap = length-copied to from done heap in
    copied_within (to + done) (from + done) n (copied to from done heap) (omega (arith, long, within, up)) (omega (arith, long, within)) ∙ copied_up_by to from done n heap up within

-- of `len` bytes `more` are left, and then `left`
pub copied_down_on : (to from left more len : ℕ) (heap : List ℕ) → from ≤ to → left ≤ more → more ≤ len → to + len ≤ length heap
    → copied (to + left) (from + left) (more - left) (copied (to + more) (from + more) (len - more) heap) ≡ copied (to + left) (from + left) (len - left) heap
copied_down_on to from left more len heap down few within fits =
    let n = more - left in let rest = len - more in let t = to + left in let f = from + left in
    let back : more ≡ left + n = omega (arith, few) in let sum : n + rest ≡ len - left = omega (arith, few, within) in
    let there = to + (left + n) in let here = from + (left + n) in
    let long : length (copied there here rest heap) ≡ length heap = length-copied there here rest heap in
    let all : to + (left + n + rest) ≤ length heap = omega (arith, few, within, fits) in
    ap (λ k. copied t f n (copied (to + k) (from + k) rest heap)) back
    ∙ copied_within t f n (copied there here rest heap) (omega (arith, long, all)) (omega (arith, long, all, down))
    ∙ copied_down_by to from left n rest heap down all ∙ ap (λ k. copied t f k heap) sum

pub filled_on : (at done n byte : ℕ) (heap : List ℕ) → at + (done + n) ≤ length heap → filled (at + done) n byte (filled at done byte heap) ≡ filled at (done + n) byte heap
unfolding filled
filled_on at done n byte heap within = filled_by at done n byte heap within

pub length_with_run : (at : ℕ) (bytes heap : List ℕ) → length (with_run at bytes heap) ≡ length heap
length_with_run at bytes heap = length-with_run at bytes heap

-- ---- a block after one change, and after another
pub unchanged : (block : Block) (bytes : List ℕ) → IsBlock block → bytes ≡ block.cells.bytes → Becomes block block bytes
unchanged block bytes is same = (is, sym same, ap length same)

pub chained : (first mid last : Block) (xs ys zs : List ℕ) → Becomes first mid xs → Becomes mid last ys → ys ≡ zs → Becomes first last zs
chained first mid last xs ys zs a b same = (b.0, b.1 ∙ same, ap length (sym same) ∙ b.2 ∙ ap length a.1 ∙ a.2)

pub below_1 : (n size : ℕ) → size ≡ 1 → n < 2 ^ 8 → n < 256 ^ size
below_1 n size is small = subst (λ k. n < 256 ^ k) (sym is) small

pub below_2 : (n size : ℕ) → size ≡ 2 → n < 2 ^ 16 → n < 256 ^ size
below_2 n size is small = subst (λ k. n < 256 ^ k) (sym is) small

pub below_4 : (n size : ℕ) → size ≡ 4 → n < 2 ^ 32 → n < 256 ^ size
below_4 n size is small = subst (λ k. n < 256 ^ k) (sym is) small

pub below_8 : (n size : ℕ) → size ≡ 8 → n < 2 ^ 64 → n < 256 ^ size
below_8 n size is small = subst (λ k. n < 256 ^ k) (sym is) small
