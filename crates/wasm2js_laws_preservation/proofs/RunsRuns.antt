-- Runs of bytes that are filled and copied, some bytes at a time.
use Rattle.std.proofs.Common.{◌≡◌, ℕ, ◌+◌, ◌*◌, ◌/◌, ◌%◌, ◌<◌, ◌≤◌, List, [], ◌∷◌, ◌++◌, length, take, drop, replicate, take-add, ◌⊎◌, Some, sym, ap, ◌∙◌, subst, inl, inr, arith}
use Rattle.std.specs.Prelude.{bit_and}
use Rattle.std.proofs.lemmas.Nat.{and_mask}
use Rattle.std.proofs.lemmas.List.{length-take, length-drop, length-replicate, replicate-append-replicate, drop-drop}
use Rattle.std.proofs.lemmas.List.Elements.{All-take, All-drop}
use Rattle.sem_words.specs.Words.{mul_of}
use Rattle.heap_lang.specs.Numbers.{IsBytes, little_endian, bytes_of}
use Rattle.heap_lang.specs.Heap.{with_run, store_bytes, copied, filled}
use Rattle.heap_lang.proofs.NumberLemmas.{bytes_of-little_endian}
use Rattle.heap_lang.proofs.RunLemmas.{run_at_within, run_at-with_run_apart, with_run-append_bytes, with_run-with_run_apart, length-with_run, copied_within}
use Rattle.wasm2js_laws_preservation.proofs.LoadsNumbers.{number_of}

taken_is : (a b : List ℕ) → Some a ≡ Some b → a ≡ b
taken_is a b e = cc e

-- bytes that stand apart from a run that is written stay
stays : (at m to : ℕ) (run heap : List ℕ) → (at + m ≤ to) ⊎ (to + length run ≤ at) → at + m ≤ length heap → length (with_run to run heap) ≡ length heap
    → take m (drop at (with_run to run heap)) ≡ take m (drop at heap)
stays at m to run heap apart within long =
    taken_is _ _
    (sym (run_at_within at m (with_run to run heap) (subst (λ n. at + m ≤ n) (sym long) within)) ∙ run_at-with_run_apart at m to run heap apart ∙ run_at_within at m heap within)

-- ---- fills

pub filled_by : (at j m byte : ℕ) (heap : List ℕ) → at + (j + m) ≤ length heap → filled at (j + m) byte heap ≡ with_run (at + j) (replicate m byte) (filled at j byte heap)
unfolding filled
filled_by at j m byte heap within =
    let long = length-replicate j byte in
    let wide = length-replicate m byte in
    ap (λ bs. with_run at bs heap) (sym (replicate-append-replicate j m byte))
    ∙ with_run-append_bytes at (replicate j byte) (replicate m byte) heap (omega (arith, within, long, wide))
    ∙ ap (λ n. with_run (at + n) (replicate m byte) (with_run at (replicate j byte) heap)) long

pub byte_filled : (at j word : ℕ) (heap : List ℕ) → at + (j + 1) ≤ length heap → store_bytes (at + j) 1 word (filled at j (word % 256) heap) ≡ filled at (j + 1) (word % 256) heap
unfolding store_bytes
byte_filled at j word heap within = sym (filled_by at j 1 (word % 256) heap within)

four_alike : (a b c d e : ℕ) → a ≡ e → b ≡ e → c ≡ e → d ≡ e → a ∷ b ∷ c ∷ d ∷ [] ≡ e ∷ e ∷ e ∷ e ∷ []
four_alike a b c d e p q r s = cc (p, q, r, s)

-- four times the same byte
pub four_times_is : (word : ℕ) → mul_of 32 (bit_and word 255) 16843009 ≡ word % 256 * 16843009
four_times_is word =
    let low : bit_and word 255 ≡ word % 256 = and_mask word 8 in
    ap (λ b. mul_of 32 b 16843009) low ∙ omega arith

four_bytes : (byte : ℕ) → byte < 256 → bytes_of 4 (byte * 16843009) ≡ replicate 4 byte
four_bytes byte h =
    four_alike (byte * 16843009 % 256) (byte * 16843009 / 256 % 256) (byte * 16843009 / 256 / 256 % 256) (byte * 16843009 / 256 / 256 / 256 % 256) byte
    (omega (arith, h)) (omega (arith, h)) (omega (arith, h)) (omega (arith, h))

pub word_filled : (at j byte : ℕ) (heap : List ℕ) → byte < 256 → at + (j + 4) ≤ length heap → store_bytes (at + j) 4 (byte * 16843009) (filled at j byte heap) ≡ filled at (j + 4) byte heap
unfolding store_bytes
word_filled at j byte heap h within = ap (λ bs. with_run (at + j) bs (filled at j byte heap)) (four_bytes byte h) ∙ sym (filled_by at j 4 byte heap within)

-- ---- copies

stored_run : (at m : ℕ) (run heap : List ℕ) → length run ≡ m → IsBytes run → store_bytes at m (little_endian run) heap ≡ with_run at run heap
unfolding store_bytes
stored_run at m run heap long all =
    ap (λ k. with_run at (bytes_of k (little_endian run)) heap) (sym long) ∙ ap (λ bs. with_run at bs heap) (bytes_of-little_endian run all)

-- the bytes of a number that was read
pub number_stored : (to from m : ℕ) (heap : List ℕ) → IsBytes heap → from + m ≤ length heap → store_bytes to m (number_of m from heap) heap ≡ with_run to (take m (drop from heap)) heap
number_stored to from m heap all within =
    let long : length (take m (drop from heap)) ≡ m = simp (length-take, length-drop) (omega arith) in
    stored_run to m (take m (drop from heap)) heap long (All-take (λ b. b < 256) m (drop from heap) (All-drop (λ b. b < 256) from heap all))

-- a run in two parts
in_parts : (from j m : ℕ) (heap : List ℕ) → take (j + m) (drop from heap) ≡ take j (drop from heap) ++ take m (drop (from + j) heap)
in_parts from j m heap = take-add j m (drop from heap) ∙ ap (λ xs. take j (drop from heap) ++ take m xs) (drop-drop j from heap)

-- upwards, where the bytes are copied to places before them
pub copied_up_by : (to from j m : ℕ) (heap : List ℕ) → to ≤ from → from + (j + m) ≤ length heap
    → copied to from (j + m) heap ≡ with_run (to + j) (take m (drop (from + j) (copied to from j heap))) (copied to from j heap)
copied_up_by to from j m heap up here =
    let run = take j (drop from heap) in
    let more = take m (drop (from + j) heap) in
    let long : length run ≡ j = simp (length-take, length-drop) (omega arith) in
    let wide : length more ≡ m = simp (length-take, length-drop) (omega arith) in
    let so_far : copied to from j heap ≡ with_run to run heap = copied_within to from j heap (omega (arith, up, here)) (omega (arith, here)) in
    let same : take m (drop (from + j) (with_run to run heap)) ≡ more = stays (from + j) m to run heap (inr (omega (arith, up, long))) (omega (arith, here)) (length-with_run to run heap) in
    copied_within to from (j + m) heap (omega (arith, up, here)) here
    ∙ ap (λ bs. with_run to bs heap) (in_parts from j m heap)
    ∙ with_run-append_bytes to run more heap (omega (arith, up, here, long, wide))
    ∙ ap (λ n. with_run (to + n) more (with_run to run heap)) long
    ∙ ap (λ bs. with_run (to + j) bs (with_run to run heap)) (sym same)
    ∙ ap (λ h. with_run (to + j) (take m (drop (from + j) h)) h) (sym so_far)

-- downwards, where the bytes are copied to places after them
pub copied_down_by : (to from m j : ℕ) (heap : List ℕ) → from ≤ to → to + (m + j) ≤ length heap
    → copied to from (m + j) heap ≡ with_run to (take m (drop from (copied (to + m) (from + m) j heap))) (copied (to + m) (from + m) j heap)
copied_down_by to from m j heap down there =
    let first = take m (drop from heap) in
    let run = take j (drop (from + m) heap) in
    let long : length first ≡ m = simp (length-take, length-drop) (omega arith) in
    let wide : length run ≡ j = simp (length-take, length-drop) (omega arith) in
    let so_far : copied (to + m) (from + m) j heap ≡ with_run (to + m) run heap = copied_within (to + m) (from + m) j heap (omega (arith, there)) (omega (arith, down, there)) in
    let same : take m (drop from (with_run (to + m) run heap)) ≡ first = stays from m (to + m) run heap (inl (omega (arith, down))) (omega (arith, down, there)) (length-with_run (to + m) run heap) in
    copied_within to from (m + j) heap there (omega (arith, down, there))
    ∙ ap (λ bs. with_run to bs heap) (in_parts from m j heap)
    ∙ with_run-append_bytes to first run heap (omega (arith, there, long, wide))
    ∙ ap (λ n. with_run (to + n) run (with_run to first heap)) long
    ∙ with_run-with_run_apart (to + m) to run first heap (inr (omega (arith, long))) (omega (arith, there, wide)) (omega (arith, there, long))
    ∙ ap (λ bs. with_run to bs (with_run (to + m) run heap)) (sym same)
    ∙ ap (λ h. with_run to (take m (drop from h)) h) (sym so_far)
