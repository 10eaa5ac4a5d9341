-- The lengths of short heaps, one after another.
use Rattle.std.proofs.Common.{◌≡◌, ℕ, ◌+◌, ◌*◌, ◌/◌, ◌^◌, ◌<◌, ◌≤◌, true, false, List, [], ◌∷◌, length, get_or, drop, map, refl, ap, ◌∙◌, arith}
use Rattle.std.specs.Prelude.{nat_le, if◌then◌else◌}
use Rattle.std.proofs.lemmas.Bool.Decides.{nat_tests}
use Rattle.std.proofs.lemmas.List.{drop_more}
use Rattle.wasm2js_lang.specs.Heaps.{first_no_less, heap_for}

-- the first of these lengths that is no less, and past them the least multiple of 2 ^ 24
unfoldable pub first_length : List ℕ → ℕ → ℕ
first_length [] n = (n + 0xff_ffff) / 0x100_0000 * 0x100_0000
first_length (k ∷ ks) n = if nat_le n k then k else first_length ks n

by_exponents : (ks : List ℕ) (n : ℕ) → first_no_less ks n ≡ first_length (map (λ k. 2 ^ k) ks) n
unfolding first_length
by_exponents [] n = refl
by_exponents (k ∷ ks) n = ap (λ m. if nat_le n (2 ^ k) then 2 ^ k else m) (by_exponents ks n)

abbrev pub lengths : List ℕ
lengths = 0x1000 ∷ 0x2000 ∷ 0x4000 ∷ 0x8000 ∷ 0x1_0000 ∷ 0x2_0000 ∷ 0x4_0000 ∷ 0x8_0000 ∷ 0x10_0000 ∷ 0x20_0000 ∷ 0x40_0000 ∷ 0x80_0000 ∷ []

pub by_lengths : (pages : ℕ) → heap_for pages ≡ first_length lengths (pages * 65536)
unfolding heap_for
by_lengths pages = by_exponents (12 ∷ 13 ∷ 14 ∷ 15 ∷ 16 ∷ 17 ∷ 18 ∷ 19 ∷ 20 ∷ 21 ∷ 22 ∷ 23 ∷ []) (pages * 65536)

at_first : (k : ℕ) (ks : List ℕ) (n : ℕ) → n ≤ k → first_length (k ∷ ks) n ≡ k
unfolding first_length
at_first k ks n h = let e : nat_le n k ≡ true = grind (arith, nat_tests) in ap (λ b. if b then k else first_length ks n) e

after_first : (k : ℕ) (ks : List ℕ) (n : ℕ) → k < n → first_length (k ∷ ks) n ≡ first_length ks n
unfolding first_length
after_first k ks n h = let e : nat_le n k ≡ false = grind (arith, nat_tests) in ap (λ b. if b then k else first_length ks n) e

-- the length at a place is the first that is no less
pub no_less : (ks : List ℕ) (n i : ℕ) → i < length ks → n ≤ get_or ks i 0 → first_length (drop i ks) n ≡ get_or ks i 0
no_less ks n i h le = ap (λ xs. first_length xs n) (drop_more ks i 0 h) ∙ at_first (get_or ks i 0) (drop (i + 1) ks) n le

-- .. or it stands further on
pub further : (ks : List ℕ) (n i : ℕ) → i < length ks → get_or ks i 0 < n → first_length (drop i ks) n ≡ first_length (drop (i + 1) ks) n
further ks n i h lt = ap (λ xs. first_length xs n) (drop_more ks i 0 h) ∙ after_first (get_or ks i 0) (drop (i + 1) ks) n lt

pub past_all : (n : ℕ) → first_length [] n ≡ (n + 0xff_ffff) / 0x100_0000 * 0x100_0000
unfolding first_length
past_all n = refl
