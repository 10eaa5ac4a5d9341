-- The longest front that passes a test.
use Rattle.std.proofs.Common.{◌≡◌, ℕ, zero, suc, ◌+◌, ◌≤◌, ◌<◌, Bool, true, false, ◌&&◌, cond, List, [], ◌∷◌, length, take, refl, sym, ap, ◌∙◌, inl, inr, arith}
use Rattle.std.specs.List.{list_all, prefix_len}
use Rattle.std.proofs.lemmas.Bool.{cases_lt, both_ways}
use Rattle.asm_lang_tokens.specs.Text.{longest}

-- what passes, and is the longest that does
pub longest_is : (p : List ℕ → Bool) (bs : List ℕ) (m n : ℕ) → m ≤ n → (0 < m → p (take m bs) ≡ true) → ((k : ℕ) → m < k → k ≤ n → p (take k bs) ≡ false) → longest p bs n ≡ m
longest_is p bs m zero le here more = omega arith
longest_is p bs m (suc n) le here more =
    let P : Bool → Type 0 = λ t. p (take (suc n) bs) ≡ t → cond t (suc n) (longest p bs n) ≡ m in
    let both : P (p (take (suc n) bs)) = elim (p (take (suc n) bs)) as P [
      | true ↦ λ is. at_top p bs m n le is more
      | false ↦ λ is. longest_is p bs m n (below_top p bs m n le is here) here (λ k lt le2. more k lt (omega arith))
    ] in
    both refl
  where
    at_top : (p : List ℕ → Bool) (bs : List ℕ) (m n : ℕ) → m ≤ suc n → p (take (suc n) bs) ≡ true → ((k : ℕ) → m < k → k ≤ suc n → p (take k bs) ≡ false) → suc n ≡ m
    at_top p bs m n le is more = elim (cases_lt m (suc n)) [ inl lt ↦ absurd (both_ways _ (more (suc n) lt (omega arith)) is) | inr ge ↦ omega arith ]

    below_top : (p : List ℕ → Bool) (bs : List ℕ) (m n : ℕ) → m ≤ suc n → p (take (suc n) bs) ≡ false → (0 < m → p (take m bs) ≡ true) → m ≤ n
    below_top p bs m n le is here = elim (cases_lt n m) [ inl lt ↦ (let same : m ≡ suc n = omega arith in absurd (both_ways _ is (ap (λ k. p (take k bs)) (sym same) ∙ here (omega arith)))) | inr ge ↦ ge ]

-- ---- runs of bytes that pass

pub prefix_len-yes : (p : ℕ → Bool) (b : ℕ) (bs : List ℕ) → p b ≡ true → prefix_len p (b ∷ bs) ≡ suc (prefix_len p bs)
prefix_len-yes p b bs h = rw h (omega arith)

pub prefix_len-no : (p : ℕ → Bool) (b : ℕ) (bs : List ℕ) → p b ≡ false → prefix_len p (b ∷ bs) ≡ 0
prefix_len-no p b bs h = rw h refl

-- a front of the run passes
pub front_passes : (p : ℕ → Bool) (bs : List ℕ) (k : ℕ) → k ≤ prefix_len p bs → list_all p (take k bs) ≡ true
front_passes p [] zero le = refl
front_passes p [] (suc k) le = refl
front_passes p (b ∷ bs) zero le = refl
front_passes p (b ∷ bs) (suc k) le =
    let P : Bool → Type 0 = λ t. (suc k ≤ cond t (1 + prefix_len p bs) 0) → (t && list_all p (take k bs)) ≡ true in
    let both : P (p b) = elim (p b) as P [ true ↦ λ h. front_passes p bs k (omega arith) | false ↦ λ h. absurd (omega arith) ] in
    both le

-- and what is longer does not
pub longer_fails : (p : ℕ → Bool) (bs : List ℕ) (k : ℕ) → prefix_len p bs < k → k ≤ length bs → list_all p (take k bs) ≡ false
longer_fails p [] k lt le = absurd (omega arith)
longer_fails p (b ∷ bs) zero lt le = absurd (omega arith)
longer_fails p (b ∷ bs) (suc k) lt le =
    let P : Bool → Type 0 = λ t. (cond t (1 + prefix_len p bs) 0 < suc k) → (t && list_all p (take k bs)) ≡ false in
    let both : P (p b) = elim (p b) as P [ true ↦ λ h. longer_fails p bs k (omega arith) (omega arith) | false ↦ λ h. refl ] in
    both lt
