-- Block comments, pair by pair.
use Rattle.std.proofs.Common.{◌≡◌, ℕ, zero, suc, ◌+◌, ◌<◌, ◌≤◌, List, [], ◌∷◌, length, get_or, drop, Option, Some, None, refl, sym, ap, ◌∙◌, arith, drop-cons}
use Rattle.wat_lang.specs.Tokens.{Pair, comment_opens, comment_closes, neither, pair_of, comment_rest}

abbrev step : ℕ → ℕ → List ℕ → Pair → Option (List ℕ)
step n b bs p = elim p [ comment_opens ↦ comment_rest (suc n) bs | comment_closes ↦ elim n [ zero ↦ Some bs | suc m ↦ comment_rest m bs ] | neither ↦ comment_rest n (b ∷ bs) ]

opens_eq : (n a b : ℕ) (bs : List ℕ) → pair_of a b ≡ comment_opens → comment_rest n (a ∷ b ∷ bs) ≡ comment_rest (suc n) bs
opens_eq n a b bs e = ap (step n b bs) e

last_eq : (a b : ℕ) (bs : List ℕ) → pair_of a b ≡ comment_closes → comment_rest 0 (a ∷ b ∷ bs) ≡ Some bs
last_eq a b bs e = ap (step 0 b bs) e

closes_eq : (n a b : ℕ) (bs : List ℕ) → pair_of a b ≡ comment_closes → comment_rest (suc n) (a ∷ b ∷ bs) ≡ comment_rest n bs
closes_eq n a b bs e = ap (step (suc n) b bs) e

neither_eq : (n a b : ℕ) (bs : List ℕ) → pair_of a b ≡ neither → comment_rest n (a ∷ b ∷ bs) ≡ comment_rest n (b ∷ bs)
neither_eq n a b bs e = ap (step n b bs) e

one_front : (s : List ℕ) (n : ℕ) → n < length s → drop n s ≡ get_or s n 0 ∷ drop (n + 1) s
one_front s n lt = let next : suc n ≡ n + 1 = omega arith in drop-cons s n 0 lt ∙ ap (λ j. get_or s n 0 ∷ drop j s) next

two_front : (s : List ℕ) (n : ℕ) → n + 1 < length s → drop n s ≡ get_or s n 0 ∷ get_or s (n + 1) 0 ∷ drop (n + 2) s
two_front s n lt =
    let next : (n + 1) + 1 ≡ n + 2 = omega arith in
    one_front s n (omega arith) ∙ ap (λ (bs : List ℕ). get_or s n 0 ∷ bs) (one_front s (n + 1) lt ∙ ap (λ j. get_or s (n + 1) 0 ∷ drop j s) next)

pub after_opens : (s : List ℕ) (n k m : ℕ) → n + 1 < length s → comment_opens ≡ pair_of (get_or s n 0) (get_or s (n + 1) 0) → m ≡ k + 1
    → comment_rest m (drop (n + 2) s) ≡ comment_rest k (drop n s)
after_opens s n k m lt e is =
    let more : m ≡ suc k = omega (arith, is) in
    ap (λ j. comment_rest j (drop (n + 2) s)) more ∙ sym (ap (comment_rest k) (two_front s n lt) ∙ opens_eq k (get_or s n 0) (get_or s (n + 1) 0) (drop (n + 2) s) (sym e))

pub after_closes : (s : List ℕ) (n k m : ℕ) → n + 1 < length s → comment_closes ≡ pair_of (get_or s n 0) (get_or s (n + 1) 0) → m + 1 ≡ k
    → comment_rest m (drop (n + 2) s) ≡ comment_rest k (drop n s)
after_closes s n k m lt e is =
    let more : suc m ≡ k = omega (arith, is) in
    sym (ap (λ j. comment_rest j (drop n s)) (sym more) ∙ (ap (comment_rest (suc m)) (two_front s n lt) ∙ closes_eq m (get_or s n 0) (get_or s (n + 1) 0) (drop (n + 2) s) (sym e)))

pub at_last : (s : List ℕ) (n k : ℕ) → n + 1 < length s → comment_closes ≡ pair_of (get_or s n 0) (get_or s (n + 1) 0) → k ≡ 0
    → comment_rest k (drop n s) ≡ Some (drop (n + 2) s)
at_last s n k lt e is =
    ap (λ j. comment_rest j (drop n s)) is ∙ (ap (comment_rest 0) (two_front s n lt) ∙ last_eq (get_or s n 0) (get_or s (n + 1) 0) (drop (n + 2) s) (sym e))

pub after_neither : (s : List ℕ) (n k : ℕ) → n + 1 < length s → neither ≡ pair_of (get_or s n 0) (get_or s (n + 1) 0)
    → comment_rest k (drop (n + 1) s) ≡ comment_rest k (drop n s)
after_neither s n k lt e =
    let next : (n + 1) + 1 ≡ n + 2 = omega arith in
    let here : drop (n + 1) s ≡ get_or s (n + 1) 0 ∷ drop (n + 2) s = one_front s (n + 1) lt ∙ ap (λ j. get_or s (n + 1) 0 ∷ drop j s) next in
    ap (comment_rest k) here ∙ sym (ap (comment_rest k) (two_front s n lt) ∙ neither_eq k (get_or s n 0) (get_or s (n + 1) 0) (drop (n + 2) s) (sym e))

short : (k : ℕ) (bs : List ℕ) → length bs < 2 → comment_rest k bs ≡ None
short k [] lt = refl
short k (a ∷ []) lt = refl
short k (a ∷ b ∷ bs) lt = absurd (omega arith)

pub at_the_end : (s : List ℕ) (n k : ℕ) → length (drop n s) < 2 → comment_rest k (drop n s) ≡ comment_rest 0 s → comment_rest 0 s ≡ None
at_the_end s n k lt e = sym e ∙ short k (drop n s) lt

pub ruleset pairs = (after_opens, after_closes, at_last, after_neither, at_the_end)

-- ---- what follows a comment isn't longer

pub rest_len : (n : ℕ) (bs rest : List ℕ) → comment_rest n bs ≡ Some rest → length rest ≤ length bs
rest_len n [] rest e = absurd cc
rest_len n (a ∷ []) rest e = absurd cc
rest_len n (a ∷ b ∷ bs) rest e = by (λ m. rest_len m bs rest) (λ m. rest_len m (b ∷ bs) rest) n e (pair_of a b) refl
  where
    by : ((m : ℕ) → comment_rest m bs ≡ Some rest → length rest ≤ length bs) → ((m : ℕ) → comment_rest m (b ∷ bs) ≡ Some rest → length rest ≤ length (b ∷ bs))
        → (k : ℕ) → comment_rest k (a ∷ b ∷ bs) ≡ Some rest → (p : Pair) → pair_of a b ≡ p → length rest ≤ length (a ∷ b ∷ bs)
    by far near k e comment_opens q = let le = far (suc k) (sym (opens_eq k a b bs q) ∙ e) in omega (arith, le)
    by far near zero e comment_closes q = let is : Some bs ≡ Some rest = sym (last_eq a b bs q) ∙ e in let same : bs ≡ rest = cc in let len = ap length same in omega (arith, len)
    by far near (suc k) e comment_closes q = let le = far k (sym (closes_eq k a b bs q) ∙ e) in omega (arith, le)
    by far near k e neither q = let le = near k (sym (neither_eq k a b bs q) ∙ e) in omega (arith, le)
