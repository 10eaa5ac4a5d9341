-- The ends of tokens, and when two tokens run together.
use Rattle.std.proofs.Common.{◌≡◌, ℕ, zero, suc, ◌-◌, ◌≤◌, true, false, ◌&&◌, not, List, [], ◌∷◌, ◌++◌, length, take, drop, Some, None, slice_get, ◌==◌, refl, sym, ap, subst, ◌∙◌, arith, length-take-le, eqb-true}
use Rattle.std.proofs.lemmas.Option.{slice_get-get_or}
use Rattle.std.proofs.lemmas.List.{take-append-drop}
use Rattle.asm_lang_tokens.specs.Bytes.{is_name_byte}
use Rattle.asm_lang_tokens.specs.Text.{token_len}
use Rattle.asm_lang.specs.Printing.{last_byte, first_byte, runs_together}

last_at : (xs : List ℕ) (n x : ℕ) → suc n ≡ length xs → Some x ≡ slice_get xs n → last_byte xs ≡ x
last_at [] n x len is = absurd (omega (arith, len))
last_at (b ∷ []) zero x len is = cc
last_at (b ∷ []) (suc n) x len is = absurd (omega (arith, len))
last_at (b ∷ c ∷ bs) zero x len is = absurd (omega (arith, len))
last_at (b ∷ c ∷ bs) (suc n) x len is = last_at (c ∷ bs) n x (omega (arith, len)) is

pub last_is : (xs : List ℕ) (x : ℕ) → Some x ≡ slice_get xs (length xs - 1) → is_name_byte x ≡ is_name_byte (last_byte xs)
last_is [] x is = absurd cc
last_is (b ∷ bs) x is =
    let n : length (b ∷ bs) - 1 ≡ length bs = omega arith in
    ap is_name_byte (sym (last_at (b ∷ bs) (length bs) x refl (is ∙ ap (slice_get (b ∷ bs)) n)))

pub last_none : (xs : List ℕ) → None ≡ slice_get xs (length xs - 1) → false ≡ is_name_byte (last_byte xs)
last_none [] is = refl
last_none (b ∷ bs) is = let some = slice_get-get_or (b ∷ bs) (length (b ∷ bs) - 1) 0 (omega arith) in absurd cc

pub ruleset ends = (last_is, last_none)

empty_first : (a b : List ℕ) → (length a == 0) ≡ true → false ≡ runs_together a b
empty_first [] b is = refl
empty_first (x ∷ xs) b is = absurd (omega (arith, eqb-true (length (x ∷ xs)) 0 is))

names_first : (a b : List ℕ) → (length a == 0) ≡ false → (is_name_byte (last_byte a) && is_name_byte (first_byte b)) ≡ true → true ≡ runs_together a b
names_first [] b some names = absurd cc
names_first (x ∷ xs) b some names = rw names refl

len_first : (a b : List ℕ) → (length a == 0) ≡ false → (is_name_byte (last_byte a) && is_name_byte (first_byte b)) ≡ false → not (token_len (a ++ b) == length a) ≡ runs_together a b
len_first [] b some names = absurd cc
len_first (x ∷ xs) b some names = rw names refl

-- a is the first n bytes of both, and b the others
pub together_empty : (both : List ℕ) (n : ℕ) (a : List ℕ) → a ≡ take n both → (length a == 0) ≡ true → false ≡ runs_together (take n both) (drop n both)
together_empty both n a e is = subst (λ (x : List ℕ). false ≡ runs_together x (drop n both)) e (empty_first a (drop n both) is)

pub together_names : (both : List ℕ) (n : ℕ) (a b : List ℕ) → a ≡ take n both → b ≡ drop n both → (length a == 0) ≡ false → (is_name_byte (last_byte a) && is_name_byte (first_byte b)) ≡ true → true ≡ runs_together (take n both) (drop n both)
together_names both n a b e f some names = names_first a b some names ∙ (ap (λ (x : List ℕ). runs_together x b) e ∙ ap (runs_together (take n both)) f)

pub together_len : (both : List ℕ) (n : ℕ) (a b : List ℕ) → n ≤ length both → a ≡ take n both → b ≡ drop n both → (length a == 0) ≡ false → (is_name_byte (last_byte a) && is_name_byte (first_byte b)) ≡ false
    → not (token_len both == n) ≡ runs_together (take n both) (drop n both)
together_len both n a b le e f some names =
    let whole : a ++ b ≡ both = ap (λ (x : List ℕ). x ++ b) e ∙ (ap (λ (y : List ℕ). take n both ++ y) f ∙ take-append-drop n both) in
    let len : length a ≡ n = ap length e ∙ length-take-le n both le in
    ap (λ (x : List ℕ). not (token_len x == n)) (sym whole) ∙ (ap (λ (i : ℕ). not (token_len (a ++ b) == i)) (sym len)
    ∙ (len_first a b some names ∙ (ap (λ (x : List ℕ). runs_together x b) e ∙ ap (runs_together (take n both)) f)))
