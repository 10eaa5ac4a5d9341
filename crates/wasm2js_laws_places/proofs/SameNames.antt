-- A test tells names apart: by letters and numbers, and by the ranks of those that are fixed.
use Rattle.std.proofs.Common.{◌≡◌, ℕ, Bool, true, false, ◌&&◌, List, [], ◌∷◌, Option, Some, None, refl, sym, ap, ◌∙◌, subst}
use Rattle.std.specs.Prelude.{if◌then◌else◌, ◌==◌}
use Rattle.std.proofs.lemmas.Bool.{and_parts}
use Rattle.std.proofs.lemmas.Bool.Decides.{Decides-eqb}
use Rattle.wasm2js_translation.specs.Names.{Fixed, view_of_bytes, view_of_signed_bytes, view_of_words, imul, clz32, trap, high, spare_high, result_high, shift_left, shift_right_signed, shift_right, rotate_left, leading_zeros, trailing_zeros, set_bits, divide_signed, divide, remainder_signed, remainder, load_32, load_64, store_32, store_64, copy, fill, data_words, data_zeros, init, last_high, Name, numbered, fixed, letter, numeral, fixed_rank, same_fixed, same_name}
use Rattle.wasm2js_translation.proofs.Spelling.{spellings_differ}

abbrev all_fixed : List Fixed
all_fixed =
    view_of_bytes ∷ view_of_signed_bytes ∷ view_of_words ∷ imul ∷ clz32 ∷ trap ∷ high ∷ spare_high ∷ result_high ∷ shift_left ∷ shift_right_signed ∷ shift_right ∷ rotate_left
    ∷ leading_zeros ∷ trailing_zeros ∷ set_bits ∷ divide_signed ∷ divide ∷ remainder_signed ∷ remainder ∷ load_32 ∷ load_64 ∷ store_32 ∷ store_64 ∷ copy ∷ fill ∷ data_words ∷ data_zeros ∷ init ∷ last_high ∷ []

abbrev ranked : List Fixed → (group place : ℕ) → Option Fixed
ranked [] g p = None
ranked (f ∷ fs) g p = if ((fixed_rank f).group == g) && ((fixed_rank f).place == p) then Some f else ranked fs g p

found : (f : Fixed) → ranked all_fixed (fixed_rank f).group (fixed_rank f).place ≡ Some f
found view_of_bytes = refl
found view_of_signed_bytes = refl
found view_of_words = refl
found imul = refl
found clz32 = refl
found trap = refl
found high = refl
found spare_high = refl
found result_high = refl
found shift_left = refl
found shift_right_signed = refl
found shift_right = refl
found rotate_left = refl
found leading_zeros = refl
found trailing_zeros = refl
found set_bits = refl
found divide_signed = refl
found divide = refl
found remainder_signed = refl
found remainder = refl
found load_32 = refl
found load_64 = refl
found store_32 = refl
found store_64 = refl
found copy = refl
found fill = refl
found data_words = refl
found data_zeros = refl
found init = refl
found last_high = refl

fixed_is : (f g : Fixed) → same_fixed f g ≡ true → f ≡ g
fixed_is f g h =
    let parts = and_parts ((fixed_rank f).group == (fixed_rank g).group) ((fixed_rank f).place == (fixed_rank g).place) h in
    let a = (Decides-eqb (fixed_rank f).group (fixed_rank g).group).0 parts.0 in
    let b = (Decides-eqb (fixed_rank f).place (fixed_rank g).place).0 parts.1 in
    let e : Some f ≡ Some g = sym (found f) ∙ ap (λ x. ranked all_fixed x (fixed_rank f).place) a ∙ ap (ranked all_fixed (fixed_rank g).group) b ∙ found g in
    cc e

equal_number : (n : ℕ) → (n == n) ≡ true
equal_number n = (Decides-eqb n n).1 refl

both_true : (x y : Bool) → x ≡ true → y ≡ true → (x && y) ≡ true
both_true x y e f = cc (e, f)

pub same_itself : (n : Name) → same_name n n ≡ true
same_itself (numbered k n) = both_true (letter k == letter k) (n == n) (equal_number (letter k)) (equal_number n)
same_itself (fixed f) =
    both_true ((fixed_rank f).group == (fixed_rank f).group) ((fixed_rank f).place == (fixed_rank f).place) (equal_number (fixed_rank f).group) (equal_number (fixed_rank f).place)

pub same_is : (n m : Name) → same_name n m ≡ true → n ≡ m
same_is (numbered k n) (numbered l m) h =
    let parts = and_parts (letter k == letter l) (n == m) h in
    let a = (Decides-eqb (letter k) (letter l)).0 parts.0 in
    let b = (Decides-eqb n m).0 parts.1 in
    spellings_differ (numbered k n) (numbered l m) (ap (λ x. x ∷ numeral n) a ∙ ap (λ x. letter l ∷ numeral x) b)
same_is (numbered k n) (fixed g) h = absurd (cc h)
same_is (fixed f) (numbered l m) h = absurd (cc h)
same_is (fixed f) (fixed g) h = ap fixed (fixed_is f g h)

-- ---- names that are apart

pub same_back : (n m : Name) → same_name n m ≡ false → same_name m n ≡ false
same_back n m h = by (same_name m n) refl
  where
    by : (b : Bool) → same_name m n ≡ b → same_name m n ≡ false
    by true e = let k : same_name n m ≡ true = subst (λ x. same_name x m ≡ true) (same_is m n e) (same_itself m) in absurd (cc (k, h))
    by false e = e
