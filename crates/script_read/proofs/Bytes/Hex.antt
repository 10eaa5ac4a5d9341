-- Two hex digits are a byte.
use Rattle.std.proofs.Common.{◌≡◌, ℕ, ◌+◌, ◌*◌, ◌-◌, ◌<◌, ◌&&◌, ◌==◌, Bool, true, false, List, [], ◌∷◌, length, ◌%◌, Option, Some, None, Result, Ok, Err, subst, refl, arith}
use Rattle.std.specs.Prelude.{nat_le, if◌then◌else◌}
use Rattle.std.proofs.lemmas.Bool.{and_parts, leb-true}
use Rattle.std.proofs.lemmas.List.Elements.{All-nil, All-cons}
use Rattle.heap_lang.specs.Numbers.{IsBytes}
use Rattle.hex.specs.Hex.{hex_digit_value, digit_or_error, pair_value, decode_pairs, decode_of, ◌>>=◌}
use Rattle.hex.specs.declared.error.FromHexError.{FromHexError}
use Rattle.hex.specs.declared.error.FromHexError.TheVariants.{OddLength}
use Rattle.script_lang.specs.Names.{if_read, bytes_of}

-- ---- digits

first_of : (p q r : Bool) (x y z v : ℕ) → (p ≡ true → x < 16) → (q ≡ true → y < 16) → (r ≡ true → z < 16)
    → (if p then Some x else if q then Some y else if r then Some z else None) ≡ Some v → v < 16
first_of true q r x y z v a b c is = let e : x ≡ v = cc is in let lt = a refl in omega (arith, e, lt)
first_of false true r x y z v a b c is = let e : y ≡ v = cc is in let lt = b refl in omega (arith, e, lt)
first_of false false true x y z v a b c is = let e : z ≡ v = cc is in let lt = c refl in omega (arith, e, lt)
first_of false false false x y z v a b c is = absurd (cc is)

-- a digit from one place to another, fifteen after what is taken at most
digit_in : (low high less c : ℕ) → high < less + 16 → (nat_le low c && nat_le c high) ≡ true → c - less < 16
digit_in low high less c room h =
    let parts = and_parts (nat_le low c) (nat_le c high) h in
    let under = leb-true c high parts.1 in
    omega (arith, room, under)

digit_below : (c v : ℕ) → hex_digit_value c ≡ Some v → v < 16
digit_below c v is =
    first_of (nat_le 65 c && nat_le c 70) (nat_le 97 c && nat_le c 102) (nat_le 48 c && nat_le c 57) (c - 55) (c - 87) (c - 48) v
    (digit_in 65 70 55 c (omega arith)) (digit_in 97 102 87 c (omega arith)) (digit_in 48 57 48 c (omega arith)) is

-- ---- pairs

two_below : (high low i j : ℕ) (h l : Option ℕ) → ((v : ℕ) → h ≡ Some v → v < 16) → ((v : ℕ) → l ≡ Some v → v < 16)
    → (b : ℕ) → (digit_or_error high i h >>= λ x. digit_or_error low j l >>= λ y. Ok (x * 16 + y)) ≡ Ok b → b < 256
two_below high low i j (Some x) (Some y) p q b is =
    let e : x * 16 + y ≡ b = cc is in
    let first = p x refl in
    let second = q y refl in
    omega (arith, e, first, second)
two_below high low i j (Some x) None p q b is = absurd (cc is)
two_below high low i j None l p q b is = absurd (cc is)

pair_below : (high low i b : ℕ) → pair_value high low i ≡ Ok b → b < 256
pair_below high low i b is = two_below high low i (i + 1) (hex_digit_value high) (hex_digit_value low) (digit_below high) (digit_below low) b is

cons_below : (p : Result ℕ FromHexError) (r : Result (List ℕ) FromHexError) → ((b : ℕ) → p ≡ Ok b → b < 256) → ((bs : List ℕ) → r ≡ Ok bs → IsBytes bs)
    → (bytes : List ℕ) → (p >>= λ b. r >>= λ bs. Ok (b ∷ bs)) ≡ Ok bytes → IsBytes bytes
cons_below (Ok b) (Ok bs) first rest bytes is =
    let e : b ∷ bs ≡ bytes = cc is in
    subst IsBytes e (All-cons (λ b. b < 256) b bs (first b refl) (rest bs refl))
cons_below (Ok b) (Err x) first rest bytes is = absurd (cc is)
cons_below (Err x) r first rest bytes is = absurd (cc is)

pairs_below : (i : ℕ) (text bytes : List ℕ) → decode_pairs i text ≡ Ok bytes → IsBytes bytes
unfolding decode_pairs
pairs_below i [] bytes is = let e : [] ≡ bytes = cc is in subst IsBytes e (All-nil (λ b. b < 256))
pairs_below i (d ∷ []) bytes is = absurd (cc is)
pairs_below i (high ∷ low ∷ rest) bytes is =
    cons_below (pair_value high low i) (decode_pairs (i + 2) rest) (pair_below high low i) (pairs_below (i + 2) rest) bytes is

-- ---- whole texts

even_below : (odd : Bool) (text bytes : List ℕ) → (if odd then Err OddLength else decode_pairs 0 text) ≡ Ok bytes → IsBytes bytes
even_below true text bytes is = absurd (cc is)
even_below false text bytes is = pairs_below 0 text bytes is

read_below : (r : Result (List ℕ) FromHexError) → ((bs : List ℕ) → r ≡ Ok bs → IsBytes bs) → (bytes : List ℕ) → if_read r ≡ Some bytes → IsBytes bytes
read_below (Ok bs) h bytes is = let e : bs ≡ bytes = cc is in subst IsBytes e (h bs refl)
read_below (Err x) h bytes is = absurd (cc is)

pub bytes_below : (word bytes : List ℕ) → bytes_of word ≡ Some bytes → IsBytes bytes
bytes_below [] bytes is = absurd (cc is)
bytes_below (d ∷ ds) bytes is = read_below (decode_of (d ∷ ds)) (even_below (length (d ∷ ds) % 2 == 1) (d ∷ ds)) bytes is
