-- Numbers and their bytes.
use Rattle.std.proofs.Common.{◌≡◌, refl, sym, ap, ℕ, zero, suc, ◌+◌, ◌-◌, ◌*◌, ◌/◌, ◌%◌, ◌^◌, ◌<◌, ◌≤◌, List, [], ◌∷◌, ◌++◌, length, take, drop, set, replicate, zero-add, arith, lit<}
use Rattle.std.proofs.Math.Nat.{pow-suc, pow-succ', pow-le-pow_right, one-le-pow, div-div-eq-div-mul}
use Rattle.std.proofs.Math.Arith.{mod-mul}
use Rattle.std.proofs.lemmas.Nat.{mod_below}
use Rattle.std.proofs.lemmas.List.Elements.{All-head, All-tail, All-cons, All-nil, All-drop}
use Rattle.std.proofs.lemmas.List.{length-drop, length-set, take_more_set, append_assoc}
use Rattle.heap_lang.specs.Numbers.{IsBytes, little_endian, bytes_of}

pub length-bytes_of : (size word : ℕ) → length (bytes_of size word) ≡ size
length-bytes_of zero word = refl
length-bytes_of (suc size) word = ap suc (length-bytes_of size (word / 256))

-- reading what was written gives the low bits
pub little_endian-bytes_of : (size word : ℕ) → little_endian (bytes_of size word) ≡ word % 256 ^ size
little_endian-bytes_of zero word = omega arith
little_endian-bytes_of (suc size) word =
    let split = mod-mul word {m = 256 ^ size} {c = 256} (one-le-pow size 256 (lit< tt)) (lit< tt) in
    rw pow-suc (omega (arith, little_endian-bytes_of size (word / 256), split))

-- writing what was read gives the bytes
pub bytes_of-little_endian : (bytes : List ℕ) → IsBytes bytes → bytes_of (length bytes) (little_endian bytes) ≡ bytes
bytes_of-little_endian [] all = refl
bytes_of-little_endian (b ∷ bs) all =
    let low : (b + 256 * little_endian bs) % 256 ≡ b = let h = All-head (λ x. x < 256) b bs all in omega arith in
    let high : (b + 256 * little_endian bs) / 256 ≡ little_endian bs = let h = All-head (λ x. x < 256) b bs all in omega arith in
    rw (low, high) (ap (λ xs. b ∷ xs) (bytes_of-little_endian bs (All-tail (λ x. x < 256) b bs all)))

pub IsBytes-bytes_of : (size word : ℕ) → IsBytes (bytes_of size word)
IsBytes-bytes_of zero word = All-nil (λ x. x < 256)
IsBytes-bytes_of (suc size) word =
    All-cons (λ x. x < 256) (word % 256) (bytes_of size (word / 256)) (mod_below word 256 (lit< tt)) (IsBytes-bytes_of size (word / 256))

pub little_endian-below : (bytes : List ℕ) → IsBytes bytes → little_endian bytes < 256 ^ length bytes
little_endian-below [] all = lit< tt
little_endian-below (b ∷ bs) all =
    let head = All-head (λ x. x < 256) b bs all in
    rw pow-suc (omega (arith, head, little_endian-below bs (All-tail (λ x. x < 256) b bs all)))

-- there is room for one more byte below a number of at most seven
pub room_for_byte : (bytes : List ℕ) (at number : ℕ) → IsBytes bytes → length bytes ≤ 8 → 0 < at → number ≡ little_endian (drop at bytes) → number < 2 ^ 56
room_for_byte bytes at number all short some is =
    let below = little_endian-below (drop at bytes) (All-drop (λ x. x < 256) at bytes all) in
    let few : length (drop at bytes) ≤ 7 = rw length-drop (omega arith) in
    let within : 256 ^ length (drop at bytes) ≤ 256 ^ 7 = pow-le-pow_right (lit< tt) few in
    omega (arith, below, within)

-- the step of a loop that writes the bytes of a number from the lowest on
pub bytes_written_more : (bytes : List ℕ) (i rest number : ℕ) → i < length bytes → take i bytes ++ bytes_of (length bytes - i) rest ≡ bytes_of (length bytes) number → take (i + 1) (set bytes i (rest % 256)) ++ bytes_of (length (set bytes i (rest % 256)) - (i + 1)) (rest / 256) ≡ bytes_of (length (set bytes i (rest % 256))) number
bytes_written_more bytes i rest number lt so_far =
    let next : length bytes - i ≡ suc (length bytes - (i + 1)) = omega arith in
    let here = rw next at so_far in
    rw (length-set, take_more_set bytes i (rest % 256) lt, append_assoc) here

-- ---- words in parts

-- the bytes of the low bits
pub bytes_of-mod : (size word : ℕ) → bytes_of size (word % 256 ^ size) ≡ bytes_of size word
bytes_of-mod size word =
    rw (length-bytes_of, little_endian-bytes_of) at (bytes_of-little_endian (bytes_of size word) (IsBytes-bytes_of size word))

pub bytes_of-add : (m n word : ℕ) → bytes_of (m + n) word ≡ bytes_of m word ++ bytes_of n (word / 256 ^ m)
bytes_of-add zero n word = let whole : word / 1 ≡ word = omega arith in rw (zero-add, whole)
bytes_of-add (suc m) n word =
    let next : suc m + n ≡ suc (m + n) = omega arith in
    let high : word / 256 ^ suc m ≡ word / 256 / 256 ^ m = rw pow-succ' (sym (div-div-eq-div-mul word 256 (256 ^ m))) in
    rw (next, high) (ap (λ bs. (word % 256) ∷ bs) (bytes_of-add m n (word / 256)))

pub little_endian-append : (xs ys : List ℕ) → little_endian (xs ++ ys) ≡ little_endian xs + 256 ^ length xs * little_endian ys
little_endian-append [] ys = omega arith
little_endian-append (x ∷ xs) ys = rw pow-suc (omega (arith, little_endian-append xs ys))

pub bytes_of-zero : (size : ℕ) → bytes_of size 0 ≡ replicate size 0
bytes_of-zero zero = refl
bytes_of-zero (suc size) = ap (λ bs. 0 ∷ bs) (bytes_of-zero size)

pub little_endian-zeros : (size : ℕ) → little_endian (replicate size 0) ≡ 0
little_endian-zeros zero = refl
little_endian-zeros (suc size) = omega (arith, little_endian-zeros size)
