-- The values of the cases of one switch: consecutive numbers, all of them below 2 ^ 31 or none.
use Rattle.std.proofs.Common.{◌≡◌, ℕ, zero, suc, ◌+◌, ◌-◌, ◌^◌, ◌<◌, ◌≤◌, true, false, ◌&&◌, List, [], ◌∷◌, length, refl, arith}
use Rattle.std.specs.Prelude.{ℤ, pos, negsuc, int_le, int_lt, nat_lt}
use Rattle.std.proofs.lemmas.Bool.Decides.{nat_tests}
use Rattle.std.proofs.lemmas.Int.{ints}
use Rattle.sem_words.specs.Words.{signed_of}
use Rattle.asm_lang.specs.Modules.{Stmt, Clauses}
use Rattle.asm_lang_valid.specs.Typing.{values, is_value, distinct, in_range, near, close_together}
use Rattle.wasm2js_translation.specs.Bodies.{cases}

abbrev pub lows : (i n : ℕ) → List ℤ
lows i zero = []
lows i (suc n) = pos i ∷ lows (suc i) n

-- from above on down, where i comes first
abbrev pub highs : (i n : ℕ) → List ℤ
highs i zero = []
highs i (suc n) = negsuc (2 ^ 32 - 1 - i) ∷ highs (suc i) n

low_number : (i : ℕ) → i < 2 ^ 31 → signed_of 32 i ≡ pos i
low_number i h = grind (arith, ints, nat_tests)

high_number : (i : ℕ) → 2 ^ 31 ≤ i → i < 2 ^ 32 → signed_of 32 i ≡ negsuc (2 ^ 32 - 1 - i)
high_number i h k = grind (arith, ints, nat_tests)

pub low_values : (to : ℕ → List Stmt) (i : ℕ) (ks : List ℕ) (more : Clauses) → values more ≡ [] → i + length ks ≤ 2 ^ 31 → values (cases to i ks more) ≡ lows i (length ks)
low_values to i [] more none h = none
low_values to i (k ∷ ks) more none h =
    let e = low_number i (omega (arith, h)) in
    let f = low_values to (suc i) ks more none (omega (arith, h)) in
    rw (e, f) refl

pub high_values : (to : ℕ → List Stmt) (i : ℕ) (ks : List ℕ) (more : Clauses) → values more ≡ [] → 2 ^ 31 ≤ i → i + length ks ≤ 2 ^ 32 → values (cases to i ks more) ≡ highs i (length ks)
high_values to i [] more none le h = none
high_values to i (k ∷ ks) more none le h =
    let e = high_number i le (omega (arith, h)) in
    let f = high_values to (suc i) ks more none (omega (arith, le)) (omega (arith, h)) in
    rw (e, f) refl

-- ---- distinct

low_apart : (i j : ℕ) → i < j → (int_le (pos j) (pos i) && int_le (pos i) (pos j)) ≡ false
low_apart i j h = let e : int_le (pos j) (pos i) ≡ false = grind (arith, ints, nat_tests) in rw e refl

high_apart : (i j : ℕ) → j < i → (int_le (negsuc j) (negsuc i) && int_le (negsuc i) (negsuc j)) ≡ false
high_apart i j h = let e : int_le (negsuc i) (negsuc j) ≡ true = grind (arith, ints, nat_tests) in let f : int_le (negsuc j) (negsuc i) ≡ false = grind (arith, ints, nat_tests) in rw f refl

low_new : (i j n : ℕ) → i < j → is_value (pos i) (lows j n) ≡ false
low_new i j zero h = refl
low_new i j (suc n) h = let e = low_apart i j h in let f = low_new i (suc j) n (omega (arith, h)) in rw (e, f) refl

high_new : (x j n : ℕ) → 2 ^ 32 - 1 - j < x → is_value (negsuc x) (highs j n) ≡ false
high_new x j zero h = refl
high_new x j (suc n) h = let e = high_apart x (2 ^ 32 - 1 - j) h in let f = high_new x (suc j) n (omega (arith, h)) in rw (e, f) refl

pub low_distinct : (i n : ℕ) → distinct (lows i n) ≡ true
low_distinct i zero = refl
low_distinct i (suc n) = let e = low_new i (suc i) n (omega arith) in let f = low_distinct (suc i) n in rw (e, f) refl

pub high_distinct : (i n : ℕ) → i + n ≤ 2 ^ 32 → distinct (highs i n) ≡ true
high_distinct i zero h = refl
high_distinct i (suc zero) h = refl
high_distinct i (suc (suc n)) h =
    let e = high_new (2 ^ 32 - 1 - i) (suc i) (suc n) (omega (arith, h)) in
    let f = high_distinct (suc i) (suc n) (omega (arith, h)) in
    rw (e, f) refl

-- ---- in range

pub low_range : (i n : ℕ) → i + n ≤ 2 ^ 31 → in_range (lows i n) ≡ true
low_range i zero h = refl
low_range i (suc n) h =
    let e : int_le (negsuc (2 ^ 31 - 1)) (pos i) ≡ true = grind (arith, ints, nat_tests) in
    let f : int_lt (pos i) (pos (2 ^ 31)) ≡ true = grind (arith, ints, nat_tests) in
    let g = low_range (suc i) n (omega (arith, h)) in
    rw (e, f, g) refl

pub high_range : (i n : ℕ) → 2 ^ 31 ≤ i → in_range (highs i n) ≡ true
high_range i zero h = refl
high_range i (suc n) h =
    let e : int_le (negsuc (2 ^ 31 - 1)) (negsuc (2 ^ 32 - 1 - i)) ≡ true = grind (arith, ints, nat_tests) in
    let f : int_lt (negsuc (2 ^ 32 - 1 - i)) (pos (2 ^ 31)) ≡ true = grind (arith, ints, nat_tests) in
    let g = high_range (suc i) n (omega (arith, h)) in
    rw (e, f, g) refl

-- ---- close together

low_near : (i j n : ℕ) → i < 2 ^ 31 → j + n ≤ 2 ^ 31 → near (pos i) (lows j n) ≡ true
low_near i j zero h k = refl
low_near i j (suc n) h k =
    let e : nat_lt ((i - j) + (j - i)) (2 ^ 31) ≡ true = grind (arith, nat_tests) in
    let f = low_near i (suc j) n h (omega (arith, k)) in
    rw (e, f) refl

high_near : (x j n : ℕ) → x < 2 ^ 31 → 2 ^ 31 ≤ j → near (negsuc x) (highs j n) ≡ true
high_near x j zero h k = refl
high_near x j (suc n) h k =
    let e : nat_lt ((x - (2 ^ 32 - 1 - j)) + ((2 ^ 32 - 1 - j) - x)) (2 ^ 31) ≡ true = grind (arith, nat_tests) in
    let f = high_near x (suc j) n h (omega (arith, k)) in
    rw (e, f) refl

pub low_close : (i n : ℕ) → i + n ≤ 2 ^ 31 → close_together (lows i n) ≡ true
low_close i zero h = refl
low_close i (suc n) h =
    let e = low_near i (suc i) n (omega (arith, h)) (omega (arith, h)) in
    let f = low_close (suc i) n (omega (arith, h)) in
    rw (e, f) refl

pub high_close : (i n : ℕ) → 2 ^ 31 ≤ i → close_together (highs i n) ≡ true
high_close i zero h = refl
high_close i (suc n) h =
    let e = high_near (2 ^ 32 - 1 - i) (suc i) n (omega (arith, h)) (omega (arith, h)) in
    let f = high_close (suc i) n (omega (arith, h)) in
    rw (e, f) refl
