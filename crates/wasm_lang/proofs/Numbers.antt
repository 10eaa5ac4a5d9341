-- The functions of the bytes read exactly the spellings of numbers.
use Rattle.std.proofs.Common.{◌≡◌, ℕ, ◌+◌, ◌-◌, ◌*◌, ◌^◌, ◌<◌, ◌≤◌, Bool, true, false, cond, ltb, leb, List, [], ◌∷◌, ◌++◌, refl, sym, ap, subst, arith}
use Rattle.std.specs.Prelude.{Result, Ok, Err}
use Rattle.std.proofs.lemmas.Bool.{ltb-true, ltb-false, leb-true}
use Rattle.std.proofs.lemmas.Bool.Decides.{nat_tests}
use Rattle.wasm_lang.specs.declared.fault.NumberFault.{NumberFault}
use Rattle.wasm_lang.specs.declared.fault.NumberFault.TheVariants.{Illegal}
use Rattle.wasm_lang.specs.Numbers.{IsUnsigned, last_unsigned, more_unsigned, IsInteger, last_positive, last_negative, more_integer}
use Rattle.wasm_lang.specs.Reading.{unsigned_at, integer_at, with_low}

last_reads : (bits b : ℕ) (ys : List ℕ) → b < 2 ^ 7 → b < 2 ^ bits → unsigned_at bits (b ∷ ys) ≡ Ok (b, ys)
last_reads bits b ys h l = grind (arith, nat_tests)

more_reads : (bits b high : ℕ) (xs ys : List ℕ) → 2 ^ 7 ≤ b → 7 < bits → unsigned_at (bits - 7) xs ≡ Ok (high, ys) → unsigned_at bits (b ∷ xs) ≡ Ok (2 ^ 7 * high + (b - 2 ^ 7), ys)
more_reads bits b high xs ys h l r = grind (arith, nat_tests)

-- what is spelled so is read so
pub unsigned_reads : (bits n : ℕ) (xs ys : List ℕ) → IsUnsigned bits n xs ys → unsigned_at bits xs ≡ Ok (n, ys)
unsigned_reads bits n xs ys (last_unsigned {b = b} h l) = last_reads bits b ys h l
unsigned_reads bits n xs ys (more_unsigned {b = b} {high = high} {xs = bs} h l r) = more_reads bits b high bs ys h l (unsigned_reads (bits - 7) high bs ys r)

pub ok_is : {X E : Type 0} (x y : X) → ◌≡◌ {A = Result X E} (Ok x) (Ok y) → x ≡ y
ok_is x y e = cc

low_ok : (b n : ℕ) (ys : List ℕ) (r : Result (ℕ × List ℕ) NumberFault) → with_low b r ≡ Ok (n, ys) → (high : ℕ) × (r ≡ Ok (high, ys)) × (n ≡ 2 ^ 7 * high + (b - 2 ^ 7))
low_ok b n ys (Ok x) q =
    let p = ok_is (2 ^ 7 * x.0 + (b - 2 ^ 7), x.1) (n, ys) q in
    (x.0, ap (λ (l : List ℕ). Ok (x.0, l)) (ap (λ p. p.1) p), sym (ap (λ p. p.0) p))
low_ok b n ys (Err e) q = cc

unsigned_by_tests : (bits b n : ℕ) (xs ys : List ℕ) (t u v : Bool) → ltb b (2 ^ 7) ≡ t → ltb b (2 ^ bits) ≡ u → ltb 7 bits ≡ v
    → ((high : ℕ) → unsigned_at (bits - 7) xs ≡ Ok (high, ys) → IsUnsigned (bits - 7) high xs ys)
    → cond t (cond u (Ok (b, xs)) (Err Illegal)) (cond v (with_low b (unsigned_at (bits - 7) xs)) (Err Illegal)) ≡ Ok (n, ys) → IsUnsigned bits n (b ∷ xs) ys
unsigned_by_tests bits b n xs ys true true v et eu ev below q =
    let p = ok_is (b, xs) (n, ys) q in
    subst (λ p. IsUnsigned bits p.0 (b ∷ xs) p.1) p (last_unsigned (ltb-true b (2 ^ 7) et) (ltb-true b (2 ^ bits) eu))
unsigned_by_tests bits b n xs ys true false v et eu ev below q = cc
unsigned_by_tests bits b n xs ys false u true et eu ev below q =
    let l = low_ok b n ys (unsigned_at (bits - 7) xs) q in
    subst (λ n. IsUnsigned bits n (b ∷ xs) ys) (sym l.2) (more_unsigned (ltb-false b (2 ^ 7) et) (ltb-true 7 bits ev) (below l.0 l.1))
unsigned_by_tests bits b n xs ys false u false et eu ev below q = cc

-- what is read so is spelled so
pub unsigned_is : (bits n : ℕ) (xs ys : List ℕ) → unsigned_at bits xs ≡ Ok (n, ys) → IsUnsigned bits n xs ys
unsigned_is bits n [] ys q = cc
unsigned_is bits n (b ∷ xs) ys q =
    unsigned_by_tests bits b n xs ys (ltb b (2 ^ 7)) (ltb b (2 ^ bits)) (ltb 7 bits) refl refl refl (λ high. unsigned_is (bits - 7) high xs ys) q

-- ---- words

positive_reads : (bits b : ℕ) (ys : List ℕ) → b < 2 ^ 6 → b < 2 ^ (bits - 1) → integer_at bits (b ∷ ys) ≡ Ok (b, ys)
positive_reads bits b ys h l = grind (arith, nat_tests)

negative_reads : (bits b : ℕ) (ys : List ℕ) → 2 ^ 6 ≤ b → b < 2 ^ 7 → 2 ^ 7 ≤ b + 2 ^ (bits - 1) → integer_at bits (b ∷ ys) ≡ Ok (b + 2 ^ bits - 2 ^ 7, ys)
negative_reads bits b ys h k l = grind (arith, nat_tests)

more_integer_reads : (bits b high : ℕ) (xs ys : List ℕ) → 2 ^ 7 ≤ b → 7 < bits → integer_at (bits - 7) xs ≡ Ok (high, ys) → integer_at bits (b ∷ xs) ≡ Ok (2 ^ 7 * high + (b - 2 ^ 7), ys)
more_integer_reads bits b high xs ys h l r = grind (arith, nat_tests)

pub integer_reads : (bits n : ℕ) (xs ys : List ℕ) → IsInteger bits n xs ys → integer_at bits xs ≡ Ok (n, ys)
integer_reads bits n xs ys (last_positive {b = b} h l) = positive_reads bits b ys h l
integer_reads bits n xs ys (last_negative {b = b} h k l) = negative_reads bits b ys h k l
integer_reads bits n xs ys (more_integer {b = b} {high = high} {xs = bs} h l r) = more_integer_reads bits b high bs ys h l (integer_reads (bits - 7) high bs ys r)

integer_by_tests : (bits b n : ℕ) (xs ys : List ℕ) (s t u v w : Bool) → ltb b (2 ^ 6) ≡ s → ltb b (2 ^ (bits - 1)) ≡ t → ltb b (2 ^ 7) ≡ u → leb (2 ^ 7) (b + 2 ^ (bits - 1)) ≡ v → ltb 7 bits ≡ w
    → ((high : ℕ) → integer_at (bits - 7) xs ≡ Ok (high, ys) → IsInteger (bits - 7) high xs ys)
    → cond s (cond t (Ok (b, xs)) (Err Illegal)) (cond u (cond v (Ok (b + 2 ^ bits - 2 ^ 7, xs)) (Err Illegal)) (cond w (with_low b (integer_at (bits - 7) xs)) (Err Illegal))) ≡ Ok (n, ys)
    → IsInteger bits n (b ∷ xs) ys
integer_by_tests bits b n xs ys true true u v w es et eu ev ew below q =
    let p = ok_is (b, xs) (n, ys) q in
    subst (λ p. IsInteger bits p.0 (b ∷ xs) p.1) p (last_positive (ltb-true b (2 ^ 6) es) (ltb-true b (2 ^ (bits - 1)) et))
integer_by_tests bits b n xs ys true false u v w es et eu ev ew below q = cc
integer_by_tests bits b n xs ys false t true true w es et eu ev ew below q =
    let p = ok_is (b + 2 ^ bits - 2 ^ 7, xs) (n, ys) q in
    subst (λ p. IsInteger bits p.0 (b ∷ xs) p.1) p (last_negative (ltb-false b (2 ^ 6) es) (ltb-true b (2 ^ 7) eu) (leb-true (2 ^ 7) (b + 2 ^ (bits - 1)) ev))
integer_by_tests bits b n xs ys false t true false w es et eu ev ew below q = cc
integer_by_tests bits b n xs ys false t false v true es et eu ev ew below q =
    let l = low_ok b n ys (integer_at (bits - 7) xs) q in
    subst (λ n. IsInteger bits n (b ∷ xs) ys) (sym l.2) (more_integer (ltb-false b (2 ^ 7) eu) (ltb-true 7 bits ew) (below l.0 l.1))
integer_by_tests bits b n xs ys false t false v false es et eu ev ew below q = cc

pub integer_is : (bits n : ℕ) (xs ys : List ℕ) → integer_at bits xs ≡ Ok (n, ys) → IsInteger bits n xs ys
integer_is bits n [] ys q = cc
integer_is bits n (b ∷ xs) ys q =
    integer_by_tests bits b n xs ys (ltb b (2 ^ 6)) (ltb b (2 ^ (bits - 1))) (ltb b (2 ^ 7)) (leb (2 ^ 7) (b + 2 ^ (bits - 1))) (ltb 7 bits) refl refl refl refl refl
    (λ high. integer_is (bits - 7) high xs ys) q

-- ---- what is left is an end of the bytes

pub unsigned_front : (bits n : ℕ) (xs ys : List ℕ) → IsUnsigned bits n xs ys → (front : List ℕ) × (xs ≡ front ++ ys)
unsigned_front bits n xs ys (last_unsigned {b = b} h l) = (b ∷ [], refl)
unsigned_front bits n xs ys (more_unsigned {b = b} {high = high} {xs = bs} h l r) =
    let f = unsigned_front (bits - 7) high bs ys r in
    (b ∷ f.0, ap (λ (l : List ℕ). b ∷ l) f.1)

pub integer_front : (bits n : ℕ) (xs ys : List ℕ) → IsInteger bits n xs ys → (front : List ℕ) × (xs ≡ front ++ ys)
integer_front bits n xs ys (last_positive {b = b} h l) = (b ∷ [], refl)
integer_front bits n xs ys (last_negative {b = b} h k l) = (b ∷ [], refl)
integer_front bits n xs ys (more_integer {b = b} {high = high} {xs = bs} h l r) =
    let f = integer_front (bits - 7) high bs ys r in
    (b ∷ f.0, ap (λ (l : List ℕ). b ∷ l) f.1)
