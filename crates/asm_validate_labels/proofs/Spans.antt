-- Values are close together exactly where the least and the greatest are.
use Rattle.std.proofs.Common.{◌≡◌, ◌+◌, ◌-◌, ◌^◌, Bool, true, false, ◌&&◌, List, [], ◌∷◌, nat_lt, refl, sym, ap, ◌∙◌, arith}
use Rattle.std.proofs.lemmas.Int.{ints, clamps}
use Rattle.std.proofs.lemmas.Bool.Decides.{nat_tests}
use Rattle.std.specs.Prelude.{ℤ, pos, negsuc, int_le, int_lt, ◌<ℤ◌, ◌≤ℤ◌, ◌-ℤ◌}
use Rattle.asm_lang_valid.specs.Typing.{in_range, near, close_together}
use Rattle.asm_validate_labels.specs.Cases.{least, greatest}

pub and_first : (a b : Bool) → (a && b) ≡ true → a ≡ true
and_first true b h = refl
and_first false b h = cc

pub and_second : (a b : Bool) → (a && b) ≡ true → b ≡ true
and_second true b h = h
and_second false b h = cc

both : (a b : Bool) → a ≡ true → b ≡ true → (a && b) ≡ true
both a b h k = ap (λ x. x && b) h ∙ k

pub record Low (v : ℤ) : Type 0 where
  pub low : negsuc (2 ^ 31 - 1) ≤ℤ v
  pub high : v <ℤ pos (2 ^ 31)

pub value_range : (v : ℤ) (vs : List ℤ) → in_range (v ∷ vs) ≡ true → Low v
value_range v vs h =
    let a = and_first (int_le (negsuc (2 ^ 31 - 1)) v) (int_lt v (pos (2 ^ 31))) (and_first (int_le (negsuc (2 ^ 31 - 1)) v && int_lt v (pos (2 ^ 31))) (in_range vs) h) in
    let b = and_second (int_le (negsuc (2 ^ 31 - 1)) v) (int_lt v (pos (2 ^ 31))) (and_first (int_le (negsuc (2 ^ 31 - 1)) v && int_lt v (pos (2 ^ 31))) (in_range vs) h) in
    record { low = grind (arith, ints); high = grind (arith, ints) }

pub rest_range : (v : ℤ) (vs : List ℤ) → in_range (v ∷ vs) ≡ true → in_range vs ≡ true
rest_range v vs h = and_second (int_le (negsuc (2 ^ 31 - 1)) v && int_lt v (pos (2 ^ 31))) (in_range vs) h

-- ---- one value near another

pub record Near (v g l : ℤ) : Type 0 where
  pub above : (g -ℤ v) <ℤ pos (2 ^ 31)
  pub below : (v -ℤ l) <ℤ pos (2 ^ 31)

one_near : (v u : ℤ) (us : List ℤ) → near v (u ∷ us) ≡ true → Near v u u
one_near (pos a) (pos b) us h = let k = and_first (nat_lt ((a - b) + (b - a)) (2 ^ 31)) (near (pos a) us) h in record { above = grind (arith, ints, nat_tests); below = grind (arith, ints, nat_tests) }
one_near (pos a) (negsuc b) us h = let k = and_first (nat_lt (a + b + 1) (2 ^ 31)) (near (pos a) us) h in record { above = grind (arith, ints, nat_tests); below = grind (arith, ints, nat_tests) }
one_near (negsuc a) (pos b) us h = let k = and_first (nat_lt (a + b + 1) (2 ^ 31)) (near (negsuc a) us) h in record { above = grind (arith, ints, nat_tests); below = grind (arith, ints, nat_tests) }
one_near (negsuc a) (negsuc b) us h = let k = and_first (nat_lt ((a - b) + (b - a)) (2 ^ 31)) (near (negsuc a) us) h in record { above = grind (arith, ints, nat_tests); below = grind (arith, ints, nat_tests) }

rest_near : (v u : ℤ) (us : List ℤ) → near v (u ∷ us) ≡ true → near v us ≡ true
rest_near (pos a) (pos b) us h = and_second (nat_lt ((a - b) + (b - a)) (2 ^ 31)) (near (pos a) us) h
rest_near (pos a) (negsuc b) us h = and_second (nat_lt (a + b + 1) (2 ^ 31)) (near (pos a) us) h
rest_near (negsuc a) (pos b) us h = and_second (nat_lt (a + b + 1) (2 ^ 31)) (near (negsuc a) us) h
rest_near (negsuc a) (negsuc b) us h = and_second (nat_lt ((a - b) + (b - a)) (2 ^ 31)) (near (negsuc a) us) h

more_near : (v u : ℤ) (us : List ℤ) → Near v u u → near v us ≡ true → near v (u ∷ us) ≡ true
more_near (pos a) (pos b) us n h = let m = n.above in let l = n.below in both (nat_lt ((a - b) + (b - a)) (2 ^ 31)) (near (pos a) us) (grind (arith, ints, nat_tests)) h
more_near (pos a) (negsuc b) us n h = let m = n.above in let l = n.below in both (nat_lt (a + b + 1) (2 ^ 31)) (near (pos a) us) (grind (arith, ints, nat_tests)) h
more_near (negsuc a) (pos b) us n h = let m = n.above in let l = n.below in both (nat_lt (a + b + 1) (2 ^ 31)) (near (negsuc a) us) (grind (arith, ints, nat_tests)) h
more_near (negsuc a) (negsuc b) us n h = let m = n.above in let l = n.below in both (nat_lt ((a - b) + (b - a)) (2 ^ 31)) (near (negsuc a) us) (grind (arith, ints, nat_tests)) h

-- ---- one value near all others

near_all : (v : ℤ) (us : List ℤ) → Low v → near v us ≡ true → Near v (greatest us) (least us)
near_all v [] r h = let a = r.low in let b = r.high in record { above = omega (arith, ints); below = omega (arith, ints) }
near_all v (u ∷ us) r h =
    let n = one_near v u us h in
    let m = near_all v us r (rest_near v u us h) in
    record { above = omega (arith, ints, clamps); below = omega (arith, ints, clamps) }

all_near : (v : ℤ) (us : List ℤ) → Near v (greatest us) (least us) → near v us ≡ true
all_near v [] n = refl
all_near v (u ∷ us) n =
    let a = n.above in
    let b = n.below in
    more_near v u us (record { above = omega (arith, ints, clamps); below = omega (arith, ints, clamps) }) (all_near v us (record { above = omega (arith, ints, clamps); below = omega (arith, ints, clamps) }))

-- ---- all values

pub close_span : (vs : List ℤ) → in_range vs ≡ true → close_together vs ≡ true → (greatest vs -ℤ least vs) <ℤ pos (2 ^ 31)
close_span [] r h = omega (arith, ints)
close_span (v ∷ vs) r h =
    let n = near_all v vs (value_range v vs r) (and_first (near v vs) (close_together vs) h) in
    let k = close_span vs (rest_range v vs r) (and_second (near v vs) (close_together vs) h) in
    omega (arith, ints, clamps)

pub span_close : (vs : List ℤ) → (greatest vs -ℤ least vs) <ℤ pos (2 ^ 31) → close_together vs ≡ true
span_close [] h = refl
span_close (v ∷ vs) h = both (near v vs) (close_together vs) (all_near v vs (record { above = omega (arith, ints, clamps); below = omega (arith, ints, clamps) })) (span_close vs (omega (arith, ints, clamps)))

pub record Span (vs : List ℤ) : Type 0 where
  pub least_low : negsuc (2 ^ 31 - 1) ≤ℤ least vs
  pub least_high : least vs ≤ℤ pos (2 ^ 31)
  pub greatest_low : negsuc (2 ^ 31) ≤ℤ greatest vs
  pub greatest_high : greatest vs <ℤ pos (2 ^ 31)

pub spans : (vs : List ℤ) → in_range vs ≡ true → Span vs
spans [] h = record { least_low = omega (arith, ints); least_high = omega (arith, ints); greatest_low = omega (arith, ints); greatest_high = omega (arith, ints) }
spans (v ∷ vs) h =
    let r = value_range v vs h in
    let s = spans vs (rest_range v vs h) in
    record { least_low = omega (arith, ints, clamps); least_high = omega (arith, ints, clamps); greatest_low = omega (arith, ints, clamps); greatest_high = omega (arith, ints, clamps) }

-- a test that holds exactly where another does
pub same_test : (a b : Bool) → (b ≡ true → a ≡ true) → (a ≡ true → b ≡ true) → a ≡ b
same_test true true f g = refl
same_test true false f g = sym (g refl)
same_test false true f g = f refl
same_test false false f g = refl
