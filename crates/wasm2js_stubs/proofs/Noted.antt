-- What stubs are needed, one table after another.
use Rattle.std.proofs.Common.{◌≡◌, inl, inr, ℕ, zero, suc, ◌+◌, ◌<◌, ◌≤◌, ◌≢◌, Bool, true, false, List, [], ◌∷◌, ◌++◌, length, set, get_or, Option, Some, None, refl, sym, ap, ◌∙◌, arith, eq-eqb}
use Rattle.std.specs.Prelude.{◌==◌, slice_get}
use Rattle.std.specs.List.{flat_map, range_with_len}
use Rattle.std.specs.Option.{option_map}
use Rattle.std.proofs.lemmas.Bool.Decides.{nat_tests, eqb_tells}
use Rattle.wasm_lang.specs.Modules.{WasmModule}
use Rattle.wasm2js_lang.specs.Tables.{masked}
use Rattle.wasm2js_translation.specs.Tables.{stubs}
use Rattle.wasm2js_stubs.specs.declared.needs.Needed.{Needed}
use Rattle.wasm2js_stubs.specs.Needs.{joined, joined_where, needs_at, AreNeeds, functions_at, functions_from}

-- ---- one stub needs more

some_inj : {A : Type 0} (a b : A) → Some a ≡ Some b → a ≡ b
some_inj a b h = cc h

left_alone : (test : Bool) (more : Needed) (o : Option Needed) → test ≡ false → o ≡ option_map (λ n. joined_where test n more) o
left_alone true more o h = cc h
left_alone false more None h = refl
left_alone false more (Some x) h = refl

found : (test : Bool) (more n : Needed) → test ≡ true → Some (joined n more) ≡ option_map (λ n. joined_where test n more) (Some n)
found true more n h = refl
found false more n h = cc h

-- where a test holds of this place alone
noted_by : (test : ℕ → Bool) (needs : List Needed) (stub : ℕ) (d more : Needed) → test stub ≡ true → ((k : ℕ) → k ≢ stub → test k ≡ false) → stub < length needs → (k : ℕ)
    → slice_get (set needs stub (joined (get_or needs stub d) more)) k ≡ option_map (λ n. joined_where (test k) n more) (slice_get needs k)
noted_by test [] stub d more here away h k = absurd (omega (arith, h))
noted_by test (n ∷ ns) zero d more here away h zero = found (test 0) more n here
noted_by test (n ∷ ns) zero d more here away h (suc k) = left_alone (test (suc k)) more (slice_get ns k) (away (suc k) (λ e. omega (arith, e)))
noted_by test (n ∷ ns) (suc stub) d more here away h zero = left_alone (test 0) more (Some n) (away 0 (λ e. omega (arith, e)))
noted_by test (n ∷ ns) (suc stub) d more here away h (suc k) = noted_by (λ j. test (suc j)) ns stub d more here (λ j ne. away (suc j) (λ e. ne (omega (arith, e)))) (omega (arith, h)) k

same_number : (k : ℕ) → (k == k) ≡ true
same_number k = eq-eqb k k refl

other_number : (stub k : ℕ) → k ≢ stub → (stub == k) ≡ false
other_number stub k ne = grind (arith, nat_tests)

pub noted_where : (needs : List Needed) (stub : ℕ) (d more now new : Needed) → stub < length needs → now ≡ get_or needs stub d → new ≡ joined now more → (k : ℕ)
    → slice_get (set needs stub new) k ≡ option_map (λ n. joined_where (stub == k) n more) (slice_get needs k)
noted_where needs stub d more now new h is e k =
    ap (λ x. slice_get (set needs stub x) k) (e ∙ ap (λ x. joined x more) is) ∙ noted_by (λ j. stub == j) needs stub d more (same_number stub) (other_number stub) h k

past_all : (needs : List Needed) (k : ℕ) → length needs ≤ k → slice_get needs k ≡ None
past_all [] k h = refl
past_all (n ∷ ns) zero h = absurd (omega (arith, h))
past_all (n ∷ ns) (suc k) h = past_all ns k (omega (arith, h))

-- a number past them all
pub none_noted : (needs : List Needed) (stub : ℕ) (more : Needed) → length needs ≤ stub → (k : ℕ)
    → slice_get needs k ≡ option_map (λ n. joined_where (stub == k) n more) (slice_get needs k)
none_noted needs stub more h k =
    elim (eqb_tells stub k) [
      | inl same ↦ let none = past_all needs k (omega (arith, h, same.1)) in none ∙ ap (option_map (λ n. joined_where (stub == k) n more)) (sym none)
      | inr apart ↦ left_alone (stub == k) more (slice_get needs k) apart.0
    ]

-- ---- the functions of all stubs

functions_are : (f : ℕ → Needed) (needs : List Needed) (count a : ℕ) → length needs ≡ count → ((k : ℕ) → k < count → slice_get needs k ≡ Some (f (a + k)))
    → functions_from a needs ≡ flat_map (λ stub. functions_at stub (f stub)) (range_with_len a count)
functions_are f [] zero a e each = refl
functions_are f [] (suc count) a e each = cc e
functions_are f (n ∷ ns) zero a e each = cc e
functions_are f (n ∷ ns) (suc count) a e each =
    let here : a + 0 ≡ a = omega arith in
    let first : n ≡ f a = some_inj n (f a) (each 0 (omega arith) ∙ ap (λ k. Some (f k)) here) in
    ap (λ x. functions_at a x ++ functions_from (a + 1) ns) first
    ∙ ap (λ fs. functions_at a (f a) ++ fs) (functions_are f ns count (a + 1) (shorter e) next)
  where
    shorter : length (n ∷ ns) ≡ suc count → length ns ≡ count
    shorter e = omega (arith, e)

    next : (k : ℕ) → k < count → slice_get ns k ≡ Some (f ((a + 1) + k))
    next k h = let further : a + suc k ≡ (a + 1) + k = omega arith in each (suc k) (omega (arith, h)) ∙ ap (λ k. Some (f k)) further

pub stubs_are : (m : WasmModule) (needs : List Needed) → AreNeeds 4002 m.types (masked m) needs → functions_from 0 needs ≡ stubs m
stubs_are m needs are =
    functions_are (needs_at m.types (masked m)) needs 4002 0 are.as_many (λ k h. are.each k h ∙ ap (λ k. Some (needs_at m.types (masked m) k)) (from_zero k))
  where
    from_zero : (k : ℕ) → k ≡ 0 + k
    from_zero k = omega arith
