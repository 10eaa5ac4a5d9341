-- The bound imports that come back to themselves are those that some bound import leads to after many steps.
use Rattle.std.proofs.lemmas.List.{length-replicate}
use Rattle.std.proofs.Common.{◌≡◌, ◌≢◌, ℕ, zero, suc, ◌+◌, ◌-◌, ◌*◌, ◌<◌, ◌≤◌, Bool, true, false, List, [], ◌∷◌, ◌++◌, length, map, replicate, Option, Some, None, ◌⊎◌, inl, inr, nat_eq, refl, sym, ap, ◌∙◌, subst, arith, eq-eqb, get_or, length-append}
use Rattle.std.specs.Prelude.{◌&&◌, ◌||◌, slice_get, option_map}
use Rattle.std.specs.Option.{unwrap_or}
use Rattle.std.proofs.lemmas.List.{length-map}
use Rattle.std.proofs.Math.Nat.{mul-le-mul_left}
use Rattle.std.proofs.lemmas.Option.{slice_get-get_or, slice_get_within}
use Rattle.std.proofs.lemmas.Bool.{cases_lt, false≢true}
use Rattle.std.proofs.lemmas.Bool.Decides.{nat_tests}
use Rattle.wasm_link_lang.specs.Pairs.{Pair, bindings, first_bindings, second_bindings, function_imports, bound, next, import_count, stands_for, end_of}
use Rattle.wasm_link_lang.specs.Refusal.{reaches, comes_back}
use Rattle.wasm_link_bind.specs.Chains.{step, again, at, Ends}
use Rattle.wasm_link_bind.specs.Marks.{has, is_bound, or_false, is_member}
use Rattle.wasm_link_bind.proofs.Steps.{again_more}
use Rattle.wasm_link_bind.proofs.Following.{fixed, settled, ends_at, reached, reaching}
use Rattle.wasm_link_bind.proofs.Pigeons.{pigeons}
use Rattle.wasm_link_bind.proofs.Places.{stands, place, place_below, place_same}

-- ---- many steps

all_counted : (w : Pair) → length (first_bindings w) + length (second_bindings w) ≡ import_count w
all_counted w = ap (λ k. k + length (second_bindings w)) (length-map (function_imports w.first.imports) _) ∙ ap (λ k. length (function_imports w.first.imports) + k) (length-map (function_imports w.second.imports) _)

-- a bound import that stays bound for as many steps as there are imports comes by one twice
repeats : (w : Pair) (a b : ℕ) → next w (again (bindings w) (import_count w) a) ≡ Some b
    → (i : ℕ) × (j : ℕ) × (i < j) × (j ≤ import_count w) × (again (bindings w) i a ≡ again (bindings w) j a)
repeats w a b e =
    let n = import_count w in
    let f : ℕ → ℕ = λ k. again (bindings w) k a in
    let first = length (first_bindings w) in
    let own = length w.first.functions in
    let counts : first + length (second_bindings w) ≡ n = all_counted w in
    let where_is : (k : ℕ) → k ≤ n → (f k < first) ⊎ ((first + own ≤ f k) × (f k < first + own + length (second_bindings w))) = λ k le. standing k le (next w (f k)) refl in
    let r = pigeons n (λ k. place first own (f k) (cases_lt (f k) first)) (λ k le. subst (λ m. place first own (f k) (cases_lt (f k) first) < m) counts (place_below first own (length (second_bindings w)) (f k) (cases_lt (f k) first) (where_is k le))) in
    (r.0, r.1, r.2, r.3, place_same first own (length (second_bindings w)) (f r.0) (f r.1) (cases_lt (f r.0) first) (cases_lt (f r.1) first) (where_is r.0 (omega arith)) (where_is r.1 r.3) r.4)
  where
    standing : (k : ℕ) → k ≤ import_count w → (o : Option ℕ) → next w (again (bindings w) k a) ≡ o
        → (again (bindings w) k a < length (first_bindings w)) ⊎ ((length (first_bindings w) + length w.first.functions ≤ again (bindings w) k a) × (again (bindings w) k a < length (first_bindings w) + length w.first.functions + length (second_bindings w)))
    standing k le None none =
        let both : Some b ≡ None = sym e ∙ ap (next w) (settled (bindings w) k (import_count w) a le none) ∙ none in
        cc
    standing k le (Some c) some = stands (first_bindings w) (length w.first.functions) (second_bindings w) (length w.second.functions) (again (bindings w) k a) c some

-- .. so what it leads to after as many steps or more comes back
pub comes_to_ring : (w : Pair) (m reach b : ℕ) → import_count w ≤ reach → next w (again (bindings w) reach m) ≡ Some b → comes_back w (again (bindings w) reach m) ≡ true
comes_to_ring w m reach b le e = on (next w (again (bindings w) (import_count w) m)) refl
  where
    bs : List (Option ℕ)
    bs = bindings w

    on : (o : Option ℕ) → next w (again (bindings w) (import_count w) m) ≡ o → comes_back w (again (bindings w) reach m) ≡ true
    on None none =
        let both : Some b ≡ None = sym e ∙ ap (next w) (settled (bindings w) (import_count w) reach m le none) ∙ none in
        cc
    on (Some c) some =
        let r = repeats w m c some in
        let i = r.0 in
        let j = r.1 in
        let p = j - i in
        let here = again (bindings w) i m in
        let turn : again (bindings w) p here ≡ here = let sum : p + i ≡ j = omega arith in sym (again_more (bindings w) p i m) ∙ ap (λ k. again (bindings w) k m) sum ∙ sym r.4 in
        let t = reach - i in
        let far : again (bindings w) reach m ≡ again (bindings w) t here = let sum : reach ≡ t + i = omega arith in ap (λ k. again (bindings w) k m) sum ∙ again_more (bindings w) t i m in
        let back : again (bindings w) p (again (bindings w) t here) ≡ again (bindings w) t here =
        let sum : p + t ≡ t + p = omega arith in
        sym (again_more (bindings w) p t here) ∙ ap (λ k. again (bindings w) k here) sum ∙ again_more (bindings w) t p here ∙ ap (again (bindings w) t) turn in
        let comes : again (bindings w) p (again (bindings w) reach m) ≡ again (bindings w) reach m = ap (again (bindings w) p) far ∙ back ∙ sym far in
        let last : suc (p - 1) ≡ p = omega arith in
        reaching w (import_count w) (p - 1) (again (bindings w) reach m) (again (bindings w) reach m) b (omega arith) e (ap (λ k. again (bindings w) k (again (bindings w) reach m)) last ∙ comes)

-- ---- turns

turns : (bs : List (Option ℕ)) (p q a : ℕ) → again bs p a ≡ a → again bs (q * p) a ≡ a
unfolding again
turns bs p zero a e = let none : 0 * p ≡ 0 = omega arith in ap (λ k. again bs k a) none
turns bs p (suc q) a e =
    let sum : suc q * p ≡ q * p + p = grind arith in
    ap (λ k. again bs k a) sum ∙ again_more bs (q * p) p a ∙ ap (again bs (q * p)) e ∙ turns bs p q a e

-- what comes back is what some bound import leads to after so many steps
pub comes_from : (w : Pair) (a reach : ℕ) → comes_back w a ≡ true → (m : ℕ) × (again (bindings w) reach m ≡ a) × ((b : ℕ) × (next w m ≡ Some b)) × ((b : ℕ) × (next w a ≡ Some b))
comes_from w a reach e =
    let r = reached w (import_count w) a a e in
    let p = suc r.0 in
    let m = again (bindings w) (reach * p - reach) a in
    let sum : reach + (reach * p - reach) ≡ reach * p = let le : reach * 1 ≤ reach * p = mul-le-mul_left reach (omega arith) in omega arith in
    let to : again (bindings w) reach m ≡ a = sym (again_more (bindings w) reach (reach * p - reach) a) ∙ ap (λ k. again (bindings w) k a) sum ∙ turns (bindings w) p reach a r.2 in
    (m, to, leads m to r.3 (next w m) refl, r.3)
  where
    leads : (m : ℕ) → again (bindings w) reach m ≡ a → ((b : ℕ) × (next w a ≡ Some b)) → (o : Option ℕ) → next w m ≡ o → (b : ℕ) × (next w m ≡ Some b)
    leads m to some None none =
        let same : m ≡ a = sym (fixed (bindings w) reach m none) ∙ to in
        let both : None ≡ Some some.0 = sym none ∙ ap (next w) same ∙ some.1 in
        absurd (cc)
    leads m to some (Some b) e = (b, e)

-- ---- marks

pub has_at : (es : List ℕ) (b : ℕ) → has es b ≡ true → (k : ℕ) × (slice_get es k ≡ Some b)
has_at [] b e = absurd (false≢true e)
has_at (x ∷ xs) b e = by (nat_eq x b) refl (has_at xs b)
  where
    by : (t : Bool) → nat_eq x b ≡ t → (has xs b ≡ true → (k : ℕ) × (slice_get xs k ≡ Some b)) → (k : ℕ) × (slice_get (x ∷ xs) k ≡ Some b)
    by true same rest = let is : x ≡ b = grind (arith, nat_tests) in (0, ap (λ (k : ℕ). Some k) is)
    by false other rest = let r = rest (sym (ap (λ t. t || has xs b) other) ∙ e) in (suc r.0, r.1)

pub at_has : (es : List ℕ) (k b : ℕ) → slice_get es k ≡ Some b → has es b ≡ true
at_has [] k b e = cc
at_has (x ∷ xs) zero b e = let is : x ≡ b = cc in ap (λ t. t || has xs b) (eq-eqb x b is)
at_has (x ∷ xs) (suc k) b e = or_right (nat_eq x b) (has xs b) (at_has xs k b e)
  where
    or_right : (s t : Bool) → t ≡ true → s || t ≡ true
    or_right true t e = refl
    or_right false t e = e
