-- Steps along bindings, once, twice and many times.
use Rattle.std.proofs.Common.{◌≡◌, ℕ, zero, suc, ◌+◌, ◌*◌, ◌/◌, ◌<◌, ◌≤◌, List, [], ◌∷◌, ◌++◌, length, map, drop, Option, Some, None, refl, sym, ap, ◌∙◌, arith, add-zero, zero-add, subst}
use Rattle.std.proofs.lemmas.Option.{slice_get-map}
use Rattle.std.proofs.lemmas.List.{append-nil, at_drop_all}
use Rattle.std.proofs.Math.Nat.{mul-le-mul_right}
use Rattle.std.specs.Prelude.{slice_get, option_map}
use Rattle.std.specs.Option.{unwrap_or}
use Rattle.wasm_link_lang.specs.Pairs.{bound}
use Rattle.wasm_link_bind.specs.Chains.{step, again, at}

-- ---- one step of each address

abbrev pub stepped_from : ℕ → List (Option ℕ) → List ℕ
stepped_from a [] = []
stepped_from a (b ∷ bs) = unwrap_or b a ∷ stepped_from (a + 1) bs

stepped_at : (n a : ℕ) (next : List (Option ℕ)) → unwrap_or (slice_get (stepped_from n next) a) (n + a) ≡ unwrap_or (bound (slice_get next a)) (n + a)
stepped_at n a [] = refl
stepped_at n zero (b ∷ bs) = ap (unwrap_or b) (sym (add-zero n))
stepped_at n (suc a) (b ∷ bs) =
    let e : n + suc a ≡ (n + 1) + a = omega arith in
    ap (λ k. unwrap_or (slice_get (stepped_from (n + 1) bs) a) k) e ∙ stepped_at (n + 1) a bs ∙ ap (λ k. unwrap_or (bound (slice_get bs a)) k) (sym e)

pub all_stepped : (next : List (Option ℕ)) (a : ℕ) → at (stepped_from 0 next) a ≡ step next a
unfolding at step
all_stepped next a =
    ap (unwrap_or (slice_get (stepped_from 0 next) a)) (sym (zero-add a)) ∙ stepped_at 0 a next ∙ ap (unwrap_or (bound (slice_get next a))) (zero-add a)

-- ---- steps add up

pub once : (next : List (Option ℕ)) (a : ℕ) → step next a ≡ again next 1 a
unfolding again
once next a = refl

pub again_more : (next : List (Option ℕ)) (m n a : ℕ) → again next (m + n) a ≡ again next m (again next n a)
unfolding again
again_more next m zero a = ap (λ k. again next k a) (add-zero m)
again_more next m (suc n) a =
    let e : m + suc n ≡ suc (m + n) = omega arith in
    ap (λ k. again next k a) e ∙ again_more next m n (step next a)

-- ---- a table of steps twice over

by_case : (table : List ℕ) (a : ℕ) (o : Option ℕ) → slice_get table a ≡ o → unwrap_or (option_map (at table) o) a ≡ at table (unwrap_or o a)
unfolding at
by_case table a None e = sym (ap (λ o. unwrap_or o a) e)
by_case table a (Some x) e = refl

twice_is : (table : List ℕ) (a : ℕ) → at (map (at table) table) a ≡ at table (at table a)
unfolding at
twice_is table a = ap (λ o. unwrap_or o a) (slice_get-map (at table) table a) ∙ by_case table a (slice_get table a) refl

pub doubled : (next : List (Option ℕ)) (table twice : List ℕ) (reach : ℕ) → twice ≡ map (at table) table → ((a : ℕ) → at table a ≡ again next reach a)
    → (a : ℕ) → at twice a ≡ again next (2 * reach) a
doubled next table twice reach e h a =
    let sum : reach + reach ≡ 2 * reach = omega arith in
    ap (λ t. at t a) e ∙ twice_is table a ∙ h (at table a) ∙ ap (again next reach) (h a) ∙ sym (again_more next reach reach a) ∙ ap (λ k. again next k a) sum

pub halved : (steps rest reach : ℕ) → steps < (rest + 1) * reach → steps < (rest / 2 + 1) * (2 * reach)
halved steps rest reach h =
    let half : rest + 1 ≤ (rest / 2 + 1) * 2 = omega arith in
    let more : (rest + 1) * reach ≤ (rest / 2 + 1) * 2 * reach = mul-le-mul_right reach half in
    omega arith

pub last_half : (steps rest reach : ℕ) → rest ≤ 0 → steps < (rest + 1) * reach → steps ≤ reach
last_half steps rest reach none h = let e : rest ≡ 0 = omega arith in let k : steps < (0 + 1) * reach = subst (λ r. steps < (r + 1) * reach) e h in omega arith

-- ---- how many places a table has

pub stepped_count : (n : ℕ) (next : List (Option ℕ)) → length (stepped_from n next) ≡ length next
stepped_count n [] = refl
stepped_count n (b ∷ bs) = ap suc (stepped_count (n + 1) bs)

-- all of them
pub stepped_whole : (next : List (Option ℕ)) (table : List ℕ) (a : ℕ) → length next ≤ a → stepped_from 0 next ≡ table ++ stepped_from a (drop a next) → stepped_from 0 next ≡ table
stepped_whole next table a h e = e ∙ ap (λ l. table ++ l) (at_drop_all (stepped_from a) next a h) ∙ append-nil table
