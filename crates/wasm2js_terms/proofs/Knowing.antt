-- What is still known, of the code and as plain data.
use Rattle.std.proofs.Common.{◌≡◌, ℕ, Bool, true, false, suc, List, [], ◌∷◌, length, drop, refl, ap}
use Rattle.std.specs.Prelude.{filter, not, if◌then◌else◌}
use Rattle.wasm2js_translation.specs.Names.{Name}
use Rattle.wasm2js_translation.specs.Known as plain
use Rattle.wasm2js_translation.specs.Known.{unchanged}
use Rattle.wasm2js_nodes.specs.Names.{name_view}
use Rattle.wasm2js_terms.specs.Facts.{known_view, knowns_view}
use Rattle.wasm2js_terms.specs.declared.facts.Known.{Known}

step : (b : Bool) (k : Known) (ks xs : List Known) (ys : List plain.Known) → knowns_view xs ≡ ys
    → knowns_view (if not b then k ∷ xs else xs) ≡ (if b then ys else known_view k ∷ ys)
step true k ks xs ys e = e
step false k ks xs ys e = ap (λ (more : List plain.Known). known_view k ∷ more) e

pub unchanged_filtered : (p : Name → Bool) (ks : List Known) → knowns_view (filter (λ k. not (p (name_view k.name))) ks) ≡ unchanged p (knowns_view ks)
unchanged_filtered p [] = refl
unchanged_filtered p (k ∷ ks) = step (p (name_view k.name)) k ks (filter (λ x. not (p (name_view x.name))) ks) (unchanged p (knowns_view ks)) (unchanged_filtered p ks)

pub as_many : (ks : List Known) → length (knowns_view ks) ≡ length ks
as_many [] = refl
as_many (k ∷ ks) = ap (λ (n : ℕ). suc n) (as_many ks)

pub without_oldest : (ks : List Known) → knowns_view (drop 1 ks) ≡ drop 1 (knowns_view ks)
without_oldest [] = refl
without_oldest (k ∷ ks) = refl
