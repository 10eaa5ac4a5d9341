-- What is known behind a test.
use Rattle.std.proofs.Common.{◌≡◌, ℕ, false, List, [], ◌∷◌, Option, Some, None, refl, sym, ap, ◌∙◌}
use Rattle.wasm2js_translation.specs.Words.{Term, read, number, both, flip, sum, product, zeros, compare, choose, byte, whole, guard}
use Rattle.wasm2js_translation.specs.Delays.{Delayed, replaced, at_hand}
use Rattle.wasm2js_translation.specs.Known.{Known, unchanged, learned}
use Rattle.wasm2js_terms.specs.Waits.{if_atom}
use Rattle.wasm2js_build.specs.Steps.{learned_bound}

nothing_changes : (ks : List Known) → ks ≡ unchanged (λ n. false) ks
nothing_changes [] = refl
nothing_changes (k ∷ ks) = ap (λ (more : List Known). k ∷ more) (nothing_changes ks)

of_word : (ks : List Known) (u : Term) (most kind : ℕ) → learned_bound ks (Some u) most ≡ learned ks (guard u most kind)
of_word ks (read n) most kind = refl
of_word ks (number z) most kind = nothing_changes ks
of_word ks (both op a b) most kind = nothing_changes ks
of_word ks (flip a) most kind = nothing_changes ks
of_word ks (sum a ts) most kind = nothing_changes ks
of_word ks (product a b) most kind = nothing_changes ks
of_word ks (zeros a) most kind = nothing_changes ks
of_word ks (compare signed r a b) most kind = nothing_changes ks
of_word ks (choose c a b) most kind = nothing_changes ks
of_word ks (byte signed at) most kind = nothing_changes ks
of_word ks (whole at) most kind = nothing_changes ks

of_term : (ks : List Known) (ds : List Delayed) (u : Term) (most kind : ℕ) → learned_bound ks (if_atom (replaced ds u) u) most ≡ learned ks (guard (replaced ds u) most kind)
of_term ks ds (read n) most kind = of_word ks (at_hand ds n) most kind
of_term ks ds (number z) most kind = nothing_changes ks
of_term ks ds (both op a b) most kind = nothing_changes ks
of_term ks ds (flip a) most kind = nothing_changes ks
of_term ks ds (sum a ts) most kind = nothing_changes ks
of_term ks ds (product a b) most kind = nothing_changes ks
of_term ks ds (zeros a) most kind = nothing_changes ks
of_term ks ds (compare signed r a b) most kind = nothing_changes ks
of_term ks ds (choose c a b) most kind = nothing_changes ks
of_term ks ds (byte signed at) most kind = nothing_changes ks
of_term ks ds (whole at) most kind = nothing_changes ks

-- of the code, where `o` is the word if it has no operators
pub bound_learned : (ks js : List Known) (ds : List Delayed) (u : Term) (o : Option Term) (most kind : ℕ) → o ≡ if_atom (replaced ds u) u → js ≡ learned_bound ks o most
    → js ≡ learned ks (guard (replaced ds u) most kind)
bound_learned ks js ds u o most kind asked made = made ∙ ap (λ (x : Option Term). learned_bound ks x most) asked ∙ of_term ks ds u most kind
