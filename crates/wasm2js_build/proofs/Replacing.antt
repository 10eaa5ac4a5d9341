-- Where nothing waits, terms stay as they are.
use Rattle.std.proofs.Common.{◌≡◌, List, [], ◌∷◌, refl, ap, ◌∙◌}
use Rattle.wasm2js_translation.specs.Words.{Term, Summands, read, number, both, flip, sum, product, zeros, compare, choose, byte, whole, no_more, further, Simple, put, ask, tell, guard, stop, write_byte, write_whole}
use Rattle.wasm2js_translation.specs.Delays.{replaced, replaced_summands, all_replaced, in_place}

mutual
  pub nothing_waits : (t : Term) → replaced [] t ≡ t
  nothing_waits (read n) = refl
  nothing_waits (number z) = refl
  nothing_waits (both op a b) = ap (λ x. both op x (replaced [] b)) (nothing_waits a) ∙ ap (λ x. both op a x) (nothing_waits b)
  nothing_waits (flip a) = ap flip (nothing_waits a)
  nothing_waits (sum a ts) = ap (λ x. sum x (replaced_summands [] ts)) (nothing_waits a) ∙ ap (λ x. sum a x) (no_summand_waits ts)
  nothing_waits (product a b) = ap (λ x. product x (replaced [] b)) (nothing_waits a) ∙ ap (λ x. product a x) (nothing_waits b)
  nothing_waits (zeros a) = ap zeros (nothing_waits a)
  nothing_waits (compare signed r a b) = ap (λ x. compare signed r x (replaced [] b)) (nothing_waits a) ∙ ap (λ x. compare signed r a x) (nothing_waits b)
  nothing_waits (choose t a b) =
      ap (λ x. choose x (replaced [] a) (replaced [] b)) (nothing_waits t) ∙ ap (λ x. choose t x (replaced [] b)) (nothing_waits a)
      ∙ ap (λ x. choose t a x) (nothing_waits b)
  nothing_waits (byte signed at) = ap (λ x. byte signed x) (nothing_waits at)
  nothing_waits (whole at) = ap whole (nothing_waits at)

  no_summand_waits : (ts : Summands) → replaced_summands [] ts ≡ ts
  no_summand_waits no_more = refl
  no_summand_waits (further minus t ts) = ap (λ x. further minus x (replaced_summands [] ts)) (nothing_waits t) ∙ ap (λ x. further minus t x) (no_summand_waits ts)

pub no_term_waits : (ts : List Term) → all_replaced [] ts ≡ ts
no_term_waits [] = refl
no_term_waits (t ∷ ts) = ap (λ x. x ∷ all_replaced [] ts) (nothing_waits t) ∙ ap (λ x. t ∷ x) (no_term_waits ts)

pub nothing_in_place : (s : Simple) → in_place [] s ≡ s
nothing_in_place (put n t) = ap (λ x. put n x) (nothing_waits t)
nothing_in_place (ask n helper ts) = ap (λ x. ask n helper x) (no_term_waits ts)
nothing_in_place (tell helper ts) = ap (λ x. tell helper x) (no_term_waits ts)
nothing_in_place (guard t most kind) = ap (λ x. guard x most kind) (nothing_waits t)
nothing_in_place (stop kind) = refl
nothing_in_place (write_byte at t) = ap (λ x. write_byte x (replaced [] t)) (nothing_waits at) ∙ ap (λ x. write_byte at x) (nothing_waits t)
nothing_in_place (write_whole at t) = ap (λ x. write_whole x (replaced [] t)) (nothing_waits at) ∙ ap (λ x. write_whole at x) (nothing_waits t)
