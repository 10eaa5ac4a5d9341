-- The numbers of functions and globals of a linked module have 32 bits.
use Rattle.std.proofs.Common.{◌≡◌, ℕ, zero, suc, ◌+◌, ◌^◌, ◌<◌, ◌≤◌, List, [], ◌∷◌, ◌++◌, length, map, replicate, Option, Some, None, refl, sym, ap, ◌∙◌, subst, arith, length-append}
use Rattle.std.specs.List.{AllByRecursion}
use Rattle.std.specs.Prelude.{slice_get}
use Rattle.std.proofs.lemmas.List.{length-replicate}
use Rattle.wasm_lang_valid.specs.ModuleRules.{imported_globals}
use Rattle.wasm_link_lang.specs.Pairs.{Pair, first_bindings, second_bindings, end_of}
use Rattle.wasm_link_lang.specs.Refusal.{sums_past}
use Rattle.wasm_link_code.specs.Numbers.{places, unbound_count, counted, numbered, own_numbers, or_zero, at_place, number, none_bound, global_numbers, global_number}
use Rattle.wasm_link_code.specs.Linked.{last_function}
use Rattle.wasm_link_laws_writable.proofs.Sums.{few_unbound, few_unbound_functions, few_globals}
use Rattle.wasm_laws_write.specs.Fits.{FitsU32}
use Rattle.wasm_link_laws_writable.proofs.Each.{each_append}

abbrev UpTo : ℕ → List ℕ → Type 0
UpTo most = AllByRecursion (λ k. k ≤ most)

places_up : (most n : ℕ) (bs : List (Option ℕ)) → n + unbound_count bs ≤ most → UpTo most (places n bs)
places_up most n [] h = tt
places_up most n (None ∷ bs) h = (omega (arith, h), places_up most (suc n) bs (omega (arith, h)))
places_up most n (Some b ∷ bs) h = (omega arith, places_up most n bs h)

counted_up : (most n count : ℕ) → n + count ≤ most → UpTo most (counted n count)
counted_up most n zero h = tt
counted_up most n (suc count) h = (omega (arith, h), counted_up most (suc n) count (omega (arith, h)))

numbered_up : (most : ℕ) (first : List (Option ℕ)) (own : ℕ) (second : List (Option ℕ)) (more : ℕ) → unbound_count first + unbound_count second + own + more ≤ most → UpTo most (numbered first own second more)
numbered_up most first own second more h =
    each_append (λ k. k ≤ most) (places 0 first ++ counted (unbound_count first + unbound_count second) own) _
    (each_append (λ k. k ≤ most) (places 0 first) _ (places_up most 0 first (omega (arith, h))) (counted_up most (unbound_count first + unbound_count second) own (omega (arith, h))))
    (each_append (λ k. k ≤ most) (places (unbound_count first) second) _ (places_up most (unbound_count first) second (omega (arith, h))) (counted_up most (unbound_count first + unbound_count second + own) more (omega (arith, h))))

found_up : (most : ℕ) (ns : List ℕ) (i : ℕ) → UpTo most ns → or_zero (slice_get ns i) ≤ most
found_up most [] i e = omega arith
found_up most (n ∷ ns) zero e = e.0
found_up most (n ∷ ns) (suc i) e = found_up most ns i e.1

at_place_up : (most : ℕ) (ns : List ℕ) (o : Option ℕ) → UpTo most ns → at_place ns o ≤ most
at_place_up most ns None e = omega arith
at_place_up most ns (Some i) e = found_up most ns i e

pub last_fits : (w : Pair) → sums_past w ≡ None → FitsU32 (last_function w)
last_fits w e = few_unbound_functions w e

pub number_fits : (w : Pair) (a : ℕ) → sums_past w ≡ None → FitsU32 (number w a)
unfolding number
number_fits w a e =
    let most = unbound_count (first_bindings w) + unbound_count (second_bindings w) + length w.first.functions + length w.second.functions in
    let few : most < 2 ^ 32 = few_unbound_functions w e in
    let up = at_place_up most (own_numbers w) (end_of w a) (numbered_up most (first_bindings w) (length w.first.functions) (second_bindings w) (length w.second.functions) (omega arith)) in
    omega (arith, few, up)

pub global_number_fits : (w : Pair) (g : ℕ) → sums_past w ≡ None → FitsU32 (global_number w g)
unfolding global_number
global_number_fits w g e =
    let first = none_bound (length (imported_globals w.first.imports)) in
    let second = none_bound (length (imported_globals w.second.imports)) in
    let none : Option ℕ = None in
    let a = few_unbound first in
    let b = few_unbound second in
    let c = length-replicate (length (imported_globals w.first.imports)) none in
    let d = length-replicate (length (imported_globals w.second.imports)) none in
    let most = unbound_count first + unbound_count second + length w.first.globals + length w.second.globals in
    let few = few_globals w e in
    let fits : most < 2 ^ 32 = omega (arith, a, b, c, d, few) in
    let up = at_place_up most (global_numbers w) (Some g) (numbered_up most first (length w.first.globals) second (length w.second.globals) (omega arith)) in
    omega (arith, fits, up)
