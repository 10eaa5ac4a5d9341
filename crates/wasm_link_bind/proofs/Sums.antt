-- What it says that no sum passes its limit.
use Rattle.std.proofs.lemmas.List.{length-replicate}
use Rattle.std.proofs.Common.{◌≡◌, ℕ, ◌+◌, ◌^◌, ◌<◌, ◌≤◌, Bool, true, false, cond, List, [], ◌∷◌, length, map, Option, Some, None, refl, sym, ap, ◌∙◌, arith, length-append}
use Rattle.std.specs.Prelude.{nat_lt, replicate}
use Rattle.std.proofs.lemmas.Bool.Decides.{nat_tests}
use Rattle.std.proofs.lemmas.List.{length-map}
use Rattle.wasm_lang.specs.Limits.{most_types, most_functions, most_globals, most_entries}
use Rattle.wasm_lang_valid.specs.ModuleRules.{function_types, global_types, imported_globals}
use Rattle.wasm_lang_valid.specs.Runnable.{or_else, above}
use Rattle.wasm_link_lang.specs.Pairs.{Pair, past_first, first_bindings, second_bindings}
use Rattle.wasm_link_lang.specs.Reductions.{entries}
use Rattle.wasm_link_lang.specs.Refusal.{sum_above, sums_past}
use Rattle.wasm_link_code.specs.Numbers.{unbound_count}
use Rattle.wasm_link_bind.proofs.Members.{past_count, second_past_count}

none_of : (x y : Option ℕ) → or_else x y ≡ None → (x ≡ None) × (y ≡ None)
none_of None y e = (refl, e)
none_of (Some n) y e = absurd (cc)

not_above : (limit n : ℕ) → above limit (Some n) ≡ None → n ≤ limit
not_above limit n e = by (nat_lt limit n) refl
  where
    by : (b : Bool) → nat_lt limit n ≡ b → n ≤ limit
    by true t = let both : Some n ≡ None = sym (ap (λ b. cond b (Some n) None) t) ∙ e in absurd (cc)
    by false t = grind (arith, nat_tests)

pub record FewSums (w : Pair) : Type 0 where
  pub types : length w.first.types + length w.second.types ≤ 10000
  pub functions : length (function_types w.first) + length (function_types w.second) + 1 ≤ 80000
  pub globals : length (global_types w.first) + length (global_types w.second) ≤ 220000
  pub entries : entries w.first + entries w.second ≤ 1048576

pub few_sums : (w : Pair) → sums_past w ≡ None → FewSums w
few_sums w e =
    let types = length w.first.types + length w.second.types in
    let functions = length (function_types w.first) + length (function_types w.second) + 1 in
    let globals = length (global_types w.first) + length (global_types w.second) in
    let a = none_of (sum_above most_types types) (or_else (sum_above most_functions functions) (or_else (sum_above most_globals globals) (sum_above most_entries (entries w.first + entries w.second)))) e in
    let b = none_of (sum_above most_functions functions) (or_else (sum_above most_globals globals) (sum_above most_entries (entries w.first + entries w.second))) a.1 in
    let c = none_of (sum_above most_globals globals) (sum_above most_entries (entries w.first + entries w.second)) b.1 in
    record {
      types = not_above 10000 types a.0;
      functions = not_above 80000 functions b.0;
      globals = not_above 220000 globals c.0;
      entries = not_above 1048576 (entries w.first + entries w.second) c.1;
    }

-- all functions, bound imports too
pub few_functions : (w : Pair) → sums_past w ≡ None → length (first_bindings w) + length w.first.functions + length (second_bindings w) + length w.second.functions < 2 ^ 32
few_functions w e = let few = (few_sums w e).functions in omega (arith, past_count w, second_past_count w)

pub few_globals : (w : Pair) → sums_past w ≡ None → length (imported_globals w.first.imports) + length w.first.globals + length (imported_globals w.second.imports) + length w.second.globals < 2 ^ 32
few_globals w e =
    let few = (few_sums w e).globals in
    let first = length-append (imported_globals w.first.imports) (map (λ g. g.kind) w.first.globals) in
    let second = length-append (imported_globals w.second.imports) (map (λ g. g.kind) w.second.globals) in
    omega (arith, length-map w.first.globals (λ g. g.kind), length-map w.second.globals (λ g. g.kind))

few_unbound : (bs : List (Option ℕ)) → unbound_count bs ≤ length bs
few_unbound [] = omega arith
few_unbound (None ∷ bs) = omega (arith, few_unbound bs)
few_unbound (Some b ∷ bs) = omega (arith, few_unbound bs)

pub few_unbound_functions : (w : Pair) → sums_past w ≡ None → unbound_count (first_bindings w) + unbound_count (second_bindings w) + length w.first.functions + length w.second.functions < 2 ^ 32
few_unbound_functions w e = omega (arith, few_functions w e, few_unbound (first_bindings w), few_unbound (second_bindings w))
