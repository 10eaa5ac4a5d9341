-- What it says that no sum passes its limit.
use Rattle.std.proofs.Common.{◌≡◌, ℕ, ◌+◌, ◌^◌, ◌<◌, ◌≤◌, List, [], ◌∷◌, length, map, Option, Some, None, refl, arith, length-append}
use Rattle.std.proofs.lemmas.List.{length-map}
use Rattle.wasm_lang.specs.Limits.{most_types, most_functions, most_globals, most_entries}
use Rattle.wasm_lang_valid.specs.ModuleRules.{imported_functions, imported_globals, function_types, global_types}
use Rattle.wasm_lang_valid.specs.Runnable.{or_else}
use Rattle.wasm_link_lang.specs.Pairs.{Pair, first_bindings, second_bindings}
use Rattle.wasm_link_lang.specs.Reductions.{entries}
use Rattle.wasm_link_lang.specs.Refusal.{sum_above, sums_past}
use Rattle.wasm_link_code.specs.Numbers.{unbound_count}
use Rattle.wasm_link_laws_modules.proofs.Chains.{first_many, second_many}
use Rattle.wasm_link_laws_modules.proofs.Sections.{above_none}

neither : (x y : Option ℕ) → or_else x y ≡ None → (x ≡ None) × (y ≡ None)
neither None y e = (refl, e)
neither (Some n) y e = absurd (cc)

pub record FewSums (w : Pair) : Type 0 where
  pub types : length w.first.types + length w.second.types ≤ 10000
  pub functions : length (function_types w.first) + length (function_types w.second) + 1 ≤ 80000
  pub globals : length (global_types w.first) + length (global_types w.second) ≤ 220000
  pub entries : entries w.first + entries w.second ≤ 1048576

pub few_sums : (w : Pair) → sums_past w ≡ None → FewSums w
few_sums w e =
    let types = length w.first.types + length w.second.types in
    let functions = length (function_types w.first) + length (function_types w.second) + 1 in
    let globals = length (global_types w.first) + length (global_types w.second) in
    let a = neither (sum_above most_types types) (or_else (sum_above most_functions functions) (or_else (sum_above most_globals globals) (sum_above most_entries (entries w.first + entries w.second)))) e in
    let b = neither (sum_above most_functions functions) (or_else (sum_above most_globals globals) (sum_above most_entries (entries w.first + entries w.second))) a.1 in
    let c = neither (sum_above most_globals globals) (sum_above most_entries (entries w.first + entries w.second)) b.1 in
    record {
      types = above_none 10000 types a.0;
      functions = above_none 80000 functions b.0;
      globals = above_none 220000 globals c.0;
      entries = above_none 1048576 (entries w.first + entries w.second) c.1;
    }

pub few_unbound : (bs : List (Option ℕ)) → unbound_count bs ≤ length bs
few_unbound [] = omega arith
few_unbound (None ∷ bs) = omega (arith, few_unbound bs)
few_unbound (Some b ∷ bs) = omega (arith, few_unbound bs)

pub few_unbound_functions : (w : Pair) → sums_past w ≡ None → unbound_count (first_bindings w) + unbound_count (second_bindings w) + length w.first.functions + length w.second.functions < 2 ^ 32
few_unbound_functions w e =
    let few = (few_sums w e).functions in
    let a = few_unbound (first_bindings w) in
    let b = few_unbound (second_bindings w) in
    let c = first_many w in
    let d = second_many w in
    let f = length-append (imported_functions w.first.imports) w.first.functions in
    let g = length-append (imported_functions w.second.imports) w.second.functions in
    omega (arith, few, a, b, c, d, f, g)

pub few_globals : (w : Pair) → sums_past w ≡ None → length (imported_globals w.first.imports) + length w.first.globals + length (imported_globals w.second.imports) + length w.second.globals < 2 ^ 32
few_globals w e =
    let few = (few_sums w e).globals in
    let a = length-append (imported_globals w.first.imports) (map (λ g. g.kind) w.first.globals) in
    let b = length-append (imported_globals w.second.imports) (map (λ g. g.kind) w.second.globals) in
    let c = length-map w.first.globals (λ g. g.kind) in
    let d = length-map w.second.globals (λ g. g.kind) in
    omega (arith, few, a, b, c, d)
