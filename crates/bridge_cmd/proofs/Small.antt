-- The module of so many functions is small.
use Rattle.std.proofs.Common.{◌≡◌, ℕ, zero, suc, ◌≤◌, false, [], length, refl, ap, arith}
use Rattle.std.specs.Prelude.{All}
use Rattle.std.proofs.lemmas.List.Elements.{All-nil, All-cons}
use Rattle.asm_lang.specs.Heights.{function_height, functions_height}
use Rattle.asm_lang.specs.Modules.{Variable, Function}
use Rattle.asm_lang_valid.specs.Rows.{function_count}
use Rattle.asm2wasm_lang.specs.Small.{is_foreign_member, HaveNoSwitch, IsSmall}
use Rattle.gen_laws.specs.Modules.{body_at, function_at, functions_from, the_view, recipe_module}

low_function : (i : ℕ) → function_height (function_at i) ≤ 20
low_function zero = omega arith
low_function (suc i) = omega arith

low_functions : (n i : ℕ) → functions_height (functions_from i n) ≤ 20
low_functions zero i = omega arith
low_functions (suc n) i = omega (arith, low_function i, low_functions n (suc i))

few_functions : (n i : ℕ) → length (functions_from i n) ≡ n
few_functions zero i = refl
few_functions (suc n) i = ap suc (few_functions n (suc i))

no_switch : (i : ℕ) → HaveNoSwitch (body_at i)
no_switch zero = (tt, tt)
no_switch (suc i) = (tt, (tt, (tt, tt)))

few_nodes : (i : ℕ) → function_count (function_at i) ≤ 1000
few_nodes zero = omega arith
few_nodes (suc i) = omega arith

each : (P : Function → Type 0) → ((i : ℕ) → P (function_at i)) → (n i : ℕ) → All P (functions_from i n)
each P h zero i = All-nil P
each P h (suc n) i = All-cons P (function_at i) (functions_from (suc i) n) (h i) (each P h n (suc i))

pub recipe_is_small : (n : ℕ) → n ≤ 10000 → IsSmall (recipe_module n)
recipe_is_small n few = record {
  no_table = refl;
  no_switch = each (λ (f : Function). HaveNoSwitch f.body) no_switch n 0;
  no_foreign_member = All-cons (λ (v : Variable). is_foreign_member (recipe_module n) v.init ≡ false) the_view [] refl (All-nil (λ (v : Variable). is_foreign_member (recipe_module n) v.init ≡ false));
  functions = omega (arith, few, few_functions n 0);
  globals = omega arith;
  height = omega (arith, low_functions n 0);
  nodes = each (λ (f : Function). function_count f ≤ 1000) few_nodes n 0;
}
