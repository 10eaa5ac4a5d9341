-- The text says the module, which is accepted.
use Rattle.std.proofs.Common.{ℕ, zero, suc, ◌≤◌, false, [], refl, subst, arith}
use Rattle.asm_lang.specs.Heights.{function_height, functions_height, module_height, height_limit}
use Rattle.asm_lang.specs.Modules.{module_places}
use Rattle.asm_lang.specs.Texts.{IsTextOf}
use Rattle.asm_laws_print.proofs.Joined.{joined_read}
use Rattle.gen_lang.specs.Recipe.{recipe}
use Rattle.gen_laws.specs.Modules.{function_at, functions_from, recipe_module}
use Rattle.gen_laws.specs.Laws.{RecipesAreAccepted}
use Rattle.gen_laws.proofs.Lines.{recipe_pieces, text_joined}
use Rattle.gen_laws.proofs.Spelling.{recipe_neat, recipe_read}
use Rattle.gen_laws.proofs.Rows.{accepted}

low_function : (i : ℕ) → function_height (function_at i) ≤ 20
low_function zero = omega arith
low_function (suc i) = omega arith

low_functions : (n i : ℕ) → functions_height (functions_from i n) ≤ 20
low_functions zero i = omega arith
low_functions (suc n) i = omega (arith, low_function i, low_functions n (suc i))

low : (n : ℕ) → module_height (recipe_module n) ≤ height_limit
low n = omega (arith, low_functions n 0)

text_is : (n : ℕ) → n ≤ 10000 → IsTextOf (recipe n) (recipe_module n)
text_is n few =
    let r = joined_read [] (recipe_pieces n) (recipe_neat n few) 0 false in
    let x = recipe_read n few r.spells in
    subst (λ text. IsTextOf text (recipe_module n)) (text_joined n few) (record { tokens = r.tokens; is_reading = r.reads; tree = x.tree; is_module = x.is_module; is_this = x.is_this })

pub recipes_are_accepted : RecipesAreAccepted
recipes_are_accepted n some few =
    let said = text_is n few in
    record { places = module_places said.tree; says = record { said = said; have_places = refl; within = low n }; accepted = accepted n few some }
