-- What is proved of the text of so many functions.
use Rattle.std.specs.Prelude.{ℕ, ◌≤◌}
use Rattle.asm_lang_valid.specs.Texts.{IsAcceptedText}
use Rattle.gen_lang.specs.Recipe.{recipe}
use Rattle.gen_laws.specs.Modules.{recipe_module}

-- it says this module, which is accepted
abbrev pub RecipesAreAccepted : Type 0
RecipesAreAccepted = (n : ℕ) → 1 ≤ n → n ≤ 10000 → IsAcceptedText (recipe n) (recipe_module n)
