-- The heights of functions, with one more at their end.
use Rattle.std.proofs.Common.{◌≡◌, ℕ, List, [], ◌∷◌, ◌++◌, map, length, max, min, suc, refl, ap, ◌∙◌, arith}
use Rattle.asm_lang.specs.Trees.{FunctionTree}
use Rattle.asm_lang.specs.Modules.{param_of, variable_of}
use Rattle.asm_lang.specs.Heights.{leaves_height}
use Rattle.asm_lang.specs.TreeHeights.{block_height}
use Rattle.asm_laws_height.specs.Peaks.{last_function}
use Rattle.asm_laws_height.proofs.SeenModules.{last_function_more}
use Rattle.asm_grammar_nodes.specs.declared.declarations.FunctionTree.{FunctionTree as CodeFunction}
use Rattle.asm_grammar_nodes.specs.Heights.{counted}
use Rattle.asm_grammar_nodes.specs.Views.{function_view, param_view, variable_view, stmts_view}
use Rattle.sem_words.specs.Lists.{list_items}
use Rattle.asm_grammar_functions.specs.Totals.{one_height, highest, functions_view}

pub functions_view-last : (fs : List CodeFunction) (f : CodeFunction) → functions_view (fs ++ f ∷ []) ≡ functions_view fs ++ function_view f ∷ []
functions_view-last [] f = refl
functions_view-last (g ∷ fs) f = ap (λ r. function_view g ∷ r) (functions_view-last fs f)

pub last_is : (fs : List CodeFunction) (f : CodeFunction) → last_function (functions_view (fs ++ f ∷ [])) ≡ one_height (function_view f)
last_is fs f = ap last_function (functions_view-last fs f) ∙ last_function_more (functions_view fs) (function_view f)

more_high : (fs : List FunctionTree) (f : FunctionTree) → highest (fs ++ f ∷ []) ≡ max (highest fs) (one_height f)
more_high [] f = omega arith
more_high (g ∷ fs) f = omega (arith, more_high fs f)

pub highest_is : (fs : List CodeFunction) (f : CodeFunction) → highest (functions_view (fs ++ f ∷ [])) ≡ max (highest (functions_view fs)) (one_height (function_view f))
highest_is fs f = ap highest (functions_view-last fs f) ∙ more_high (functions_view fs) (function_view f)

-- leaves are counted alike, whatever stands for them
pub leaves_same : {A B C : Type 0} (f : B → C) (g : A → B) (xs : List A) → leaves_height (map f (map g xs)) ≡ leaves_height xs
leaves_same f g [] = refl
leaves_same f g (x ∷ xs) = refl

leaves_len : {A : Type 0} (xs : List A) → leaves_height xs ≡ min 1 (length xs)
leaves_len [] = refl
leaves_len (x ∷ xs) = omega arith

pub leaves_of : {A B C : Type 0} (f : B → C) (g : A → B) (xs : List A) → leaves_height (map f (map g xs)) ≡ min 1 (length xs)
leaves_of f g xs = leaves_same f g xs ∙ leaves_len xs

pub function_high : (f : CodeFunction) (p l b : ℕ) → p ≡ min 1 (length (list_items f.params)) → l ≡ min 1 (length (list_items f.locals)) → b ≡ counted (block_height (stmts_view (list_items f.body))) → counted (suc (max (max p l) b)) ≡ counted (one_height (function_view f))
function_high f p l b ps ls bs = omega (arith, leaves_of param_of param_view (list_items f.params), leaves_of variable_of variable_view (list_items f.locals))

pub ruleset totals = (functions_view-last, last_is, highest_is)
