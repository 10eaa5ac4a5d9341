-- A push at the end of what the code holds, as one of the lists that it stands for.
use Rattle.std.proofs.Common.{◌≡◌, List, [], ◌∷◌, ◌++◌, map, reverse, refl, ap}
use Rattle.std.proofs.lemmas.List.{reverse-append, reverse-reverse}
use Rattle.asm_grammar_nodes.specs.declared.lexeme.Lexeme.{Lexeme}
use Rattle.asm_grammar_nodes.specs.declared.declarations.ParamTree.{ParamTree}
use Rattle.asm_grammar_nodes.specs.declared.declarations.VariableTree.{VariableTree}
use Rattle.asm_grammar_nodes.specs.Views.{lexeme_view, lexemes_view, param_view, variable_view}
use Rattle.asm_grammar_decls.specs.Variables.{left_view}

pub map-last : {A B : Type 0} (f : A → B) (xs : List A) (x : A) → map f (xs ++ x ∷ []) ≡ map f xs ++ f x ∷ []
map-last f [] x = refl
map-last f (y ∷ xs) x = ap (λ r. f y ∷ r) (map-last f xs x)

pub lexemes_view-last : (ts : List Lexeme) (t : Lexeme) → lexemes_view (ts ++ t ∷ []) ≡ lexemes_view ts ++ lexeme_view t ∷ []
lexemes_view-last ts t = map-last lexeme_view ts t

pub params-last : (ps : List ParamTree) (p : ParamTree) → map param_view (ps ++ p ∷ []) ≡ map param_view ps ++ param_view p ∷ []
params-last ps p = map-last param_view ps p

pub variables-last : (vs : List VariableTree) (v : VariableTree) → map variable_view (vs ++ v ∷ []) ≡ map variable_view vs ++ variable_view v ∷ []
variables-last vs v = map-last variable_view vs v

pub left_view-last : (ps : List Lexeme) (p : Lexeme) → left_view (ps ++ p ∷ []) ≡ lexeme_view p ∷ left_view ps
left_view-last ps p = ap (map lexeme_view) (reverse-append ps (p ∷ []))

pub left_view-reversed : (ps : List Lexeme) → left_view (reverse ps) ≡ lexemes_view ps
left_view-reversed ps = ap (map lexeme_view) (reverse-reverse ps)

pub ruleset pushes = (lexemes_view-last, params-last, variables-last, left_view-last, left_view-reversed)
