-- The modules of parts of trees, as the steps of the code have them.
use Rattle.std.specs.Prelude.{ℕ, List, [], ◌∷◌, ◌++◌, map}
use Rattle.asm_lang.specs.Lexemes.{Lexeme}
use Rattle.asm_lang.specs.Modules as modules
use Rattle.asm_lang.specs.Modules.{Expr, chained, expr_of, Stmt}
use Rattle.asm_grammar_nodes.specs.Views.{AddendView}

-- ---- sums

-- an expression with the further operands of a flat sum
abbrev pub links_on : Expr → List AddendView → Expr
links_on e [] = e
links_on e (a ∷ others) = links_on (chained e a.minus (expr_of a.operand)) others

-- ---- labels

-- labels go on with those of a statement that has labels
abbrev pub merged : List (List ℕ) → Stmt → Stmt
merged ns (modules.labelled ls s) = modules.labelled (ns ++ ls) s
merged ns s = modules.labelled ns s

-- a statement under labels, in text order, if there are any
abbrev pub with_labels : List (List ℕ) → Stmt → Stmt
with_labels [] s = s
with_labels (n ∷ ns) s = merged (n ∷ ns) s

abbrev pub label_texts : List Lexeme → List (List ℕ)
label_texts ns = map (λ (n : Lexeme). n.text) ns
