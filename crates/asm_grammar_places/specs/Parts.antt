-- The places of parts of trees, as the steps of the code have them.
use Rattle.std.specs.Prelude.{ℕ, Bool, true, false, List, [], ◌∷◌, ◌++◌}
use Rattle.asm_lang.specs.Trees.{StmtTree, labelled, FunctionTree}
use Rattle.asm_lang.specs.Modules.{expr_places, option_places, stmt_places, stmts_places, params_places, variables_places}
use Rattle.asm_grammar_nodes.specs.Views.{AddendView, expr_option}
use Rattle.asm_grammar_nodes.specs.declared.tree.ForHeadTree.{ForHeadTree}

-- the place of a node, unless it goes on with the chain that is its first operand
abbrev pub own_place : Bool → ℕ → List ℕ
own_place true at = []
own_place false at = at ∷ []

-- the same for a flat sum, whose place is its first operator
abbrev pub sum_place : Bool → List AddendView → List ℕ
sum_place goes_on [] = []
sum_place goes_on (a ∷ others) = own_place goes_on a.at

abbrev pub addends_places : List AddendView → List ℕ
addends_places [] = []
addends_places (a ∷ others) = expr_places a.operand ++ addends_places others

-- the heading of a for loop
abbrev pub head_places : ForHeadTree → List ℕ
head_places h = option_places (expr_option h.start) ++ (option_places (expr_option h.condition) ++ option_places (expr_option h.step))

-- without the place of its own labels
abbrev pub below_labels : StmtTree → List ℕ
below_labels (labelled at ls s) = stmt_places s
below_labels s = stmt_places s

abbrev pub function_places : FunctionTree → List ℕ
function_places f = f.at ∷ (params_places f.params ++ (variables_places f.locals ++ stmts_places f.body))
