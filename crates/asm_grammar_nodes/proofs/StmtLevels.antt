-- The equations of the heights of statements.
use Rattle.std.proofs.Common.{◌≡◌, ℕ, ◌+◌, max, List, [], ◌∷◌, ◌++◌, Option, Some, None, refl, ap, ◌∙◌, arith}
use Rattle.std.specs.Prelude.{ℤ}
use Rattle.sem_words.specs.declared.text.Text.{Text}
use Rattle.std.specs.Global.{Global}
use Rattle.std.specs.declared.boxed.Box.{Box}
use Rattle.sem_words.specs.Lists.{list_items}
use Rattle.sem_words.specs.declared.list.List.{List as Listed}
use Rattle.asm_lang.specs.Lexemes.{Lexeme}
use Rattle.asm_lang.specs.Trees.{StmtTree, StmtTrees, ClauseTrees, no_clause, one_clause}
use Rattle.asm_lang.specs.TreeHeights.{height, part_height, stmt_height, body_height, block_height, cases_height}
use Rattle.asm_laws_height.proofs.Sizes.{under_height, under_body, more_block}
use Rattle.asm_grammar_nodes.specs.declared.lexeme.Word.{Word}
use Rattle.asm_grammar_nodes.specs.declared.tree.ExprTree.{ExprTree as CodeExpr}
use Rattle.asm_grammar_nodes.specs.declared.tree.StmtTree.{StmtTree as CodeStmt}
use Rattle.asm_grammar_nodes.specs.declared.tree.StmtTree.TheVariants as stmts
use Rattle.asm_grammar_nodes.specs.declared.tree.ClauseTree.{ClauseTree as CodeClause}
use Rattle.asm_grammar_nodes.specs.declared.tree.ForHeadTree.{ForHeadTree}
use Rattle.asm_grammar_nodes.specs.Views.{word_view, words_view, expr_view, expr_option, stmt_view, stmts_view, clauses_view, under_all, more_clauses}
use Rattle.asm_grammar_nodes.proofs.Views.{stmt_view-Block, stmt_view-Plain, stmt_view-Empty, stmt_view-If_only, stmt_view-If_else, stmt_view-Return, stmt_view-While, stmt_view-DoWhile, stmt_view-For, stmt_view-Break, stmt_view-Continue, stmt_view-Labelled, stmt_view-Switch, stmts_view-last, clauses_view-last, views}

pub height-Block : (at : ℕ) (ss : Listed CodeStmt) → stmt_height (stmt_view (stmts.Block at ss)) ≡ 1 + block_height (stmts_view (list_items ss))
height-Block at ss = ap stmt_height (stmt_view-Block at ss)

pub body-Block : (at : ℕ) (ss : Listed CodeStmt) → body_height (stmt_view (stmts.Block at ss)) ≡ max 1 (block_height (stmts_view (list_items ss)))
body-Block at ss = ap body_height (stmt_view-Block at ss)

pub height-Plain : (at : ℕ) (e : Box CodeExpr Global) → stmt_height (stmt_view (stmts.Plain at e)) ≡ 1 + height (expr_view e.value)
height-Plain at e = ap stmt_height (stmt_view-Plain at e)

pub body-Plain : (at : ℕ) (e : Box CodeExpr Global) → body_height (stmt_view (stmts.Plain at e)) ≡ 1 + height (expr_view e.value)
body-Plain at e = ap body_height (stmt_view-Plain at e)

pub height-Empty : (at : ℕ) → stmt_height (stmt_view (stmts.Empty at)) ≡ 1
height-Empty at = ap stmt_height (stmt_view-Empty at)

pub body-Empty : (at : ℕ) → body_height (stmt_view (stmts.Empty at)) ≡ 1
body-Empty at = ap body_height (stmt_view-Empty at)

pub height-If_only : (at : ℕ) (c : Box CodeExpr Global) (s : Box CodeStmt Global) → stmt_height (stmt_view (stmts.If at c s None)) ≡ 1 + max (height (expr_view c.value)) (body_height (stmt_view s.value))
height-If_only at c s = ap stmt_height (stmt_view-If_only at c s)

pub body-If_only : (at : ℕ) (c : Box CodeExpr Global) (s : Box CodeStmt Global) → body_height (stmt_view (stmts.If at c s None)) ≡ 1 + max (height (expr_view c.value)) (body_height (stmt_view s.value))
body-If_only at c s = ap body_height (stmt_view-If_only at c s)

pub height-If_else : (at : ℕ) (c : Box CodeExpr Global) (s : Box CodeStmt Global) (r : Box CodeStmt Global) → stmt_height (stmt_view (stmts.If at c s (Some r))) ≡ 1 + max (height (expr_view c.value)) (max (body_height (stmt_view s.value)) (body_height (stmt_view r.value)))
height-If_else at c s r = ap stmt_height (stmt_view-If_else at c s r)

pub body-If_else : (at : ℕ) (c : Box CodeExpr Global) (s : Box CodeStmt Global) (r : Box CodeStmt Global) → body_height (stmt_view (stmts.If at c s (Some r))) ≡ 1 + max (height (expr_view c.value)) (max (body_height (stmt_view s.value)) (body_height (stmt_view r.value)))
body-If_else at c s r = ap body_height (stmt_view-If_else at c s r)

pub height-Return : (at : ℕ) (o : Option (Box CodeExpr Global)) → stmt_height (stmt_view (stmts.Return at o)) ≡ 1 + part_height (expr_option o)
height-Return at o = ap stmt_height (stmt_view-Return at o)

pub body-Return : (at : ℕ) (o : Option (Box CodeExpr Global)) → body_height (stmt_view (stmts.Return at o)) ≡ 1 + part_height (expr_option o)
body-Return at o = ap body_height (stmt_view-Return at o)

pub height-While : (at : ℕ) (c : Box CodeExpr Global) (s : Box CodeStmt Global) → stmt_height (stmt_view (stmts.While at c s)) ≡ 1 + max (height (expr_view c.value)) (body_height (stmt_view s.value))
height-While at c s = ap stmt_height (stmt_view-While at c s)

pub body-While : (at : ℕ) (c : Box CodeExpr Global) (s : Box CodeStmt Global) → body_height (stmt_view (stmts.While at c s)) ≡ 1 + max (height (expr_view c.value)) (body_height (stmt_view s.value))
body-While at c s = ap body_height (stmt_view-While at c s)

pub height-DoWhile : (at : ℕ) (s : Box CodeStmt Global) (c : Box CodeExpr Global) → stmt_height (stmt_view (stmts.DoWhile at s c)) ≡ 1 + max (body_height (stmt_view s.value)) (height (expr_view c.value))
height-DoWhile at s c = ap stmt_height (stmt_view-DoWhile at s c)

pub body-DoWhile : (at : ℕ) (s : Box CodeStmt Global) (c : Box CodeExpr Global) → body_height (stmt_view (stmts.DoWhile at s c)) ≡ 1 + max (body_height (stmt_view s.value)) (height (expr_view c.value))
body-DoWhile at s c = ap body_height (stmt_view-DoWhile at s c)

pub height-For : (at : ℕ) (h : Box ForHeadTree Global) (s : Box CodeStmt Global) → stmt_height (stmt_view (stmts.For at h s)) ≡ 1 + max (part_height (expr_option h.value.start)) (max (part_height (expr_option h.value.condition)) (max (part_height (expr_option h.value.step)) (body_height (stmt_view s.value))))
height-For at h s = ap stmt_height (stmt_view-For at h s)

pub body-For : (at : ℕ) (h : Box ForHeadTree Global) (s : Box CodeStmt Global) → body_height (stmt_view (stmts.For at h s)) ≡ 1 + max (part_height (expr_option h.value.start)) (max (part_height (expr_option h.value.condition)) (max (part_height (expr_option h.value.step)) (body_height (stmt_view s.value))))
body-For at h s = ap body_height (stmt_view-For at h s)

pub height-Break : (at : ℕ) (l : Option Text) → stmt_height (stmt_view (stmts.Break at l)) ≡ 1
height-Break at l = ap stmt_height (stmt_view-Break at l)

pub body-Break : (at : ℕ) (l : Option Text) → body_height (stmt_view (stmts.Break at l)) ≡ 1
body-Break at l = ap body_height (stmt_view-Break at l)

pub height-Continue : (at : ℕ) (l : Option Text) → stmt_height (stmt_view (stmts.Continue at l)) ≡ 1
height-Continue at l = ap stmt_height (stmt_view-Continue at l)

pub body-Continue : (at : ℕ) (l : Option Text) → body_height (stmt_view (stmts.Continue at l)) ≡ 1
body-Continue at l = ap body_height (stmt_view-Continue at l)

pub height-Switch : (at : ℕ) (e : Box CodeExpr Global) (cs : Listed CodeClause) → stmt_height (stmt_view (stmts.Switch at e cs)) ≡ 1 + max (height (expr_view e.value)) (cases_height (clauses_view (list_items cs)))
height-Switch at e cs = ap stmt_height (stmt_view-Switch at e cs)

pub body-Switch : (at : ℕ) (e : Box CodeExpr Global) (cs : Listed CodeClause) → body_height (stmt_view (stmts.Switch at e cs)) ≡ 1 + max (height (expr_view e.value)) (cases_height (clauses_view (list_items cs)))
body-Switch at e cs = ap body_height (stmt_view-Switch at e cs)

-- ---- labels

all_height_of : (ns : List Lexeme) (s : StmtTree) → stmt_height (under_all ns s) ≡ stmt_height s
all_height_of [] s = refl
all_height_of (n ∷ ns) s = under_height n (under_all ns s) ∙ all_height_of ns s

all_body_of : (n : Lexeme) (ns : List Lexeme) (s : StmtTree) → body_height (under_all (n ∷ ns) s) ≡ stmt_height s
all_body_of n ns s = under_body n (under_all ns s) ∙ all_height_of ns s

pub height-Labelled : (ls : Listed Word) (s : Box CodeStmt Global) → stmt_height (stmt_view (stmts.Labelled ls s)) ≡ stmt_height (stmt_view s.value)
height-Labelled ls s = ap stmt_height (stmt_view-Labelled ls s) ∙ all_height_of (words_view (list_items ls)) (stmt_view s.value)

body_by_list : (ns : List Word) (s : StmtTree) → (ns ≡ [] → ⊥) → body_height (under_all (words_view ns) s) ≡ stmt_height s
body_by_list [] s h = absurd (h refl)
body_by_list (n ∷ ns) s h = all_body_of (word_view n) (words_view ns) s

pub body-Labelled : (ls : Listed Word) (s : Box CodeStmt Global) → (list_items ls ≡ [] → ⊥) → body_height (stmt_view (stmts.Labelled ls s)) ≡ stmt_height (stmt_view s.value)
body-Labelled ls s h = ap body_height (stmt_view-Labelled ls s) ∙ body_by_list (list_items ls) (stmt_view s.value) h

pub body-Unlabelled : (ls : Listed Word) (s : Box CodeStmt Global) → list_items ls ≡ [] → body_height (stmt_view (stmts.Labelled ls s)) ≡ body_height (stmt_view s.value)
body-Unlabelled ls s h = ap body_height (stmt_view-Labelled ls s) ∙ ap (λ (ns : List Word). body_height (under_all (words_view ns) (stmt_view s.value))) h

-- ---- lists

pub stmts_height-last : (ss : List CodeStmt) (s : CodeStmt) → block_height (stmts_view (ss ++ s ∷ [])) ≡ max (block_height (stmts_view ss)) (stmt_height (stmt_view s))
stmts_height-last ss s = ap block_height (stmts_view-last ss s) ∙ more_block (stmts_view ss) (stmt_view s)

more_cases : (cs : ClauseTrees) (v : Option ℤ) (ss : StmtTrees) → cases_height (more_clauses cs v ss) ≡ max (cases_height cs) (block_height ss)
more_cases no_clause v ss = omega arith
more_cases (one_clause u rs cs) v ss = omega (arith, more_cases cs v ss)

pub cases_height-last : (cs : List CodeClause) (c : CodeClause) → cases_height (clauses_view (cs ++ c ∷ [])) ≡ max (cases_height (clauses_view cs)) (block_height (stmts_view (list_items c.body)))
cases_height-last cs c = ap cases_height (clauses_view-last cs c) ∙ more_cases (clauses_view cs) c.value (stmts_view (list_items c.body))

pub ruleset statement_levels = (height-Block, body-Block, height-Plain, body-Plain, height-Empty, body-Empty, height-If_only, body-If_only, height-If_else, body-If_else, height-Return, body-Return, height-While, body-While, height-DoWhile, body-DoWhile, height-For, body-For, height-Break, body-Break, height-Continue, body-Continue, height-Switch, body-Switch, height-Labelled, body-Labelled, body-Unlabelled, stmts_height-last, cases_height-last, views)
