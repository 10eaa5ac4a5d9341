-- What statements are, by their form in the code.
use Rattle.std.proofs.Common.{◌≡◌, List, Option, Some, None, refl, sym, ap, ◌∙◌}
use Rattle.std.specs.Global.{Global}
use Rattle.std.specs.declared.boxed.Box.{Box}
use Rattle.sem_words.specs.Lists.{list_items}
use Rattle.sem_words.specs.declared.list.List.{List as Listed}
use Rattle.sem_words.specs.declared.text.Text.{Text}
use Rattle.asm_lang.specs.Modules.{block, plain, empty, if_only, if_else, returns, while_loop, do_while, for_loop, breaks, continues, labelled, switches}
use Rattle.asm_tree.specs.declared.tree.Expr.{Expr as CodeExpr}
use Rattle.asm_tree.specs.declared.tree.ForHead.{ForHead}
use Rattle.asm_tree.specs.declared.tree.Stmt.{Stmt as CodeStmt}
use Rattle.asm_tree.specs.declared.tree.Stmt.TheVariants as variants
use Rattle.asm_tree.specs.declared.tree.Clause.{Clause as CodeClause}
use Rattle.asm_tree.specs.Views.{texts_view, text_option, expr_view, expr_option, stmt_view, stmts_view, clauses_view}
use Rattle.asm_tree.proofs.Views.{stmt_view-Block, stmt_view-Plain, stmt_view-Empty, stmt_view-If_only, stmt_view-If_else, stmt_view-Return, stmt_view-While, stmt_view-DoWhile, stmt_view-For, stmt_view-Break, stmt_view-Continue, stmt_view-Labelled, stmt_view-Switch}
use Rattle.asm_run_emit_bodies.specs.Choices.{choice, stmt_option}

module _ (s : CodeStmt) where
  pub block_is : (l : Listed CodeStmt) (ss : List CodeStmt) → s ≡ variants.Block l → ss ≡ list_items l → stmt_view s ≡ block (stmts_view ss)
  block_is l ss h k = ap stmt_view h ∙ stmt_view-Block l ∙ ap (λ x. block (stmts_view x)) (sym k)

  pub plain_is : (e : CodeExpr) → s ≡ variants.Plain e → stmt_view s ≡ plain (expr_view e)
  plain_is e h = ap stmt_view h ∙ stmt_view-Plain e

  pub return_is : (o : Option CodeExpr) → s ≡ variants.Return o → stmt_view s ≡ returns (expr_option o)
  return_is o h = ap stmt_view h ∙ stmt_view-Return o

  if_only_is : (c : CodeExpr) (b : Box CodeStmt Global) (o : Option (Box CodeStmt Global)) (y : CodeStmt) → s ≡ variants.If b o c → o ≡ None → y ≡ b.value → stmt_view s ≡ if_only (expr_view c) (stmt_view y)
  if_only_is c b o y h n k = ap stmt_view (h ∙ ap (λ o. variants.If b o c) n) ∙ stmt_view-If_only c b ∙ ap (λ x. if_only (expr_view c) (stmt_view x)) (sym k)

  if_else_is : (c : CodeExpr) (b d : Box CodeStmt Global) (o : Option (Box CodeStmt Global)) (y z : CodeStmt) → s ≡ variants.If b o c → o ≡ Some d → y ≡ b.value → z ≡ d.value → stmt_view s ≡ if_else (expr_view c) (stmt_view y) (stmt_view z)
  if_else_is c b d o y z h n k m =
      ap stmt_view (h ∙ ap (λ o. variants.If b o c) n) ∙ stmt_view-If_else c b d
      ∙ ap (λ x. if_else (expr_view c) (stmt_view x) (stmt_view d.value)) (sym k) ∙ ap (λ x. if_else (expr_view c) (stmt_view y) (stmt_view x)) (sym m)

  pub choice_is : (c : CodeExpr) (b : Box CodeStmt Global) (o : Option (Box CodeStmt Global)) (y : CodeStmt) → s ≡ variants.If b o c → y ≡ b.value → stmt_view s ≡ choice (expr_view c) (stmt_view y) (stmt_option o)
  choice_is c b None y h k = if_only_is c b None y h refl k
  choice_is c b (Some d) y h k = if_else_is c b d (Some d) y d.value h refl k refl

  pub while_is : (c : CodeExpr) (b : Box CodeStmt Global) (y : CodeStmt) → s ≡ variants.While c b → y ≡ b.value → stmt_view s ≡ while_loop (expr_view c) (stmt_view y)
  while_is c b y h k = ap stmt_view h ∙ stmt_view-While c b ∙ ap (λ x. while_loop (expr_view c) (stmt_view x)) (sym k)

  pub do_is : (b : Box CodeStmt Global) (c : CodeExpr) (y : CodeStmt) → s ≡ variants.DoWhile b c → y ≡ b.value → stmt_view s ≡ do_while (stmt_view y) (expr_view c)
  do_is b c y h k = ap stmt_view h ∙ stmt_view-DoWhile b c ∙ ap (λ x. do_while (stmt_view x) (expr_view c)) (sym k)

  pub for_is : (hd : Box ForHead Global) (b : Box CodeStmt Global) (x : ForHead) (t : CodeStmt) → s ≡ variants.For hd b → x ≡ hd.value → t ≡ b.value → stmt_view s ≡ for_loop (expr_option x.start) (expr_option x.condition) (expr_option x.step) (stmt_view t)
  for_is hd b x t h e k =
      ap stmt_view h ∙ stmt_view-For hd b
      ∙ ap (λ (y : ForHead). for_loop (expr_option y.start) (expr_option y.condition) (expr_option y.step) (stmt_view b.value)) (sym e) ∙ ap (λ u. for_loop (expr_option x.start) (expr_option x.condition) (expr_option x.step) (stmt_view u)) (sym k)

  pub labelled_is : (ls : Listed Text) (b : Box CodeStmt Global) (t : CodeStmt) → s ≡ variants.Labelled ls b → t ≡ b.value → stmt_view s ≡ labelled (texts_view (list_items ls)) (stmt_view t)
  labelled_is ls b t h k = ap stmt_view h ∙ stmt_view-Labelled ls b ∙ ap (λ u. labelled (texts_view (list_items ls)) (stmt_view u)) (sym k)

  pub switch_is : (e : CodeExpr) (l : Listed CodeClause) (ks : List CodeClause) → s ≡ variants.Switch l e → ks ≡ list_items l → stmt_view s ≡ switches (expr_view e) (clauses_view ks)
  switch_is e l ks h k = ap stmt_view h ∙ stmt_view-Switch e l ∙ ap (λ x. switches (expr_view e) (clauses_view x)) (sym k)

  pub empty_is : s ≡ variants.Empty → stmt_view s ≡ empty
  empty_is h = ap stmt_view h ∙ stmt_view-Empty

  pub break_is : (n : Option Text) → s ≡ variants.Break n → stmt_view s ≡ breaks (text_option n)
  break_is n h = ap stmt_view h ∙ stmt_view-Break n

  pub continue_is : (n : Option Text) → s ≡ variants.Continue n → stmt_view s ≡ continues (text_option n)
  continue_is n h = ap stmt_view h ∙ stmt_view-Continue n
