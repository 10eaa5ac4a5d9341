-- The rows and the nodes of a statement by its form, as a pass finds them part by part.
use Rattle.std.proofs.Common.{◌≡◌, ℕ, ◌+◌, List, [], ◌++◌, Option, Some, None, sym, ap, ◌∙◌, append-nil, arith}
use Rattle.std.specs.declared.boxed.Box.{Box}
use Rattle.std.specs.Global.{Global}
use Rattle.sem_words.specs.declared.text.Text.{Text}
use Rattle.sem_words.specs.declared.list.List.{List as Listed}
use Rattle.sem_words.specs.Lists.{list_items}
use Rattle.asm_lang.specs.Modules.{block, plain, returns, while_loop, do_while, for_loop, labelled}
use Rattle.asm_tree.specs.declared.tree.Expr.{Expr as CodeExpr}
use Rattle.asm_tree.specs.declared.tree.Stmt.{Stmt as CodeStmt}
use Rattle.asm_tree.specs.declared.tree.Stmt.TheVariants as stmts
use Rattle.asm_tree.specs.declared.tree.ForHead.{ForHead}
use Rattle.asm_tree.specs.declared.tree.Clause.{Clause as CodeClause}
use Rattle.asm_tree.specs.Views.{texts_view, expr_view, expr_option, stmt_view, stmts_view, clauses_view}
use Rattle.asm_tree.proofs.Views.{stmt_view-Block, stmt_view-Plain, stmt_view-If_only, stmt_view-If_else, stmt_view-Return, stmt_view-While, stmt_view-DoWhile, stmt_view-For, stmt_view-Labelled}
use Rattle.asm_lang_valid.specs.declared.rule.Met.{Met}
use Rattle.asm_lang_valid.specs.Rows.{first, expr_count, option_count, stmt_count}
use Rattle.asm_lang_valid.specs.Typing.{Scope}
use Rattle.asm_lang_valid.specs.NameRows.{expr_names, option_names, stmt_names, clauses_names}
use Rattle.asm_validate_names.proofs.Shapes.{switch_is}

-- what stands after else, if anything does
abbrev pub else_rows : Scope → ℕ → Option (Box CodeStmt Global) → List Met
else_rows c at None = []
else_rows c at (Some b) = stmt_names c at (stmt_view b.value)

abbrev pub else_count : Option (Box CodeStmt Global) → ℕ
else_count None = 0
else_count (Some b) = stmt_count (stmt_view b.value)

module _ (s : CodeStmt) where
  pub block_is : (l : Listed CodeStmt) (ss : List CodeStmt) → s ≡ stmts.Block l → ss ≡ list_items l → stmt_view s ≡ block (stmts_view ss)
  block_is l ss h k = ap stmt_view h ∙ stmt_view-Block l ∙ ap (λ x. block (stmts_view x)) (sym k)

  pub plain_is : (e : CodeExpr) → s ≡ stmts.Plain e → stmt_view s ≡ plain (expr_view e)
  plain_is e h = ap stmt_view h ∙ stmt_view-Plain e

  pub return_is : (o : Option CodeExpr) → s ≡ stmts.Return o → stmt_view s ≡ returns (expr_option o)
  return_is o h = ap stmt_view h ∙ stmt_view-Return o

  pub while_is : (e : CodeExpr) (b : Box CodeStmt Global) (d : CodeStmt) → s ≡ stmts.While e b → d ≡ b.value → stmt_view s ≡ while_loop (expr_view e) (stmt_view d)
  while_is e b d h k = ap stmt_view h ∙ stmt_view-While e b ∙ ap (λ x. while_loop (expr_view e) (stmt_view x)) (sym k)

  pub do_is : (b : Box CodeStmt Global) (e : CodeExpr) (d : CodeStmt) → s ≡ stmts.DoWhile b e → d ≡ b.value → stmt_view s ≡ do_while (stmt_view d) (expr_view e)
  do_is b e d h k = ap stmt_view h ∙ stmt_view-DoWhile b e ∙ ap (λ x. do_while (stmt_view x) (expr_view e)) (sym k)

  pub labelled_is : (ls : Listed Text) (b : Box CodeStmt Global) (d : CodeStmt) → s ≡ stmts.Labelled ls b → d ≡ b.value → stmt_view s ≡ labelled (texts_view (list_items ls)) (stmt_view d)
  labelled_is ls b d h k = ap stmt_view h ∙ stmt_view-Labelled ls b ∙ ap (λ x. labelled (texts_view (list_items ls)) (stmt_view x)) (sym k)

  pub for_is : (h : Box ForHead Global) (b : Box CodeStmt Global) (x y z : ForHead) (d : CodeStmt) → s ≡ stmts.For h b → x ≡ h.value → y ≡ h.value → z ≡ h.value → d ≡ b.value → stmt_view s ≡ for_loop (expr_option x.start) (expr_option y.condition) (expr_option z.step) (stmt_view d)
  for_is h b x y z d is i j k l =
      ap stmt_view is ∙ stmt_view-For h b
      ∙ ap (λ (w : ForHead). for_loop (expr_option w.start) (expr_option h.value.condition) (expr_option h.value.step) (stmt_view b.value)) (sym i)
      ∙ ap (λ (w : ForHead). for_loop (expr_option x.start) (expr_option w.condition) (expr_option h.value.step) (stmt_view b.value)) (sym j)
      ∙ ap (λ (w : ForHead). for_loop (expr_option x.start) (expr_option y.condition) (expr_option w.step) (stmt_view b.value)) (sym k)
      ∙ ap (λ t. for_loop (expr_option x.start) (expr_option y.condition) (expr_option z.step) (stmt_view t)) (sym l)

  pub if_count : (e : CodeExpr) (b : Box CodeStmt Global) (o : Option (Box CodeStmt Global)) (d : CodeStmt) → s ≡ stmts.If b o e → d ≡ b.value → stmt_count (stmt_view s) ≡ 1 + (expr_count (expr_view e) + (stmt_count (stmt_view d) + else_count o))
  if_count e b None d h k =
      let i = ap (λ x. stmt_count (stmt_view x)) h ∙ ap stmt_count (stmt_view-If_only e b) in
      let j = ap (λ x. stmt_count (stmt_view x)) k in
      omega arith
  if_count e b (Some r) d h k = ap (λ x. stmt_count (stmt_view x)) h ∙ ap stmt_count (stmt_view-If_else e b r) ∙ ap (λ x. 1 + (expr_count (expr_view e) + (stmt_count (stmt_view x) + stmt_count (stmt_view r.value)))) (sym k)

  module _ (c : Scope) (at : ℕ) where
    pub while_rows : (e : CodeExpr) (b : Box CodeStmt Global) (d : CodeStmt) (mid : ℕ) → s ≡ stmts.While e b → d ≡ b.value → mid ≡ at + 1 + expr_count (expr_view e) → first (stmt_names c at (stmt_view s)) ≡ first (expr_names c (at + 1) (expr_view e) ++ stmt_names c mid (stmt_view d))
    while_rows e b d mid h k next = ap (λ t. first (stmt_names c at t)) (while_is e b d h k) ∙ ap (λ p. first (expr_names c (at + 1) (expr_view e) ++ stmt_names c p (stmt_view d))) (sym next)

    pub do_rows : (b : Box CodeStmt Global) (e : CodeExpr) (d : CodeStmt) (mid : ℕ) → s ≡ stmts.DoWhile b e → d ≡ b.value → mid ≡ at + 1 + stmt_count (stmt_view d) → first (stmt_names c at (stmt_view s)) ≡ first (stmt_names c (at + 1) (stmt_view d) ++ expr_names c mid (expr_view e))
    do_rows b e d mid h k next = ap (λ t. first (stmt_names c at t)) (do_is b e d h k) ∙ ap (λ p. first (stmt_names c (at + 1) (stmt_view d) ++ expr_names c p (expr_view e))) (sym next)

    pub switch_rows : (e : CodeExpr) (l : Listed CodeClause) (ks : List CodeClause) (mid : ℕ) → s ≡ stmts.Switch l e → ks ≡ list_items l → mid ≡ at + 1 + expr_count (expr_view e) → first (stmt_names c at (stmt_view s)) ≡ first (expr_names c (at + 1) (expr_view e) ++ clauses_names c mid (clauses_view ks))
    switch_rows e l ks mid h k next = ap (λ t. first (stmt_names c at t)) (switch_is s e l ks h k) ∙ ap (λ p. first (expr_names c (at + 1) (expr_view e) ++ clauses_names c p (clauses_view ks))) (sym next)

    pub if_rows : (e : CodeExpr) (b : Box CodeStmt Global) (o : Option (Box CodeStmt Global)) (d : CodeStmt) (mid last : ℕ) → s ≡ stmts.If b o e → d ≡ b.value → mid ≡ at + 1 + expr_count (expr_view e) → last ≡ mid + stmt_count (stmt_view d) → first (stmt_names c at (stmt_view s)) ≡ first (expr_names c (at + 1) (expr_view e) ++ (stmt_names c mid (stmt_view d) ++ else_rows c last o))
    if_rows e b None d mid last h k next end =
        ap (λ x. first (stmt_names c at (stmt_view x))) h ∙ ap (λ t. first (stmt_names c at t)) (stmt_view-If_only e b)
        ∙ ap (λ x. first (expr_names c (at + 1) (expr_view e) ++ stmt_names c (at + 1 + expr_count (expr_view e)) (stmt_view x))) (sym k)
        ∙ ap (λ p. first (expr_names c (at + 1) (expr_view e) ++ stmt_names c p (stmt_view d))) (sym next)
        ∙ ap (λ l. first (expr_names c (at + 1) (expr_view e) ++ l)) (sym (append-nil (stmt_names c mid (stmt_view d))))
    if_rows e b (Some r) d mid last h k next end =
        ap (λ x. first (stmt_names c at (stmt_view x))) h ∙ ap (λ t. first (stmt_names c at t)) (stmt_view-If_else e b r)
        ∙ ap (λ x. first (expr_names c (at + 1) (expr_view e) ++ (stmt_names c (at + 1 + expr_count (expr_view e)) (stmt_view x) ++ stmt_names c (at + 1 + expr_count (expr_view e) + stmt_count (stmt_view x)) (stmt_view r.value)))) (sym k)
        ∙ ap (λ p. first (expr_names c (at + 1) (expr_view e) ++ (stmt_names c p (stmt_view d) ++ stmt_names c (p + stmt_count (stmt_view d)) (stmt_view r.value)))) (sym next)
        ∙ ap (λ p. first (expr_names c (at + 1) (expr_view e) ++ (stmt_names c mid (stmt_view d) ++ stmt_names c p (stmt_view r.value)))) (sym end)

    pub for_rows : (h : Box ForHead Global) (b : Box CodeStmt Global) (x y z : ForHead) (d : CodeStmt) (i j k : ℕ) → s ≡ stmts.For h b → x ≡ h.value → y ≡ h.value → z ≡ h.value → d ≡ b.value → i ≡ at + 1 + option_count (expr_option x.start) → j ≡ i + option_count (expr_option y.condition) → k ≡ j + option_count (expr_option z.step) → first (stmt_names c at (stmt_view s)) ≡ first (option_names c (at + 1) (expr_option x.start) ++ (option_names c i (expr_option y.condition) ++ (option_names c j (expr_option z.step) ++ stmt_names c k (stmt_view d))))
    for_rows h b x y z d i j k is l m n o to_i to_j to_k =
        ap (λ t. first (stmt_names c at t)) (for_is h b x y z d is l m n o)
        ∙ ap (λ p. first (option_names c (at + 1) (expr_option x.start) ++ (option_names c p (expr_option y.condition) ++ (option_names c (p + option_count (expr_option y.condition)) (expr_option z.step) ++ stmt_names c (p + option_count (expr_option y.condition) + option_count (expr_option z.step)) (stmt_view d))))) (sym to_i)
        ∙ ap (λ p. first (option_names c (at + 1) (expr_option x.start) ++ (option_names c i (expr_option y.condition) ++ (option_names c p (expr_option z.step) ++ stmt_names c (p + option_count (expr_option z.step)) (stmt_view d))))) (sym to_j)
        ∙ ap (λ p. first (option_names c (at + 1) (expr_option x.start) ++ (option_names c i (expr_option y.condition) ++ (option_names c j (expr_option z.step) ++ stmt_names c p (stmt_view d))))) (sym to_k)
