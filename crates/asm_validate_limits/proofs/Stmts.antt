-- What statements are, by their form in the code, and a statement's own node before its parts.
use Rattle.std.proofs.Common.{◌≡◌, ◌⊎◌, inl, inr, ℕ, ◌+◌, ◌<◌, ◌≤◌, List, ◌∷◌, ◌++◌, length, drop, get_or, Option, Some, None, Result, Ok, Err, refl, sym, ap, ◌∙◌, subst, arith}
use Rattle.std.specs.Global.{Global}
use Rattle.std.specs.declared.boxed.Box.{Box}
use Rattle.sem_words.specs.declared.text.Text.{Text}
use Rattle.sem_words.specs.declared.list.List.{List as Listed}
use Rattle.sem_words.specs.Lists.{list_items}
use Rattle.asm_lang.specs.Modules.{Expr, Stmt, block, plain, empty, if_only, if_else, returns, while_loop, do_while, for_loop, breaks, continues, labelled, switches}
use Rattle.asm_tree.specs.declared.tree.Expr.{Expr as CodeExpr}
use Rattle.asm_tree.specs.declared.tree.ForHead.{ForHead}
use Rattle.asm_tree.specs.declared.tree.Stmt.{Stmt as CodeStmt}
use Rattle.asm_tree.specs.declared.tree.Stmt.TheVariants as code
use Rattle.asm_tree.specs.declared.tree.Clause.{Clause as CodeClause}
use Rattle.asm_tree.specs.Views.{ClauseView, expr_view, expr_option, stmt_view, stmts_view, clause_view, clauses_view, texts_view}
use Rattle.asm_tree.proofs.Views.{stmt_view-Block, stmt_view-Plain, stmt_view-Empty, stmt_view-Break, stmt_view-Continue, stmt_view-If_only, stmt_view-If_else, stmt_view-Return, stmt_view-While, stmt_view-DoWhile, stmt_view-For, stmt_view-Labelled, stmt_view-Switch, clause_view-is}
use Rattle.asm_lang_valid.specs.Rows.{option_count, stmt_count, stmts_count, clauses_count}
use Rattle.asm_lang_valid.specs.Typing.{Scope}
use Rattle.asm_lang_valid.specs.LimitRows.{Mark, stmt_marks, stmts_marks, clauses_marks, part_marks, option_marks}
use Rattle.asm_validate_names.specs.declared.refusal.AsmRefusal.{AsmRefusal}
use Rattle.asm_validate_limits.specs.declared.tally.Tally.{Tally}
use Rattle.asm_validate_limits.specs.declared.callee.Place.TheVariants.{Operand, Effect}
use Rattle.asm_validate_limits.specs.Passes.{calls_of, Passed, IsFault, Tallied}
use Rattle.asm_validate_limits.specs.Places.{option_placed}
use Rattle.asm_validate_limits.proofs.Lists.{Completes, count_left, none_left, next, ends}
use Rattle.asm_validate_limits.proofs.Parts.{entered, inside, alone}

pub stmt_positive : (s : Stmt) → 1 ≤ stmt_count s
stmt_positive (block ss) = omega arith
stmt_positive (plain e) = omega arith
stmt_positive empty = omega arith
stmt_positive (if_only c s) = omega arith
stmt_positive (if_else c s r) = omega arith
stmt_positive (returns o) = omega arith
stmt_positive (while_loop c s) = omega arith
stmt_positive (do_while s c) = omega arith
stmt_positive (for_loop a b c s) = omega arith
stmt_positive (breaks l) = omega arith
stmt_positive (continues l) = omega arith
stmt_positive (labelled ls s) = omega arith
stmt_positive (switches e cs) = omega arith

module _ (s : CodeStmt) where
  pub block_is : (l : Listed CodeStmt) (ss : List CodeStmt) → s ≡ code.Block l → ss ≡ list_items l → stmt_view s ≡ block (stmts_view ss)
  block_is l ss h k = ap stmt_view h ∙ stmt_view-Block l ∙ ap (λ x. block (stmts_view x)) (sym k)

  pub plain_is : (e : CodeExpr) → s ≡ code.Plain e → stmt_view s ≡ plain (expr_view e)
  plain_is e h = ap stmt_view h ∙ stmt_view-Plain e

  pub return_is : (o : Option CodeExpr) → s ≡ code.Return o → stmt_view s ≡ returns (expr_option o)
  return_is o h = ap stmt_view h ∙ stmt_view-Return o

  pub if_only_is : (c : CodeExpr) (b : Box CodeStmt Global) (o : Option (Box CodeStmt Global)) (y : CodeStmt) → s ≡ code.If b o c → o ≡ None → y ≡ b.value → stmt_view s ≡ if_only (expr_view c) (stmt_view y)
  if_only_is c b o y h n k = ap stmt_view (h ∙ ap (λ o. code.If b o c) n) ∙ stmt_view-If_only c b ∙ ap (λ x. if_only (expr_view c) (stmt_view x)) (sym k)

  pub if_else_is : (c : CodeExpr) (b d : Box CodeStmt Global) (o : Option (Box CodeStmt Global)) (y z : CodeStmt) → s ≡ code.If b o c → o ≡ Some d → y ≡ b.value → z ≡ d.value → stmt_view s ≡ if_else (expr_view c) (stmt_view y) (stmt_view z)
  if_else_is c b d o y z h n k m =
      ap stmt_view (h ∙ ap (λ o. code.If b o c) n) ∙ stmt_view-If_else c b d
      ∙ ap (λ x. if_else (expr_view c) (stmt_view x) (stmt_view d.value)) (sym k) ∙ ap (λ x. if_else (expr_view c) (stmt_view y) (stmt_view x)) (sym m)

  pub while_is : (c : CodeExpr) (b : Box CodeStmt Global) (y : CodeStmt) → s ≡ code.While c b → y ≡ b.value → stmt_view s ≡ while_loop (expr_view c) (stmt_view y)
  while_is c b y h k = ap stmt_view h ∙ stmt_view-While c b ∙ ap (λ x. while_loop (expr_view c) (stmt_view x)) (sym k)

  pub do_is : (b : Box CodeStmt Global) (c : CodeExpr) (y : CodeStmt) → s ≡ code.DoWhile b c → y ≡ b.value → stmt_view s ≡ do_while (stmt_view y) (expr_view c)
  do_is b c y h k = ap stmt_view h ∙ stmt_view-DoWhile b c ∙ ap (λ x. do_while (stmt_view x) (expr_view c)) (sym k)

  pub for_is : (hd : Box ForHead Global) (b : Box CodeStmt Global) (x : ForHead) (t : CodeStmt) → s ≡ code.For hd b → x ≡ hd.value → t ≡ b.value → stmt_view s ≡ for_loop (expr_option x.start) (expr_option x.condition) (expr_option x.step) (stmt_view t)
  for_is hd b x t h e k =
      ap stmt_view h ∙ stmt_view-For hd b
      ∙ ap (λ (y : ForHead). for_loop (expr_option y.start) (expr_option y.condition) (expr_option y.step) (stmt_view b.value)) (sym e) ∙ ap (λ u. for_loop (expr_option x.start) (expr_option x.condition) (expr_option x.step) (stmt_view u)) (sym k)

  pub labelled_is : (ls : Listed Text) (b : Box CodeStmt Global) (t : CodeStmt) → s ≡ code.Labelled ls b → t ≡ b.value → stmt_view s ≡ labelled (texts_view (list_items ls)) (stmt_view t)
  labelled_is ls b t h k = ap stmt_view h ∙ stmt_view-Labelled ls b ∙ ap (λ u. labelled (texts_view (list_items ls)) (stmt_view u)) (sym k)

  pub switch_is : (e : CodeExpr) (l : Listed CodeClause) (ks : List CodeClause) → s ≡ code.Switch l e → ks ≡ list_items l → stmt_view s ≡ switches (expr_view e) (clauses_view ks)
  switch_is e l ks h k = ap stmt_view h ∙ stmt_view-Switch e l ∙ ap (λ x. switches (expr_view e) (clauses_view x)) (sym k)

module _ (s : Scope) (e : CodeStmt) (a c : Tally) (r : Result (Unit {0}) AsmRefusal) where
  -- a statement of this form, whose parts have these marks
  pub of_form : (x : Stmt) (ks : List Mark) (k : ℕ) → stmt_view e ≡ x → stmt_marks s a.at x ≡ ks → stmt_count x ≡ 1 + k → Tallied ks k (entered a) c r → Tallied (stmt_marks s a.at (stmt_view e)) (stmt_count (stmt_view e)) a c r
  of_form x ks k h m n t = inside (stmt_marks s a.at (stmt_view e)) ks (stmt_count (stmt_view e)) k a c r (ap (stmt_marks s a.at) h ∙ m) (ap stmt_count h ∙ n) t

pub leaf_any : (s : Scope) (e : CodeStmt) (a : Tally) → (e ≡ code.Empty) ⊎ (((x : Option Text) × (e ≡ code.Break x)) ⊎ ((x : Option Text) × (e ≡ code.Continue x))) → Passed (stmt_marks s a.at (stmt_view e)) (stmt_count (stmt_view e)) a (entered a)
leaf_any s e a (inl h) = alone (stmt_marks s a.at (stmt_view e)) (stmt_count (stmt_view e)) a (entered a) refl (ap (stmt_marks s a.at) (ap stmt_view h ∙ stmt_view-Empty)) (ap stmt_count (ap stmt_view h ∙ stmt_view-Empty))
leaf_any s e a (inr (inl p)) = alone (stmt_marks s a.at (stmt_view e)) (stmt_count (stmt_view e)) a (entered a) refl (ap (stmt_marks s a.at) (ap stmt_view p.1 ∙ stmt_view-Break p.0)) (ap stmt_count (ap stmt_view p.1 ∙ stmt_view-Break p.0))
leaf_any s e a (inr (inr p)) = alone (stmt_marks s a.at (stmt_view e)) (stmt_count (stmt_view e)) a (entered a) refl (ap (stmt_marks s a.at) (ap stmt_view p.1 ∙ stmt_view-Continue p.0)) (ap stmt_count (ap stmt_view p.1 ∙ stmt_view-Continue p.0))

-- ---- expressions that may be left out

pub part_is : (s : Scope) (at : ℕ) (o : Option Expr) → part_marks s at o ≡ option_placed s Effect at o
part_is s at None = refl
part_is s at (Some e) = refl

pub option_is : (s : Scope) (at : ℕ) (o : Option Expr) → option_marks s at o ≡ option_placed s Operand at o
option_is s at None = refl
option_is s at (Some e) = refl

pub for_marks : (s : Scope) (at : ℕ) (x y z : Option Expr) (b : Stmt) → stmt_marks s at (for_loop x y z b)
    ≡ option_placed s Effect (at + 1) x
    ++ (option_placed s Operand (at + 1 + option_count x) y
    ++ (option_placed s Effect (at + 1 + option_count x + option_count y) z ++ stmt_marks s (at + 1 + option_count x + option_count y + option_count z) b))
for_marks s at x y z b =
    let body = stmt_marks s (at + 1 + option_count x + option_count y + option_count z) b in
    ap (λ l. l ++ (option_marks s (at + 1 + option_count x) y ++ (part_marks s (at + 1 + option_count x + option_count y) z ++ body))) (part_is s (at + 1) x)
    ∙ ap (λ l. option_placed s Effect (at + 1) x ++ (l ++ (part_marks s (at + 1 + option_count x + option_count y) z ++ body))) (option_is s (at + 1 + option_count x) y)
    ∙ ap (λ l. option_placed s Effect (at + 1) x ++ (option_placed s Operand (at + 1 + option_count x) y ++ (l ++ body))) (part_is s (at + 1 + option_count x + option_count y) z)

-- ---- lists

abbrev pub body_marks : Scope → List CodeStmt → ℕ → List Mark
body_marks s ss at = stmts_marks s at (stmts_view ss)

abbrev pub body_count : List CodeStmt → ℕ
body_count ss = stmts_count (stmts_view ss)

abbrev pub switch_marks : Scope → List CodeClause → ℕ → List Mark
switch_marks s ks at = clauses_marks s at (clauses_view ks)

abbrev pub switch_count : List CodeClause → ℕ
switch_count ks = clauses_count (clauses_view ks)

clause_body : (k : CodeClause) → (clause_view k).body ≡ stmts_view (list_items k.body)
clause_body k = ap (λ (v : ClauseView). v.body) (clause_view-is k)

clause_first : (s : Scope) (k : CodeClause) (ks : List CodeClause) (at : ℕ) → switch_marks s (k ∷ ks) at ≡ body_marks s (list_items k.body) at ++ switch_marks s ks (at + body_count (list_items k.body))
clause_first s k ks at = ap (λ x. stmts_marks s at x ++ clauses_marks s (at + stmts_count x) (clauses_view ks)) (clause_body k)

clause_counts : (k : CodeClause) (ks : List CodeClause) → switch_count (k ∷ ks) ≡ body_count (list_items k.body) + switch_count ks
clause_counts k ks = ap (λ x. stmts_count x + clauses_count (clauses_view ks)) (clause_body k)

pub body_left : (ss : List CodeStmt) (i : ℕ) (t : CodeStmt) → i < length ss → t ≡ get_or ss i t → body_count (drop i ss) ≡ stmt_count (stmt_view t) + body_count (drop (i + 1) ss)
body_left ss i t h is = count_left body_count (λ t. stmt_count (stmt_view t)) (λ t ss. refl) ss i t h is

pub clauses_left : (ks : List CodeClause) (i : ℕ) (k : CodeClause) → i < length ks → k ≡ get_or ks i k → switch_count (drop i ks) ≡ body_count (list_items k.body) + switch_count (drop (i + 1) ks)
clauses_left ks i k h is = count_left switch_count (λ k. body_count (list_items k.body)) clause_counts ks i k h is

module _ (s : Scope) (a : Tally) where
  pub next_stmt : (ss : List CodeStmt) (i : ℕ) (t : CodeStmt) (b : Tally) → i < length ss → t ≡ get_or ss i t → Passed (stmt_marks s a.at (stmt_view t)) (stmt_count (stmt_view t)) a b → Completes (body_marks s (drop i ss) a.at) (body_count (drop i ss)) a (body_marks s (drop (i + 1) ss) b.at) (body_count (drop (i + 1) ss)) b
  next_stmt ss i t b h is p = next (body_marks s) body_count (λ t at. stmt_marks s at (stmt_view t)) (λ t. stmt_count (stmt_view t)) (λ t ss at. refl) (λ t ss. refl) ss i t a b h is p

  pub stmt_ends : (ss : List CodeStmt) (i : ℕ) (t : CodeStmt) (c : Tally) (y : AsmRefusal) → i < length ss → t ≡ get_or ss i t → IsFault (stmt_marks s a.at (stmt_view t)) (calls_of a) y → Tallied (body_marks s (drop i ss) a.at) (body_count (drop i ss)) a c (Err y)
  stmt_ends ss i t c y h is p = ends (body_marks s) body_count (λ t at. stmt_marks s at (stmt_view t)) (λ t. stmt_count (stmt_view t)) (λ t ss at. refl) (λ t ss. refl) ss i t a c y h is p

  pub no_stmts_left : (ss : List CodeStmt) (i : ℕ) → length ss ≤ i → Tallied (body_marks s (drop i ss) a.at) (body_count (drop i ss)) a a (Ok tt)
  no_stmts_left ss i h = none_left (body_marks s) body_count (λ at. refl) refl ss i a h

  pub next_clause : (ks : List CodeClause) (i : ℕ) (k : CodeClause) (ss : List CodeStmt) (b : Tally) → i < length ks → k ≡ get_or ks i k → ss ≡ list_items k.body → Passed (body_marks s ss a.at) (body_count ss) a b → Completes (switch_marks s (drop i ks) a.at) (switch_count (drop i ks)) a (switch_marks s (drop (i + 1) ks) b.at) (switch_count (drop (i + 1) ks)) b
  next_clause ks i k ss b h is same p =
      next (switch_marks s) switch_count (λ k at. body_marks s (list_items k.body) at) (λ k. body_count (list_items k.body)) (clause_first s) clause_counts ks i k a b h is (subst (λ l. Passed (body_marks s l a.at) (body_count l) a b) same p)

  pub clause_ends : (ks : List CodeClause) (i : ℕ) (k : CodeClause) (ss : List CodeStmt) (c : Tally) (y : AsmRefusal) → i < length ks → k ≡ get_or ks i k → ss ≡ list_items k.body → IsFault (body_marks s ss a.at) (calls_of a) y → Tallied (switch_marks s (drop i ks) a.at) (switch_count (drop i ks)) a c (Err y)
  clause_ends ks i k ss c y h is same p =
      ends (switch_marks s) switch_count (λ k at. body_marks s (list_items k.body) at) (λ k. body_count (list_items k.body)) (clause_first s) clause_counts ks i k a c y h is (subst (λ l. IsFault (body_marks s l a.at) (calls_of a) y) same p)

  pub no_clauses_left : (ks : List CodeClause) (i : ℕ) → length ks ≤ i → Tallied (switch_marks s (drop i ks) a.at) (switch_count (drop i ks)) a a (Ok tt)
  no_clauses_left ks i h = none_left (switch_marks s) switch_count (λ at. refl) refl ks i a h
