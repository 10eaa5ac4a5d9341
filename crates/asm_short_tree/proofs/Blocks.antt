-- Statements and clauses that are renamed one after another.
use Rattle.std.proofs.Common.{◌≡◌, ℕ, ◌+◌, ◌<◌, ◌≤◌, List, [], ◌∷◌, ◌++◌, length, map, take, drop, get_or, Option, Some, None, refl, sym, ap, ◌∙◌, arith}
use Rattle.std.specs.Prelude.{ℤ}
use Rattle.std.proofs.lemmas.List.{drop_more}
use Rattle.std.proofs.Math.ListN.{drop_of_length-le}
use Rattle.sem_words.specs.Lists.{list_items}
use Rattle.asm_lang_valid.specs.Rows.{expr_count, stmt_count, stmts_count, clauses_count}
use Rattle.asm_lang.specs.Modules.{Stmt, if_else, labelled, Stmts, no_stmts, stmts, Clauses, no_clauses, clauses}
use Rattle.asm_tree.specs.declared.tree.Stmt.{Stmt as CodeStmt}
use Rattle.asm_tree.specs.declared.tree.Clause.{Clause as CodeClause}
use Rattle.asm_tree.specs.declared.tree.Expr.{Expr as CodeExpr}
use Rattle.asm_tree.specs.declared.tree.Stmt.TheVariants as code
use Rattle.std.specs.Global.{Global}
use Rattle.std.specs.declared.boxed.Box.{Box}
use Rattle.sem_words.specs.declared.text.Text.{Text}
use Rattle.sem_words.specs.declared.list.List.{List as Listed}
use Rattle.asm_short_lang.specs.Sequence.{numbered}
use Rattle.asm_short_lang.specs.Renaming as plain
use Rattle.asm_short_lang.specs.Renaming.{inside}
use Rattle.asm_short_tree.specs.Looking.{look_by}
use Rattle.asm_short_tree.specs.declared.labels.NewLabel.{NewLabel}
use Rattle.asm_short_tree.proofs.Counts.{texts_count}
use Rattle.asm_tree.specs.Views.{texts_view, expr_view, ClauseView, clauses_in, stmt_view, stmts_view, clause_view, clauses_view}
use Rattle.asm_tree.proofs.Views.{clause_view-is, stmt_view-If_only, stmt_view-If_else, stmt_view-Labelled}
use Rattle.asm_short_lang.specs.Renaming.{labels_in, labels_in_all, labels_in_clauses}
use Rattle.asm_short_tree.specs.declared.labels.Labels.{Labels}
use Rattle.asm_short_tree.specs.declared.statements.Renaming.{Renaming}
use Rattle.asm_short_tree.specs.Bodies.{old_labels, new_labels, labels_view, stmt_by, stmt_inside, stmts_by, clauses_by}

-- ---- counts

pub all_count : (items : List CodeStmt) (i : ℕ) (x : CodeStmt) → i < length items → x ≡ get_or items i x → labels_in_all (stmts_view (drop i items)) ≡ labels_in (stmt_view x) + labels_in_all (stmts_view (drop (i + 1) items))
all_count items i x low is = ap (λ l. labels_in_all (stmts_view l)) (drop_more items i x low ∙ ap (λ z. z ∷ drop (i + 1) items) (sym is))

pub none_count : (items : List CodeStmt) (i : ℕ) → length items ≤ i → labels_in_all (stmts_view (drop i items)) ≡ 0
none_count items i high = ap (λ l. labels_in_all (stmts_view l)) (drop_of_length-le items high)

clauses_first : (c : CodeClause) (cs : List CodeClause) → labels_in_clauses (clauses_view (c ∷ cs)) ≡ labels_in_all (stmts_view (list_items c.body)) + labels_in_clauses (clauses_view cs)
clauses_first c cs = ap (λ (v : ClauseView). labels_in_clauses (clauses_in (v ∷ map clause_view cs))) (clause_view-is c)

pub clauses_labels : (items : List CodeClause) (i : ℕ) (x : CodeClause) → i < length items → x ≡ get_or items i x → labels_in_clauses (clauses_view (drop i items)) ≡ labels_in_all (stmts_view (list_items x.body)) + labels_in_clauses (clauses_view (drop (i + 1) items))
clauses_labels items i x low is = ap (λ l. labels_in_clauses (clauses_view l)) (drop_more items i x low ∙ ap (λ z. z ∷ drop (i + 1) items) (sym is)) ∙ clauses_first x (drop (i + 1) items)

pub no_clauses_count : (items : List CodeClause) (i : ℕ) → length items ≤ i → labels_in_clauses (clauses_view (drop i items)) ≡ 0
no_clauses_count items i high = ap (λ l. labels_in_clauses (clauses_view l)) (drop_of_length-le items high)

-- ---- sizes

pub all_size : (items : List CodeStmt) (i : ℕ) (x : CodeStmt) → i < length items → x ≡ get_or items i x → stmts_count (stmts_view (drop i items)) ≡ stmt_count (stmt_view x) + stmts_count (stmts_view (drop (i + 1) items))
all_size items i x low is = ap (λ l. stmts_count (stmts_view l)) (drop_more items i x low ∙ ap (λ z. z ∷ drop (i + 1) items) (sym is))

clauses_first_size : (c : CodeClause) (cs : List CodeClause) → clauses_count (clauses_view (c ∷ cs)) ≡ stmts_count (stmts_view (list_items c.body)) + clauses_count (clauses_view cs)
clauses_first_size c cs = ap (λ (v : ClauseView). clauses_count (clauses_in (v ∷ map clause_view cs))) (clause_view-is c)

pub clauses_size : (items : List CodeClause) (i : ℕ) (x : CodeClause) → i < length items → x ≡ get_or items i x → clauses_count (clauses_view (drop i items)) ≡ stmts_count (stmts_view (list_items x.body)) + clauses_count (clauses_view (drop (i + 1) items))
clauses_size items i x low is = ap (λ l. clauses_count (clauses_view l)) (drop_more items i x low ∙ ap (λ z. z ∷ drop (i + 1) items) (sym is)) ∙ clauses_first_size x (drop (i + 1) items)

-- ---- statements

abbrev pub stmts_before : List Stmt → Stmts → Stmts
stmts_before [] ss = ss
stmts_before (x ∷ xs) ss = stmts x (stmts_before xs ss)

stmts_more : (done : List CodeStmt) (x : CodeStmt) (ss : Stmts) → stmts_before (map stmt_view (done ++ x ∷ [])) ss ≡ stmts_before (map stmt_view done) (stmts (stmt_view x) ss)
stmts_more [] x ss = refl
stmts_more (y ∷ done) x ss = ap (stmts (stmt_view y)) (stmts_more done x ss)

stmts_none : (done : List CodeStmt) → stmts_before (map stmt_view done) no_stmts ≡ stmts_view done
stmts_none [] = refl
stmts_none (y ∷ done) = ap (stmts (stmt_view y)) (stmts_none done)

pub stmt_done : (r : Renaming) (around : Labels) (done more : List CodeStmt) (items : List CodeStmt) (i before now : ℕ) (x y : CodeStmt) (all : Stmts) → i < length items → x ≡ get_or items i x → more ≡ done ++ y ∷ [] → stmt_view y ≡ stmt_by r around before (stmt_view x)
    → now ≡ before + labels_in (stmt_view x) → stmts_before (map stmt_view done) (stmts_by r around before (stmts_view (drop i items))) ≡ all → stmts_before (map stmt_view more) (stmts_by r around now (stmts_view (drop (i + 1) items))) ≡ all
stmt_done r around done more items i before now x y all low is pushed view counted had =
    let here : drop i items ≡ x ∷ drop (i + 1) items = drop_more items i x low ∙ ap (λ z. z ∷ drop (i + 1) items) (sym is) in
    let rest = stmts_view (drop (i + 1) items) in
    ap (λ ds. stmts_before (map stmt_view ds) (stmts_by r around now rest)) pushed ∙ stmts_more done y (stmts_by r around now rest)
    ∙ (λ k. stmts_before (map stmt_view done) (stmts (view k) (stmts_by r around (counted k) rest)))
    ∙ sym (ap (λ xs. stmts_before (map stmt_view done) (stmts_by r around before (stmts_view xs))) here) ∙ had

pub stmts_done : (r : Renaming) (around : Labels) (done : List CodeStmt) (items : List CodeStmt) (i now : ℕ) (all : Stmts) → length items ≤ i → stmts_before (map stmt_view done) (stmts_by r around now (stmts_view (drop i items))) ≡ all → stmts_view done ≡ all
stmts_done r around done items i now all high had = sym (stmts_none done) ∙ sym (ap (λ xs. stmts_before (map stmt_view done) (stmts_by r around now (stmts_view xs))) (drop_of_length-le items high)) ∙ had

-- ---- clauses

abbrev pub clauses_before : List ClauseView → Clauses → Clauses
clauses_before [] cs = cs
clauses_before (x ∷ xs) cs = clauses x.value x.body (clauses_before xs cs)

clauses_more : (done : List CodeClause) (x : CodeClause) (cs : Clauses) → clauses_before (map clause_view (done ++ x ∷ [])) cs ≡ clauses_before (map clause_view done) (clauses x.value (stmts_view (list_items x.body)) cs)
clauses_more [] x cs = ap (λ (v : ClauseView). clauses v.value v.body cs) (clause_view-is x)
clauses_more (y ∷ done) x cs = let v = clause_view y in ap (clauses v.value v.body) (clauses_more done x cs)

clauses_none : (done : List CodeClause) → clauses_before (map clause_view done) no_clauses ≡ clauses_view done
clauses_none [] = refl
clauses_none (y ∷ done) = let v = clause_view y in ap (clauses v.value v.body) (clauses_none done)

first_clause : (r : Renaming) (around : Labels) (before : ℕ) (x : CodeClause) (rest : List CodeClause) → clauses_by r around before (clauses_view (x ∷ rest)) ≡ clauses x.value (stmts_by r around before (stmts_view (list_items x.body))) (clauses_by r around (before + labels_in_all (stmts_view (list_items x.body))) (clauses_view rest))
first_clause r around before x rest = ap (λ (v : ClauseView). clauses v.value (stmts_by r around before v.body) (clauses_by r around (before + labels_in_all v.body) (clauses_view rest))) (clause_view-is x)

pub clause_done : (r : Renaming) (around : Labels) (done more : List CodeClause) (items : List CodeClause) (i before now : ℕ) (x y : CodeClause) (all : Clauses) → i < length items → x ≡ get_or items i x → more ≡ done ++ y ∷ [] → y.value ≡ x.value
    → stmts_view (list_items y.body) ≡ stmts_by r around before (stmts_view (list_items x.body)) → now ≡ before + labels_in_all (stmts_view (list_items x.body))
    → clauses_before (map clause_view done) (clauses_by r around before (clauses_view (drop i items))) ≡ all → clauses_before (map clause_view more) (clauses_by r around now (clauses_view (drop (i + 1) items))) ≡ all
clause_done r around done more items i before now x y all low is pushed value body counted had =
    let here : drop i items ≡ x ∷ drop (i + 1) items = drop_more items i x low ∙ ap (λ z. z ∷ drop (i + 1) items) (sym is) in
    let rest = clauses_view (drop (i + 1) items) in
    ap (λ ds. clauses_before (map clause_view ds) (clauses_by r around now rest)) pushed ∙ clauses_more done y (clauses_by r around now rest)
    ∙ (λ k. clauses_before (map clause_view done) (clauses (value k) (body k) (clauses_by r around (counted k) rest)))
    ∙ sym (ap (λ xs. clauses_before (map clause_view done) (clauses_by r around before (clauses_view xs))) here ∙ ap (clauses_before (map clause_view done)) (first_clause r around before x (drop (i + 1) items))) ∙ had

pub clauses_done : (r : Renaming) (around : Labels) (done : List CodeClause) (items : List CodeClause) (i now : ℕ) (all : Clauses) → length items ≤ i → clauses_before (map clause_view done) (clauses_by r around now (clauses_view (drop i items))) ≡ all → clauses_view done ≡ all
clauses_done r around done items i now all high had = sym (clauses_none done) ∙ sym (ap (λ xs. clauses_before (map clause_view done) (clauses_by r around now (clauses_view xs))) (drop_of_length-le items high)) ∙ had

-- ---- the labels of parts

pub first_count : (s : CodeStmt) (f : Box CodeStmt Global) (o : Option (Box CodeStmt Global)) (e : CodeExpr) → s ≡ code.If f o e → labels_in (stmt_view f.value) ≤ labels_in (stmt_view s)
first_count s f None e is = let same : labels_in (stmt_view s) ≡ labels_in (stmt_view f.value) = ap (λ x. labels_in (stmt_view x)) is ∙ ap labels_in (stmt_view-If_only e f) in omega arith
first_count s f (Some r) e is = let same : labels_in (stmt_view s) ≡ labels_in (stmt_view f.value) + labels_in (stmt_view r.value) = ap (λ x. labels_in (stmt_view x)) is ∙ ap labels_in (stmt_view-If_else e f r) in omega arith

pub first_size : (s : CodeStmt) (f : Box CodeStmt Global) (o : Option (Box CodeStmt Global)) (e : CodeExpr) → s ≡ code.If f o e → stmt_count (stmt_view f.value) < stmt_count (stmt_view s)
first_size s f None e is = let same : stmt_count (stmt_view s) ≡ 1 + (expr_count (expr_view e) + stmt_count (stmt_view f.value)) = ap (λ x. stmt_count (stmt_view x)) is ∙ ap stmt_count (stmt_view-If_only e f) in omega arith
first_size s f (Some r) e is = let same : stmt_count (stmt_view s) ≡ 1 + (expr_count (expr_view e) + (stmt_count (stmt_view f.value) + stmt_count (stmt_view r.value))) = ap (λ x. stmt_count (stmt_view x)) is ∙ ap stmt_count (stmt_view-If_else e f r) in omega arith

if_else_is : (s : CodeStmt) (f : Box CodeStmt Global) (o : Option (Box CodeStmt Global)) (r : Box CodeStmt Global) (e : CodeExpr) → s ≡ code.If f o e → o ≡ Some r → stmt_view s ≡ if_else (expr_view e) (stmt_view f.value) (stmt_view r.value)
if_else_is s f o r e is some = ap stmt_view is ∙ ap (λ p. stmt_view (code.If f p e)) some ∙ stmt_view-If_else e f r

pub both_count : (s : CodeStmt) (f : Box CodeStmt Global) (o : Option (Box CodeStmt Global)) (r : Box CodeStmt Global) (e : CodeExpr) → s ≡ code.If f o e → o ≡ Some r → labels_in (stmt_view s) ≡ labels_in (stmt_view f.value) + labels_in (stmt_view r.value)
both_count s f o r e is some = ap labels_in (if_else_is s f o r e is some)

pub second_size : (s : CodeStmt) (f : Box CodeStmt Global) (o : Option (Box CodeStmt Global)) (r : Box CodeStmt Global) (e : CodeExpr) → s ≡ code.If f o e → o ≡ Some r → stmt_count (stmt_view r.value) < stmt_count (stmt_view s)
second_size s f o r e is some = let same : stmt_count (stmt_view s) ≡ 1 + (expr_count (expr_view e) + (stmt_count (stmt_view f.value) + stmt_count (stmt_view r.value))) = ap stmt_count (if_else_is s f o r e is some) in omega arith

pub labelled_is : (r : Renaming) (around : Labels) (names : List Text) (labels : List NewLabel) (texts : Listed Text) (s : Box CodeStmt Global) (before now : ℕ) (x : Stmt) → texts_view (list_items texts) ≡ new_labels labels → old_labels labels ≡ texts_view names
    → new_labels labels ≡ take (length names) (drop before (map numbered r.fresh.now)) → now ≡ before + length names → stmt_view s.value ≡ stmt_inside r labels around now x → stmt_view (code.Labelled texts s) ≡ stmt_by r around before (labelled (texts_view names) x)
labelled_is r around names labels texts s before now x written olds news counted inner =
    let count : length names ≡ length (texts_view names) = sym (texts_count names) in
    let given : new_labels labels ≡ take (length (texts_view names)) (drop before (map numbered r.fresh.now)) = news ∙ ap (λ n. take n (drop before (map numbered r.fresh.now))) count in
    let place : now ≡ before + length (texts_view names) = counted ∙ ap (λ n. before + n) count in
    stmt_view-Labelled texts s ∙ (λ k. labelled (written k) (inner k))
    ∙ (λ k. labelled (given k) (plain.stmt_with (look_by r.look) (map numbered r.fresh.now) (inside (olds k) (given k) (labels_view around)) (place k) x))
