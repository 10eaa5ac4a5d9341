-- The statements that trees say, variant by variant.
use Rattle.std.proofs.Common.{◌≡◌, ℕ, ◌+◌, ◌<◌, Bool, true, false, List, [], ◌∷◌, ◌++◌, Option, Some, None, map, length, get_or, drop, reverse, refl, sym, ap, ◌∙◌}
use Rattle.std.proofs.lemmas.List.{drop_more, reverse-append}
use Rattle.std.proofs.lemmas.Bool.{true≢false}
use Rattle.sem_words.specs.declared.text.Text.{Text}
use Rattle.std.specs.Global.{Global}
use Rattle.std.specs.declared.boxed.Box.{Box}
use Rattle.sem_words.specs.Lists.{list_items, text_bytes}
use Rattle.sem_words.specs.declared.list.List.{List as Listed}
use Rattle.asm_lang.specs.Lexemes.{Lexeme}
use Rattle.asm_lang.specs.Trees as trees
use Rattle.asm_lang.specs.Trees.{StmtTree}
use Rattle.asm_lang.specs.Grammar.{under}
use Rattle.asm_lang.specs.Modules.{expr_of, option_of, Stmt, block, plain as plain_stmt, empty, if_only, if_else, returns, while_loop, do_while, for_loop, breaks, continues, labelled, switches, Stmts, no_stmts, stmts, Clauses, no_clauses, clauses, value_of, stmt_of, stmts_of, clauses_of}
use Rattle.asm_grammar_nodes.specs.declared.lexeme.Word.{Word}
use Rattle.asm_grammar_nodes.specs.declared.tree.ExprTree.{ExprTree as CodeExpr}
use Rattle.asm_grammar_nodes.specs.declared.tree.StmtTree.{StmtTree as CodeStmt}
use Rattle.asm_grammar_nodes.specs.declared.tree.StmtTree.TheVariants as placed_stmts
use Rattle.asm_grammar_nodes.specs.declared.tree.ClauseTree.{ClauseTree as CodeClause}
use Rattle.asm_grammar_nodes.specs.declared.tree.ForHeadTree.{ForHeadTree}
use Rattle.asm_grammar_nodes.specs.Views.{words_view, under_all, expr_view, expr_option, name_option, ClauseView, stmt_view, stmts_view, clauses_view}
use Rattle.asm_grammar_nodes.proofs.Views.{clause_view-is, stmt_view-Block, stmt_view-Plain, stmt_view-Empty, stmt_view-If_only, stmt_view-If_else, stmt_view-Return, stmt_view-While, stmt_view-DoWhile, stmt_view-For, stmt_view-Break, stmt_view-Continue, stmt_view-Switch, stmt_view-Labelled}
use Rattle.asm_tree.specs.declared.tree.Stmt.{Stmt as PlainStmt, Stmt-F, fold-roll-Stmt}
use Rattle.asm_tree.specs.declared.tree.Stmt.TheOpen as layers
use Rattle.asm_tree.specs.declared.tree.Stmt.TheViews.{out-Stmt, roll-Stmt, roll-out-Stmt}
use Rattle.asm_tree.specs.declared.tree.Stmt.TheVariants as plain_stmts
use Rattle.asm_tree.specs.declared.tree.Clause.{Clause as PlainClause}
use Rattle.asm_tree.specs.Views as plain
use Rattle.asm_tree.specs.Views.{texts_view, stmt_layer, clause_layer}
use Rattle.asm_tree.proofs.Views as plain_views
use Rattle.asm_tree.proofs.Views.{views}
use Rattle.asm_grammar_erase.specs.Parts.{merged, with_labels, label_texts}

pub erased-Block : (at : ℕ) (ss : Listed CodeStmt) → stmt_of (stmt_view (placed_stmts.Block at ss)) ≡ block (stmts_of (stmts_view (list_items ss)))
erased-Block at ss = ap stmt_of (stmt_view-Block at ss)

pub erased-Plain : (at : ℕ) (e : Box CodeExpr Global) → stmt_of (stmt_view (placed_stmts.Plain at e)) ≡ plain_stmt (expr_of (expr_view e.value))
erased-Plain at e = ap stmt_of (stmt_view-Plain at e)

pub erased-Empty : (at : ℕ) → stmt_of (stmt_view (placed_stmts.Empty at)) ≡ empty
erased-Empty at = ap stmt_of (stmt_view-Empty at)

pub erased-If_only : (at : ℕ) (c : Box CodeExpr Global) (s : Box CodeStmt Global) → stmt_of (stmt_view (placed_stmts.If at c s None)) ≡ if_only (expr_of (expr_view c.value)) (stmt_of (stmt_view s.value))
erased-If_only at c s = ap stmt_of (stmt_view-If_only at c s)

pub erased-If_else : (at : ℕ) (c : Box CodeExpr Global) (s : Box CodeStmt Global) (r : Box CodeStmt Global) → stmt_of (stmt_view (placed_stmts.If at c s (Some r))) ≡ if_else (expr_of (expr_view c.value)) (stmt_of (stmt_view s.value)) (stmt_of (stmt_view r.value))
erased-If_else at c s r = ap stmt_of (stmt_view-If_else at c s r)

pub erased-Return : (at : ℕ) (o : Option (Box CodeExpr Global)) → stmt_of (stmt_view (placed_stmts.Return at o)) ≡ returns (option_of (expr_option o))
erased-Return at o = ap stmt_of (stmt_view-Return at o)

pub erased-While : (at : ℕ) (c : Box CodeExpr Global) (s : Box CodeStmt Global) → stmt_of (stmt_view (placed_stmts.While at c s)) ≡ while_loop (expr_of (expr_view c.value)) (stmt_of (stmt_view s.value))
erased-While at c s = ap stmt_of (stmt_view-While at c s)

pub erased-DoWhile : (at : ℕ) (s : Box CodeStmt Global) (c : Box CodeExpr Global) → stmt_of (stmt_view (placed_stmts.DoWhile at s c)) ≡ do_while (stmt_of (stmt_view s.value)) (expr_of (expr_view c.value))
erased-DoWhile at s c = ap stmt_of (stmt_view-DoWhile at s c)

pub erased-For : (at : ℕ) (h : Box ForHeadTree Global) (s : Box CodeStmt Global) → stmt_of (stmt_view (placed_stmts.For at h s)) ≡ for_loop (option_of (expr_option h.value.start)) (option_of (expr_option h.value.condition)) (option_of (expr_option h.value.step)) (stmt_of (stmt_view s.value))
erased-For at h s = ap stmt_of (stmt_view-For at h s)

pub erased-Break : (at : ℕ) (l : Option Text) → stmt_of (stmt_view (placed_stmts.Break at l)) ≡ breaks (name_option l)
erased-Break at l = ap stmt_of (stmt_view-Break at l)

pub erased-Continue : (at : ℕ) (l : Option Text) → stmt_of (stmt_view (placed_stmts.Continue at l)) ≡ continues (name_option l)
erased-Continue at l = ap stmt_of (stmt_view-Continue at l)

pub erased-Switch : (at : ℕ) (e : Box CodeExpr Global) (cs : Listed CodeClause) → stmt_of (stmt_view (placed_stmts.Switch at e cs)) ≡ switches (expr_of (expr_view e.value)) (clauses_of (clauses_view (list_items cs)))
erased-Switch at e cs = ap stmt_of (stmt_view-Switch at e cs)

-- ---- labels

under_one : (n : Lexeme) (s : StmtTree) → stmt_of (under n s) ≡ merged (n.text ∷ []) (stmt_of s)
under_one n (trees.labelled at ls s) = refl
under_one n _ = refl

merged_twice : (n m : List ℕ) (ms : List (List ℕ)) (s : Stmt) → merged (n ∷ []) (merged (m ∷ ms) s) ≡ merged (n ∷ (m ∷ ms)) s
merged_twice n m ms (labelled ls s) = refl
merged_twice n m ms _ = refl

one_more_label : (n : List ℕ) (ns : List (List ℕ)) (s : Stmt) → merged (n ∷ []) (with_labels ns s) ≡ with_labels (n ∷ ns) s
one_more_label n [] s = refl
one_more_label n (m ∷ ms) s = merged_twice n m ms s

under_labels : (ns : List Lexeme) (s : StmtTree) → stmt_of (under_all ns s) ≡ with_labels (label_texts ns) (stmt_of s)
under_labels [] s = refl
under_labels (n ∷ ns) s = under_one n (under_all ns s) ∙ ap (merged (n.text ∷ [])) (under_labels ns s) ∙ one_more_label n.text (label_texts ns) (stmt_of s)

pub erased-Labelled : (ls : Listed Word) (s : Box CodeStmt Global) → stmt_of (stmt_view (placed_stmts.Labelled ls s)) ≡ with_labels (label_texts (words_view (list_items ls))) (stmt_of (stmt_view s.value))
erased-Labelled ls s = ap stmt_of (stmt_view-Labelled ls s) ∙ under_labels (words_view (list_items ls)) (stmt_view s.value)

-- what a tree says, by its variant, and what its parts say
pub tree_says : (tree variant : CodeStmt) (x : Stmt) → tree ≡ variant → stmt_of (stmt_view variant) ≡ x → x ≡ stmt_of (stmt_view tree)
tree_says tree variant x is h = sym (ap (λ e. stmt_of (stmt_view e)) is ∙ h)

pub inner_says : (x : Stmt) (d e : CodeStmt) → x ≡ stmt_of (stmt_view d) → d ≡ e → x ≡ stmt_of (stmt_view e)
inner_says x d e h is = h ∙ ap (λ y. stmt_of (stmt_view y)) is

pub all_say : (xs : Stmts) (ds es : List CodeStmt) → xs ≡ stmts_of (stmts_view ds) → ds ≡ es → xs ≡ stmts_of (stmts_view es)
all_say xs ds es h is = h ∙ ap (λ ys. stmts_of (stmts_view ys)) is

pub clauses_say : (xs : Clauses) (ds es : List CodeClause) → xs ≡ clauses_of (clauses_view ds) → ds ≡ es → xs ≡ clauses_of (clauses_view es)
clauses_say xs ds es h is = h ∙ ap (λ ys. clauses_of (clauses_view ys)) is

pub texts_joined : (ts us : List Text) → texts_view (ts ++ us) ≡ texts_view ts ++ texts_view us
texts_joined [] us = refl
texts_joined (t ∷ ts) us = ap (λ r. text_bytes t ∷ r) (texts_joined ts us)

pub under_joined : (inner all labels : Listed Text) (s : Box PlainStmt Global) → list_items all ≡ list_items labels ++ list_items inner
    → plain.stmt_view (plain_stmts.Labelled all s) ≡ labelled (texts_view (list_items labels) ++ texts_view (list_items inner)) (plain.stmt_view s.value)
under_joined inner all labels s joined =
    plain_views.stmt_view-Labelled all s ∙ ap (λ ts. labelled (texts_view ts) (plain.stmt_view s.value)) joined ∙ ap (λ ts. labelled ts (plain.stmt_view s.value)) (texts_joined (list_items labels) (list_items inner))

pub under_boxed : (body : PlainStmt) (labels : Listed Text) (s : Box PlainStmt Global) → s.value ≡ body → plain.stmt_view (plain_stmts.Labelled labels s) ≡ labelled (texts_view (list_items labels)) (plain.stmt_view body)
under_boxed body labels s is = plain_views.stmt_view-Labelled labels s ∙ ap (λ b. labelled (texts_view (list_items labels)) (plain.stmt_view b)) is

-- the labels of a statement that has labels go on
pub on_labelled : (body : PlainStmt) (inner labels : Listed Text) (s : Box PlainStmt Global) → body ≡ plain_stmts.Labelled inner s
    → labelled (texts_view (list_items labels) ++ texts_view (list_items inner)) (plain.stmt_view s.value) ≡ merged (texts_view (list_items labels)) (plain.stmt_view body)
on_labelled body inner labels s is =
    sym (ap (λ b. merged (texts_view (list_items labels)) (plain.stmt_view b)) is ∙ ap (merged (texts_view (list_items labels))) (plain_views.stmt_view-Labelled inner s))

abbrev is_labelled : Stmt → Bool
is_labelled (labelled ls s) = true
is_labelled _ = false

labelled_or_not : (o : Stmt-F PlainStmt PlainClause) → ((ls : Listed Text) (s : Box PlainStmt Global) → roll-Stmt o ≡ plain_stmts.Labelled ls s → ⊥) → is_labelled (plain.stmt_view (roll-Stmt o)) ≡ false
unfolding plain.stmt_view plain.clause_view
labelled_or_not (layers.Labelled ls s) h = absurd (h ls s (plain_stmts.rolls-Labelled ls s))
labelled_or_not (layers.If s None c) h = ap is_labelled (fold-roll-Stmt Stmt plain.ClauseView stmt_layer clause_layer (layers.If s None c))
labelled_or_not (layers.If s (Some r) c) h = ap is_labelled (fold-roll-Stmt Stmt plain.ClauseView stmt_layer clause_layer (layers.If s (Some r) c))
labelled_or_not o h = ap is_labelled (fold-roll-Stmt Stmt plain.ClauseView stmt_layer clause_layer o)

not_labelled : (b : PlainStmt) → ((ls : Listed Text) (s : Box PlainStmt Global) → b ≡ plain_stmts.Labelled ls s → ⊥) → is_labelled (plain.stmt_view b) ≡ false
not_labelled b h = ap (λ x. is_labelled (plain.stmt_view x)) (sym (roll-out-Stmt b)) ∙ labelled_or_not (out-Stmt b) (λ ls s is. h ls s (sym (roll-out-Stmt b) ∙ is))

merged_by : (ns : List (List ℕ)) (s : Stmt) → is_labelled s ≡ false → merged ns s ≡ labelled ns s
merged_by ns (labelled ls s) h = absurd (true≢false h)
merged_by ns _ h = refl

pub on_other : (body : PlainStmt) (labels : Listed Text) → ((ls : Listed Text) (b : Box PlainStmt Global) → body ≡ plain_stmts.Labelled ls b → ⊥) → labelled (texts_view (list_items labels)) (plain.stmt_view body) ≡ merged (texts_view (list_items labels)) (plain.stmt_view body)
on_other body labels not = sym (merged_by (texts_view (list_items labels)) (plain.stmt_view body) (not_labelled body not))

-- ---- lists

abbrev pub stmts_before : List Stmt → Stmts → Stmts
stmts_before [] ss = ss
stmts_before (x ∷ xs) ss = stmts x (stmts_before xs ss)

stmts_more : (done : List PlainStmt) (x : PlainStmt) (ss : Stmts) → stmts_before (map plain.stmt_view (done ++ x ∷ [])) ss ≡ stmts_before (map plain.stmt_view done) (stmts (plain.stmt_view x) ss)
stmts_more [] x ss = refl
stmts_more (y ∷ done) x ss = ap (stmts (plain.stmt_view y)) (stmts_more done x ss)

pub stmt_popped : (done more : List PlainStmt) (left fewer : List CodeStmt) (x : CodeStmt) (y : PlainStmt) (all : Stmts) → left ≡ fewer ++ x ∷ [] → more ≡ done ++ y ∷ [] → plain.stmt_view y ≡ stmt_of (stmt_view x)
    → stmts_before (map plain.stmt_view done) (stmts_of (stmts_view (reverse left))) ≡ all → stmts_before (map plain.stmt_view more) (stmts_of (stmts_view (reverse fewer))) ≡ all
stmt_popped done more left fewer x y all popped pushed is had =
    ap (λ ys. stmts_before (map plain.stmt_view ys) (stmts_of (stmts_view (reverse fewer)))) pushed
    ∙ stmts_more done y (stmts_of (stmts_view (reverse fewer)))
    ∙ ap (λ s. stmts_before (map plain.stmt_view done) (stmts s (stmts_of (stmts_view (reverse fewer))))) is
    ∙ sym (ap (λ xs. stmts_before (map plain.stmt_view done) (stmts_of (stmts_view xs))) (ap reverse popped ∙ reverse-append fewer (x ∷ [])))
    ∙ had

pub stmts_none : (done : List PlainStmt) → stmts_before (map plain.stmt_view done) no_stmts ≡ plain.stmts_view done
stmts_none [] = refl
stmts_none (y ∷ done) = ap (stmts (plain.stmt_view y)) (stmts_none done)

pub stmt_done : (done more : List PlainStmt) (items : List CodeStmt) (i : ℕ) (x : CodeStmt) (y : PlainStmt) → i < length items → x ≡ get_or items i x → more ≡ done ++ y ∷ [] → plain.stmt_view y ≡ stmt_of (stmt_view x)
    → stmts_before (map plain.stmt_view done) (stmts_of (stmts_view (drop i items))) ≡ stmts_of (stmts_view items) → stmts_before (map plain.stmt_view more) (stmts_of (stmts_view (drop (i + 1) items))) ≡ stmts_of (stmts_view items)
stmt_done done more items i x y low is h view had =
    let here : drop i items ≡ x ∷ drop (i + 1) items = drop_more items i x low ∙ ap (λ z. z ∷ drop (i + 1) items) (sym is) in
    let rest = stmts_of (stmts_view (drop (i + 1) items)) in
    ap (λ ds. stmts_before (map plain.stmt_view ds) rest) h ∙ stmts_more done y rest ∙ ap (λ v. stmts_before (map plain.stmt_view done) (stmts v rest)) view
    ∙ sym (ap (λ xs. stmts_before (map plain.stmt_view done) (stmts_of (stmts_view xs))) here) ∙ had

abbrev pub clauses_before : List plain.ClauseView → Clauses → Clauses
clauses_before [] cs = cs
clauses_before (x ∷ xs) cs = clauses x.value x.body (clauses_before xs cs)

clauses_more : (done : List PlainClause) (x : PlainClause) (cs : Clauses) → clauses_before (map plain.clause_view (done ++ x ∷ [])) cs ≡ clauses_before (map plain.clause_view done) (clauses x.value (plain.stmts_view (list_items x.body)) cs)
clauses_more [] x cs = ap (λ (v : plain.ClauseView). clauses v.value v.body cs) (plain_views.clause_view-is x)
clauses_more (y ∷ done) x cs = let v = plain.clause_view y in ap (clauses v.value v.body) (clauses_more done x cs)

pub clauses_none : (done : List PlainClause) → clauses_before (map plain.clause_view done) no_clauses ≡ plain.clauses_view done
clauses_none [] = refl
clauses_none (y ∷ done) = let v = plain.clause_view y in ap (clauses v.value v.body) (clauses_none done)

clauses_of-step : (x : CodeClause) (rest : List CodeClause) → clauses_of (clauses_view (x ∷ rest)) ≡ clauses (value_of x.value) (stmts_of (stmts_view (list_items x.body))) (clauses_of (clauses_view rest))
clauses_of-step x rest = ap (λ (v : ClauseView). clauses (value_of v.value) (stmts_of v.body) (clauses_of (clauses_view rest))) (clause_view-is x)

pub clause_done : (done more : List PlainClause) (items : List CodeClause) (i : ℕ) (x : CodeClause) (y : PlainClause) → i < length items → x ≡ get_or items i x → more ≡ done ++ y ∷ [] → y.value ≡ value_of x.value
    → plain.stmts_view (list_items y.body) ≡ stmts_of (stmts_view (list_items x.body)) → clauses_before (map plain.clause_view done) (clauses_of (clauses_view (drop i items))) ≡ clauses_of (clauses_view items)
    → clauses_before (map plain.clause_view more) (clauses_of (clauses_view (drop (i + 1) items))) ≡ clauses_of (clauses_view items)
clause_done done more items i x y low is h value body had =
    let here : drop i items ≡ x ∷ drop (i + 1) items = drop_more items i x low ∙ ap (λ z. z ∷ drop (i + 1) items) (sym is) in
    let rest = clauses_of (clauses_view (drop (i + 1) items)) in
    ap (λ ds. clauses_before (map plain.clause_view ds) rest) h ∙ clauses_more done y rest ∙ (λ k. clauses_before (map plain.clause_view done) (clauses (value k) (body k) rest))
    ∙ sym (ap (λ xs. clauses_before (map plain.clause_view done) (clauses_of (clauses_view xs))) here ∙ ap (clauses_before (map plain.clause_view done)) (clauses_of-step x (drop (i + 1) items))) ∙ had

pub ruleset statements = (erased-Block, erased-Plain, erased-Empty, erased-If_only, erased-If_else, erased-Return, erased-While, erased-DoWhile, erased-For, erased-Break, erased-Continue, erased-Switch, erased-Labelled, views)
