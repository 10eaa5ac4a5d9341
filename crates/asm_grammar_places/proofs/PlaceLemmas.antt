-- The places of trees, variant by variant.
use Rattle.std.proofs.Common.{◌≡◌, ℕ, ◌+◌, ◌<◌, length, get_or, drop, Bool, true, false, ◌&&◌, if◌then◌else◌, List, [], ◌∷◌, ◌++◌, Option, Some, None, map, refl, sym, ap, ◌∙◌, arith}
use Rattle.std.proofs.lemmas.List.{append_assoc, append-nil, drop_more}
use Rattle.sem_words.specs.declared.text.Text.{Text}
use Rattle.std.specs.Global.{Global}
use Rattle.std.specs.declared.boxed.Box.{Box}
use Rattle.sem_words.specs.Lists.{list_items}
use Rattle.sem_words.specs.declared.list.List.{List as Listed}
use Rattle.sem_words.specs.declared.js_value.JsOp.{JsOp}
use Rattle.sem_words.specs.declared.js_value.JsUnary.{JsUnary}
use Rattle.asm_lang.specs.Lexemes.{Lexeme}
use Rattle.asm_lang.specs.Trees.{ExprTree, binary, StmtTree, labelled}
use Rattle.asm_lang.specs.Grammar.{under}
use Rattle.asm_lang.specs.Modules.{Nodes, is_sum, expr_of, expr_nodes, sum_nodes, all_nodes, expr_places, exprs_places, option_places, stmt_places, stmts_places, clauses_places}
use Rattle.asm_grammar_nodes.specs.declared.lexeme.Word.{Word}
use Rattle.asm_grammar_nodes.specs.declared.tree.ExprTree.{ExprTree as CodeExpr}
use Rattle.asm_grammar_nodes.specs.declared.tree.ExprTree.TheVariants as exprs
use Rattle.asm_grammar_nodes.specs.declared.tree.Addend.{Addend as CodeAddend}
use Rattle.asm_grammar_nodes.specs.declared.tree.StmtTree.{StmtTree as CodeStmt}
use Rattle.asm_grammar_nodes.specs.declared.tree.StmtTree.TheVariants as stmts
use Rattle.asm_grammar_nodes.specs.declared.tree.ClauseTree.{ClauseTree as CodeClause}
use Rattle.asm_grammar_nodes.specs.declared.tree.ForHeadTree.{ForHeadTree}
use Rattle.asm_grammar_nodes.specs.Heights.{is_chain}
use Rattle.asm_grammar_nodes.specs.Views.{AddendView, ClauseView, addend_view, sign_of, sum_in, word_view, words_view, under_all, expr_view, exprs_view, expr_option, stmt_view, stmts_view, clauses_view}
use Rattle.asm_grammar_nodes.proofs.Levels.{binary_is, sign_is}
use Rattle.asm_grammar_nodes.proofs.Views.{addend_view-is, clause_view-is, expr_view-Literal, expr_view-Negative, expr_view-Decimals, expr_view-Variable, expr_view-Element, expr_view-Call, expr_view-TableCall, expr_view-Assignment, expr_view-Store, expr_view-Unary, expr_view-Conditional, expr_view-Listed, expr_view-Binary, expr_view-Sum, stmt_view-Block, stmt_view-Plain, stmt_view-Empty, stmt_view-If_only, stmt_view-If_else, stmt_view-Return, stmt_view-While, stmt_view-DoWhile, stmt_view-For, stmt_view-Break, stmt_view-Continue, stmt_view-Switch, stmt_view-Labelled}
use Rattle.asm_grammar_places.specs.Parts.{own_place, sum_place, addends_places, head_places, below_labels}

-- ---- expressions

pub places-Literal : (at : ℕ) (v : ℕ) → expr_places (expr_view (exprs.Literal at v)) ≡ at ∷ []
places-Literal at v = ap expr_places (expr_view-Literal at v)

pub places-Negative : (at : ℕ) (v : ℕ) → expr_places (expr_view (exprs.Negative at v)) ≡ at ∷ []
places-Negative at v = ap expr_places (expr_view-Negative at v)

pub places-Decimals : (at : ℕ) (t : Text) → expr_places (expr_view (exprs.Decimals at t)) ≡ at ∷ []
places-Decimals at t = ap expr_places (expr_view-Decimals at t)

pub places-Variable : (at : ℕ) (n : Text) → expr_places (expr_view (exprs.Variable at n)) ≡ at ∷ []
places-Variable at n = ap expr_places (expr_view-Variable at n)

pub places-Element : (at : ℕ) (n : Text) (i : Box CodeExpr Global) → expr_places (expr_view (exprs.Element at n i)) ≡ at ∷ expr_places (expr_view i.value)
places-Element at n i = ap expr_places (expr_view-Element at n i)

pub places-Call : (at : ℕ) (n : Text) (es : Listed CodeExpr) → expr_places (expr_view (exprs.Call at n es)) ≡ at ∷ exprs_places (exprs_view (list_items es))
places-Call at n es = ap expr_places (expr_view-Call at n es)

pub places-TableCall : (at : ℕ) (n : Text) (i : Box CodeExpr Global) (es : Listed CodeExpr) → expr_places (expr_view (exprs.TableCall at n i es)) ≡ at ∷ (expr_places (expr_view i.value) ++ exprs_places (exprs_view (list_items es)))
places-TableCall at n i es = ap expr_places (expr_view-TableCall at n i es)

pub places-Assignment : (at : ℕ) (n : Text) (e : Box CodeExpr Global) → expr_places (expr_view (exprs.Assignment at n e)) ≡ at ∷ expr_places (expr_view e.value)
places-Assignment at n e = ap expr_places (expr_view-Assignment at n e)

pub places-Store : (at : ℕ) (n : Text) (i : Box CodeExpr Global) (e : Box CodeExpr Global) → expr_places (expr_view (exprs.Store at n i e)) ≡ at ∷ (expr_places (expr_view i.value) ++ expr_places (expr_view e.value))
places-Store at n i e = ap expr_places (expr_view-Store at n i e)

pub places-Unary : (at : ℕ) (op : JsUnary) (e : Box CodeExpr Global) → expr_places (expr_view (exprs.Unary at op e)) ≡ at ∷ expr_places (expr_view e.value)
places-Unary at op e = ap expr_places (expr_view-Unary at op e)

pub places-Conditional : (at : ℕ) (c : Box CodeExpr Global) (a : Box CodeExpr Global) (b : Box CodeExpr Global) → expr_places (expr_view (exprs.Conditional at c a b)) ≡ at ∷ (expr_places (expr_view c.value) ++ (expr_places (expr_view a.value) ++ expr_places (expr_view b.value)))
places-Conditional at c a b = ap expr_places (expr_view-Conditional at c a b)

pub places-Listed : (at : ℕ) (es : Listed CodeExpr) → expr_places (expr_view (exprs.Listed at es)) ≡ at ∷ exprs_places (exprs_view (list_items es))
places-Listed at es = ap expr_places (expr_view-Listed at es)

-- ---- chains

split_by : (at : ℕ) (b sum : Bool) (l r : Nodes) → all_nodes (if b then (record { place = l.place; parts = l.parts ++ all_nodes r; chain = true }) else (record { place = at; parts = all_nodes l ++ all_nodes r; chain = sum })) ≡ own_place b at ++ (all_nodes l ++ all_nodes r)
split_by at true sum l r = refl
split_by at false sum l r = refl

split : (at : ℕ) (sum : Bool) (l r : Nodes) → all_nodes (sum_nodes at sum l r) ≡ own_place (sum && l.chain) at ++ (all_nodes l ++ all_nodes r)
split at sum l r = split_by at (sum && l.chain) sum l r

abbrev chain_of : Nodes → Bool
chain_of n = n.chain

chain_by : (at : ℕ) (b sum : Bool) (l r : Nodes) → chain_of (if b then (record { place = l.place; parts = l.parts ++ all_nodes r; chain = true }) else (record { place = at; parts = all_nodes l ++ all_nodes r; chain = sum })) ≡ (if b then true else sum)
chain_by at true sum l r = refl
chain_by at false sum l r = refl

either_way : (sum c : Bool) → (if sum && c then true else sum) ≡ sum
either_way true true = refl
either_way true false = refl
either_way false c = refl

nodes_chain : (at : ℕ) (sum : Bool) (l r : Nodes) → chain_of (sum_nodes at sum l r) ≡ sum
nodes_chain at sum l r = chain_by at (sum && l.chain) sum l r ∙ either_way sum l.chain

chain_is : (e : ExprTree) → chain_of (expr_nodes e) ≡ is_chain (expr_of e)
chain_is (binary at l op r) = nodes_chain at (is_sum op) (expr_nodes l) (expr_nodes r) ∙ sym (binary_is op (expr_of l) (expr_of r))
chain_is _ = refl

places_of_binary : (at : ℕ) (l : ExprTree) (op : JsOp) (r : ExprTree) → expr_places (binary at l op r) ≡ own_place (is_sum op && is_chain (expr_of l)) at ++ (expr_places l ++ expr_places r)
places_of_binary at l op r = split at (is_sum op) (expr_nodes l) (expr_nodes r) ∙ ap (λ b. own_place (is_sum op && b) at ++ (expr_places l ++ expr_places r)) (chain_is l)

places_of_sum : (at : ℕ) (l : ExprTree) (minus : Bool) (r : ExprTree) → expr_places (binary at l (sign_of minus) r) ≡ own_place (is_chain (expr_of l)) at ++ (expr_places l ++ expr_places r)
places_of_sum at l minus r = places_of_binary at l (sign_of minus) r ∙ ap (λ b. own_place (b && is_chain (expr_of l)) at ++ (expr_places l ++ expr_places r)) (sign_is minus)

sum_is_chain : (at : ℕ) (l : ExprTree) (minus : Bool) (r : ExprTree) → is_chain (expr_of (binary at l (sign_of minus) r)) ≡ true
sum_is_chain at l minus r = binary_is (sign_of minus) (expr_of l) (expr_of r) ∙ sign_is minus

goes_on : (e : ExprTree) (others : List AddendView) → is_chain (expr_of e) ≡ true → expr_places (sum_in e others) ≡ expr_places e ++ addends_places others
goes_on e [] h = sym (append-nil (expr_places e))
goes_on e (a ∷ others) h =
    goes_on (binary a.at e (sign_of a.minus) a.operand) others (sum_is_chain a.at e a.minus a.operand)
    ∙ ap (λ ps. ps ++ addends_places others) (places_of_sum a.at e a.minus a.operand ∙ ap (λ b. own_place b a.at ++ (expr_places e ++ expr_places a.operand)) h)
    ∙ append_assoc (expr_places e) (expr_places a.operand) (addends_places others)

places_of_all : (e : ExprTree) (others : List AddendView) → expr_places (sum_in e others) ≡ sum_place (is_chain (expr_of e)) others ++ (expr_places e ++ addends_places others)
places_of_all e [] = sym (append-nil (expr_places e))
places_of_all e (a ∷ others) =
    let own = own_place (is_chain (expr_of e)) a.at in
    goes_on (binary a.at e (sign_of a.minus) a.operand) others (sum_is_chain a.at e a.minus a.operand)
    ∙ ap (λ ps. ps ++ addends_places others) (places_of_sum a.at e a.minus a.operand)
    ∙ append_assoc own (expr_places e ++ expr_places a.operand) (addends_places others)
    ∙ ap (λ ps. own ++ ps) (append_assoc (expr_places e) (expr_places a.operand) (addends_places others))

pub places-Binary : (at : ℕ) (l : Box CodeExpr Global) (op : JsOp) (r : Box CodeExpr Global)
    → expr_places (expr_view (exprs.Binary at l op r)) ≡ own_place (is_sum op && is_chain (expr_of (expr_view l.value))) at ++ (expr_places (expr_view l.value) ++ expr_places (expr_view r.value))
places-Binary at l op r = ap expr_places (expr_view-Binary at l op r) ∙ places_of_binary at (expr_view l.value) op (expr_view r.value)

pub places-Sum : (e : Box CodeExpr Global) (others : Listed CodeAddend)
    → expr_places (expr_view (exprs.Sum e others)) ≡ sum_place (is_chain (expr_of (expr_view e.value))) (map addend_view (list_items others)) ++ (expr_places (expr_view e.value) ++ addends_places (map addend_view (list_items others)))
places-Sum e others = ap expr_places (expr_view-Sum e others) ∙ places_of_all (expr_view e.value) (map addend_view (list_items others))

pub sum_place-first : (goes_on : Bool) (others : List CodeAddend) (a : CodeAddend) (rest : List CodeAddend) → others ≡ a ∷ rest → sum_place goes_on (map addend_view others) ≡ own_place goes_on a.at
sum_place-first goes_on others a rest h = ap (λ os. sum_place goes_on (map addend_view os)) h ∙ ap (λ (v : AddendView). own_place goes_on v.at) (addend_view-is a)

pub addends_places-step : (a : CodeAddend) (rest : List CodeAddend) → addends_places (map addend_view (a ∷ rest)) ≡ expr_places (expr_view a.operand) ++ addends_places (map addend_view rest)
addends_places-step a rest = ap (λ (v : AddendView). expr_places v.operand ++ addends_places (map addend_view rest)) (addend_view-is a)

pub clauses_places-step : (c : CodeClause) (rest : List CodeClause) → clauses_places (clauses_view (c ∷ rest)) ≡ stmts_places (stmts_view (list_items c.body)) ++ clauses_places (clauses_view rest)
clauses_places-step c rest = ap (λ (v : ClauseView). stmts_places v.body ++ clauses_places (clauses_view rest)) (clause_view-is c)

-- one more item of a list whose places are appended one after the other
pub item_done : {X : Type 0} (of : List X → List ℕ) (own : X → List ℕ) → ((x : X) (rest : List X) → of (x ∷ rest) ≡ own x ++ of rest) → (before places after : List ℕ) (items : List X) (i : ℕ) (x : X) → i < length items → x ≡ get_or items i x
    → after ≡ places ++ own x → places ++ of (drop i items) ≡ before ++ of items → after ++ of (drop (i + 1) items) ≡ before ++ of items
item_done of own step before places after items i x low is more had =
    let here : drop i items ≡ x ∷ drop (i + 1) items = drop_more items i x low ∙ ap (λ y. y ∷ drop (i + 1) items) (sym is) in
    ap (λ ps. ps ++ of (drop (i + 1) items)) more ∙ append_assoc places (own x) (of (drop (i + 1) items)) ∙ ap (λ ps. places ++ ps) (sym (ap of here ∙ step x (drop (i + 1) items))) ∙ had

-- ---- statements

pub places-Block : (at : ℕ) (ss : Listed CodeStmt) → stmt_places (stmt_view (stmts.Block at ss)) ≡ at ∷ stmts_places (stmts_view (list_items ss))
places-Block at ss = ap stmt_places (stmt_view-Block at ss)

pub below-Block : (at : ℕ) (ss : Listed CodeStmt) → below_labels (stmt_view (stmts.Block at ss)) ≡ stmt_places (stmt_view (stmts.Block at ss))
below-Block at ss = ap below_labels (stmt_view-Block at ss) ∙ sym (ap stmt_places (stmt_view-Block at ss))

pub places-Plain : (at : ℕ) (e : Box CodeExpr Global) → stmt_places (stmt_view (stmts.Plain at e)) ≡ at ∷ expr_places (expr_view e.value)
places-Plain at e = ap stmt_places (stmt_view-Plain at e)

pub below-Plain : (at : ℕ) (e : Box CodeExpr Global) → below_labels (stmt_view (stmts.Plain at e)) ≡ stmt_places (stmt_view (stmts.Plain at e))
below-Plain at e = ap below_labels (stmt_view-Plain at e) ∙ sym (ap stmt_places (stmt_view-Plain at e))

pub places-Empty : (at : ℕ) → stmt_places (stmt_view (stmts.Empty at)) ≡ at ∷ []
places-Empty at = ap stmt_places (stmt_view-Empty at)

pub below-Empty : (at : ℕ) → below_labels (stmt_view (stmts.Empty at)) ≡ stmt_places (stmt_view (stmts.Empty at))
below-Empty at = ap below_labels (stmt_view-Empty at) ∙ sym (ap stmt_places (stmt_view-Empty at))

pub places-If_only : (at : ℕ) (c : Box CodeExpr Global) (s : Box CodeStmt Global) → stmt_places (stmt_view (stmts.If at c s None)) ≡ at ∷ (expr_places (expr_view c.value) ++ stmt_places (stmt_view s.value))
places-If_only at c s = ap stmt_places (stmt_view-If_only at c s)

pub below-If_only : (at : ℕ) (c : Box CodeExpr Global) (s : Box CodeStmt Global) → below_labels (stmt_view (stmts.If at c s None)) ≡ stmt_places (stmt_view (stmts.If at c s None))
below-If_only at c s = ap below_labels (stmt_view-If_only at c s) ∙ sym (ap stmt_places (stmt_view-If_only at c s))

pub places-If_else : (at : ℕ) (c : Box CodeExpr Global) (s : Box CodeStmt Global) (r : Box CodeStmt Global) → stmt_places (stmt_view (stmts.If at c s (Some r))) ≡ at ∷ (expr_places (expr_view c.value) ++ (stmt_places (stmt_view s.value) ++ stmt_places (stmt_view r.value)))
places-If_else at c s r = ap stmt_places (stmt_view-If_else at c s r)

pub below-If_else : (at : ℕ) (c : Box CodeExpr Global) (s : Box CodeStmt Global) (r : Box CodeStmt Global) → below_labels (stmt_view (stmts.If at c s (Some r))) ≡ stmt_places (stmt_view (stmts.If at c s (Some r)))
below-If_else at c s r = ap below_labels (stmt_view-If_else at c s r) ∙ sym (ap stmt_places (stmt_view-If_else at c s r))

pub places-Return : (at : ℕ) (o : Option (Box CodeExpr Global)) → stmt_places (stmt_view (stmts.Return at o)) ≡ at ∷ option_places (expr_option o)
places-Return at o = ap stmt_places (stmt_view-Return at o)

pub below-Return : (at : ℕ) (o : Option (Box CodeExpr Global)) → below_labels (stmt_view (stmts.Return at o)) ≡ stmt_places (stmt_view (stmts.Return at o))
below-Return at o = ap below_labels (stmt_view-Return at o) ∙ sym (ap stmt_places (stmt_view-Return at o))

pub places-While : (at : ℕ) (c : Box CodeExpr Global) (s : Box CodeStmt Global) → stmt_places (stmt_view (stmts.While at c s)) ≡ at ∷ (expr_places (expr_view c.value) ++ stmt_places (stmt_view s.value))
places-While at c s = ap stmt_places (stmt_view-While at c s)

pub below-While : (at : ℕ) (c : Box CodeExpr Global) (s : Box CodeStmt Global) → below_labels (stmt_view (stmts.While at c s)) ≡ stmt_places (stmt_view (stmts.While at c s))
below-While at c s = ap below_labels (stmt_view-While at c s) ∙ sym (ap stmt_places (stmt_view-While at c s))

pub places-DoWhile : (at : ℕ) (s : Box CodeStmt Global) (c : Box CodeExpr Global) → stmt_places (stmt_view (stmts.DoWhile at s c)) ≡ at ∷ (stmt_places (stmt_view s.value) ++ expr_places (expr_view c.value))
places-DoWhile at s c = ap stmt_places (stmt_view-DoWhile at s c)

pub below-DoWhile : (at : ℕ) (s : Box CodeStmt Global) (c : Box CodeExpr Global) → below_labels (stmt_view (stmts.DoWhile at s c)) ≡ stmt_places (stmt_view (stmts.DoWhile at s c))
below-DoWhile at s c = ap below_labels (stmt_view-DoWhile at s c) ∙ sym (ap stmt_places (stmt_view-DoWhile at s c))

pub places-For : (at : ℕ) (h : Box ForHeadTree Global) (s : Box CodeStmt Global) → stmt_places (stmt_view (stmts.For at h s)) ≡ at ∷ (option_places (expr_option h.value.start) ++ (option_places (expr_option h.value.condition) ++ (option_places (expr_option h.value.step) ++ stmt_places (stmt_view s.value))))
places-For at h s = ap stmt_places (stmt_view-For at h s)

pub places-For_head : (at : ℕ) (h : Box ForHeadTree Global) (s : Box CodeStmt Global) → stmt_places (stmt_view (stmts.For at h s)) ≡ at ∷ (head_places h.value ++ stmt_places (stmt_view s.value))
places-For_head at h s =
    let start = option_places (expr_option h.value.start) in
    let condition = option_places (expr_option h.value.condition) in
    let step = option_places (expr_option h.value.step) in
    let body = stmt_places (stmt_view s.value) in
    places-For at h s ∙ ap (λ r. at ∷ r) (sym (append_assoc start (condition ++ step) body ∙ ap (λ r. start ++ r) (append_assoc condition step body)))

pub below-For : (at : ℕ) (h : Box ForHeadTree Global) (s : Box CodeStmt Global) → below_labels (stmt_view (stmts.For at h s)) ≡ stmt_places (stmt_view (stmts.For at h s))
below-For at h s = ap below_labels (stmt_view-For at h s) ∙ sym (ap stmt_places (stmt_view-For at h s))

pub places-Break : (at : ℕ) (l : Option Text) → stmt_places (stmt_view (stmts.Break at l)) ≡ at ∷ []
places-Break at l = ap stmt_places (stmt_view-Break at l)

pub below-Break : (at : ℕ) (l : Option Text) → below_labels (stmt_view (stmts.Break at l)) ≡ stmt_places (stmt_view (stmts.Break at l))
below-Break at l = ap below_labels (stmt_view-Break at l) ∙ sym (ap stmt_places (stmt_view-Break at l))

pub places-Continue : (at : ℕ) (l : Option Text) → stmt_places (stmt_view (stmts.Continue at l)) ≡ at ∷ []
places-Continue at l = ap stmt_places (stmt_view-Continue at l)

pub below-Continue : (at : ℕ) (l : Option Text) → below_labels (stmt_view (stmts.Continue at l)) ≡ stmt_places (stmt_view (stmts.Continue at l))
below-Continue at l = ap below_labels (stmt_view-Continue at l) ∙ sym (ap stmt_places (stmt_view-Continue at l))

pub places-Switch : (at : ℕ) (e : Box CodeExpr Global) (cs : Listed CodeClause) → stmt_places (stmt_view (stmts.Switch at e cs)) ≡ at ∷ (expr_places (expr_view e.value) ++ clauses_places (clauses_view (list_items cs)))
places-Switch at e cs = ap stmt_places (stmt_view-Switch at e cs)

pub below-Switch : (at : ℕ) (e : Box CodeExpr Global) (cs : Listed CodeClause) → below_labels (stmt_view (stmts.Switch at e cs)) ≡ stmt_places (stmt_view (stmts.Switch at e cs))
below-Switch at e cs = ap below_labels (stmt_view-Switch at e cs) ∙ sym (ap stmt_places (stmt_view-Switch at e cs))

below_under : (n : Lexeme) (s : StmtTree) → below_labels (under n s) ≡ below_labels s
below_under n (labelled at ls s) = refl
below_under n _ = refl

places_under : (n : Lexeme) (s : StmtTree) → stmt_places (under n s) ≡ n.at ∷ below_labels s
places_under n (labelled at ls s) = refl
places_under n _ = refl

below_all : (ns : List Lexeme) (s : StmtTree) → below_labels (under_all ns s) ≡ below_labels s
below_all [] s = refl
below_all (n ∷ ns) s = below_under n (under_all ns s) ∙ below_all ns s

pub below-Labelled : (ls : Listed Word) (s : Box CodeStmt Global) → below_labels (stmt_view (stmts.Labelled ls s)) ≡ below_labels (stmt_view s.value)
below-Labelled ls s = ap below_labels (stmt_view-Labelled ls s) ∙ below_all (words_view (list_items ls)) (stmt_view s.value)

abbrev under_words : List Word → CodeStmt → List ℕ
under_words ws s = stmt_places (under_all (words_view ws) (stmt_view s))

pub places-Unlabelled : (ls : Listed Word) (s : Box CodeStmt Global) → list_items ls ≡ [] → stmt_places (stmt_view (stmts.Labelled ls s)) ≡ stmt_places (stmt_view s.value)
places-Unlabelled ls s h = ap stmt_places (stmt_view-Labelled ls s) ∙ ap (λ ws. under_words ws s.value) h

pub places-Labelled : (ls : Listed Word) (s : Box CodeStmt Global) (w : Word) (ws : List Word) → list_items ls ≡ w ∷ ws → stmt_places (stmt_view (stmts.Labelled ls s)) ≡ w.at ∷ below_labels (stmt_view s.value)
places-Labelled ls s w ws h =
    ap stmt_places (stmt_view-Labelled ls s) ∙ ap (λ us. under_words us s.value) h
    ∙ places_under (word_view w) (under_all (words_view ws) (stmt_view s.value)) ∙ ap (λ ps. w.at ∷ ps) (below_all (words_view ws) (stmt_view s.value))

-- ---- a whole, once each of its parts has put its places

pub places_say : (tree variant : CodeExpr) (ps : List ℕ) → tree ≡ variant → expr_places (expr_view variant) ≡ ps → expr_places (expr_view tree) ≡ ps
places_say tree variant ps is h = ap (λ e. expr_places (expr_view e)) is ∙ h

pub stmt_places_say : (tree variant : CodeStmt) (ps : List ℕ) → tree ≡ variant → stmt_places (stmt_view variant) ≡ ps → stmt_places (stmt_view tree) ≡ ps
stmt_places_say tree variant ps is h = ap (λ e. stmt_places (stmt_view e)) is ∙ h

pub one_part : (ps own a q0 whole : List ℕ) → q0 ≡ ps ++ own → whole ≡ own ++ a → q0 ++ a ≡ ps ++ whole
one_part ps own a q0 whole h0 is = ap (λ q. q ++ a) h0 ∙ append_assoc ps own a ∙ ap (λ q. ps ++ q) (sym is)

pub two_parts : (ps own a b q0 q1 whole : List ℕ) → q0 ≡ ps ++ own → q1 ≡ q0 ++ a → whole ≡ own ++ (a ++ b) → q1 ++ b ≡ ps ++ whole
two_parts ps own a b q0 q1 whole h0 h1 is = ap (λ q. q ++ b) h1 ∙ append_assoc q0 a b ∙ one_part ps own (a ++ b) q0 whole h0 is

pub three_parts : (ps own a b c q0 q1 q2 whole : List ℕ) → q0 ≡ ps ++ own → q1 ≡ q0 ++ a → q2 ≡ q1 ++ b → whole ≡ own ++ (a ++ (b ++ c)) → q2 ++ c ≡ ps ++ whole
three_parts ps own a b c q0 q1 q2 whole h0 h1 h2 is = ap (λ q. q ++ c) h2 ∙ append_assoc q1 b c ∙ two_parts ps own a (b ++ c) q0 q1 whole h0 h1 is

pub nothing : {X : Type 0} (xs : List X) → length xs ≡ 0 → xs ≡ []
nothing [] h = refl
nothing (x ∷ xs) h = absurd (omega arith)

pub ruleset own_places = (append-nil, append_assoc)

pub ruleset expressions = (places-Literal, places-Negative, places-Decimals, places-Variable, places-Element, places-Call, places-TableCall, places-Assignment, places-Store, places-Unary, places-Conditional, places-Listed, places-Binary, places-Sum, append_assoc, append-nil)

pub ruleset statements = (places-Block, below-Block, places-Plain, below-Plain, places-Empty, below-Empty, places-If_only, below-If_only, places-If_else, below-If_else, places-Return, below-Return, places-While, below-While, places-DoWhile, below-DoWhile, places-For, below-For, places-Break, below-Break, places-Continue, below-Continue, places-Switch, below-Switch, below-Labelled, places-Unlabelled, places-Labelled, append_assoc, append-nil)
