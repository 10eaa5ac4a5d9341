-- The canonical pieces of a statement that can be printed are a spelling of it.
use Rattle.std.proofs.Common.{◌≡◌, ℕ, Bool, true, false, List, [], ◌∷◌, ◌++◌, codes, Option, Some, None, refl, sym, ap, subst, ◌∙◌, arith}
use Rattle.std.proofs.lemmas.Bool.{both_ways}
use Rattle.asm_lang_tokens.specs.Forms.{kind_of}
use Rattle.asm_lang.specs.Lexemes.{Class, identifier, open_brace, close_brace, open_paren, close_paren, semicolon, colon, if_word, else_word, return_word, while_word, do_word, for_word, break_word, continue_word, switch_word, case_word, default_word, Lexeme, class_of, At}
use Rattle.asm_lang.specs.Trees as trees
use Rattle.asm_lang.specs.Trees.{ExprTree, StmtTree, StmtTrees, ClauseTrees}
use Rattle.asm_lang.specs.Grammar.{no_else, place_of, under, IsExpr, IsEnd, written, do_written, IsOption, absent, present, IsReturned, no_value, a_value, IsTarget, no_label, a_label, IsStmt, a_block, a_plain, an_empty, an_if_only, an_if_else, a_return, a_while, a_do, a_for, a_break, a_continue, a_labelled, a_switch, IsStmts, no_stmts, more_stmts, IsClauses, no_clauses, a_case, a_default}
use Rattle.asm_lang.specs.Modules as m
use Rattle.asm_lang.specs.Modules.{Expr, Stmt, Stmts, Clauses, expr_of, option_of, stmt_of, stmts_of, clauses_of}
use Rattle.asm_lang.specs.Printing.{word, between, expr_text, option_text, a_semicolon, condition_text, target_text, labels_text, literal_text, stmt_text, stmts_text, clauses_text}
use Rattle.asm_laws_print.specs.Spelled.{Spells, no_piece, FitsExpr, IsRead}
use Rattle.asm_laws_print.specs.Fitting.{FitsOption, FitsName, AreNames, ends_open, is_labelled, FitsStmt, FitsStmts, FitsClauses}
use Rattle.asm_laws_print.proofs.Exprs.{expr_read}
use Rattle.asm_laws_print.proofs.Literals.{number_read}
use Rattle.asm_laws_print.proofs.Starts.{lead, stmts_lead, same_line, append_starts, expr_starts}
use Rattle.asm_laws_print.proofs.Tokens.{parts, first, last}

-- ---- parts of statements

pub whole_read : (e : Expr) → FitsExpr e → {b c : Bool} {xs ys : List Lexeme} → Spells b (expr_text e) c xs ys → IsRead 0 e xs ys
whole_read e fits s = expr_read e fits 0 (λ h. omega (arith, h)) (omega arith) _ _ _ _ s

pub end_read : {b c : Bool} {xs ys : List Lexeme} → Spells b a_semicolon c xs ys → IsEnd xs ys
end_read s = let t = last s in written (t.is_at semicolon refl)

-- a keyword and a condition
record Condition (w : List ℕ) (e : Expr) (xs ys : List Lexeme) : Type 0 where
  key : Lexeme
  at_key : List Lexeme
  is_key : (cl : Class) → class_of (kind_of w) w ≡ cl → At cl key xs at_key
  opening : Lexeme
  at_open : List Lexeme
  is_open : At open_paren opening at_key at_open
  tree : ExprTree
  at_tree : List Lexeme
  is_expr : IsExpr 0 tree at_open at_tree
  is_this : expr_of tree ≡ e
  closing : Lexeme
  is_close : At close_paren closing at_tree ys

condition_read : (w : List ℕ) (e : Expr) → FitsExpr e → {b c : Bool} {xs ys : List Lexeme} → Spells b (condition_text w e) c xs ys → Condition w e xs ys
condition_read w e fits s =
    let key = first s in
    let opening = first key.back in
    let inside = parts (expr_text e) (word (codes ")") ∷ []) opening.back in
    let inner = whole_read e fits inside.front in
    let closing = last inside.back in
    record {
      key = key.token;
      at_key = key.rest;
      is_key = key.is_at;
      opening = opening.token;
      at_open = opening.rest;
      is_open = opening.is_at open_paren refl;
      tree = inner.tree;
      at_tree = inside.rest;
      is_expr = inner.is_expr;
      is_this = inner.is_this;
      closing = closing.token;
      is_close = closing.is_at close_paren refl;
    }

record IsOptionRead (o : Option Expr) (xs ys : List Lexeme) : Type 0 where
  tree : Option ExprTree
  is_option : IsOption tree xs ys
  is_this : option_of tree ≡ o

option_read : (o : Option Expr) → FitsOption o → {b c : Bool} {xs ys : List Lexeme} → Spells b (option_text o) c xs ys → IsOptionRead o xs ys
option_read None fits no_piece = record { tree = None; is_option = absent; is_this = refl }
option_read (Some e) fits s = let x = whole_read e fits s in record { tree = Some x.tree; is_option = present x.is_expr; is_this = ap (λ (y : Expr). Some y) x.is_this }

record IsReturnedRead (o : Option Expr) (xs ys : List Lexeme) : Type 0 where
  tree : Option ExprTree
  is_returned : IsReturned tree xs ys
  is_this : option_of tree ≡ o

returned_read : (o : Option Expr) → FitsOption o → {c : Bool} {xs ys : List Lexeme} → Spells false (option_text o ++ a_semicolon) c xs ys → IsReturnedRead o xs ys
returned_read None fits s = record { tree = None; is_returned = no_value (end_read s); is_this = refl }
returned_read (Some e) fits s =
    let two = parts (expr_text e) a_semicolon s in
    let x = whole_read e fits two.front in
    record { tree = Some x.tree; is_returned = a_value (same_line (expr_text e ++ a_semicolon) (append_starts (expr_text e) a_semicolon (expr_starts e fits)) s) x.is_expr (end_read two.back); is_this = ap (λ (y : Expr). Some y) x.is_this }

-- `break` or `continue`
record IsTargetRead (w : List ℕ) (l : Option (List ℕ)) (xs ys : List Lexeme) : Type 0 where
  key : Lexeme
  at_key : List Lexeme
  is_key : (cl : Class) → class_of (kind_of w) w ≡ cl → At cl key xs at_key
  label : Option (List ℕ)
  is_target : IsTarget label at_key ys
  is_this : label ≡ l

target_read : (w : List ℕ) (l : Option (List ℕ)) → FitsName l → {b c : Bool} {xs ys : List Lexeme} → Spells b (target_text w l) c xs ys → IsTargetRead w l xs ys
target_read w None fits s = let key = first s in record { key = key.token; at_key = key.rest; is_key = key.is_at; label = None; is_target = no_label (end_read key.back); is_this = refl }
target_read w (Some l) fits s =
    let key = first s in
    let name = first key.back in
    record { key = key.token; at_key = key.rest; is_key = key.is_at; label = Some name.token.text; is_target = a_label (same_line (word l ∷ a_semicolon) refl key.back) (name.is_at identifier fits) (end_read name.back); is_this = ap (λ (n : List ℕ). Some n) name.says.text }

-- ---- labels

pub record IsStmtRead (s : Stmt) (xs ys : List Lexeme) : Type 0 where
  pub tree : StmtTree
  pub is_stmt : IsStmt tree xs ys
  pub is_this : stmt_of tree ≡ s

abbrev pub more_label : List ℕ → Stmt → Stmt
more_label l (m.labelled ls s) = m.labelled (l ∷ ls) s
more_label l s = m.labelled (l ∷ []) s

pub under_is : (n : Lexeme) (t : StmtTree) → stmt_of (under n t) ≡ more_label n.text (stmt_of t)
under_is n (trees.labelled at ls s) = refl
under_is n _ = refl

one_label : (l : List ℕ) (s : Stmt) → is_labelled s ≡ false → more_label l s ≡ m.labelled (l ∷ []) s
one_label l (m.labelled ls s) h = absurd cc
one_label l _ h = refl

labels_read : (l : List ℕ) (ls : List (List ℕ)) → AreNames (l ∷ ls) → (s : Stmt) → is_labelled s ≡ false → {b c : Bool} {xs ys zs : List Lexeme} → Spells b (labels_text (l ∷ ls)) c xs ys → IsStmtRead s ys zs → IsStmtRead (m.labelled (l ∷ ls) s) xs zs
labels_read l [] fits s plain spelled body =
    let name = first spelled in
    let sign = last name.back in
    record {
      tree = under name.token body.tree;
      is_stmt = a_labelled (name.is_at identifier fits.0) (sign.is_at colon refl) body.is_stmt;
      is_this = under_is name.token body.tree ∙ (ap (more_label name.token.text) body.is_this ∙ (ap (λ (n : List ℕ). more_label n s) name.says.text ∙ one_label l s plain));
    }
labels_read l (k ∷ ls) fits s plain spelled body =
    let name = first spelled in
    let sign = first name.back in
    let others = labels_read k ls fits.1 s plain sign.back body in
    record {
      tree = under name.token others.tree;
      is_stmt = a_labelled (name.is_at identifier fits.0) (sign.is_at colon refl) others.is_stmt;
      is_this = under_is name.token others.tree ∙ (ap (more_label name.token.text) others.is_this ∙ ap (λ (n : List ℕ). m.labelled (n ∷ k ∷ ls) s) name.says.text);
    }

-- ---- every statement

pub record IsStmtsRead (ss : Stmts) (xs ys : List Lexeme) : Type 0 where
  pub trees_of : StmtTrees
  pub are_stmts : IsStmts trees_of xs ys
  pub is_this : stmts_of trees_of ≡ ss

record IsClausesRead (cs : Clauses) (xs ys : List Lexeme) : Type 0 where
  trees_of : ClauseTrees
  are_clauses : IsClauses trees_of xs ys
  is_this : clauses_of trees_of ≡ cs
  no_else_first : no_else xs ≡ true

nothing : {b c : Bool} {xs ys : List Lexeme} → Spells b [] c xs ys → xs ≡ ys
nothing no_piece = refl

mutual
  pub stmt_read : (s : Stmt) → FitsStmt s → {b c : Bool} {xs ys : List Lexeme} → (ends_open s ≡ true → no_else ys ≡ true) → Spells b (stmt_text s) c xs ys → IsStmtRead s xs ys
  stmt_read (m.block ss) fits alone s =
      let opening = first s in
      let inside = parts (stmts_text ss) (word (codes "}") ∷ []) opening.back in
      let closing = last inside.back in
      let is_close = closing.is_at close_brace refl in
      let inner = stmts_read ss fits (lead is_close refl) inside.front in
      record { tree = trees.block opening.token.at inner.trees_of; is_stmt = a_block (opening.is_at open_brace refl) inner.are_stmts is_close; is_this = ap m.block inner.is_this }
  stmt_read (m.plain e) fits {xs = xs} alone s =
      let two = parts (expr_text e) a_semicolon s in
      let x = whole_read e fits two.front in
      record { tree = trees.plain (place_of xs) x.tree; is_stmt = a_plain x.is_expr (end_read two.back); is_this = ap m.plain x.is_this }
  stmt_read m.empty fits alone s = let t = last s in record { tree = trees.empty t.token.at; is_stmt = an_empty (t.is_at semicolon refl); is_this = refl }
  stmt_read (m.if_only c s) fits alone spelled =
      let two = parts (condition_text (codes "if") c) (stmt_text s) spelled in
      let test = condition_read (codes "if") c fits.0 two.front in
      let body = stmt_read s fits.1 (λ h. alone refl) two.back in
      record { tree = trees.if_only test.key.at test.tree body.tree; is_stmt = an_if_only (test.is_key if_word refl) test.is_open test.is_expr test.is_close body.is_stmt (alone refl); is_this = rw (test.is_this, body.is_this) refl }
  stmt_read (m.if_else c s r) fits alone spelled =
      let two = parts (condition_text (codes "if") c) (stmt_text s ++ word (codes "else") ∷ stmt_text r) spelled in
      let test = condition_read (codes "if") c fits.0 two.front in
      let arms = parts (stmt_text s) (word (codes "else") ∷ stmt_text r) two.back in
      let yes = stmt_read s fits.2 (λ h. absurd (both_ways (ends_open s) fits.1 h)) arms.front in
      let key = first arms.back in
      let other = stmt_read r fits.3 alone key.back in
      record { tree = trees.if_else test.key.at test.tree yes.tree other.tree; is_stmt = an_if_else (test.is_key if_word refl) test.is_open test.is_expr test.is_close yes.is_stmt (key.is_at else_word refl) other.is_stmt; is_this = rw (test.is_this, yes.is_this, other.is_this) refl }
  stmt_read (m.returns o) fits alone s =
      let key = first s in
      let x = returned_read o fits key.back in
      record { tree = trees.returns key.token.at x.tree; is_stmt = a_return (key.is_at return_word refl) x.is_returned; is_this = ap m.returns x.is_this }
  stmt_read (m.while_loop c s) fits alone spelled =
      let two = parts (condition_text (codes "while") c) (stmt_text s) spelled in
      let test = condition_read (codes "while") c fits.0 two.front in
      let body = stmt_read s fits.1 alone two.back in
      record { tree = trees.while_loop test.key.at test.tree body.tree; is_stmt = a_while (test.is_key while_word refl) test.is_open test.is_expr test.is_close body.is_stmt; is_this = rw (test.is_this, body.is_this) refl }
  stmt_read (m.do_while s c) fits alone spelled =
      let key = first spelled in
      let two = parts (stmt_text s) (condition_text (codes "while") c ++ a_semicolon) key.back in
      let last_two = parts (condition_text (codes "while") c) a_semicolon two.back in
      let test = condition_read (codes "while") c fits.1 last_two.front in
      let is_key = test.is_key while_word refl in
      let body = stmt_read s fits.0 (λ h. lead is_key refl) two.front in
      let end = last last_two.back in
      record { tree = trees.do_loop key.token.at body.tree test.tree; is_stmt = a_do (key.is_at do_word refl) body.is_stmt is_key test.is_open test.is_expr test.is_close (do_written (end.is_at semicolon refl)); is_this = rw (body.is_this, test.is_this) refl }
  stmt_read (m.for_loop a b c s) fits alone spelled =
      let key = first spelled in
      let opening = first key.back in
      let first_two = parts (option_text a) (word (codes ";") ∷ (option_text b ++ word (codes ";") ∷ (option_text c ++ word (codes ")") ∷ stmt_text s))) opening.back in
      let x = option_read a fits.0 first_two.front in
      let one = first first_two.back in
      let next_two = parts (option_text b) (word (codes ";") ∷ (option_text c ++ word (codes ")") ∷ stmt_text s)) one.back in
      let y = option_read b fits.1 next_two.front in
      let two = first next_two.back in
      let last_two = parts (option_text c) (word (codes ")") ∷ stmt_text s) two.back in
      let z = option_read c fits.2 last_two.front in
      let closing = first last_two.back in
      let body = stmt_read s fits.3 alone closing.back in
      record {
        tree = trees.for_loop key.token.at x.tree y.tree z.tree body.tree;
        is_stmt = a_for (key.is_at for_word refl) (opening.is_at open_paren refl) x.is_option (one.is_at semicolon refl) y.is_option (two.is_at semicolon refl) z.is_option (closing.is_at close_paren refl) body.is_stmt;
        is_this = rw (x.is_this, y.is_this, z.is_this, body.is_this) refl;
      }
  stmt_read (m.breaks l) fits alone s =
      let r = target_read (codes "break") l fits s in
      record { tree = trees.breaks r.key.at r.label; is_stmt = a_break (r.is_key break_word refl) r.is_target; is_this = ap m.breaks r.is_this }
  stmt_read (m.continues l) fits alone s =
      let r = target_read (codes "continue") l fits s in
      record { tree = trees.continues r.key.at r.label; is_stmt = a_continue (r.is_key continue_word refl) r.is_target; is_this = ap m.continues r.is_this }
  stmt_read (m.labelled [] s) fits alone spelled = let some = fits.0 in absurd cc
  stmt_read (m.labelled (l ∷ ls) s) fits alone spelled =
      let two = parts (labels_text (l ∷ ls)) (stmt_text s) spelled in
      labels_read l ls fits.1 s fits.2 two.front (stmt_read s fits.3 alone two.back)
  stmt_read (m.switches e cs) fits alone s =
      let two = parts (condition_text (codes "switch") e) (between (codes "{") (clauses_text cs) (codes "}")) s in
      let test = condition_read (codes "switch") e fits.0 two.front in
      let opening = first two.back in
      let inside = parts (clauses_text cs) (word (codes "}") ∷ []) opening.back in
      let closing = last inside.back in
      let is_close = closing.is_at close_brace refl in
      let inner = clauses_read cs fits.1 (lead is_close refl) inside.front in
      record { tree = trees.switches test.key.at test.tree inner.trees_of; is_stmt = a_switch (test.is_key switch_word refl) test.is_open test.is_expr test.is_close (opening.is_at open_brace refl) inner.are_clauses is_close; is_this = rw (test.is_this, inner.is_this) refl }

  pub stmts_read : (ss : Stmts) → FitsStmts ss → {b c : Bool} {xs ys : List Lexeme} → no_else ys ≡ true → Spells b (stmts_text ss) c xs ys → IsStmtsRead ss xs ys
  stmts_read m.no_stmts fits alone no_piece = record { trees_of = trees.no_stmt; are_stmts = no_stmts; is_this = refl }
  stmts_read (m.stmts s ss) fits alone spelled =
      let two = parts (stmt_text s) (stmts_text ss) spelled in
      let others = stmts_read ss fits.1 alone two.back in
      let one = stmt_read s fits.0 (λ h. stmts_lead others.are_stmts alone) two.front in
      record { trees_of = trees.one_stmt one.tree others.trees_of; are_stmts = more_stmts one.is_stmt others.are_stmts; is_this = rw (one.is_this, others.is_this) refl }

  clauses_read : (cs : Clauses) → FitsClauses cs → {b c : Bool} {xs ys : List Lexeme} → no_else ys ≡ true → Spells b (clauses_text cs) c xs ys → IsClausesRead cs xs ys
  clauses_read m.no_clauses fits alone no_piece = record { trees_of = trees.no_clause; are_clauses = no_clauses; is_this = refl; no_else_first = alone }
  clauses_read (m.clauses None ss m.no_clauses) fits alone s =
      let key = first s in
      let sign = first key.back in
      let two = parts (stmts_text ss) [] sign.back in
      let end = nothing two.back in
      let inner = stmts_read ss fits.0 (subst (λ (zs : List Lexeme). no_else zs ≡ true) (sym end) alone) two.front in
      let is_key = key.is_at default_word refl in
      record {
        trees_of = trees.one_clause None inner.trees_of trees.no_clause;
        are_clauses = a_default is_key (sign.is_at colon refl) (subst (λ (zs : List Lexeme). IsStmts inner.trees_of sign.rest zs) end inner.are_stmts);
        is_this = ap (λ (ss : Stmts). m.clauses None ss m.no_clauses) inner.is_this;
        no_else_first = lead is_key refl;
      }
  clauses_read (m.clauses None ss (m.clauses v rs cs)) fits alone s = let none = fits.1 in absurd cc
  clauses_read (m.clauses (Some v) ss cs) fits alone s =
      let key = first s in
      let two = parts (literal_text v ++ word (codes ":") ∷ []) (stmts_text ss ++ clauses_text cs) key.back in
      let both = parts (literal_text v) (word (codes ":") ∷ []) two.front in
      let value = number_read v fits.0 both.front in
      let sign = last both.back in
      let last_two = parts (stmts_text ss) (clauses_text cs) two.back in
      let others = clauses_read cs fits.2 alone last_two.back in
      let inner = stmts_read ss fits.1 others.no_else_first last_two.front in
      let is_key = key.is_at case_word refl in
      record {
        trees_of = trees.one_clause (Some value.value) inner.trees_of others.trees_of;
        are_clauses = a_case is_key (value.is_literal false) (sign.is_at colon refl) inner.are_stmts others.are_clauses;
        is_this = rw (value.is_this, inner.is_this, others.is_this) refl;
        no_else_first = lead is_key refl;
      }
