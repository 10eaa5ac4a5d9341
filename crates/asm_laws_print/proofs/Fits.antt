-- Each module that tokens spell can be printed and read again.
use Rattle.std.proofs.Common.{◌≡◌, ℕ, zero, suc, ◌-◌, ◌^◌, ◌<◌, Bool, true, false, cond as choice, ltb, eqb, not, List, [], ◌∷◌, Option, refl, sym, ap, subst, ◌∙◌, arith}
use Rattle.std.specs.Prelude.{ℤ, pos, negsuc, neg_ℤ}
use Rattle.std.specs.List.{AllByRecursion}
use Rattle.std.proofs.lemmas.Bool.{both_ways, ltb-false, eqb-true}
use Rattle.sem_words.specs.declared.js_value.JsOp.{JsOp}
use Rattle.sem_words.specs.declared.js_value.JsOp.TheVariants.{Add, Sub}
use Rattle.asm_lang_tokens.specs.Forms.{is_decimal, kind_of}
use Rattle.asm_lang.specs.Lexemes.{Class, identifier, else_word, a_decimal, Lexeme, class_of, value_of, is_word, Want, a_property, Meets, Is, here, At}
use Rattle.asm_lang.specs.Trees.{ExprTree, ExprTrees, StmtTree, StmtTrees, ClauseTrees, Init}
use Rattle.asm_lang.specs.Grammar.{is_else, no_else, IsExpr, an_operand, a_binary, a_conditional, an_assignment, a_store, a_list, IsOperand, a_literal, a_negative, a_decimal_literal, a_variable, an_element, a_call, a_table_call, in_parens, a_prefix, a_minus, IsIndex, an_index, IsArguments, no_argument, arguments, IsRest, no_further, a_further, IsEnd, written, missing, IsDoEnd, do_written, do_missing, IsOption, absent, present, IsReturned, no_value, a_value, IsTarget, no_label, a_label, IsLiteral, positive, negative, positive_decimal, negative_decimal, IsStmt, a_block, a_plain, an_empty, an_if_only, an_if_else, a_return, a_while, a_do, a_for, a_break, a_continue, a_labelled, a_switch, IsStmts, no_stmts, more_stmts, IsClauses, no_clauses, a_case, a_default}
use Rattle.asm_lang.specs.Modules as m
use Rattle.asm_lang.specs.Modules.{Expr, Links, Stmt, no_links, links, nearest, init_of, more_links, chained, binary_of, expr_of, exprs_of, option_of, stmt_of, stmts_of, clauses_of}
use Rattle.asm_laws_print.specs.Spelled.{HasClass, some_links, FitsExpr, FitsExprs, FitsLinks}
use Rattle.asm_laws_print.specs.Fitting.{FitsOption, FitsName, IsProperty, FitsNumber, ends_open, FitsStmt, FitsStmts, FitsClauses, unsigned, FitsLiteral}
use Rattle.asm_laws_print.proofs.Stmts.{more_label, under_is}
use Rattle.asm_laws_print.proofs.TokenKinds.{decimal_is_decimal, value_small}

-- the token's class and value are those of its text
pub record IsLexeme (t : Lexeme) : Type 0 where
  pub class : t.class ≡ class_of (kind_of t.text) t.text
  pub value : t.value ≡ value_of (kind_of t.text)

abbrev pub AreLexemes : List Lexeme → Type 0
AreLexemes xs = AllByRecursion IsLexeme xs

-- a token that is wanted, and the others
pub record Taken (w : Want) (t : Lexeme) (ys : List Lexeme) : Type 0 where
  pub meets : Meets w t
  pub is_lexeme : IsLexeme t
  pub others : AreLexemes ys

pub taken : {w : Want} {t : Lexeme} {xs ys : List Lexeme} → Is w t xs ys → AreLexemes xs → Taken w t ys
taken (here h) all = record { meets = h; is_lexeme = all.0; others = all.1 }

pub others : {w : Want} {t : Lexeme} {xs ys : List Lexeme} → Is w t xs ys → AreLexemes xs → AreLexemes ys
others i all = (taken i all).others

pub has_class : {c : Class} {t : Lexeme} {xs ys : List Lexeme} → At c t xs ys → AreLexemes xs → HasClass c t.text
has_class i all = let t = taken i all in sym t.is_lexeme.class ∙ t.meets

pub is_property : {t : Lexeme} {xs ys : List Lexeme} → Is a_property t xs ys → AreLexemes xs → IsProperty t.text
is_property i all = let t = taken i all in ap is_word (sym t.is_lexeme.class) ∙ t.meets

small : {w : Want} {t : Lexeme} {xs ys : List Lexeme} → Is w t xs ys → AreLexemes xs → t.value < 2 ^ 64
small {t = t} i all = let l = (taken i all).is_lexeme in subst (λ (v : ℕ). v < 2 ^ 64) (sym l.value) (value_small t.text)

negative_fits : (v : ℕ) → v < 2 ^ 64 → FitsExpr (m.lit (neg_ℤ (pos v)))
negative_fits zero h = omega arith
negative_fits (suc v) h = omega (arith, h)

-- ---- expressions

more_some : (ls : Links) (minus : Bool) (r : Expr) → some_links (more_links ls minus r) ≡ true
more_some no_links minus r = refl
more_some (links n x ls) minus r = refl

more_fits : (ls : Links) → FitsLinks ls → (minus : Bool) (r : Expr) → FitsExpr r → FitsLinks (more_links ls minus r)
more_fits no_links h minus r k = (k, tt)
more_fits (links n x ls) h minus r k = (h.0, more_fits ls h.1 minus r k)

chained_fits : (l : Expr) → FitsExpr l → (minus : Bool) (r : Expr) → FitsExpr r → FitsExpr (chained l minus r)
chained_fits (m.chain e ls) h minus r k = (h.0, more_some ls minus r, h.2, more_fits ls h.3 minus r k)
chained_fits (m.lit v) h minus r k = (refl, refl, h, (k, tt))
chained_fits (m.decimal bs) h minus r k = (refl, refl, h, (k, tt))
chained_fits (m.var n) h minus r k = (refl, refl, h, (k, tt))
chained_fits (m.index n i) h minus r k = (refl, refl, h, (k, tt))
chained_fits (m.call n es) h minus r k = (refl, refl, h, (k, tt))
chained_fits (m.table_call n i es) h minus r k = (refl, refl, h, (k, tt))
chained_fits (m.assign n e) h minus r k = (refl, refl, h, (k, tt))
chained_fits (m.store n i e) h minus r k = (refl, refl, h, (k, tt))
chained_fits (m.unary op e) h minus r k = (refl, refl, h, (k, tt))
chained_fits (m.binary op a b) h minus r k = (refl, refl, h, (k, tt))
chained_fits (m.cond c a b) h minus r k = (refl, refl, h, (k, tt))
chained_fits (m.comma es) h minus r k = (refl, refl, h, (k, tt))

binary_fits : (op : JsOp) (l r : Expr) → FitsExpr l → FitsExpr r → FitsExpr (binary_of op l r)
binary_fits Add l r h k = chained_fits l h false r k
binary_fits Sub l r h k = chained_fits l h true r k
binary_fits _ l r h k = (refl, h, k)

mutual
  pub expr_fits : {p : ℕ} {e : ExprTree} {xs ys : List Lexeme} → IsExpr p e xs ys → AreLexemes xs → FitsExpr (expr_of e) × AreLexemes ys
  expr_fits (an_operand x) all = operand_fits x all
  expr_fits (a_binary {l = l} {r = r} {op = op} le x i y) all =
      let a = expr_fits x all in
      let b = expr_fits y (others i a.1) in
      (binary_fits op (expr_of l) (expr_of r) a.0 b.0, b.1)
  expr_fits (a_conditional le x i y j z) all =
      let a = expr_fits x all in
      let b = expr_fits y (others i a.1) in
      let c = expr_fits z (others j b.1) in
      ((a.0, b.0, c.0), c.1)
  expr_fits (an_assignment le i j x) all = let a = expr_fits x (others j (others i all)) in ((has_class i all, a.0), a.1)
  expr_fits (a_store le i x j y) all =
      let a = index_fits x (others i all) in
      let b = expr_fits y (others j a.1) in
      ((has_class i all, a.0, b.0), b.1)
  expr_fits (a_list le x i y z) all =
      let a = expr_fits x all in
      let b = expr_fits y (others i a.1) in
      let c = rest_fits z b.1 in
      ((refl, (a.0, (b.0, c.0))), c.1)

  operand_fits : {e : ExprTree} {xs ys : List Lexeme} → IsOperand e xs ys → AreLexemes xs → FitsExpr (expr_of e) × AreLexemes ys
  operand_fits (a_literal i) all = (small i all, others i all)
  operand_fits (a_negative {t = t} i j) all = (negative_fits t.value (small j (others i all)), others j (others i all))
  operand_fits (a_decimal_literal i) all = (has_class i all, others i all)
  operand_fits (a_variable i) all = (has_class i all, others i all)
  operand_fits (an_element i x) all = let a = index_fits x (others i all) in ((has_class i all, a.0), a.1)
  operand_fits (a_call i j x) all = let a = arguments_fits x (others j (others i all)) in ((has_class i all, a.0), a.1)
  operand_fits (a_table_call i x j y) all =
      let a = index_fits x (others i all) in
      let b = arguments_fits y (others j a.1) in
      ((has_class i all, a.0, b.0), b.1)
  operand_fits (in_parens i x j) all = let a = expr_fits x (others i all) in (a.0, others j a.1)
  operand_fits (a_prefix q i x) all = expr_fits x (others i all)
  operand_fits (a_minus i h x) all = expr_fits x (others i all)

  index_fits : {e : ExprTree} {xs ys : List Lexeme} → IsIndex e xs ys → AreLexemes xs → FitsExpr (expr_of e) × AreLexemes ys
  index_fits (an_index i x j) all = let a = expr_fits x (others i all) in (a.0, others j a.1)

  arguments_fits : {es : ExprTrees} {xs ys : List Lexeme} → IsArguments es xs ys → AreLexemes xs → FitsExprs (exprs_of es) × AreLexemes ys
  arguments_fits (no_argument i) all = (tt, others i all)
  arguments_fits (arguments x y i) all =
      let a = expr_fits x all in
      let b = rest_fits y a.1 in
      ((a.0, b.0), others i b.1)

  rest_fits : {es : ExprTrees} {xs ys : List Lexeme} → IsRest es xs ys → AreLexemes xs → FitsExprs (exprs_of es) × AreLexemes ys
  rest_fits no_further all = (tt, all)
  rest_fits (a_further i x y) all =
      let a = expr_fits x (others i all) in
      let b = rest_fits y a.1 in
      ((a.0, b.0), b.1)

-- ---- literals of declarations and clauses

nearest_below : (b : Bool) (n : ℕ) → (b ≡ false → n < 2 ^ 63) → FitsNumber (choice b (pos (2 ^ 63 - 1)) (pos n))
nearest_below true n h = omega arith
nearest_below false n h = h refl

nearest_above : (b : Bool) (n : ℕ) → (b ≡ false → n < 2 ^ 63) → FitsNumber (choice b (negsuc (2 ^ 63 - 1)) (negsuc n))
nearest_above true n h = omega arith
nearest_above false n h = h refl

nearest_fits : (v : ℤ) → FitsNumber (nearest v)
nearest_fits (pos n) = nearest_below (ltb (2 ^ 63 - 1) n) n (λ h. omega (arith, ltb-false (2 ^ 63 - 1) n h))
nearest_fits (negsuc n) = nearest_above (ltb (2 ^ 63 - 1) n) n (λ h. omega (arith, ltb-false (2 ^ 63 - 1) n h))

minus_first : (b : ℕ) (bs : List ℕ) → b ≡ 45 → is_decimal (b ∷ bs) ≡ true → ⊥
minus_first b bs e h = let k : false ≡ true = subst (λ (x : ℕ). is_decimal (x ∷ bs) ≡ true) e h in absurd cc

no_sign : (bs : List ℕ) → is_decimal bs ≡ true → unsigned bs ≡ bs
no_sign [] h = refl
no_sign (b ∷ bs) h =
    let P : Bool → Type 0 = λ t. eqb b 45 ≡ t → choice t bs (b ∷ bs) ≡ b ∷ bs in
    let both : P (eqb b 45) = elim (eqb b 45) as P [ true ↦ λ is. absurd (minus_first b bs (eqb-true b 45 is) h) | false ↦ λ is. refl ] in
    both refl

decimal_fits : (bs : List ℕ) → HasClass a_decimal bs → HasClass a_decimal (unsigned bs)
decimal_fits bs h = subst (λ (w : List ℕ). HasClass a_decimal w) (sym (no_sign bs (decimal_is_decimal bs h))) h

pub literal_fits : {d : Bool} {i : Init} {xs ys : List Lexeme} → IsLiteral d i xs ys → AreLexemes xs → FitsLiteral (init_of i) × AreLexemes ys
literal_fits (positive {t = t} i) all = (nearest_fits (pos t.value), others i all)
literal_fits (negative {t = t} i j) all = (nearest_fits (neg_ℤ (pos t.value)), others j (others i all))
literal_fits (positive_decimal {t = t} i) all = (decimal_fits t.text (has_class i all), others i all)
literal_fits (negative_decimal i j) all = (has_class j (others i all), others j (others i all))

-- ---- statements

pub end_passed : {xs ys : List Lexeme} → IsEnd xs ys → AreLexemes xs → AreLexemes ys
end_passed (written i) all = others i all
end_passed (missing h) all = all

do_end_passed : {xs ys : List Lexeme} → IsDoEnd xs ys → AreLexemes xs → AreLexemes ys
do_end_passed (do_written i) all = others i all
do_end_passed (do_missing h) all = all

option_fits : {o : Option ExprTree} {xs ys : List Lexeme} → IsOption o xs ys → AreLexemes xs → FitsOption (option_of o) × AreLexemes ys
option_fits absent all = (tt, all)
option_fits (present x) all = expr_fits x all

returned_fits : {o : Option ExprTree} {xs ys : List Lexeme} → IsReturned o xs ys → AreLexemes xs → FitsOption (option_of o) × AreLexemes ys
returned_fits (no_value e) all = (tt, end_passed e all)
returned_fits (a_value h x e) all = let a = expr_fits x all in (a.0, end_passed e a.1)

target_fits : {l : Option (List ℕ)} {xs ys : List Lexeme} → IsTarget l xs ys → AreLexemes xs → FitsName l × AreLexemes ys
target_fits (no_label e) all = (tt, end_passed e all)
target_fits (a_label h i e) all = (has_class i all, end_passed e (others i all))

more_ends : (l : List ℕ) (s : Stmt) → ends_open (more_label l s) ≡ ends_open s
more_ends l (m.labelled ls s) = refl
more_ends l _ = refl

-- a statement before an `else` ends in no `if` without one
closed : {s : StmtTree} {xs ys : List Lexeme} → IsStmt s xs ys → no_else ys ≡ false → ends_open (stmt_of s) ≡ false
closed (a_block i ss j) h = refl
closed (a_plain x e) h = refl
closed (an_empty i) h = refl
closed (an_if_only {us = us} i j x k s n) h = absurd (both_ways (no_else us) h n)
closed (an_if_else i j x k s l r) h = closed r h
closed (a_return i o) h = refl
closed (a_while i j x k s) h = closed s h
closed (a_do i s j k x l e) h = refl
closed (a_for i j a k b l c n s) h = closed s h
closed (a_break i l) h = refl
closed (a_continue i l) h = refl
closed (a_labelled {n = n} {s = s} i j x) h = ap ends_open (under_is n s) ∙ (more_ends n.text (stmt_of s) ∙ closed x h)
closed (a_switch i j x k l cs n) h = refl

else_here : {t : Lexeme} {xs ys : List Lexeme} → At else_word t xs ys → no_else xs ≡ false
else_here (here h) = ap (λ (c : Class). not (is_else c)) h

more_label_fits : (l : List ℕ) (s : Stmt) → HasClass identifier l → FitsStmt s → FitsStmt (more_label l s)
more_label_fits l (m.labelled ls s) h k = (refl, (h, k.1), k.2, k.3)
more_label_fits l (m.block ss) h k = (refl, (h, tt), refl, k)
more_label_fits l (m.plain e) h k = (refl, (h, tt), refl, k)
more_label_fits l m.empty h k = (refl, (h, tt), refl, k)
more_label_fits l (m.if_only c s) h k = (refl, (h, tt), refl, k)
more_label_fits l (m.if_else c s r) h k = (refl, (h, tt), refl, k)
more_label_fits l (m.returns o) h k = (refl, (h, tt), refl, k)
more_label_fits l (m.while_loop c s) h k = (refl, (h, tt), refl, k)
more_label_fits l (m.do_while s c) h k = (refl, (h, tt), refl, k)
more_label_fits l (m.for_loop a b c s) h k = (refl, (h, tt), refl, k)
more_label_fits l (m.breaks o) h k = (refl, (h, tt), refl, k)
more_label_fits l (m.continues o) h k = (refl, (h, tt), refl, k)
more_label_fits l (m.switches e cs) h k = (refl, (h, tt), refl, k)

mutual
  pub stmt_fits : {s : StmtTree} {xs ys : List Lexeme} → IsStmt s xs ys → AreLexemes xs → FitsStmt (stmt_of s) × AreLexemes ys
  stmt_fits (a_block i ss j) all = let a = stmts_fits ss (others i all) in (a.0, others j a.1)
  stmt_fits (a_plain x e) all = let a = expr_fits x all in (a.0, end_passed e a.1)
  stmt_fits (an_empty i) all = (tt, others i all)
  stmt_fits (an_if_only i j x k s n) all =
      let a = expr_fits x (others j (others i all)) in
      let b = stmt_fits s (others k a.1) in
      ((a.0, b.0), b.1)
  stmt_fits (an_if_else i j x k s l r) all =
      let a = expr_fits x (others j (others i all)) in
      let b = stmt_fits s (others k a.1) in
      let c = stmt_fits r (others l b.1) in
      ((a.0, closed s (else_here l), b.0, c.0), c.1)
  stmt_fits (a_return i o) all = returned_fits o (others i all)
  stmt_fits (a_while i j x k s) all =
      let a = expr_fits x (others j (others i all)) in
      let b = stmt_fits s (others k a.1) in
      ((a.0, b.0), b.1)
  stmt_fits (a_do i s j k x l e) all =
      let a = stmt_fits s (others i all) in
      let b = expr_fits x (others k (others j a.1)) in
      ((a.0, b.0), do_end_passed e (others l b.1))
  stmt_fits (a_for i j a k b l c n s) all =
      let x = option_fits a (others j (others i all)) in
      let y = option_fits b (others k x.1) in
      let z = option_fits c (others l y.1) in
      let r = stmt_fits s (others n z.1) in
      ((x.0, y.0, z.0, r.0), r.1)
  stmt_fits (a_break i l) all = target_fits l (others i all)
  stmt_fits (a_continue i l) all = target_fits l (others i all)
  stmt_fits (a_labelled {n = n} {s = s} i j x) all =
      let a = stmt_fits x (others j (others i all)) in
      (subst (λ (r : Stmt). FitsStmt r) (sym (under_is n s)) (more_label_fits n.text (stmt_of s) (has_class i all) a.0), a.1)
  stmt_fits (a_switch i j x k l cs n) all =
      let a = expr_fits x (others j (others i all)) in
      let b = clauses_fits cs (others l (others k a.1)) in
      ((a.0, b.0), others n b.1)

  pub stmts_fits : {ss : StmtTrees} {xs ys : List Lexeme} → IsStmts ss xs ys → AreLexemes xs → FitsStmts (stmts_of ss) × AreLexemes ys
  stmts_fits no_stmts all = (tt, all)
  stmts_fits (more_stmts s ss) all =
      let a = stmt_fits s all in
      let b = stmts_fits ss a.1 in
      ((a.0, b.0), b.1)

  clauses_fits : {cs : ClauseTrees} {xs ys : List Lexeme} → IsClauses cs xs ys → AreLexemes xs → FitsClauses (clauses_of cs) × AreLexemes ys
  clauses_fits no_clauses all = (tt, all)
  clauses_fits (a_case i v j ss cs) all =
      let a = literal_fits v (others i all) in
      let b = stmts_fits ss (others j a.1) in
      let c = clauses_fits cs b.1 in
      ((a.0, b.0, c.0), c.1)
  clauses_fits (a_default i j ss) all = let a = stmts_fits ss (others j (others i all)) in ((a.0, refl), a.1)
