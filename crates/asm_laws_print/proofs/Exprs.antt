-- The canonical pieces of an expression that can be printed are a spelling of it.
use Rattle.std.proofs.Common.{◌≡◌, ◌≢◌, ℕ, suc, ◌+◌, ◌≤◌, Bool, true, false, cond as choice, ltb, List, [], ◌∷◌, ◌++◌, codes, refl, sym, ap, subst, ◌∙◌, arith}
use Rattle.std.specs.Prelude.{pos, negsuc, neg_ℤ, ◌==◌}
use Rattle.std.proofs.lemmas.Bool.{ltb-false, ne_eqb}
use Rattle.std.specs.Fmt.{decimal as decimal_text}
use Rattle.sem_words.specs.declared.js_value.JsOp.{JsOp}
use Rattle.sem_words.specs.declared.js_value.JsOp.TheVariants.{Add, Sub, Mul, Div, Rem, Or, And, Xor, Shl, Sar, Shr, Lt, Le, Gt, Ge, Eq, Ne}
use Rattle.sem_words.specs.declared.js_value.JsUnary.{JsUnary}
use Rattle.sem_words.specs.declared.js_value.JsUnary.TheVariants.{Neg, BitNot, Not, Plus}
use Rattle.asm_lang_tokens.specs.Forms.{kind_of}
use Rattle.asm_lang.specs.Lexemes.{identifier, a_number, a_decimal, open_paren, close_paren, open_bracket, close_bracket, comma as comma_sign, question, colon, equals, operator, tilde, bang, Lexeme, class_of, value_of, a_nonzero, At}
use Rattle.asm_lang.specs.Trees as trees
use Rattle.asm_lang.specs.Trees.{ExprTree, ExprTrees}
use Rattle.asm_lang.specs.Grammar.{level_of, IsExpr, an_operand, a_binary, a_conditional, an_assignment, a_store, a_list, a_literal, a_negative, a_decimal_literal, a_variable, an_element, a_call, a_table_call, in_parens, a_prefix, a_minus, a_plus, a_tilde, a_bang, IsIndex, an_index, IsArguments, no_argument, arguments, IsRest, no_further, a_further, is_numeric, begins_number}
use Rattle.asm_lang.specs.Modules.{Expr, lit, decimal, var, index, call, table_call, assign, store, unary, binary, chain, cond, comma, Exprs, no_exprs, exprs, Links, no_links, links, is_sum, expr_of, exprs_of, more_links, chained, binary_of}
use Rattle.asm_lang.specs.Printing.{Piece, word, between, operator_text, prefix_text, expr_level, at_level, is_literal, minus_text, expr_text, exprs_text, links_text}
use Rattle.asm_laws_print.specs.Spelled.{Spells, no_piece, a_word, FitsExpr, FitsExprs, FitsLinks, is_chain, IsRead}
use Rattle.asm_laws_print.proofs.Numbers.{decimal_kind}
use Rattle.asm_laws_print.proofs.Tokens.{parts, first, last}

-- How an expression is read where its level suffices. No place needs level 2.
abbrev pub ReadsAs : Expr → Type 0
ReadsAs e = (p : ℕ) → p ≢ 2 → p ≤ expr_level e → (b c : Bool) (xs ys : List Lexeme) → Spells b (expr_text e) c xs ys → IsRead p e xs ys

in_parens_read : (p : ℕ) (e : Expr) → ReadsAs e → {b c : Bool} {xs ys : List Lexeme} → Spells b (between (codes "(") (expr_text e) (codes ")")) c xs ys → IsRead p e xs ys
in_parens_read p e reads s =
    let opening = first s in
    let inside = parts (expr_text e) (word (codes ")") ∷ []) opening.back in
    let inner = reads 0 (λ h. omega (arith, h)) (omega arith) _ _ _ _ inside.front in
    let closing = last inside.back in
    record { tree = inner.tree; is_expr = an_operand (in_parens (opening.is_at open_paren refl) inner.is_expr (closing.is_at close_paren refl)); is_this = inner.is_this }

pub operand_read : (p : ℕ) → p ≢ 2 → (e : Expr) → ReadsAs e → {b c : Bool} {xs ys : List Lexeme} → Spells b (at_level p (expr_level e) (expr_text e)) c xs ys → IsRead p e xs ys
operand_read p other_level e reads {b = b} {c = c} {xs = xs} {ys = ys} s =
    let P : Bool → Type 0 = λ t. ltb (expr_level e) p ≡ t → Spells b (choice t (between (codes "(") (expr_text e) (codes ")")) (expr_text e)) c xs ys → IsRead p e xs ys in
    let both : P (ltb (expr_level e) p) = elim (ltb (expr_level e) p) as P [
      | true ↦ λ is s. in_parens_read p e reads s
      | false ↦ λ is s. reads p other_level (ltb-false (expr_level e) p is) b c xs ys s
    ] in
    both refl s

pub record IsIndexRead (e : Expr) (xs ys : List Lexeme) : Type 0 where
  pub tree : ExprTree
  pub is_index : IsIndex tree xs ys
  pub is_this : expr_of tree ≡ e

index_read : (e : Expr) → ReadsAs e → {b c : Bool} {xs ys : List Lexeme} → Spells b (between (codes "[") (expr_text e) (codes "]")) c xs ys → IsIndexRead e xs ys
index_read e reads s =
    let opening = first s in
    let inside = parts (expr_text e) (word (codes "]") ∷ []) opening.back in
    let inner = reads 0 (λ h. omega (arith, h)) (omega arith) _ _ _ _ inside.front in
    let closing = last inside.back in
    record { tree = inner.tree; is_index = an_index (opening.is_at open_bracket refl) inner.is_expr (closing.is_at close_bracket refl); is_this = inner.is_this }

-- the token of an operator
operator_class : (op : JsOp) → class_of (kind_of (operator_text op)) (operator_text op) ≡ operator op
operator_class Add = refl
operator_class Sub = refl
operator_class Mul = refl
operator_class Div = refl
operator_class Rem = refl
operator_class Or = refl
operator_class And = refl
operator_class Xor = refl
operator_class Shl = refl
operator_class Sar = refl
operator_class Shr = refl
operator_class Lt = refl
operator_class Le = refl
operator_class Gt = refl
operator_class Ge = refl
operator_class Eq = refl
operator_class Ne = refl

-- ---- levels

lower : {p q : ℕ} {e : ExprTree} {xs ys : List Lexeme} → p ≤ q → IsExpr q e xs ys → IsExpr p e xs ys
lower le (an_operand x) = an_operand x
lower le (a_binary h x t y) = a_binary (omega arith) x t y
lower le (a_conditional h x t y u z) = a_conditional (omega arith) x t y u z
lower le (an_assignment h n t x) = an_assignment (omega arith) n t x
lower le (a_store h n i t x) = a_store (omega arith) n i t x
lower le (a_list h x t y z) = a_list (omega arith) x t y z

below_prefix : (op : JsOp) → ltb (level_of op) 13 ≡ true
below_prefix Add = refl
below_prefix Sub = refl
below_prefix Mul = refl
below_prefix Div = refl
below_prefix Rem = refl
below_prefix Or = refl
below_prefix And = refl
below_prefix Xor = refl
below_prefix Shl = refl
below_prefix Sar = refl
below_prefix Shr = refl
below_prefix Lt = refl
below_prefix Le = refl
below_prefix Gt = refl
below_prefix Ge = refl
below_prefix Eq = refl
below_prefix Ne = refl

binary_level : (op : JsOp) → 5 ≤ level_of op
binary_level Add = omega arith
binary_level Sub = omega arith
binary_level Mul = omega arith
binary_level Div = omega arith
binary_level Rem = omega arith
binary_level Or = omega arith
binary_level And = omega arith
binary_level Xor = omega arith
binary_level Shl = omega arith
binary_level Sar = omega arith
binary_level Shr = omega arith
binary_level Lt = omega arith
binary_level Le = omega arith
binary_level Gt = omega arith
binary_level Ge = omega arith
binary_level Eq = omega arith
binary_level Ne = omega arith

-- ---- what doesn't begin with a number

word_begins : {b c : Bool} {w : List ℕ} {ps : List Piece} {xs ys : List Lexeme} → is_numeric (class_of (kind_of w) w) ≡ false → Spells b (word w ∷ ps) c xs ys → begins_number xs ≡ false
word_begins h (a_word says s) = ap is_numeric says.class ∙ h

prefix_begins : (op : JsUnary) → is_numeric (class_of (kind_of (prefix_text op)) (prefix_text op)) ≡ false
prefix_begins Neg = refl
prefix_begins BitNot = refl
prefix_begins Not = refl
prefix_begins Plus = refl

no_number : (e : Expr) → is_literal e ≡ false → FitsExpr e → {b c : Bool} {xs ys : List Lexeme} → Spells b (at_level 13 (expr_level e) (expr_text e)) c xs ys → begins_number xs ≡ false
no_number (lit (pos n)) h fits s = absurd cc
no_number (lit (negsuc n)) h fits s = word_begins refl s
no_number (decimal bs) h fits s = word_begins (ap is_numeric fits) s
no_number (var n) h fits s = word_begins (ap is_numeric fits) s
no_number (index n i) h fits s = word_begins (ap is_numeric fits.0) s
no_number (call n es) h fits s = word_begins (ap is_numeric fits.0) s
no_number (table_call n i es) h fits s = word_begins (ap is_numeric fits.0) s
no_number (assign n e) h fits s = word_begins refl s
no_number (store n i e) h fits s = word_begins refl s
no_number (unary op e) h fits s = word_begins (prefix_begins op) s
no_number (binary op l r) h fits {b = b} {c = c} {xs = xs} {ys = ys} s =
    let whole : List Piece = expr_text (binary op l r) in
    word_begins refl (subst (λ (t : Bool). Spells b (choice t (between (codes "(") whole (codes ")")) whole) c xs ys) (below_prefix op) s)
no_number (chain e ls) h fits s = word_begins refl s
no_number (cond c a b) h fits s = word_begins refl s
no_number (comma es) h fits s = word_begins refl s

-- ---- sums

binary_is : (op : JsOp) → is_sum op ≡ false → (l r : Expr) → binary_of op l r ≡ binary op l r
binary_is Add h l r = absurd cc
binary_is Sub h l r = absurd cc
binary_is _ h l r = refl

chained_first : (e : Expr) → is_chain e ≡ false → (minus : Bool) (r : Expr) → chained e minus r ≡ chain e (links minus r no_links)
chained_first (chain e ls) h minus r = absurd cc
chained_first _ h minus r = refl

abbrev and_links : Links → Links → Links
and_links no_links ks = ks
and_links (links m x ls) ks = links m x (and_links ls ks)

and_none : (ls : Links) → and_links ls no_links ≡ ls
and_none no_links = refl
and_none (links m x ls) = ap (links m x) (and_none ls)

and_more : (ls : Links) (m : Bool) (x : Expr) (ks : Links) → and_links (more_links ls m x) ks ≡ and_links ls (links m x ks)
and_more no_links m x ks = refl
and_more (links n y ls) m x ks = ap (links n y) (and_more ls m x ks)

sign_op : Bool → JsOp
sign_op true = Sub
sign_op false = Add

record Sum (e : Expr) (ls : Links) (xs ys : List Lexeme) : Type 0 where
  tree : ExprTree
  is_expr : IsExpr 11 tree xs ys
  is_this : expr_of tree ≡ chain e ls

-- one further operand
joined : (l : ExprTree) (minus : Bool) (x : Expr) → ReadsAs x → {b c : Bool} {x0 xs ys : List Lexeme} → IsExpr 11 l x0 xs → Spells b (word (minus_text minus) ∷ at_level 12 (expr_level x) (expr_text x)) c xs ys
    → (tree : ExprTree) × IsExpr 11 tree x0 ys × (expr_of tree ≡ chained (expr_of l) minus x)
joined l true x reads is s =
    let sign = first s in
    let r = operand_read 12 (λ h. omega (arith, h)) x reads sign.back in
    (trees.binary sign.token.at l Sub r.tree, a_binary (omega arith) is (sign.is_at (operator Sub) refl) r.is_expr, ap (chained (expr_of l) true) r.is_this)
joined l false x reads is s =
    let sign = first s in
    let r = operand_read 12 (λ h. omega (arith, h)) x reads sign.back in
    (trees.binary sign.token.at l Add r.tree, a_binary (omega arith) is (sign.is_at (operator Add) refl) r.is_expr, ap (chained (expr_of l) false) r.is_this)

-- ---- lists

record Further (es : Exprs) (xs ys : List Lexeme) : Type 0 where
  trees_of : ExprTrees
  is_rest : IsRest trees_of xs ys
  is_this : exprs_of trees_of ≡ es

record Call (es : Exprs) (xs ys : List Lexeme) : Type 0 where
  opening : Lexeme
  rest : List Lexeme
  is_open : At open_paren opening xs rest
  trees_of : ExprTrees
  is_arguments : IsArguments trees_of rest ys
  is_this : exprs_of trees_of ≡ es

-- ---- every expression

one_more_is : (n : ℕ) → suc n ≡ 1 + n
one_more_is n = omega arith

mutual
  pub expr_read : (e : Expr) → FitsExpr e → ReadsAs e
  expr_read (lit (pos n)) fits p other_level le u v xs ys s =
      let t = last s in
      let kind = decimal_kind n fits in
      record { tree = trees.literal t.token.at (pos t.token.value); is_expr = an_operand (a_literal (t.is_at a_number (ap (λ k. class_of k (decimal_text n)) kind))); is_this = ap (λ (v : ℕ). lit (pos v)) (t.says.value ∙ ap value_of kind) }
  expr_read (lit (negsuc n)) fits p other_level le u v xs ys s =
      let minus = first s in
      let t = last minus.back in
      let kind = decimal_kind (n + 1) fits in
      let value : t.token.value ≡ suc n = t.says.value ∙ (ap value_of kind ∙ omega arith) in
      let some : (t.token.value == 0) ≡ false = ne_eqb t.token.value 0 (λ e. omega (arith, e, value)) in
      record {
        tree = trees.literal minus.token.at (neg_ℤ (pos t.token.value));
        is_expr = an_operand (a_negative (minus.is_at (operator Sub) refl) (t.is_a a_nonzero (t.says.class ∙ ap (λ k. class_of k (decimal_text (n + 1))) kind, some)));
        is_this = ap (λ (v : ℕ). lit (neg_ℤ (pos v))) value;
      }
  expr_read (decimal bs) fits p other_level le u v xs ys s =
      let t = last s in
      record { tree = trees.decimals t.token.at t.token.text; is_expr = an_operand (a_decimal_literal (t.is_at a_decimal fits)); is_this = ap decimal t.says.text }
  expr_read (var n) fits p other_level le u v xs ys s =
      let t = last s in
      record { tree = trees.variable t.token.at t.token.text; is_expr = an_operand (a_variable (t.is_at identifier fits)); is_this = ap var t.says.text }
  expr_read (index n i) fits p other_level le u v xs ys s =
      let name = first s in
      let place = index_read i (expr_read i fits.1) name.back in
      record { tree = trees.element name.token.at name.token.text place.tree; is_expr = an_operand (an_element (name.is_at identifier fits.0) place.is_index); is_this = rw (name.says.text, place.is_this) refl }
  expr_read (call n es) fits p other_level le u v xs ys s =
      let name = first s in
      let called = call_read es fits.1 name.back in
      record { tree = trees.call name.token.at name.token.text called.trees_of; is_expr = an_operand (a_call (name.is_at identifier fits.0) called.is_open called.is_arguments); is_this = rw (name.says.text, called.is_this) refl }
  expr_read (table_call n i es) fits p other_level le u v xs ys s =
      let name = first s in
      let two = parts (between (codes "[") (expr_text i) (codes "]")) (between (codes "(") (exprs_text false es) (codes ")")) name.back in
      let place = index_read i (expr_read i fits.1) two.front in
      let called = call_read es fits.2 two.back in
      record { tree = trees.table_call name.token.at name.token.text place.tree called.trees_of; is_expr = an_operand (a_table_call (name.is_at identifier fits.0) place.is_index called.is_open called.is_arguments); is_this = rw (name.says.text, place.is_this, called.is_this) refl }
  expr_read (assign n e) fits p other_level le u v xs ys s =
      let name = first s in
      let sign = first name.back in
      let value = operand_read 1 (λ h. omega (arith, h)) e (expr_read e fits.1) sign.back in
      record { tree = trees.assignment sign.token.at name.token.text value.tree; is_expr = an_assignment le (name.is_at identifier fits.0) (sign.is_at equals refl) value.is_expr; is_this = rw (name.says.text, value.is_this) refl }
  expr_read (store n i e) fits p other_level le u v xs ys s =
      let name = first s in
      let two = parts (between (codes "[") (expr_text i) (codes "]")) (word (codes "=") ∷ at_level 1 (expr_level e) (expr_text e)) name.back in
      let place = index_read i (expr_read i fits.1) two.front in
      let sign = first two.back in
      let value = operand_read 1 (λ h. omega (arith, h)) e (expr_read e fits.2) sign.back in
      record { tree = trees.store sign.token.at name.token.text place.tree value.tree; is_expr = a_store le (name.is_at identifier fits.0) place.is_index (sign.is_at equals refl) value.is_expr; is_this = rw (name.says.text, place.is_this, value.is_this) refl }
  expr_read (unary Plus e) fits p other_level le u v xs ys s =
      let sign = first s in
      let x = operand_read 13 (λ h. omega (arith, h)) e (expr_read e fits) sign.back in
      record { tree = trees.unary sign.token.at Plus x.tree; is_expr = an_operand (a_prefix a_plus (sign.is_at (operator Add) refl) x.is_expr); is_this = ap (unary Plus) x.is_this }
  expr_read (unary BitNot e) fits p other_level le u v xs ys s =
      let sign = first s in
      let x = operand_read 13 (λ h. omega (arith, h)) e (expr_read e fits) sign.back in
      record { tree = trees.unary sign.token.at BitNot x.tree; is_expr = an_operand (a_prefix a_tilde (sign.is_at tilde refl) x.is_expr); is_this = ap (unary BitNot) x.is_this }
  expr_read (unary Not e) fits p other_level le u v xs ys s =
      let sign = first s in
      let x = operand_read 13 (λ h. omega (arith, h)) e (expr_read e fits) sign.back in
      record { tree = trees.unary sign.token.at Not x.tree; is_expr = an_operand (a_prefix a_bang (sign.is_at bang refl) x.is_expr); is_this = ap (unary Not) x.is_this }
  expr_read (unary Neg e) fits p other_level le u v xs ys s =
      let sign = first s in
      let P : Bool → Type 0 = λ t. is_literal e ≡ t → Spells false (choice t (between (codes "(") (expr_text e) (codes ")")) (at_level 13 (expr_level e) (expr_text e))) v sign.rest ys → (begins_number sign.rest ≡ false) × IsRead 13 e sign.rest ys in
      let both : P (is_literal e) = elim (is_literal e) as P [
        | true ↦ λ is s. (word_begins refl s, in_parens_read 13 e (expr_read e fits) s)
        | false ↦ λ is s. (no_number e is fits s, operand_read 13 (λ h. omega (arith, h)) e (expr_read e fits) s)
      ] in
      let x = both refl sign.back in
      record { tree = trees.unary sign.token.at Neg x.1.tree; is_expr = an_operand (a_minus (sign.is_at (operator Sub) refl) x.0 x.1.is_expr); is_this = ap (unary Neg) x.1.is_this }
  expr_read (binary op l r) fits p other_level le u v xs ys s =
      let two = parts (at_level (level_of op) (expr_level l) (expr_text l)) (word (operator_text op) ∷ at_level (1 + level_of op) (expr_level r) (expr_text r)) s in
      let left = operand_read (level_of op) (λ h. omega (arith, h, binary_level op)) l (expr_read l fits.1) two.front in
      let sign = first two.back in
      let right = operand_read (suc (level_of op)) (λ h. omega (arith, h, binary_level op)) r (expr_read r fits.2) (subst (λ (q : ℕ). Spells false (at_level q (expr_level r) (expr_text r)) v sign.rest ys) (sym (one_more_is (level_of op))) sign.back) in
      record { tree = trees.binary sign.token.at left.tree op right.tree; is_expr = a_binary le left.is_expr (sign.is_at (operator op) (operator_class op)) right.is_expr; is_this = rw (left.is_this, right.is_this) (binary_is op fits.0 l r) }
  expr_read (chain e no_links) fits p other_level le u v xs ys s = let some = fits.1 in absurd cc
  expr_read (chain e (links minus x ls)) fits p other_level le u v xs ys s =
      let all = parts (at_level 11 (expr_level e) (expr_text e)) (links_text (links minus x ls)) s in
      let left = operand_read 11 (λ h. omega (arith, h)) e (expr_read e fits.2) all.front in
      let two = parts (word (minus_text minus) ∷ at_level 12 (expr_level x) (expr_text x)) (links_text ls) all.back in
      let sum = joined left.tree minus x (expr_read x fits.3.0) left.is_expr two.front in
      let whole = links_read e (links minus x no_links) ls fits.3.1 sum.0 sum.1 (sum.2 ∙ (ap (λ (y : Expr). chained y minus x) left.is_this ∙ chained_first e fits.0 minus x)) two.back in
      record { tree = whole.tree; is_expr = lower le whole.is_expr; is_this = whole.is_this }
  expr_read (cond e a b) fits p other_level le u v xs ys s =
      let first_two = parts (at_level 3 (expr_level e) (expr_text e)) (word (codes "?") ∷ (at_level 1 (expr_level a) (expr_text a) ++ word (codes ":") ∷ at_level 1 (expr_level b) (expr_text b))) s in
      let test = operand_read 3 (λ h. omega (arith, h)) e (expr_read e fits.0) first_two.front in
      let mark = first first_two.back in
      let last_two = parts (at_level 1 (expr_level a) (expr_text a)) (word (codes ":") ∷ at_level 1 (expr_level b) (expr_text b)) mark.back in
      let yes = operand_read 1 (λ h. omega (arith, h)) a (expr_read a fits.1) last_two.front in
      let sign = first last_two.back in
      let other = operand_read 1 (λ h. omega (arith, h)) b (expr_read b fits.2) sign.back in
      record { tree = trees.conditional mark.token.at test.tree yes.tree other.tree; is_expr = a_conditional (omega (arith, le, other_level)) (lower (omega arith) test.is_expr) (mark.is_at question refl) yes.is_expr (sign.is_at colon refl) other.is_expr; is_this = rw (test.is_this, yes.is_this, other.is_this) refl }
  expr_read (comma no_exprs) fits p other_level le u v xs ys s = let some = fits.0 in absurd cc
  expr_read (comma (exprs e no_exprs)) fits p other_level le u v xs ys s = let some = fits.0 in absurd cc
  expr_read (comma (exprs e (exprs f es))) fits p other_level le u v xs ys s =
      let two = parts (at_level 1 (expr_level e) (expr_text e)) (word (codes ",") ∷ (at_level 1 (expr_level f) (expr_text f) ++ exprs_text true es)) s in
      let x = operand_read 1 (λ h. omega (arith, h)) e (expr_read e fits.1.0) two.front in
      let sign = first two.back in
      let more = parts (at_level 1 (expr_level f) (expr_text f)) (exprs_text true es) sign.back in
      let y = operand_read 1 (λ h. omega (arith, h)) f (expr_read f fits.1.1.0) more.front in
      let z = rest_read es fits.1.1.1 more.back in
      record { tree = trees.listed sign.token.at (trees.one_expr x.tree (trees.one_expr y.tree z.trees_of)); is_expr = a_list le x.is_expr (sign.is_at comma_sign refl) y.is_expr z.is_rest; is_this = rw (x.is_this, y.is_this, z.is_this) refl }

  call_read : (es : Exprs) → FitsExprs es → {b c : Bool} {xs ys : List Lexeme} → Spells b (between (codes "(") (exprs_text false es) (codes ")")) c xs ys → Call es xs ys
  call_read no_exprs fits s =
      let opening = first s in
      let closing = last opening.back in
      record { opening = opening.token; rest = opening.rest; is_open = opening.is_at open_paren refl; trees_of = trees.no_expr; is_arguments = no_argument (closing.is_at close_paren refl); is_this = refl }
  call_read (exprs e es) fits s =
      let opening = first s in
      let all = parts (at_level 1 (expr_level e) (expr_text e) ++ exprs_text true es) (word (codes ")") ∷ []) opening.back in
      let two = parts (at_level 1 (expr_level e) (expr_text e)) (exprs_text true es) all.front in
      let x = operand_read 1 (λ h. omega (arith, h)) e (expr_read e fits.0) two.front in
      let others = rest_read es fits.1 two.back in
      let closing = last all.back in
      record { opening = opening.token; rest = opening.rest; is_open = opening.is_at open_paren refl; trees_of = trees.one_expr x.tree others.trees_of; is_arguments = arguments x.is_expr others.is_rest (closing.is_at close_paren refl); is_this = rw (x.is_this, others.is_this) refl }

  rest_read : (es : Exprs) → FitsExprs es → {b c : Bool} {xs ys : List Lexeme} → Spells b (exprs_text true es) c xs ys → Further es xs ys
  rest_read no_exprs fits no_piece = record { trees_of = trees.no_expr; is_rest = no_further; is_this = refl }
  rest_read (exprs e es) fits s =
      let sign = first s in
      let two = parts (at_level 1 (expr_level e) (expr_text e)) (exprs_text true es) sign.back in
      let x = operand_read 1 (λ h. omega (arith, h)) e (expr_read e fits.0) two.front in
      let others = rest_read es fits.1 two.back in
      record { trees_of = trees.one_expr x.tree others.trees_of; is_rest = a_further (sign.is_at comma_sign refl) x.is_expr others.is_rest; is_this = rw (x.is_this, others.is_this) refl }

  links_read : (e : Expr) (done ls : Links) → FitsLinks ls → (l : ExprTree) {b c : Bool} {x0 xs ys : List Lexeme} → IsExpr 11 l x0 xs → expr_of l ≡ chain e done → Spells b (links_text ls) c xs ys → Sum e (and_links done ls) x0 ys
  links_read e done no_links fits l is this no_piece = record { tree = l; is_expr = is; is_this = this ∙ ap (chain e) (sym (and_none done)) }
  links_read e done (links minus x ls) fits l {x0 = x0} {ys = ys} is this s =
      let two = parts (word (minus_text minus) ∷ at_level 12 (expr_level x) (expr_text x)) (links_text ls) s in
      let sum = joined l minus x (expr_read x fits.0) is two.front in
      let more = links_read e (more_links done minus x) ls fits.1 sum.0 sum.1 (sum.2 ∙ ap (λ (y : Expr). chained y minus x) this) two.back in
      subst (λ (ks : Links). Sum e ks x0 ys) (and_more done minus x ls) more
