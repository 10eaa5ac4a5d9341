-- The code of lists of expressions, from the last item to the first.
use Rattle.std.proofs.Common.{◌≡◌, ℕ, zero, suc, ◌+◌, ◌<◌, ◌≤◌, List, [], ◌∷◌, length, drop, get_or, Option, Some, None, refl, sym, ap, ◌∙◌, length-drop, arith}
use Rattle.std.specs.Prelude.{slice_get}
use Rattle.std.proofs.lemmas.List.{at_drop_more, at_drop_all}
use Rattle.asm_tree.specs.declared.tree.Expr.{Expr as CodeExpr}
use Rattle.asm_tree.specs.declared.tree.Link.{Link as CodeLink}
use Rattle.asm_tree.specs.Views.{LinkView, expr_view, exprs_view, links_view}
use Rattle.asm_tree.proofs.Views.{link_view-is}
use Rattle.asm_lang_valid.specs.Rows.{expr_count, exprs_count, links_count}
use Rattle.asm_lang_valid.specs.Typing.{Scope, exprs_length}
use Rattle.asm_run_code.specs.declared.op.Op.{Op}
use Rattle.asm_run_code.specs.declared.op.Operator.TheVariants.{Mul}
use Rattle.asm_run_code.specs.Operators.{link_operator}
use Rattle.asm_run_code.specs.Names.{local, seat}
use Rattle.asm_run_code.specs.Values.{into, seated, combined, stays_by, stays, sum_slot, linked, value, arguments, product, zeros, sums, last}
use Rattle.asm_run_code.specs.declared.op.Op.TheVariants.{Zeros}

-- ---- an item has at most as many nodes as all

pub node_within : (es : List CodeExpr) (i : ℕ) (e : CodeExpr) → i < length es → e ≡ get_or es i e → expr_count (expr_view e) ≤ exprs_count (exprs_view es)
node_within [] i e h is = absurd (omega arith)
node_within (x ∷ xs) zero e h is = omega (arith, ap (λ (y : CodeExpr). expr_count (expr_view y)) is)
node_within (x ∷ xs) (suc i) e h is = omega (arith, node_within xs i e (omega arith) is)

pub pair_within : (es : List CodeExpr) (l r : CodeExpr) → 2 ≤ length es → l ≡ get_or es 0 l → r ≡ get_or es 1 r → expr_count (expr_view l) + expr_count (expr_view r) ≤ exprs_count (exprs_view es)
pair_within [] l r h a b = absurd (omega arith)
pair_within (x ∷ []) l r h a b = absurd (omega arith)
pair_within (x ∷ y ∷ ys) l r h a b = omega (arith, ap (λ (z : CodeExpr). expr_count (expr_view z)) a, ap (λ (z : CodeExpr). expr_count (expr_view z)) b)

pub first_within : (es : List CodeExpr) (e : CodeExpr) → Some e ≡ slice_get es 0 → expr_count (expr_view e) ≤ exprs_count (exprs_view es)
first_within [] e h = cc
first_within (x ∷ xs) e h =
    let is : e ≡ x = cc in
    omega (arith, ap (λ (z : CodeExpr). expr_count (expr_view z)) is)

link_count : (l : CodeLink) (ls : List CodeLink) → links_count (links_view (l ∷ ls)) ≡ expr_count (expr_view l.operand) + links_count (links_view ls)
link_count l ls = ap (λ (v : LinkView). expr_count v.operand + links_count (links_view ls)) (link_view-is l)

pub operand_within : (ls : List CodeLink) (i : ℕ) (l : CodeLink) → i < length ls → l ≡ get_or ls i l → expr_count (expr_view l.operand) ≤ links_count (links_view ls)
operand_within [] i l h is = absurd (omega arith)
operand_within (x ∷ xs) zero l h is = omega (arith, link_count x xs, ap (λ (y : CodeLink). expr_count (expr_view y.operand)) is)
operand_within (x ∷ xs) (suc i) l h is = omega (arith, link_count x xs, operand_within xs i l (omega arith) is)

-- ---- arguments

pub arguments_length : (es : List CodeExpr) → exprs_length (exprs_view es) ≡ length es
arguments_length [] = refl
arguments_length (e ∷ es) = ap suc (arguments_length es)

module _ (c : Scope) (o : List Op) where
  pub argument_left : (d : ℕ) (es : List CodeExpr) (i : ℕ) (e : CodeExpr) → i < length es → e ≡ get_or es i e → arguments c d (exprs_view (drop i es)) o ≡ value c (Some d) d (expr_view e) (arguments c (suc d) (exprs_view (drop (i + 1) es)) o)
  unfolding arguments
  argument_left d es i e h is =
      at_drop_more (λ l. arguments c d (exprs_view l) o) es i e h
      ∙ ap (λ (x : CodeExpr). value c (Some d) d (expr_view x) (arguments c (suc d) (exprs_view (drop (i + 1) es)) o)) (sym is)

  pub no_argument : (d : ℕ) (es : List CodeExpr) → arguments c d (exprs_view (drop (length es) es)) o ≡ o
  unfolding arguments
  no_argument d es = at_drop_all (λ l. arguments c d (exprs_view l) o) es (length es) (omega arith)

  pub no_product : (to d : ℕ) (es : List CodeExpr) → length es < 2 → o ≡ product c to d (exprs_view es) o
  unfolding product
  no_product to d [] h = refl
  no_product to d (x ∷ []) h = refl
  no_product to d (x ∷ y ∷ ys) h = absurd (omega arith)

  pub product_form : (to d : ℕ) (es : List CodeExpr) (l r : CodeExpr) → 2 ≤ length es → l ≡ get_or es 0 l → r ≡ get_or es 1 r →
      product c to d (exprs_view es) o ≡ combined (seat c (expr_view r)) (local c (expr_view l)) Mul to d (λ more. value c (Some d) d (expr_view l) more) (λ more. value c (Some (suc d)) (suc d) (expr_view r) more) o
  unfolding product
  product_form to d [] l r h a b = absurd (omega arith)
  product_form to d (x ∷ []) l r h a b = absurd (omega arith)
  product_form to d (x ∷ y ∷ ys) l r h a b =
      ap (λ (z : CodeExpr). product c to d (exprs_view (z ∷ y ∷ ys)) o) (sym a) ∙ ap (λ (z : CodeExpr). product c to d (exprs_view (l ∷ z ∷ ys)) o) (sym b)

  pub no_zeros : (to d : ℕ) (es : List CodeExpr) → None ≡ slice_get es 0 → o ≡ zeros c to d (exprs_view es) o
  unfolding zeros
  no_zeros to d [] h = refl
  no_zeros to d (x ∷ xs) h = cc

  pub zeros_form : (to d : ℕ) (es : List CodeExpr) (e : CodeExpr) → Some e ≡ slice_get es 0 → zeros c to d (exprs_view es) o ≡ seated (local c (expr_view e)) d (λ more. value c (Some d) d (expr_view e) more) (λ a. Zeros to a) o
  unfolding zeros
  zeros_form to d [] e h = cc
  zeros_form to d (x ∷ xs) e h =
      let is : x ≡ e = cc in
      ap (λ (z : CodeExpr). zeros c to d (exprs_view (z ∷ xs)) o) is

-- ---- the further operands of a chain

module _ (c : Scope) (w : Option ℕ) (d : ℕ) (o : List Op) where
  operand_first : (a : ℕ) (l : CodeLink) (ls : List CodeLink) →
      sums c w a d (links_view (l ∷ ls)) o ≡ linked (seat c (expr_view l.operand)) (link_operator l.minus) (sum_slot w d (links_view ls)) a d (λ more. value c (Some (suc d)) (suc d) (expr_view l.operand) more) (sums c w d d (links_view ls) o)
  unfolding sums
  operand_first a l ls = ap (λ (v : LinkView). linked (seat c v.operand) (link_operator v.minus) (sum_slot w d (links_view ls)) a d (λ more. value c (Some (suc d)) (suc d) v.operand more) (sums c w d d (links_view ls) o)) (link_view-is l)

  pub operand_left : (a : ℕ) (ls : List CodeLink) (i : ℕ) (l : CodeLink) → i < length ls → l ≡ get_or ls i l →
      sums c w a d (links_view (drop i ls)) o ≡ linked (seat c (expr_view l.operand)) (link_operator l.minus) (sum_slot w d (links_view (drop (i + 1) ls))) a d (λ more. value c (Some (suc d)) (suc d) (expr_view l.operand) more) (sums c w d d (links_view (drop (i + 1) ls)) o)
  operand_left a ls i l h is =
      at_drop_more (λ ls. sums c w a d (links_view ls) o) ls i l h ∙ operand_first a (get_or ls i l) (drop (i + 1) ls)
      ∙ ap (λ (x : CodeLink). linked (seat c (expr_view x.operand)) (link_operator x.minus) (sum_slot w d (links_view (drop (i + 1) ls))) a d (λ more. value c (Some (suc d)) (suc d) (expr_view x.operand) more) (sums c w d d (links_view (drop (i + 1) ls)) o)) (sym is)

  pub no_operand : (a : ℕ) (ls : List CodeLink) → sums c w a d (links_view (drop (length ls) ls)) o ≡ o
  unfolding sums
  no_operand a ls = at_drop_all (λ l. sums c w a d (links_view l) o) ls (length ls) (omega arith)

  -- ---- the parts of a comma expression

  pub no_part : (es : List CodeExpr) → last c w d (exprs_view (drop (length es) es)) o ≡ o
  unfolding last
  no_part es = at_drop_all (λ l. last c w d (exprs_view l) o) es (length es) (omega arith)

  part_first : (e : CodeExpr) (es : List CodeExpr) → 0 < length es → last c w d (exprs_view (e ∷ es)) o ≡ value c None d (expr_view e) (last c w d (exprs_view es) o)
  unfolding last
  part_first e [] h = absurd (omega arith)
  part_first e (x ∷ xs) h = refl

  -- a part that isn't the last
  pub part_left : (es : List CodeExpr) (i : ℕ) (e : CodeExpr) → i + 1 < length es → e ≡ get_or es i e → last c w d (exprs_view (drop i es)) o ≡ value c None d (expr_view e) (last c w d (exprs_view (drop (i + 1) es)) o)
  part_left es i e h is =
      let within : i < length es = omega arith in
      let more : 0 < length (drop (i + 1) es) = omega (arith, length-drop (i + 1) es) in
      at_drop_more (λ l. last c w d (exprs_view l) o) es i e within ∙ part_first (get_or es i e) (drop (i + 1) es) more
      ∙ ap (λ (x : CodeExpr). value c None d (expr_view x) (last c w d (exprs_view (drop (i + 1) es)) o)) (sym is)

  pub last_part : (es : List CodeExpr) (i : ℕ) (e : CodeExpr) → i + 1 ≡ length es → e ≡ get_or es i e → last c w d (exprs_view (drop i es)) o ≡ value c w d (expr_view e) o
  unfolding last
  last_part es i e h is =
      let within : i < length es = omega arith in
      let none : length es ≤ i + 1 = omega arith in
      at_drop_more (λ l. last c w d (exprs_view l) o) es i e within ∙ at_drop_all (λ l. last c w d (exprs_view (get_or es i e ∷ l)) o) es (i + 1) none
      ∙ ap (λ (x : CodeExpr). value c w d (expr_view x) o) (sym is)

-- ---- the first further operand of a chain

pub first_stays : (c : Scope) (p : Option ℕ) (ls : List CodeLink) (l : CodeLink) → Some l ≡ slice_get ls 0 → stays_by (seat c (expr_view l.operand)) p ≡ stays c p (links_view ls)
first_stays c p [] l h = cc
first_stays c p (x ∷ xs) l h =
    let is : l ≡ x = cc in
    ap (λ (y : CodeLink). stays_by (seat c (expr_view y.operand)) p) is ∙ ap (λ (v : LinkView). stays_by (seat c v.operand) p) (sym (link_view-is x))

pub none_stays : (c : Scope) (p : Option ℕ) (ls : List CodeLink) → None ≡ slice_get ls 0 → None ≡ stays c p (links_view ls)
none_stays c p [] h = refl
none_stays c p (x ∷ xs) h = cc

-- the slot of a sum is that where it is wanted after the last operand alone
pub sum_slot_last : (w : Option ℕ) (d : ℕ) (ls : List CodeLink) → None ≡ slice_get ls 0 → into w d ≡ sum_slot w d (links_view ls)
sum_slot_last w d [] h = refl
sum_slot_last w d (x ∷ xs) h = cc

pub sum_slot_before : (w : Option ℕ) (d : ℕ) (ls : List CodeLink) (l : CodeLink) → Some l ≡ slice_get ls 0 → d ≡ sum_slot w d (links_view ls)
sum_slot_before w d [] l h = cc
sum_slot_before w d (x ∷ xs) l h = refl
