-- The steps of the pass over expressions.
use Rattle.std.proofs.Common.{◌≡◌, ℕ, ◌+◌, ◌<◌, Bool, true, false, ◌&&◌, List, [], ◌∷◌, ◌++◌, length, drop, get_or, Option, Some, None, Result, Ok, Err, refl, sym, ap, ◌∙◌, arith, length-drop}
use Rattle.std.specs.Prelude.{if◌then◌else◌, is_some, ℤ, IfOk, nat_le}
use Rattle.std.proofs.lemmas.List.{at_drop_more}
use Rattle.sem_words.specs.declared.js_value.JsOp.{JsOp}
use Rattle.sem_words.specs.declared.js_value.JsOp.TheVariants.{Or}
use Rattle.asm_types.specs.declared.value_type.ValueType.{ValueType}
use Rattle.asm_types.specs.declared.value_type.ValueType.TheVariants.{Int, Intish}
use Rattle.asm_types.specs.Rows.{row}
use Rattle.asm_types.specs.Types.{is_below}
use Rattle.asm_lang.specs.Modules.{Expr, lit, binary, table_call, chain, cond, Exprs, Links}
use Rattle.asm_tree.specs.declared.tree.Expr.{Expr as CodeExpr}
use Rattle.asm_tree.specs.declared.tree.Link.{Link as CodeLink}
use Rattle.asm_tree.specs.Views.{expr_view, link_view, exprs_view, links_view}
use Rattle.asm_tree.proofs.Views.{views}
use Rattle.asm_lang_valid.specs.declared.rule.Met.{Met}
use Rattle.asm_lang_valid.specs.declared.rule.Rule.TheVariants.{Operand, CallShape, TableMask, ChainLong}
use Rattle.asm_lang_valid.specs.Scope.{Meaning}
use Rattle.asm_lang_valid.specs.Rows.{need, first, expr_count}
use Rattle.asm_lang_valid.specs.Typing.{Scope, named, literal_type, most_operators, typed_below, operated, exprs_length, links_length, is_call, or_zero, is_literal, type_of, all_below, links_fit, last_type, effect_fits, table_fits, mask_fits, call_fits}
use Rattle.asm_lang_valid.specs.TypeRows.{agrees, used, expr_rows, exprs_rows, links_rows, comma_rows, call_rows, effect_rows}
use Rattle.asm_validate_exprs.specs.Forms.{chain_rows, chain_type}
use Rattle.asm_validate_names.proofs.Found.{first_before, first_after, link_operand}

-- ---- `|0`

literal_count : (e : Expr) → is_literal 0 e ≡ true → expr_count e ≡ 1
literal_count (lit v) h = refl
literal_count _ h = cc

zero_count : (op : JsOp) (e : Expr) → or_zero op e ≡ true → expr_count e ≡ 1
zero_count Or e h = literal_count e h
zero_count _ e h = cc

second_true : (a b : Bool) → (a && b) ≡ true → b ≡ true
second_true true b h = h
second_true false b h = cc

module _ (c : Scope) (op : JsOp) (l r : Expr) (coerced : Bool) (is : coerced ≡ (is_call c l && or_zero op r)) where
  pub coerced_count : coerced ≡ true → expr_count r ≡ 1
  coerced_count h = zero_count op r (second_true (is_call c l) (or_zero op r) (sym is ∙ h))

  first_true : (a b : Bool) → (a && b) ≡ true → a ≡ true
  first_true true b h = refl
  first_true false b h = cc

  pub coerced_call : coerced ≡ true → is_call c l ≡ true
  coerced_call h = first_true (is_call c l) (or_zero op r) (sym is ∙ h)

-- ---- lists

pub lengths : (es : List CodeExpr) → exprs_length (exprs_view es) ≡ length es
lengths [] = refl
lengths (e ∷ es) = omega (arith, lengths es)

pub link_lengths : (ls : List CodeLink) → links_length (links_view ls) ≡ length ls
link_lengths [] = refl
link_lengths (l ∷ ls) = omega (arith, link_lengths ls)

and_step : (a b new : Bool) (r : Bool) → new ≡ (a && b) → (new && r) ≡ (a && (b && r))
and_step true b new r h = ap (λ x. x && r) h
and_step false b new r h = ap (λ x. x && r) h

pub below_step : (c : Scope) (top : ValueType) (es : List CodeExpr) (i : ℕ) (e : CodeExpr) (t : ValueType) (a new : Bool) → i < length es → e ≡ get_or es i e → type_of c (expr_view e) ≡ Some t → new ≡ (a && is_below t top) → (new && all_below c top (exprs_view (drop (i + 1) es))) ≡ (a && all_below c top (exprs_view (drop i es)))
below_step c top es i e t a new h is typed join =
    and_step a (is_below t top) new (all_below c top (exprs_view (drop (i + 1) es))) join
    ∙ ap (λ o. a && (typed_below top o && all_below c top (exprs_view (drop (i + 1) es)))) (sym typed)
    ∙ ap (λ (x : CodeExpr). a && (typed_below top (type_of c (expr_view x)) && all_below c top (exprs_view (drop (i + 1) es)))) is
    ∙ sym (at_drop_more (λ l. a && all_below c top (exprs_view l)) es i e h)

module _ (c : Scope) (ls : List CodeLink) (i : ℕ) (l : CodeLink) (h : i < length ls) (is : l ≡ get_or ls i l) where
  pub links_rest : (at : ℕ) → first (links_rows c at (links_view (drop i ls))) ≡ first (expr_rows c at (expr_view l.operand) ++ links_rows c (at + expr_count (expr_view l.operand)) (links_view (drop (i + 1) ls)))
  links_rest at =
      at_drop_more (λ k. first (links_rows c at (links_view k))) ls i l h
      ∙ ap (λ (x : CodeLink). first (expr_rows c at (link_view x).operand ++ links_rows c (at + expr_count (link_view x).operand) (links_view (drop (i + 1) ls)))) (sym is)
      ∙ ap (λ n. first (expr_rows c at n ++ links_rows c (at + expr_count n) (links_view (drop (i + 1) ls)))) (link_operand l)

  pub links_after : (at next : ℕ) → first (expr_rows c at (expr_view l.operand)) ≡ None → next ≡ at + expr_count (expr_view l.operand) → first (links_rows c at (links_view (drop i ls))) ≡ first (links_rows c next (links_view (drop (i + 1) ls)))
  links_after at next none count =
      links_rest at ∙ first_after (expr_rows c at (expr_view l.operand)) _ none
      ∙ ap (λ a. first (links_rows c a (links_view (drop (i + 1) ls)))) (sym count)

  pub links_within : (at : ℕ) (x : Met) → first (expr_rows c at (expr_view l.operand)) ≡ Some x → first (links_rows c at (links_view (drop i ls))) ≡ Some x
  links_within at x some = links_rest at ∙ first_before (expr_rows c at (expr_view l.operand)) _ x some

  pub fit_step : (t : ValueType) (a new : Bool) → type_of c (expr_view l.operand) ≡ Some t → new ≡ (a && is_below t Int) → (new && links_fit c (links_view (drop (i + 1) ls))) ≡ (a && links_fit c (links_view (drop i ls)))
  fit_step t a new typed join =
      and_step a (is_below t Int) new (links_fit c (links_view (drop (i + 1) ls))) join
      ∙ ap (λ o. a && (typed_below Int o && links_fit c (links_view (drop (i + 1) ls)))) (sym typed)
      ∙ ap (λ n. a && (typed_below Int (type_of c n) && links_fit c (links_view (drop (i + 1) ls)))) (sym (link_operand l))
      ∙ ap (λ (x : CodeLink). a && (typed_below Int (type_of c (link_view x).operand) && links_fit c (links_view (drop (i + 1) ls)))) is
      ∙ sym (at_drop_more (λ k. a && links_fit c (links_view k)) ls i l h)

-- ---- a comma: one part before others, and the last

comma_cons : (c : Scope) (at : ℕ) (e : CodeExpr) (es : List CodeExpr) → 0 < length es → comma_rows c at (exprs_view (e ∷ es)) ≡ effect_rows c at (expr_view e) ++ comma_rows c (at + expr_count (expr_view e)) (exprs_view es)
comma_cons c at e [] h = absurd (omega arith)
comma_cons c at e (x ∷ xs) h = refl

type_cons : (c : Scope) (e : CodeExpr) (es : List CodeExpr) → 0 < length es → last_type c (exprs_view (e ∷ es)) ≡ (if effect_fits c (expr_view e) then last_type c (exprs_view es) else None)
type_cons c e [] h = absurd (omega arith)
type_cons c e (x ∷ xs) h = refl

module _ (c : Scope) (es : List CodeExpr) (i : ℕ) (e : CodeExpr) (h : i + 1 < length es) (is : e ≡ get_or es i e) where
  more : 0 < length (drop (i + 1) es)
  more = omega (arith, length-drop (i + 1) es)

  within : i < length es
  within = omega arith

  pub comma_rest : (at : ℕ) → first (comma_rows c at (exprs_view (drop i es))) ≡ first (effect_rows c at (expr_view e) ++ comma_rows c (at + expr_count (expr_view e)) (exprs_view (drop (i + 1) es)))
  comma_rest at =
      at_drop_more (λ l. first (comma_rows c at (exprs_view l))) es i e within
      ∙ ap (λ (x : CodeExpr). first (comma_rows c at (exprs_view (x ∷ drop (i + 1) es)))) (sym is)
      ∙ ap first (comma_cons c at e (drop (i + 1) es) more)

  pub comma_after : (at next : ℕ) → first (effect_rows c at (expr_view e)) ≡ None → next ≡ at + expr_count (expr_view e) → first (comma_rows c at (exprs_view (drop i es))) ≡ first (comma_rows c next (exprs_view (drop (i + 1) es)))
  comma_after at next none count =
      comma_rest at ∙ first_after (effect_rows c at (expr_view e)) _ none
      ∙ ap (λ a. first (comma_rows c a (exprs_view (drop (i + 1) es)))) (sym count)

  pub comma_within : (at : ℕ) (x : Met) → first (effect_rows c at (expr_view e)) ≡ Some x → first (comma_rows c at (exprs_view (drop i es))) ≡ Some x
  comma_within at x some = comma_rest at ∙ first_before (effect_rows c at (expr_view e)) _ x some

  pub comma_type : effect_fits c (expr_view e) ≡ true → last_type c (exprs_view (drop i es)) ≡ last_type c (exprs_view (drop (i + 1) es))
  comma_type fits =
      at_drop_more (λ l. last_type c (exprs_view l)) es i e within
      ∙ ap (λ (x : CodeExpr). last_type c (exprs_view (x ∷ drop (i + 1) es))) (sym is)
      ∙ type_cons c e (drop (i + 1) es) more
      ∙ ap (λ b. if b then last_type c (exprs_view (drop (i + 1) es)) else None) fits

-- what is left at the last part is that part
only_one : (e : CodeExpr) (l : List CodeExpr) → length l ≡ 0 → exprs_view (e ∷ l) ≡ exprs_view (e ∷ [])
only_one e [] h = refl
only_one e (x ∷ xs) h = absurd (omega arith)

pub last_part : (es : List CodeExpr) (i : ℕ) (e : CodeExpr) → i + 1 ≡ length es → e ≡ get_or es i e → exprs_view (drop i es) ≡ exprs_view (e ∷ [])
last_part es i e h is =
    at_drop_more exprs_view es i e (omega arith)
    ∙ ap (λ (x : CodeExpr). exprs_view (x ∷ drop (i + 1) es)) (sym is)
    ∙ only_one e (drop (i + 1) es) (omega (arith, length-drop (i + 1) es))

-- ---- arguments

module _ (c : Scope) (es : List CodeExpr) (i : ℕ) (e : CodeExpr) (h : i < length es) (is : e ≡ get_or es i e) where
  pub exprs_rest : (at : ℕ) → first (exprs_rows c at (exprs_view (drop i es))) ≡ first (expr_rows c at (expr_view e) ++ exprs_rows c (at + expr_count (expr_view e)) (exprs_view (drop (i + 1) es)))
  exprs_rest at =
      at_drop_more (λ l. first (exprs_rows c at (exprs_view l))) es i e h
      ∙ ap (λ (x : CodeExpr). first (expr_rows c at (expr_view x) ++ exprs_rows c (at + expr_count (expr_view x)) (exprs_view (drop (i + 1) es)))) (sym is)

  pub exprs_after : (at next : ℕ) → first (expr_rows c at (expr_view e)) ≡ None → next ≡ at + expr_count (expr_view e) → first (exprs_rows c at (exprs_view (drop i es))) ≡ first (exprs_rows c next (exprs_view (drop (i + 1) es)))
  exprs_after at next none count =
      exprs_rest at ∙ first_after (expr_rows c at (expr_view e)) _ none
      ∙ ap (λ a. first (exprs_rows c a (exprs_view (drop (i + 1) es)))) (sym count)

  pub exprs_within : (at : ℕ) (x : Met) → first (expr_rows c at (expr_view e)) ≡ Some x → first (exprs_rows c at (exprs_view (drop i es))) ≡ Some x
  exprs_within at x some = exprs_rest at ∙ first_before (expr_rows c at (expr_view e)) _ x some

-- ---- nodes

pub if_ok : {A P : Type 0} (r : Result A Met) → P → IfOk r (λ a. P)
if_ok (Ok a) p = p
if_ok (Err x) p = tt

pub lit_typed : (c : Scope) (e : Expr) (v : ℤ) (o : Option ValueType) (r : Result ValueType Met) → e ≡ lit v → o ≡ literal_type v → IfOk r (λ t. o ≡ Some t) → IfOk r (λ t. type_of c e ≡ Some t)
lit_typed c e v o (Ok t) h k p = ap (type_of c) h ∙ sym k ∙ p
lit_typed c e v o (Err x) h k p = tt

pub binary_rows : (c : Scope) (node at : ℕ) (op : JsOp) (l r : Expr) (coerced : Bool) → coerced ≡ (is_call c l && or_zero op r) → coerced ≡ false → at ≡ node + 1 → expr_rows c node (binary op l r) ≡ expr_rows c at l ++ (expr_rows c (at + expr_count l) r ++ need (is_some (operated op l r (type_of c l) (type_of c r))) Operand node)
binary_rows c node at op l r coerced is unset begun =
    ap (λ b. if b then call_rows c true (node + 1) l else expr_rows c (node + 1) l ++ (expr_rows c (node + 1 + expr_count l) r ++ need (is_some (operated op l r (type_of c l) (type_of c r))) Operand node)) (sym is ∙ unset)
    ∙ ap (λ a. expr_rows c a l ++ (expr_rows c (a + expr_count l) r ++ need (is_some (operated op l r (type_of c l) (type_of c r))) Operand node)) (sym begun)

pub chain_end : (c : Scope) (e : Expr) (ls : Links) (t : ValueType) (fit : Bool) (count at : ℕ) (o : Option Met) → type_of c e ≡ Some t → fit ≡ links_fit c ls → count ≡ links_length ls → first (chain_rows (is_below t Int && fit) count at) ≡ o → first (need (typed_below Int (type_of c e) && links_fit c ls) Operand at ++ need (nat_le (links_length ls) most_operators) ChainLong at) ≡ o
chain_end c e ls t fit count at o typed fits counted found =
    ap (λ u. first (need (typed_below Int u && links_fit c ls) Operand at ++ need (nat_le (links_length ls) most_operators) ChainLong at)) typed
    ∙ ap (λ b. first (need (is_below t Int && b) Operand at ++ need (nat_le (links_length ls) most_operators) ChainLong at)) (sym fits)
    ∙ ap (λ n. first (need (is_below t Int && fit) Operand at ++ need (nat_le n most_operators) ChainLong at)) (sym counted)
    ∙ found

pub chain_typed : (c : Scope) (e : Expr) (ls : Links) (t : ValueType) (fit : Bool) (count : ℕ) (r : Result ValueType Met) → type_of c e ≡ Some t → fit ≡ links_fit c ls → count ≡ links_length ls → IfOk r (λ u. chain_type (is_below t Int && fit) count ≡ Some u) → IfOk r (λ u. type_of c (chain e ls) ≡ Some u)
chain_typed c e ls t fit count (Ok u) typed fits counted p =
    ap (λ o. row (typed_below Int o && links_fit c ls && nat_le (links_length ls) most_operators) Intish) typed
    ∙ ap (λ b. row (is_below t Int && b && nat_le (links_length ls) most_operators) Intish) (sym fits)
    ∙ ap (λ n. row (is_below t Int && fit && nat_le n most_operators) Intish) (sym counted)
    ∙ p
chain_typed c e ls t fit count (Err x) typed fits counted p = tt

pub cond_second : (c : Scope) (node at : ℕ) (e a b : Expr) (t : ValueType) (holds : Bool) → at ≡ node + 1 → first (expr_rows c at e) ≡ None → type_of c e ≡ Some t → holds ≡ is_below t Int → holds ≡ true → first (expr_rows c node (cond e a b)) ≡ first (expr_rows c (at + expr_count e) a ++ (expr_rows c (at + expr_count e + expr_count a) b ++ need (agrees Int (type_of c a) && agrees Int (type_of c b)) Operand node))
cond_second c node at e a b t holds begun none typed is held =
    let rest : ℕ → List Met = λ n. expr_rows c (n + expr_count e) a ++ (expr_rows c (n + expr_count e + expr_count a) b ++ need (agrees Int (type_of c a) && agrees Int (type_of c b)) Operand node) in
    ap (λ n. first (expr_rows c n e ++ (need (agrees Int (type_of c e)) Operand n ++ rest n))) (sym begun)
    ∙ first_after (expr_rows c at e) _ none
    ∙ ap (λ o. first (need (agrees Int o) Operand at ++ rest at)) typed
    ∙ ap (λ h. first (need h Operand at ++ rest at)) (sym is ∙ held)

pub table_row : (c : Scope) (asked : Bool) (m : Meaning) (n : List ℕ) (i j : Expr) (es : Exprs) (k : ℕ) (b : Bool) (at : ℕ) (o : Option Met) → j ≡ i → m ≡ named c n → k ≡ exprs_length es → b ≡ all_below c Int es → first (used m at ++ (need (table_fits c.home m asked k b) CallShape at ++ need (mask_fits m j) TableMask at)) ≡ o → first (used (named c n) at ++ (need (table_fits c.home (named c n) asked (exprs_length es) (all_below c Int es)) CallShape at ++ need (mask_fits (named c n) i) TableMask at)) ≡ o
table_row c asked m n i j es k b at o index meaning count ints found =
    ap (λ x. first (used x at ++ (need (table_fits c.home x asked (exprs_length es) (all_below c Int es)) CallShape at ++ need (mask_fits x i) TableMask at))) (sym meaning)
    ∙ ap (λ x. first (used m at ++ (need (table_fits c.home m asked x (all_below c Int es)) CallShape at ++ need (mask_fits m i) TableMask at))) (sym count)
    ∙ ap (λ x. first (used m at ++ (need (table_fits c.home m asked k x) CallShape at ++ need (mask_fits m i) TableMask at))) (sym ints)
    ∙ ap (λ x. first (used m at ++ (need (table_fits c.home m asked k b) CallShape at ++ need (mask_fits m x) TableMask at))) (sym index)
    ∙ found

pub table_call_fits : (c : Scope) (asked : Bool) (e : Expr) (m : Meaning) (n : List ℕ) (i j : Expr) (es : Exprs) (k : ℕ) (b : Bool) (t : ValueType) (r : Result (Unit {0}) Met) → j ≡ i → e ≡ table_call n i es → m ≡ named c n → k ≡ exprs_length es → b ≡ all_below c Int es → type_of c i ≡ Some t → IfOk r (λ u. table_fits c.home m asked k b ≡ true) → IfOk r (λ u. mask_fits m j ≡ true) → IfOk r (λ u. call_fits c asked e ≡ true)
table_call_fits c asked e m n i j es k b t (Ok u) index is meaning count ints typed fits masked =
    ap (call_fits c asked) is
    ∙ ap (λ x. table_fits c.home x asked (exprs_length es) (all_below c Int es) && (is_some (type_of c i) && mask_fits x i)) (sym meaning)
    ∙ ap (λ x. table_fits c.home m asked x (all_below c Int es) && (is_some (type_of c i) && mask_fits m i)) (sym count)
    ∙ ap (λ x. table_fits c.home m asked k x && (is_some (type_of c i) && mask_fits m i)) (sym ints)
    ∙ ap (λ x. x && (is_some (type_of c i) && mask_fits m i)) fits
    ∙ ap (λ x. is_some x && mask_fits m i) typed
    ∙ ap (λ x. mask_fits m x) (sym index)
    ∙ masked
table_call_fits c asked e m n i j es k b t (Err x) index is meaning count ints typed fits masked = tt

pub last_at : (es : List CodeExpr) (i j : ℕ) (e : CodeExpr) → i ≡ j → j + 1 ≡ length es → e ≡ get_or es j e → exprs_view (drop i es) ≡ exprs_view (e ∷ [])
last_at es i j e same h is = ap (λ k. exprs_view (drop k es)) same ∙ last_part es j e h is

pub ruleset steps = (views, link_operand, first_before, first_after)
