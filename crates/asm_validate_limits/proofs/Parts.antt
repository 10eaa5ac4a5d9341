-- An expression's own node, and then its parts.
use Rattle.std.proofs.Common.{◌≡◌, ◌⊎◌, inl, inr, ℕ, suc, ◌+◌, ◌<◌, Bool, true, false, not, ◌&&◌, ◌≤◌, ◌-◌, length-drop, List, [], ◌∷◌, ◌++◌, length, drop, get_or, Result, Ok, Err, refl, sym, ap, ◌∙◌, append-nil, subst, arith}
use Rattle.std.proofs.lemmas.List.{at_drop_more}
use Rattle.std.proofs.lemmas.Bool.{true≢false}
use Rattle.std.proofs.lemmas.Bool.Decides.{nat_tests}
use Rattle.std.specs.Prelude.{ℤ, if◌then◌else◌, ◌==◌}
use Rattle.sem_words.specs.declared.js_value.JsOp.{JsOp}
use Rattle.sem_words.specs.declared.js_value.JsOp.TheVariants as ops
use Rattle.asm_lang.specs.Modules.{Expr, lit, decimal, var, call, table_call, binary, Exprs}
use Rattle.asm_tree.specs.declared.tree.Expr.{Expr as CodeExpr}
use Rattle.asm_tree.specs.declared.tree.Expr.TheVariants as code
use Rattle.asm_tree.specs.declared.tree.Link.{Link as CodeLink}
use Rattle.sem_words.specs.declared.text.Text.{Text}
use Rattle.sem_words.specs.Lists.{text_bytes}
use Rattle.asm_tree.specs.Views.{LinkView, expr_view, exprs_view, links_view, link_view}
use Rattle.asm_tree.proofs.Views.{link_view-is}
use Rattle.asm_lang_valid.specs.Rows.{expr_count, exprs_count, links_count}
use Rattle.asm_lang_valid.specs.Scope.{Meaning, an_int, an_outside, a_foreign, a_builtin, a_view, a_function, a_table, a_parameter, nothing as undeclared}
use Rattle.asm_lang_valid.specs.Typing.{Scope, is_call, is_builtin, is_literal, or_zero, named, exprs_length}
use Rattle.asm_lang_valid.specs.LimitRows.{Mark, expr_marks, exprs_marks, links_marks, comma_marks, call_marks, callee_marks}
use Rattle.asm_validate_names.specs.declared.refusal.AsmRefusal.{AsmRefusal}
use Rattle.asm_validate_limits.specs.declared.tally.Tally.{Tally}
use Rattle.asm_validate_limits.specs.declared.callee.Place.{Place}
use Rattle.asm_validate_limits.specs.declared.callee.Place.TheVariants.{Operand, Valued, Effect}
use Rattle.asm_validate_limits.specs.Passes.{calls_of, Passed, IsFault, Tallied}
use Rattle.asm_validate_limits.specs.Places.{placed_marks, called_marks, left_place, part_place}
use Rattle.asm_validate_limits.proofs.Passes.{into, nothing}
use Rattle.asm_validate_limits.proofs.Lists.{Completes, count_left, none_left, next, ends, one_more, fault_here}
use Rattle.asm_validate_limits.proofs.Shapes.{is_direct, lit_is, decimal_is, var_is}

-- the next node
abbrev pub entered : Tally → Tally
entered a = record { home = a.home; calls = a.calls; at = a.at + 1 }

pub inside : (ms ks : List Mark) (n k : ℕ) (a c : Tally) (r : Result (Unit {0}) AsmRefusal) → ms ≡ ks → n ≡ 1 + k → Tallied ks k (entered a) c r → Tallied ms n a c r
inside ms ks n k a c r e d h = into ms ks n k a (entered a) c r refl refl e d h

pub alone : (ms : List Mark) (n : ℕ) (a c : Tally) → c ≡ entered a → ms ≡ [] → n ≡ 1 → Passed ms n a c
alone ms n a c d m k = subst (Passed ms n a) (sym d) (inside ms [] n 0 a (entered a) (Ok tt) m k (nothing (entered a)))

module _ (s : Scope) (e : CodeExpr) (a c : Tally) (r : Result (Unit {0}) AsmRefusal) where
  -- an expression of this form, whose parts have these marks
  pub of_form : (x : Expr) (ks : List Mark) (k : ℕ) → expr_view e ≡ x → expr_marks s a.at x ≡ ks → expr_count x ≡ 1 + k → Tallied ks k (entered a) c r → Tallied (expr_marks s a.at (expr_view e)) (expr_count (expr_view e)) a c r
  of_form x ks k h m n t = inside (expr_marks s a.at (expr_view e)) ks (expr_count (expr_view e)) k a c r (ap (expr_marks s a.at) h ∙ m) (ap expr_count h ∙ n) t

  -- an expression without parts
  pub leaf : (x : Expr) → c ≡ entered a → expr_view e ≡ x → expr_marks s a.at x ≡ [] → expr_count x ≡ 1 → Passed (expr_marks s a.at (expr_view e)) (expr_count (expr_view e)) a c
  leaf x d h m n = alone (expr_marks s a.at (expr_view e)) (expr_count (expr_view e)) a c d (ap (expr_marks s a.at) h ∙ m) (ap expr_count h ∙ n)

pub leaf_any : (s : Scope) (e : CodeExpr) (a : Tally) → ((x : ℤ) × (e ≡ code.Lit x)) ⊎ (((x : Text) × (e ≡ code.Decimal x)) ⊎ ((x : Text) × (e ≡ code.Var x))) → Passed (expr_marks s a.at (expr_view e)) (expr_count (expr_view e)) a (entered a)
leaf_any s e a (inl p) = leaf s e a (entered a) (Ok tt) (lit p.0) refl (lit_is e p.0 p.1) refl refl
leaf_any s e a (inr (inl p)) = leaf s e a (entered a) (Ok tt) (decimal (text_bytes p.0)) refl (decimal_is e p.0 p.1) refl refl
leaf_any s e a (inr (inr p)) = leaf s e a (entered a) (Ok tt) (var (text_bytes p.0)) refl (var_is e p.0 p.1) refl refl

-- ---- the marks by places

literal_marks : (s : Scope) (at n : ℕ) (e : Expr) → is_literal n e ≡ true → expr_marks s at e ≡ []
literal_marks s at n (lit v) h = refl
literal_marks s at n _ h = absurd (true≢false (sym h))

zero_marks : (s : Scope) (at : ℕ) (op : JsOp) (e : Expr) → or_zero op e ≡ true → expr_marks s at e ≡ []
zero_marks s at ops.Or e h = literal_marks s at 0 e h
zero_marks s at _ e h = absurd (true≢false (sym h))

either : (ms ks ns : List Mark) (b z : Bool) → (z ≡ true → ns ≡ []) → (if b && z then ms else (ks ++ ns)) ≡ (if z then (if b then ms else ks) else ks) ++ ns
either ms ks ns true true h = sym (append-nil ms) ∙ ap (λ l. ms ++ l) (sym (h refl))
either ms ks ns true false h = refl
either ms ks ns false true h = refl
either ms ks ns false false h = refl

by_place : (s : Scope) (at : ℕ) (l : Expr) (z : Bool) → (if z then (if is_call s l then call_marks s true at l else expr_marks s at l) else expr_marks s at l) ≡ placed_marks s (if z then Valued else Operand) at l
by_place s at l true = refl
by_place s at l false = refl

pub binary_marks : (s : Scope) (at : ℕ) (op : JsOp) (l r : Expr) → expr_marks s at (binary op l r) ≡ placed_marks s (left_place op r) (at + 1) l ++ expr_marks s (at + 1 + expr_count l) r
binary_marks s at op l r =
    either (call_marks s true (at + 1) l) (expr_marks s (at + 1) l) (expr_marks s (at + 1 + expr_count l) r) (is_call s l) (or_zero op r) (zero_marks s (at + 1 + expr_count l) op r)
    ∙ ap (λ ms. ms ++ expr_marks s (at + 1 + expr_count l) r) (by_place s (at + 1) l (or_zero op r))

-- an expression that is no call by name has the same marks at each place
table_or_not : (s : Scope) (valued : Bool) (at : ℕ) (e : Expr) → is_direct e ≡ false → (if is_call s e then call_marks s valued at e else expr_marks s at e) ≡ expr_marks s at e
table_or_not s valued at (call n es) h = absurd (true≢false h)
table_or_not s valued at (table_call n i es) h = refl
table_or_not s valued at _ h = refl

pub placed_other : (s : Scope) (p : Place) (at : ℕ) (e : Expr) → is_direct e ≡ false → placed_marks s p at e ≡ expr_marks s at e
placed_other s Operand at e h = refl
placed_other s Valued at e h = table_or_not s true at e h
placed_other s Effect at e h = table_or_not s false at e h

-- .. and a call by name those of its arguments and its callee
callee_or_not : (m : Meaning) (ms : List Mark) (valued : Bool) (n at : ℕ) → (if not (is_builtin m) then ms ++ callee_marks m valued n at else ms) ≡ ms ++ callee_marks m valued n at
callee_or_not (a_builtin b) ms valued n at = sym (append-nil ms)
callee_or_not an_int ms valued n at = refl
callee_or_not an_outside ms valued n at = refl
callee_or_not (a_foreign p) ms valued n at = refl
callee_or_not (a_view v) ms valued n at = refl
callee_or_not (a_function f) ms valued n at = refl
callee_or_not (a_table t) ms valued n at = refl
callee_or_not a_parameter ms valued n at = refl
callee_or_not undeclared ms valued n at = refl

pub placed_direct : (s : Scope) (p : Place) (at : ℕ) (n : List ℕ) (es : Exprs) → placed_marks s p at (call n es) ≡ exprs_marks s (at + 1) es ++ called_marks p (named s n) (exprs_length es) at
placed_direct s Operand at n es = sym (append-nil (exprs_marks s (at + 1) es))
placed_direct s Valued at n es = callee_or_not (named s n) (exprs_marks s (at + 1) es) true (exprs_length es) at
placed_direct s Effect at n es = callee_or_not (named s n) (exprs_marks s (at + 1) es) false (exprs_length es) at

-- ---- lists

pub arguments_length : (es : List CodeExpr) → exprs_length (exprs_view es) ≡ length es
arguments_length [] = refl
arguments_length (e ∷ es) = omega (arith, arguments_length es)

-- the arguments, the operands of a chain, the parts of a comma expression; and how many nodes they have
abbrev pub arguments_marks : Scope → List CodeExpr → ℕ → List Mark
arguments_marks s es at = exprs_marks s at (exprs_view es)

abbrev pub operands_marks : Scope → List CodeLink → ℕ → List Mark
operands_marks s ls at = links_marks s at (links_view ls)

abbrev pub parts_marks : Scope → List CodeExpr → ℕ → List Mark
parts_marks s es at = comma_marks s at (exprs_view es)

abbrev pub nodes_in : List CodeExpr → ℕ
nodes_in es = exprs_count (exprs_view es)

abbrev pub nodes_of : List CodeLink → ℕ
nodes_of ls = links_count (links_view ls)

link_operand : (l : CodeLink) → (link_view l).operand ≡ expr_view l.operand
link_operand l = ap (λ (v : LinkView). v.operand) (link_view-is l)

operand_first : (s : Scope) (l : CodeLink) (ls : List CodeLink) (at : ℕ) → operands_marks s (l ∷ ls) at ≡ expr_marks s at (expr_view l.operand) ++ operands_marks s ls (at + expr_count (expr_view l.operand))
operand_first s l ls at = ap (λ x. expr_marks s at x ++ links_marks s (at + expr_count x) (links_view ls)) (link_operand l)

operand_counts : (l : CodeLink) (ls : List CodeLink) → nodes_of (l ∷ ls) ≡ expr_count (expr_view l.operand) + nodes_of ls
operand_counts l ls = ap (λ x. expr_count x + links_count (links_view ls)) (link_operand l)

pub nodes_left : (es : List CodeExpr) (i : ℕ) (e : CodeExpr) → i < length es → e ≡ get_or es i e → nodes_in (drop i es) ≡ expr_count (expr_view e) + nodes_in (drop (i + 1) es)
nodes_left es i e h is = count_left nodes_in (λ e. expr_count (expr_view e)) (λ e es. refl) es i e h is

pub operands_left : (ls : List CodeLink) (i : ℕ) (l : CodeLink) → i < length ls → l ≡ get_or ls i l → nodes_of (drop i ls) ≡ expr_count (expr_view l.operand) + nodes_of (drop (i + 1) ls)
operands_left ls i l h is = count_left nodes_of (λ l. expr_count (expr_view l.operand)) operand_counts ls i l h is

module _ (s : Scope) (a : Tally) where
  pub next_argument : (es : List CodeExpr) (i : ℕ) (e : CodeExpr) (b : Tally) → i < length es → e ≡ get_or es i e → Passed (expr_marks s a.at (expr_view e)) (expr_count (expr_view e)) a b → Completes (arguments_marks s (drop i es) a.at) (nodes_in (drop i es)) a (arguments_marks s (drop (i + 1) es) b.at) (nodes_in (drop (i + 1) es)) b
  next_argument es i e b h is p = next (arguments_marks s) nodes_in (λ e at. expr_marks s at (expr_view e)) (λ e. expr_count (expr_view e)) (λ e es at. refl) (λ e es. refl) es i e a b h is p

  pub argument_ends : (es : List CodeExpr) (i : ℕ) (e : CodeExpr) (c : Tally) (y : AsmRefusal) → i < length es → e ≡ get_or es i e → IsFault (expr_marks s a.at (expr_view e)) (calls_of a) y → Tallied (arguments_marks s (drop i es) a.at) (nodes_in (drop i es)) a c (Err y)
  argument_ends es i e c y h is p = ends (arguments_marks s) nodes_in (λ e at. expr_marks s at (expr_view e)) (λ e. expr_count (expr_view e)) (λ e es at. refl) (λ e es. refl) es i e a c y h is p

  pub no_arguments : (es : List CodeExpr) (i : ℕ) → length es ≤ i → Tallied (arguments_marks s (drop i es) a.at) (nodes_in (drop i es)) a a (Ok tt)
  no_arguments es i h = none_left (arguments_marks s) nodes_in (λ at. refl) refl es i a h

  pub next_operand : (ls : List CodeLink) (i : ℕ) (l : CodeLink) (b : Tally) → i < length ls → l ≡ get_or ls i l → Passed (expr_marks s a.at (expr_view l.operand)) (expr_count (expr_view l.operand)) a b → Completes (operands_marks s (drop i ls) a.at) (nodes_of (drop i ls)) a (operands_marks s (drop (i + 1) ls) b.at) (nodes_of (drop (i + 1) ls)) b
  next_operand ls i l b h is p = next (operands_marks s) nodes_of (λ l at. expr_marks s at (expr_view l.operand)) (λ l. expr_count (expr_view l.operand)) (operand_first s) operand_counts ls i l a b h is p

  pub operand_ends : (ls : List CodeLink) (i : ℕ) (l : CodeLink) (c : Tally) (y : AsmRefusal) → i < length ls → l ≡ get_or ls i l → IsFault (expr_marks s a.at (expr_view l.operand)) (calls_of a) y → Tallied (operands_marks s (drop i ls) a.at) (nodes_of (drop i ls)) a c (Err y)
  operand_ends ls i l c y h is p = ends (operands_marks s) nodes_of (λ l at. expr_marks s at (expr_view l.operand)) (λ l. expr_count (expr_view l.operand)) (operand_first s) operand_counts ls i l a c y h is p

  pub no_operands : (ls : List CodeLink) (i : ℕ) → length ls ≤ i → Tallied (operands_marks s (drop i ls) a.at) (nodes_of (drop i ls)) a a (Ok tt)
  no_operands ls i h = none_left (operands_marks s) nodes_of (λ at. refl) refl ls i a h

-- ---- a comma expression, whose last part stands in another place

abbrev is_nil : {A : Type 0} → List A → Bool
is_nil [] = true
is_nil (x ∷ xs) = false

part_first : (s : Scope) (e : CodeExpr) (es : List CodeExpr) (at : ℕ) → parts_marks s (e ∷ es) at ≡ placed_marks s (part_place (is_nil es)) at (expr_view e) ++ parts_marks s es (at + expr_count (expr_view e))
part_first s e [] at = sym (append-nil (expr_marks s at (expr_view e)))
part_first s e (x ∷ xs) at = refl

nil_length : (es : List CodeExpr) → is_nil es ≡ (length es == 0)
nil_length [] = refl
nil_length (e ∷ es) = not_none (length es)
  where
    not_none : (n : ℕ) → false ≡ (suc n == 0)
    not_none n = grind (arith, nat_tests)

at_end : (n k : ℕ) → k ≤ n → ((n - k) == 0) ≡ (k == n)
at_end n k h = grind (arith, nat_tests)

last_part : (es : List CodeExpr) (i : ℕ) → i < length es → is_nil (drop (i + 1) es) ≡ (i + 1 == length es)
last_part es i h =
    let within : i + 1 ≤ length es = omega arith in
    nil_length (drop (i + 1) es) ∙ ap (λ n. n == 0) (length-drop (i + 1) es) ∙ at_end (length es) (i + 1) within

part_left : (s : Scope) (es : List CodeExpr) (i : ℕ) (e : CodeExpr) (at : ℕ) → i < length es → e ≡ get_or es i e → parts_marks s (drop i es) at ≡ placed_marks s (part_place (i + 1 == length es)) at (expr_view e) ++ parts_marks s (drop (i + 1) es) (at + expr_count (expr_view e))
part_left s es i e at h is =
    at_drop_more (λ l. parts_marks s l at) es i e h ∙ part_first s (get_or es i e) (drop (i + 1) es) at
    ∙ ap (λ (x : CodeExpr). placed_marks s (part_place (is_nil (drop (i + 1) es))) at (expr_view x) ++ parts_marks s (drop (i + 1) es) (at + expr_count (expr_view x))) (sym is)
    ∙ ap (λ b. placed_marks s (part_place b) at (expr_view e) ++ parts_marks s (drop (i + 1) es) (at + expr_count (expr_view e))) (last_part es i h)

module _ (s : Scope) (a : Tally) (es : List CodeExpr) (i : ℕ) (e : CodeExpr) (p : Place) (h : i < length es) (is : e ≡ get_or es i e) (place : p ≡ part_place (i + 1 == length es)) where
  part_here : parts_marks s (drop i es) a.at ≡ placed_marks s p a.at (expr_view e) ++ parts_marks s (drop (i + 1) es) (a.at + expr_count (expr_view e))
  part_here = part_left s es i e a.at h is ∙ ap (λ q. placed_marks s q a.at (expr_view e) ++ parts_marks s (drop (i + 1) es) (a.at + expr_count (expr_view e))) (sym place)

  pub next_part : (b : Tally) → Passed (placed_marks s p a.at (expr_view e)) (expr_count (expr_view e)) a b → Completes (parts_marks s (drop i es) a.at) (nodes_in (drop i es)) a (parts_marks s (drop (i + 1) es) b.at) (nodes_in (drop (i + 1) es)) b
  next_part b t = one_more (parts_marks s (drop i es) a.at) (placed_marks s p a.at (expr_view e)) (parts_marks s (drop (i + 1) es)) (expr_count (expr_view e)) (nodes_in (drop (i + 1) es)) (nodes_in (drop i es)) a b part_here (nodes_left es i e h is) t

  pub part_ends : (c : Tally) (y : AsmRefusal) → IsFault (placed_marks s p a.at (expr_view e)) (calls_of a) y → Tallied (parts_marks s (drop i es) a.at) (nodes_in (drop i es)) a c (Err y)
  part_ends c y t = fault_here (parts_marks s (drop i es) a.at) (placed_marks s p a.at (expr_view e)) (parts_marks s (drop (i + 1) es)) (expr_count (expr_view e)) (nodes_in (drop i es)) a c y part_here t

pub no_parts : (s : Scope) (a : Tally) (es : List CodeExpr) (i : ℕ) → length es ≤ i → Tallied (parts_marks s (drop i es) a.at) (nodes_in (drop i es)) a a (Ok tt)
no_parts s a es i h = none_left (parts_marks s) nodes_in (λ at. refl) refl es i a h
