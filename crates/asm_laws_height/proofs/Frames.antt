-- The numbers of what is open, frame by frame.
use Rattle.std.proofs.Common.{ℕ, ◌≡◌, ◌≤◌, ◌+◌, Bool, true, false, max, min, List, Option, Some, refl, arith, sym, ◌∙◌, inl, inr}
use Rattle.std.proofs.lemmas.Bool.{cases_lt, lt-ltb, le-ltb}
use Rattle.std.specs.Prelude.{ℤ, nat_lt}
use Rattle.sem_words.specs.declared.js_value.JsOp.{JsOp}
use Rattle.sem_words.specs.declared.js_value.JsUnary.{JsUnary}
use Rattle.asm_lang.specs.Lexemes.{Class, Lexeme}
use Rattle.asm_lang.specs.Trees.{ExprTree, assignment, store, unary, binary, conditional, listed, ExprTrees, StmtTree, plain, if_only, if_else, returns, while_loop, for_loop, StmtTrees, ClauseTrees}
use Rattle.asm_lang.specs.Grammar.{under}
use Rattle.asm_lang.specs.Modules.{expr_of}
use Rattle.asm_lang.specs.Machine.{is_quiet, State, closes, after_expr, in_rest, ends, after_arm, after_body, at_stmts, in_case, Step, more_exprs, more_stmts_of}
use Rattle.asm_lang.specs.TreeHeights.{height, all_height, part_height, stmt_height, body_height}
use Rattle.asm_laws_height.specs.Peaks.{peak}
use Rattle.asm_laws_height.specs.Rises.{Rise, risen, level, rise_after, one_more, second_operand, ExprRise, StmtRise, capped_rise}
use Rattle.asm_laws_height.proofs.Sizes.{binary_height, more_height, under_height, under_body, last_of_more}

pub compose : (r s : Rise) (h : ℕ) → risen (rise_after r s) h ≡ risen r (risen s h)
compose r s h = omega arith

pub closed_rise : (c : Class) (q : is_quiet c ≡ true) (k : ExprTree → Step) → ExprRise level (λ e. closes c q (k e))
closed_rise c q k = λ e. omega arith

-- a node round an expression
node_rise : (r s : Rise) (p : ℕ) (f : ExprTree → ExprTree) (k : ExprTree → State) → ((e : ExprTree) → height (f e) ≡ risen s (height e)) → ((e : ExprTree) → height e ≤ height (f e)) → ExprRise r k → ExprRise (rise_after r s) (λ e. after_expr p (f e) k)
node_rise r s p f k is low h = λ e. omega (arith, is e, low e, h (f e))

pub unary_rise : (r : Rise) (p at : ℕ) (op : JsUnary) (k : ExprTree → State) → ExprRise r k → ExprRise (rise_after r (one_more 0)) (λ e. after_expr p (unary at op e) k)
unary_rise r p at op k h = node_rise r (one_more 0) p (λ e. unary at op e) k (λ e. omega arith) (λ e. omega arith) h

pub binary_rise : (r : Rise) (p at : ℕ) (l : ExprTree) (op : JsOp) (k : ExprTree → State) → ExprRise r k → ExprRise (rise_after r (second_operand op (expr_of l))) (λ e. after_expr p (binary at l op e) k)
binary_rise r p at l op k h = node_rise r (second_operand op (expr_of l)) p (λ e. binary at l op e) k (λ e. omega (arith, binary_height op (expr_of l) (expr_of e))) (λ e. omega (arith, binary_height op (expr_of l) (expr_of e))) h

pub assignment_rise : (r : Rise) (p at : ℕ) (n : List ℕ) (k : ExprTree → State) → ExprRise r k → ExprRise (rise_after r (one_more 0)) (λ e. after_expr p (assignment at n e) k)
assignment_rise r p at n k h = node_rise r (one_more 0) p (λ e. assignment at n e) k (λ e. omega arith) (λ e. omega arith) h

pub store_rise : (r : Rise) (p at : ℕ) (n : List ℕ) (i : ExprTree) (k : ExprTree → State) → ExprRise r k → ExprRise (rise_after r (one_more (height i))) (λ e. after_expr p (store at n i e) k)
store_rise r p at n i k h = node_rise r (one_more (height i)) p (λ e. store at n i e) k (λ e. omega arith) (λ e. omega arith) h

pub conditional_rise : (r : Rise) (p at : ℕ) (c a : ExprTree) (k : ExprTree → State) → ExprRise r k → ExprRise (rise_after r (one_more (max (height c) (height a)))) (λ e. after_expr p (conditional at c a e) k)
conditional_rise r p at c a k h = node_rise r (one_more (max (height c) (height a))) p (λ e. conditional at c a e) k (λ e. omega arith) (λ e. omega arith) h

pub listed_rise : (r : Rise) (p at : ℕ) (es : ExprTrees) (k : ExprTree → State) → ExprRise r k → ExprRise (rise_after r (one_more (all_height es))) (λ e. in_rest (more_exprs es e) (λ fs. after_expr p (listed at fs) k))
listed_rise r p at es k h = λ e. omega (arith, more_height es e, h (listed at (more_exprs es e)))

pub argument_rise : (c : Class) (q : is_quiet c ≡ true) (es : ExprTrees) (k : ExprTrees → Step) → ExprRise level (λ e. in_rest (more_exprs es e) (λ fs. closes c q (k fs)))
argument_rise c q es k = λ e. omega arith

-- ---- statements

alone_rise : (b : Bool) (r : Rise) (k : StmtTree → State) (s : StmtTree) → body_height s ≡ stmt_height s → StmtRise b r k → peak (k s) ≡ risen r (stmt_height s)
alone_rise true r k s is h = omega (arith, is, h s)
alone_rise false r k s is h = h s

pub plain_rise : (b : Bool) (r : Rise) (at : ℕ) (k : StmtTree → State) → StmtRise b r k → ExprRise (rise_after r (one_more 0)) (λ e. ends (k (plain at e)))
plain_rise b r at k h = λ e. omega (arith, alone_rise b r k (plain at e) refl h)

pub return_rise : (b : Bool) (r : Rise) (at : ℕ) (k : StmtTree → State) → StmtRise b r k → ExprRise (rise_after r (one_more 0)) (λ e. ends (k (returns at (Some e))))
return_rise b r at k h = λ e. omega (arith, alone_rise b r k (returns at (Some e)) refl h)

pub listed_stmt_rise : (ss : StmtTrees) (k : StmtTrees → Step) → StmtRise false level (λ s. at_stmts (more_stmts_of ss s) k)
listed_stmt_rise ss k = λ s. omega (arith, last_of_more ss s)

pub clause_rise : (v : ℤ) (ss : StmtTrees) (k : ClauseTrees → Step) → StmtRise false level (λ s. in_case v (more_stmts_of ss s) k)
clause_rise v ss k = λ s. omega (arith, last_of_more ss s)

pub label_rise : (b : Bool) (r : Rise) (n : Lexeme) (k : StmtTree → State) → StmtRise b r k → StmtRise false r (λ s. k (under n s))
label_rise true r n k h = λ s. omega (arith, h (under n s), under_body n s)
label_rise false r n k h = λ s. omega (arith, h (under n s), under_height n s)

pub arm_rise : (b : Bool) (r : Rise) (at : ℕ) (c : ExprTree) (k : StmtTree → State) → StmtRise b r k → StmtRise true (rise_after r (one_more (height c))) (λ s. after_arm at c s k)
arm_rise b r at c k h = λ s. omega (arith, alone_rise b r k (if_only at c s) refl h)

pub other_arm_rise : (b : Bool) (r : Rise) (at : ℕ) (c : ExprTree) (a : StmtTree) (k : StmtTree → State) → StmtRise b r k → StmtRise true (rise_after r (one_more (max (height c) (body_height a)))) (λ s. k (if_else at c a s))
other_arm_rise b r at c a k h = λ s. omega (arith, alone_rise b r k (if_else at c a s) refl h)

pub while_rise : (b : Bool) (r : Rise) (at : ℕ) (c : ExprTree) (k : StmtTree → State) → StmtRise b r k → StmtRise true (rise_after r (one_more (height c))) (λ s. k (while_loop at c s))
while_rise b r at c k h = λ s. omega (arith, alone_rise b r k (while_loop at c s) refl h)

pub for_rise : (b : Bool) (r : Rise) (at : ℕ) (x y z : Option ExprTree) (k : StmtTree → State) → StmtRise b r k
    → StmtRise true (rise_after r (one_more (max (part_height x) (max (part_height y) (part_height z))))) (λ s. k (for_loop at x y z s))
for_rise b r at x y z k h = λ s. omega (arith, alone_rise b r k (for_loop at x y z s) refl h)

pub do_rise : (k : StmtTree → Step) → StmtRise true level (λ s. after_body s (k s))
do_rise k = λ s. omega arith

-- ---- up to a cap

pub capped : (cap : ℕ) (r : Rise) (h : ℕ) → min (risen r h) cap ≡ min (risen (capped_rise cap r) (min h cap)) cap
capped cap r h = omega arith

pub capped_after : (cap : ℕ) (r s : Rise) → capped_rise cap (rise_after r s) ≡ capped_rise cap (rise_after (capped_rise cap r) (capped_rise cap s))
capped_after cap r s =
    let floors : min (max r.floor (s.floor + r.steps)) cap ≡ min (max (min r.floor cap) (min s.floor cap + min r.steps cap)) cap = omega arith in
    let steps : min (s.steps + r.steps) cap ≡ min (min s.steps cap + min r.steps cap) cap = omega arith in
    λ i. record { floor = floors i; steps = steps i }

-- a cap of one more than the limit leaves whether a height is above it
pub compares : (limit h : ℕ) → nat_lt limit (min h (limit + 1)) ≡ nat_lt limit h
compares limit h = elim (cases_lt limit h) [
  | inl lt ↦ lt-ltb limit (min h (limit + 1)) (omega arith) ∙ sym (lt-ltb limit h lt)
  | inr le ↦ le-ltb limit (min h (limit + 1)) (omega arith) ∙ sym (le-ltb limit h le)
]
