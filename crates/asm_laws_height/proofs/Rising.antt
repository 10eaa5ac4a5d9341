-- Each token keeps what the state's functions keep, and the bound doesn't fall: expressions and statements.
use Rattle.std.proofs.Common.{ℕ, ◌≡◌, ◌≤◌, ◌+◌, Bool, true, false, ◌&&◌, not, cond, max, List, Option, Some, None, refl, arith}
use Rattle.std.proofs.lemmas.Bool.{cond_both}
use Rattle.std.specs.Prelude.{◌==◌, nat_le, ℤ, pos, neg_ℤ}
use Rattle.sem_words.specs.declared.js_value.JsOp.{JsOp}
use Rattle.sem_words.specs.declared.js_value.JsOp.TheVariants.{Add, Sub}
use Rattle.sem_words.specs.declared.js_value.JsUnary.{JsUnary}
use Rattle.sem_words.specs.declared.js_value.JsUnary.TheVariants.{Neg, Plus, BitNot, Not}
use Rattle.asm_lang.specs.Lexemes.{Class, identifier, break_word, case_word, continue_word, default_word, do_word, else_word, for_word, if_word, return_word, switch_word, while_word, a_number, a_decimal, open_brace, close_brace, open_paren, close_paren, open_bracket, semicolon, comma, question, colon, equals, operator, tilde, bang, Lexeme, sign}
use Rattle.asm_lang.specs.Trees.{ExprTree, literal, decimals, variable, element, call, table_call, assignment, store, unary, binary, conditional, listed, ExprTrees, no_expr, one_expr, StmtTree, block, plain, empty, if_only, if_else, returns, while_loop, do_loop, for_loop, breaks, continues, switches, StmtTrees, no_stmt, ClauseTrees, no_clause, one_clause, Init, number}
use Rattle.asm_lang.specs.Grammar.{level_of, may_miss_before, under}
use Rattle.asm_lang.specs.Modules.{expr_of}
use Rattle.asm_lang.specs.Machine.{same_class, begins_expr, is_quiet, State, closes, in_rest, ends, ends_do, at_stmt, after_arm, at_stmts, at_clauses, in_case, Step, goes, expects, either, refuses, more_exprs, stuck, expr_by, minus_by, infix_by, name_by, index_by, arguments_by, rest_by, end_by, do_end_by, more_stmts_of, condition, stmt_by, stmt_name_by, option_by, return_by, target_by, arm_by, stmts_by, case_value, clauses_by, in_case_by}
use Rattle.asm_lang.specs.TreeHeights.{height, all_height, part_height, body_height, block_height, cases_height}
use Rattle.asm_laws_height.specs.Peaks.{last_height, peak}
use Rattle.asm_laws_height.proofs.Sizes.{binary_height, floor_above, more_height, under_height, under_body, body_near, more_block, last_of_more}
use Rattle.asm_laws_height.proofs.Bounds.{least, bound, step_bound, Holds, HoldsStmt, Flat, none, Kept, KeptStep, Rises}
use Rattle.asm_laws_height.proofs.Holding.{up, up_stmt, silent, itself, inside, in_stmt, round}

-- a step by a test
pub by_test : (n : ℕ) (b : Bool) (x y : Step) → (b ≡ true → Rises n x) → (b ≡ false → Rises n y) → Rises n (cond b x y)
by_test n b x y f g = cond_both b x y (λ s. Rises n s) f g

pub rises_to : (n : ℕ) (s : Step) → n ≤ step_bound s → KeptStep s → Rises n s
rises_to n (goes s) le k = (le, k)
rises_to n (expects w k) le h = (le, h)
rises_to n (either w d q k s) le h = (le, h)
rises_to n (refuses f back) le h = tt

pub lower : (m n : ℕ) (s : Step) → n ≤ m → Rises m s → Rises n s
lower m n (goes s) le r = let from = r.0 in (omega arith, r.1)
lower m n (expects w k) le r = let from = r.0 in (omega arith, r.1)
lower m n (either w d q k s) le r = let from = r.0 in (omega arith, r.1)
lower m n (refuses f back) le r = tt

-- ---- expressions

abbrev pub HoldsExpr : (ExprTree → State) → Type 0
HoldsExpr k = Holds height (λ e. bound (k e)) (λ e. peak (k e))

abbrev pub KeptBy : (ExprTree → State) → Type 0
KeptBy k = (e : ExprTree) → Kept (k e)

binary_up : (at : ℕ) (op : JsOp) (e r : ExprTree) → height r ≤ height (binary at e op r)
binary_up at op e r = omega (arith, binary_height op (expr_of e) (expr_of r))

binary_left : (at : ℕ) (op : JsOp) (e r : ExprTree) → height e ≤ height (binary at e op r)
binary_left at op e r = omega (arith, binary_height op (expr_of e) (expr_of r), floor_above op (expr_of e))

binary_more : (at : ℕ) (op : JsOp) (e : ExprTree) (d : ℕ) (a b : ExprTree) → height a ≤ d + height b → height (binary at e op a) ≤ d + height (binary at e op b)
binary_more at op e d a b le = omega (arith, binary_height op (expr_of e) (expr_of a), binary_height op (expr_of e) (expr_of b))

-- an operator round its operand
unary_in : (at : ℕ) (op : JsUnary) (k : ExprTree → State) → HoldsExpr k → Holds height (λ e. bound (k (unary at op e))) (λ e. max (height (unary at op e)) (peak (k (unary at op e))))
unary_in at op k h = inside height (λ e. unary at op e) (itself h) (λ a. omega arith) (λ d a b le. omega arith)

pub expr_rises : (c : Class) (t : Lexeme) (p : ℕ) (k : ExprTree → State) → HoldsExpr k → KeptBy k → Rises (bound (k least)) (expr_by c t p k)
expr_rises a_number t p k h g = (up h least (literal t.at (pos t.value)) (omega arith), (h, g))
expr_rises a_decimal t p k h g = (up h least (decimals t.at t.text) (omega arith), (h, g))
expr_rises identifier t p k h g = (up h least (variable t.at t.text) (omega arith), (h, g))
expr_rises open_paren t p k h g = (omega arith, (silent h, λ e. (h, g)))
expr_rises (operator Sub) t p k h g = (omega arith, (itself h, λ e. (h, g)))
expr_rises (operator Add) t p k h g = (up h least (unary t.at Plus least) (omega arith), (unary_in t.at Plus k h, λ e. (h, g)))
expr_rises tilde t p k h g = (up h least (unary t.at BitNot least) (omega arith), (unary_in t.at BitNot k h, λ e. (h, g)))
expr_rises bang t p k h g = (up h least (unary t.at Not least) (omega arith), (unary_in t.at Not k h, λ e. (h, g)))
expr_rises _ t p k h g = tt

pub minus_rises : (c : Class) (m t : Lexeme) (k : ExprTree → State) → HoldsExpr k → KeptBy k → Rises (bound (k least)) (minus_by c m t k)
minus_rises a_number m t k h g = by_test (bound (k least)) (t.value == 0) (stuck t) _ (λ zero. tt) (λ no. (up h least (literal m.at (neg_ℤ (pos t.value))) (omega arith), g (literal m.at (neg_ℤ (pos t.value)))))
minus_rises c m t k h g = lower (bound (k (unary m.at Neg least))) (bound (k least)) (expr_by c t 13 (λ e. k (unary m.at Neg e))) (up h least (unary m.at Neg least) (omega arith))
    (expr_rises c t 13 (λ e. k (unary m.at Neg e)) (inside height (λ e. unary m.at Neg e) h (λ a. omega arith) (λ d a b le. omega arith)) (λ e. g (unary m.at Neg e)))

pub infix_rises : (c : Class) (t : Lexeme) (p : ℕ) (e : ExprTree) (k : ExprTree → State) (last : Step) → HoldsExpr k → KeptBy k → Rises (bound (k e)) last → Rises (bound (k e)) (infix_by c t p e k last)
infix_rises (operator op) t p e k last h g r = by_test (bound (k e)) (nat_le p (level_of op)) _ last
    (λ le. (up h e (binary t.at e op least) (binary_left t.at op e least), (inside height (λ b. binary t.at e op b) (itself h) (λ a. binary_up t.at op e a) (λ d a b le. binary_more t.at op e d a b le), λ b. (h, g))))
    (λ no. r)
infix_rises question t p e k last h g r = by_test (bound (k e)) (nat_le p 1) _ last
    (λ le. (
      up h e (conditional t.at e least least) (omega arith),
      (
        silent (inside height (λ a. conditional t.at e a least) h (λ a. omega arith) (λ d a b le. omega arith)),
        λ a. (inside height (λ b. conditional t.at e a b) (itself h) (λ a. omega arith) (λ d a b le. omega arith), λ b. (h, g)),
      ),
    ))
    (λ no. r)
infix_rises comma t p e k last h g r = by_test (bound (k e)) (nat_le p 0) _ last
    (λ le. (
      up h e (listed t.at (one_expr e (one_expr least no_expr))) (omega arith),
      (
        inside height (λ f. listed t.at (one_expr e (one_expr f no_expr))) (itself h) (λ a. omega arith) (λ d a b le. omega arith),
        λ f. (inside all_height (λ es. listed t.at es) (itself h) (λ a. omega arith) (λ d a b le. omega arith), λ es. (h, g)),
      ),
    ))
    (λ no. r)
infix_rises open_paren t p e k last h g r = tt
infix_rises open_bracket t p e k last h g r = tt
infix_rises equals t p e k last h g r = tt
infix_rises _ t p e k last h g r = r

pub name_rises : (c : Class) (t : Lexeme) (p : ℕ) (n : Lexeme) (k : ExprTree → State) (last : Step) → HoldsExpr k → KeptBy k → Rises (bound (k (variable n.at n.text))) last → Rises (bound (k (variable n.at n.text))) (name_by c t p n k last)
name_rises open_bracket t p n k last h g r = (
  up h (variable n.at n.text) (element n.at n.text least) (omega arith),
  (
    silent (inside height (λ i. element n.at n.text i) h (λ a. omega arith) (λ d a b le. omega arith)),
    λ i. (h, g),
  ),
)
name_rises open_paren t p n k last h g r = (
  up h (variable n.at n.text) (call n.at n.text no_expr) (omega arith),
  (
    inside all_height (λ es. call n.at n.text es) (itself h) (λ a. omega arith) (λ d a b le. omega arith),
    λ es. (h, g),
  ),
)
name_rises equals t p n k last h g r = by_test (bound (k (variable n.at n.text))) (nat_le p 1) _ (stuck t)
    (λ le. (
      up h (variable n.at n.text) (assignment t.at n.text least) (omega arith),
      (
        inside height (λ e. assignment t.at n.text e) (itself h) (λ a. omega arith) (λ d a b le. omega arith),
        λ e. (h, g),
      ),
    ))
    (λ no. tt)
name_rises c t p n k last h g r = infix_rises c t p (variable n.at n.text) k last h g r

pub index_rises : (c : Class) (t : Lexeme) (p : ℕ) (n : Lexeme) (i : ExprTree) (k : ExprTree → State) (last : Step) → HoldsExpr k → KeptBy k → Rises (bound (k (element n.at n.text i))) last
    → Rises (bound (k (element n.at n.text i))) (index_by c t p n i k last)
index_rises open_paren t p n i k last h g r = (
  up h (element n.at n.text i) (table_call n.at n.text i no_expr) (omega arith),
  (
    inside all_height (λ es. table_call n.at n.text i es) (itself h) (λ a. omega arith) (λ d a b le. omega arith),
    λ es. (h, g),
  ),
)
index_rises equals t p n i k last h g r = by_test (bound (k (element n.at n.text i))) (nat_le p 1) _ (stuck t)
    (λ le. (
      up h (element n.at n.text i) (store t.at n.text i least) (omega arith),
      (
        inside height (λ e. store t.at n.text i e) (itself h) (λ a. omega arith) (λ d a b le. omega arith),
        λ e. (h, g),
      ),
    ))
    (λ no. tt)
index_rises c t p n i k last h g r = infix_rises c t p (element n.at n.text i) k last h g r

abbrev pub HoldsExprs : (ExprTrees → State) → Type 0
HoldsExprs k = Holds all_height (λ es. bound (k es)) (λ es. peak (k es))

pub arguments_rise : (c : Class) (t : Lexeme) (k : ExprTrees → State) → HoldsExprs k → ((es : ExprTrees) → Kept (k es)) → Rises (bound (k no_expr)) (arguments_by c t k)
arguments_rise close_paren t k h g = (omega arith, g no_expr)
arguments_rise c t k h g = lower (bound (k (one_expr least no_expr))) (bound (k no_expr)) (expr_by c t 1 (λ e. in_rest (one_expr e no_expr) (λ es. closes close_paren refl (goes (k es))))) (up h no_expr (one_expr least no_expr) (omega arith))
    (expr_rises c t 1 (λ e. in_rest (one_expr e no_expr) (λ es. closes close_paren refl (goes (k es)))) (silent (inside height (λ e. one_expr e no_expr) h (λ a. omega arith) (λ d a b le. omega arith))) (λ e. (silent h, g)))

pub rest_rises : (c : Class) (es : ExprTrees) (k : ExprTrees → State) (last : Step) → HoldsExprs k → ((fs : ExprTrees) → Kept (k fs)) → Rises (bound (k es)) last → Rises (bound (k es)) (rest_by c es k last)
rest_rises comma es k last h g r = (
  up h es (more_exprs es least) (omega (arith, more_height es least)),
  (
    inside height (λ e. more_exprs es e) h (λ a. omega (arith, more_height es a)) (λ d a b le. omega (arith, more_height es a, more_height es b)),
    λ e. (h, g),
  ),
)
rest_rises _ es k last h g r = r

-- ---- the ends of statements

pub end_rises : (c : Class) (t : Lexeme) (s : State) (last : Step) → Kept s → Rises (bound s) last → Rises (bound s) (end_by c t s last)
end_rises semicolon t s last k r = (omega arith, k)
end_rises c t s last k r = by_test (bound s) (may_miss_before c t.line) last (stuck t) (λ yes. r) (λ no. tt)

pub do_end_rises : (c : Class) (s : State) (last : Step) → Kept s → Rises (bound s) last → Rises (bound s) (do_end_by c s last)
do_end_rises semicolon s last k r = (omega arith, k)
do_end_rises _ s last k r = r

-- ---- statements

abbrev pub HoldsIn : (StmtTree → State) → Type 0
HoldsIn k = HoldsStmt (λ s. bound (k s)) (λ s. peak (k s))

abbrev pub KeptIn : (StmtTree → State) → Type 0
KeptIn k = (s : StmtTree) → Kept (k s)

pub condition_rises : (n : ℕ) (k : ExprTree → Step) → Holds height (λ c. step_bound (k c)) none → ((c : ExprTree) → KeptStep (k c)) → n ≤ step_bound (k least) → Rises n (condition k)
condition_rises n k h g le = (le, λ u. (omega arith, (h, g)))

condition_kept : (k : ExprTree → Step) → Holds height (λ c. step_bound (k c)) none → ((c : ExprTree) → KeptStep (k c)) → KeptStep (condition k)
condition_kept k h g = λ u. (omega arith, (h, g))

-- an expression that is a statement
plainly : (at : ℕ) (k : StmtTree → State) → HoldsIn k → Holds height (λ e. bound (k (plain at e))) (λ e. peak (k (plain at e)))
plainly at k h = in_stmt height (λ e. plain at e) h (λ a. omega arith) (λ d a b le. (omega arith, omega arith))

if_rises : (t : Lexeme) (k : StmtTree → State) → HoldsIn k → KeptIn k → Rises (bound (k (empty 0))) (stmt_by if_word t k)
if_rises t k h g = condition_rises (bound (k (empty 0))) (λ c. goes (at_stmt (λ s. after_arm t.at c s k)))
    (silent (in_stmt height (λ c. if_only t.at c (empty 0)) h (λ a. omega arith) (λ d a b le. (omega arith, omega arith))))
    (λ c. (
      round (λ s. if_only t.at c s) h (λ s. omega (arith, body_near s)) (λ d s r le low. (omega arith, omega arith)),
      λ s. (h, g),
    ))
    (up_stmt h (empty 0) (if_only t.at least (empty 0)) (omega arith) (omega arith))

while_rises : (t : Lexeme) (k : StmtTree → State) → HoldsIn k → KeptIn k → Rises (bound (k (empty 0))) (stmt_by while_word t k)
while_rises t k h g = condition_rises (bound (k (empty 0))) (λ c. goes (at_stmt (λ s. k (while_loop t.at c s))))
    (silent (in_stmt height (λ c. while_loop t.at c (empty 0)) h (λ a. omega arith) (λ d a b le. (omega arith, omega arith))))
    (λ c. (round (λ s. while_loop t.at c s) h (λ s. omega (arith, body_near s)) (λ d s r le low. (omega arith, omega arith)), λ s. g (while_loop t.at c s)))
    (up_stmt h (empty 0) (while_loop t.at least (empty 0)) (omega arith) (omega arith))

do_body : (t : Lexeme) (k : StmtTree → State) → HoldsIn k → HoldsStmt (λ s. bound (k (do_loop t.at s least))) (λ s. body_height s)
do_body t k h = record {
  covers = λ s. omega (arith, body_near s, h.covers (do_loop t.at s least));
  rises = λ d s r le low. h.rises d (do_loop t.at s least) (do_loop t.at r least) (omega arith) (omega arith);
  tops = λ s. omega (arith, h.covers (do_loop t.at s least));
}

do_rises : (t : Lexeme) (k : StmtTree → State) → HoldsIn k → KeptIn k → Rises (bound (k (empty 0))) (stmt_by do_word t k)
do_rises t k h g = (
  up_stmt h (empty 0) (do_loop t.at (empty 0) least) (omega arith) (omega arith),
  (
    do_body t k h,
    λ s. (
      omega (arith, h.covers (do_loop t.at s least)),
      condition_kept (λ c. goes (ends_do (k (do_loop t.at s c))))
          (silent (in_stmt height (λ c. do_loop t.at s c) h (λ a. omega arith) (λ d a b le. (omega arith, omega arith)))) (λ c. g (do_loop t.at s c)),
    ),
  ),
)

for_rises : (t : Lexeme) (k : StmtTree → State) → HoldsIn k → KeptIn k → Rises (bound (k (empty 0))) (stmt_by for_word t k)
for_rises t k h g = (
  up_stmt h (empty 0) (for_loop t.at None None None (empty 0)) (omega arith) (omega arith),
  λ u. (
    omega arith,
    (
      silent (in_stmt part_height (λ a. for_loop t.at a None None (empty 0)) h (λ a. omega arith) (λ d a b le. (omega arith, omega arith))),
      λ a. (
        silent (in_stmt part_height (λ b. for_loop t.at a b None (empty 0)) h (λ a. omega arith) (λ d a b le. (omega arith, omega arith))),
        λ b. (
          silent (in_stmt part_height (λ c. for_loop t.at a b c (empty 0)) h (λ a. omega arith) (λ d a b le. (omega arith, omega arith))),
          λ c. (round (λ s. for_loop t.at a b c s) h (λ s. omega (arith, body_near s)) (λ d s r le low. (omega arith, omega arith)), λ s. g (for_loop t.at a b c s)),
        ),
      ),
    ),
  ),
)

switch_rises : (t : Lexeme) (k : StmtTree → State) → HoldsIn k → KeptIn k → Rises (bound (k (empty 0))) (stmt_by switch_word t k)
switch_rises t k h g = condition_rises (bound (k (empty 0))) (λ e. expects (sign open_brace) (λ w. goes (at_clauses (λ cs. goes (k (switches t.at e cs))))))
    (silent (in_stmt height (λ e. switches t.at e no_clause) h (λ a. omega arith) (λ d a b le. (omega arith, omega arith))))
    (λ e w. (omega arith, (silent (in_stmt cases_height (λ cs. switches t.at e cs) h (λ a. omega arith) (λ d a b le. (omega arith, omega arith))), λ cs. g (switches t.at e cs))))
    (up_stmt h (empty 0) (switches t.at least no_clause) (omega arith) (omega arith))

pub stmt_rises : (c : Class) (t : Lexeme) (k : StmtTree → State) → HoldsIn k → KeptIn k → Rises (bound (k (empty 0))) (stmt_by c t k)
stmt_rises semicolon t k h g = (up_stmt h (empty 0) (empty t.at) (omega arith) (omega arith), g (empty t.at))
stmt_rises open_brace t k h g = (
  up_stmt h (empty 0) (block t.at no_stmt) (omega arith) (omega arith),
  (silent (in_stmt block_height (λ ss. block t.at ss) h (λ a. omega arith) (λ d a b le. (omega arith, omega arith))), λ ss. g (block t.at ss)),
)
stmt_rises if_word t k h g = if_rises t k h g
stmt_rises while_word t k h g = while_rises t k h g
stmt_rises do_word t k h g = do_rises t k h g
stmt_rises for_word t k h g = for_rises t k h g
stmt_rises return_word t k h g = (
  up_stmt h (empty 0) (returns t.at None) (omega arith) (omega arith),
  (in_stmt part_height (λ o. returns t.at o) h (λ a. omega arith) (λ d a b le. (omega arith, omega arith)), λ o. g (returns t.at o)),
)
stmt_rises break_word t k h g = (
  up_stmt h (empty 0) (breaks t.at None) (omega arith) (omega arith),
  (λ a b. up_stmt h (breaks t.at a) (breaks t.at b) (omega arith) (omega arith), λ o. g (breaks t.at o)),
)
stmt_rises continue_word t k h g = (
  up_stmt h (empty 0) (continues t.at None) (omega arith) (omega arith),
  (λ a b. up_stmt h (continues t.at a) (continues t.at b) (omega arith) (omega arith), λ o. g (continues t.at o)),
)
stmt_rises switch_word t k h g = switch_rises t k h g
stmt_rises identifier t k h g = (omega arith, (h, g))
stmt_rises c t k h g = lower (bound (k (plain t.at least))) (bound (k (empty 0))) (expr_by c t 0 (λ e. ends (k (plain t.at e)))) (up_stmt h (empty 0) (plain t.at least) (omega arith) (omega arith))
    (expr_rises c t 0 (λ e. ends (k (plain t.at e))) (plainly t.at k h) (λ e. g (plain t.at e)))

name_to_least : (n : Lexeme) (k : StmtTree → State) → HoldsIn k → bound (k (empty 0)) ≤ bound (k (plain n.at (variable n.at n.text)))
name_to_least n k h = up_stmt h (empty 0) (plain n.at (variable n.at n.text)) (omega arith) (omega arith)

pub stmt_name_rises : (c : Class) (t : Lexeme) (n : Lexeme) (k : StmtTree → State) (last : Step) → HoldsIn k → KeptIn k → Rises (bound (k (plain n.at (variable n.at n.text)))) last → Rises (bound (k (empty 0))) (stmt_name_by c t n k last)
stmt_name_rises colon t n k last h g r = (
  up_stmt h (empty 0) (under n (empty 0)) (omega arith) (omega arith),
  (round (λ s. under n s) h (λ s. omega (arith, under_height n s)) (λ d s r le low. (omega (arith, under_height n s, under_height n r), omega (arith, under_body n s, under_body n r))), λ s. g (under n s)),
)
stmt_name_rises c t n k last h g r = lower (bound (k (plain n.at (variable n.at n.text)))) (bound (k (empty 0))) (name_by c t 0 n (λ e. ends (k (plain n.at e))) last) (name_to_least n k h)
    (name_rises c t 0 n (λ e. ends (k (plain n.at e))) last (plainly n.at k h) (λ e. g (plain n.at e)) r)

pub option_rises : (d : Class) (t : Lexeme) (c : Class) (q : is_quiet c ≡ true) (k : Option ExprTree → Step) → Holds part_height (λ o. step_bound (k o)) none → ((o : Option ExprTree) → KeptStep (k o))
    → Rises (step_bound (k None)) (option_by d t c q k)
option_rises d t c q k h g = by_test (step_bound (k None)) (begins_expr d) _ _
    (λ yes. lower (step_bound (k (Some least))) (step_bound (k None)) (expr_by d t 0 (λ e. closes c q (k (Some e)))) (up h None (Some least) (omega arith))
    (expr_rises d t 0 (λ e. closes c q (k (Some e))) (inside height (λ (e : ExprTree). (let o : Option ExprTree = Some e in o)) h (λ a. omega arith) (λ d a b le. omega arith)) (λ e. g (Some e))))
    (λ no. by_test (step_bound (k None)) (same_class c d) (k None) (stuck t) (λ yes. rises_to (step_bound (k None)) (k None) (omega arith) (g None)) (λ no. tt))

pub return_rises : (c : Class) (t : Lexeme) (k : Option ExprTree → State) (last : Step) → Holds part_height (λ o. bound (k o)) (λ o. peak (k o)) → ((o : Option ExprTree) → Kept (k o)) → Rises (bound (k None)) last
    → Rises (bound (k None)) (return_by c t k last)
return_rises c t k last h g r = by_test (bound (k None)) (begins_expr c && not t.line) _ last
    (λ yes. lower (bound (k (Some least))) (bound (k None)) (expr_by c t 0 (λ e. ends (k (Some e)))) (up h None (Some least) (omega arith))
    (expr_rises c t 0 (λ e. ends (k (Some e))) (inside height (λ (e : ExprTree). (let o : Option ExprTree = Some e in o)) h (λ a. omega arith) (λ d a b le. omega arith)) (λ e. g (Some e))))
    (λ no. r)

pub target_rises : (c : Class) (t : Lexeme) (k : Option (List ℕ) → State) (last : Step) → Flat (λ (o : Option (List ℕ)). bound (k o)) → ((o : Option (List ℕ)) → Kept (k o)) → Rises (bound (k None)) last
    → Rises (bound (k None)) (target_by c t k last)
target_rises identifier t k last h g r = by_test (bound (k None)) t.line last _ (λ yes. r) (λ no. (h None (Some t.text), g (Some t.text)))
target_rises _ t k last h g r = r

pub arm_rises : (c : Class) (at : ℕ) (e : ExprTree) (s : StmtTree) (k : StmtTree → State) (last : Step) → HoldsIn k → KeptIn k → Rises (bound (k (if_only at e s))) last → Rises (bound (k (if_only at e s))) (arm_by c at e s k last)
arm_rises else_word at e s k last h g r = (
  up_stmt h (if_only at e s) (if_else at e s (empty 0)) (omega arith) (omega arith),
  (round (λ b. if_else at e s b) h (λ b. omega (arith, body_near b)) (λ d a b le low. (omega arith, omega arith)), λ b. g (if_else at e s b)),
)
arm_rises _ at e s k last h g r = r

abbrev pub HoldsAll : (StmtTrees → Step) → Type 0
HoldsAll k = Holds block_height (λ ss. step_bound (k ss)) none

-- one statement more
more_in : (ss : StmtTrees) (k : StmtTrees → Step) → HoldsAll k → HoldsStmt (λ s. step_bound (k (more_stmts_of ss s))) (λ s. last_height (more_stmts_of ss s))
more_in ss k h = record {
  covers = λ s. omega (arith, more_block ss s, h.covers (more_stmts_of ss s));
  rises = λ d s r le low. h.rises d (more_stmts_of ss s) (more_stmts_of ss r) (omega (arith, more_block ss s, more_block ss r));
  tops = λ s. omega (arith, last_of_more ss s, more_block ss s, h.covers (more_stmts_of ss s));
}

pub stmts_rise : (c : Class) (t : Lexeme) (ss : StmtTrees) (k : StmtTrees → Step) → HoldsAll k → ((rs : StmtTrees) → KeptStep (k rs)) → Rises (step_bound (k ss)) (stmts_by c t ss k)
stmts_rise close_brace t ss k h g = rises_to (step_bound (k ss)) (k ss) (omega arith) (g ss)
stmts_rise c t ss k h g = lower (step_bound (k (more_stmts_of ss (empty 0)))) (step_bound (k ss)) (stmt_by c t (λ s. at_stmts (more_stmts_of ss s) k)) (up h ss (more_stmts_of ss (empty 0)) (omega (arith, more_block ss (empty 0))))
    (stmt_rises c t (λ s. at_stmts (more_stmts_of ss s) k) (more_in ss k h) (λ s. (h, g)))

abbrev pub HoldsCases : (ClauseTrees → Step) → Type 0
HoldsCases k = Holds cases_height (λ cs. step_bound (k cs)) none

case_all : (P : State → Type 0) (f : ℤ → State) → ((v : ℤ) → P (f v)) → (i : Init) → P (case_value i f)
case_all P f h (number v) = h v
case_all P f h _ = h (pos 0)

case_flat : (k : ClauseTrees → Step) → HoldsCases k → Flat (λ (i : Init). bound (case_value i (λ v. in_case v no_stmt k)))
case_flat k h i j = case_all (λ s. bound s ≤ bound (case_value j (λ v. in_case v no_stmt k))) (λ v. in_case v no_stmt k)
    (λ v. case_all (λ s. bound (in_case v no_stmt k) ≤ bound s) (λ w. in_case w no_stmt k) (λ w. up h (one_clause (Some v) no_stmt no_clause) (one_clause (Some w) no_stmt no_clause) (omega arith)) j) i

pub clauses_rise : (c : Class) (t : Lexeme) (k : ClauseTrees → Step) → HoldsCases k → ((cs : ClauseTrees) → KeptStep (k cs)) → Rises (step_bound (k no_clause)) (clauses_by c t k)
clauses_rise case_word t k h g = (
  up h no_clause (one_clause (Some (pos 0)) no_stmt no_clause) (omega arith),
  (case_flat k h, λ i. case_all (λ s. Kept s) (λ v. in_case v no_stmt k) (λ v. (h, g)) i),
)
clauses_rise default_word t k h g = (
  up h no_clause (one_clause None no_stmt no_clause) (omega arith),
  λ u. (omega arith, (inside block_height (λ ss. one_clause None ss no_clause) h (λ a. omega arith) (λ d a b le. omega arith), λ ss. g (one_clause None ss no_clause))),
)
clauses_rise close_brace t k h g = rises_to (step_bound (k no_clause)) (k no_clause) (omega arith) (g no_clause)
clauses_rise _ t k h g = tt

-- the clauses after one with these statements
after_clause : (v : ℤ) (ss : StmtTrees) (k : ClauseTrees → Step) → HoldsCases k → Holds cases_height (λ cs. step_bound (k (one_clause (Some v) ss cs))) none
after_clause v ss k h = inside cases_height (λ cs. one_clause (Some v) ss cs) h (λ a. omega arith) (λ d a b le. omega arith)

one_more_in : (v : ℤ) (ss : StmtTrees) (k : ClauseTrees → Step) → HoldsCases k → HoldsStmt (λ s. step_bound (k (one_clause (Some v) (more_stmts_of ss s) no_clause))) (λ s. last_height (more_stmts_of ss s))
one_more_in v ss k h = more_in ss (λ rs. k (one_clause (Some v) rs no_clause)) (inside block_height (λ rs. one_clause (Some v) rs no_clause) h (λ a. omega arith) (λ d a b le. omega arith))

pub in_case_rises : (c : Class) (t : Lexeme) (v : ℤ) (ss : StmtTrees) (k : ClauseTrees → Step) → HoldsCases k → ((cs : ClauseTrees) → KeptStep (k cs)) → Rises (step_bound (k (one_clause (Some v) ss no_clause))) (in_case_by c t v ss k)
in_case_rises case_word t v ss k h g = clauses_rise case_word t (λ cs. k (one_clause (Some v) ss cs)) (after_clause v ss k h) (λ cs. g (one_clause (Some v) ss cs))
in_case_rises default_word t v ss k h g = clauses_rise default_word t (λ cs. k (one_clause (Some v) ss cs)) (after_clause v ss k h) (λ cs. g (one_clause (Some v) ss cs))
in_case_rises close_brace t v ss k h g = clauses_rise close_brace t (λ cs. k (one_clause (Some v) ss cs)) (after_clause v ss k h) (λ cs. g (one_clause (Some v) ss cs))
in_case_rises c t v ss k h g = lower (step_bound (k (one_clause (Some v) (more_stmts_of ss (empty 0)) no_clause))) (step_bound (k (one_clause (Some v) ss no_clause))) (stmt_by c t (λ s. in_case v (more_stmts_of ss s) k))
    (up h (one_clause (Some v) ss no_clause) (one_clause (Some v) (more_stmts_of ss (empty 0)) no_clause) (omega (arith, more_block ss (empty 0))))
    (stmt_rises c t (λ s. in_case v (more_stmts_of ss s) k) (one_more_in v ss k h) (λ s. (h, g)))
