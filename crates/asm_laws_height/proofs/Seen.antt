-- A node above the limit that ends at a mark shows as a peak at the mark or before: expressions and statements.
use Rattle.std.proofs.Common.{ℕ, suc, ◌≤◌, ◌<◌, List, [], ◌∷◌, length, refl, sym, subst, ◌⊎◌, inl, inr, arith}
use Rattle.sem_words.specs.declared.js_value.JsUnary.TheVariants.{Neg}
use Rattle.asm_lang.specs.Lexemes.{close_paren, close_bracket, colon, Lexeme}
use Rattle.asm_lang.specs.Trees.{ExprTree, variable, element, call, table_call, assignment, store, unary, binary, conditional, listed, ExprTrees, no_expr, one_expr}
use Rattle.asm_lang.specs.Grammar.{level_of, IsExpr, an_operand, a_binary, a_conditional, an_assignment, a_store, a_list, IsOperand, a_literal, a_negative, a_decimal_literal, a_variable, an_element, a_call, a_table_call, in_parens, a_prefix, a_minus, IsIndex, an_index, IsArguments, no_argument, arguments, IsRest, no_further, a_further}
use Rattle.asm_lang.specs.Machine.{State, closes, at_expr, after_name, after_index, after_expr, at_arguments, in_rest, Step, goes, more_exprs, expr_by, name_by, index_by, rest_by, feed, advance}
use Rattle.asm_lang.proofs.Tokens.{Ends, Stops, level_low, Stops-ends, Ends-up, Ends-low, stop_here, end_here, expr_first}
use Rattle.asm_lang.proofs.Leads.{Falls, falls_name, falls_index, falls_expr, falls_minus, falls_rest, falls_arguments, falls_end, falls_do_end, falls_option, falls_value, falls_return, falls_target, falls_label, falls_arm, falls_stmts, falls_case, falls_clause, falls_member, falls_init, falls_globals, falls_local, falls_locals, falls_marks, falls_tables, falls_comma, GoAlike, Observer, ◌▸◌, closed, on_class}
use Rattle.asm_lang.proofs.CompleteExprs.{falls, goes_on, asks, lists, assigns, stores, at_the_name, minus_goes, prefix_read, first_argument, operand_stop, under_13, same, rest_Stops, expr_read, operand_read, index_read}
use Rattle.asm_lang.specs.TreeHeights.{height}
use Rattle.asm_lang.specs.HighNodes.{Here, HighExpr, HighOperand, HighIndex, HighArguments, HighRest}
use Rattle.asm_laws_height.specs.Peaks.{peak, step_peak}

-- from this step on, up to the mark, some peak is above the limit
abbrev pub Peaks : ℕ → ℕ → Step → List Lexeme → Type 0
Peaks limit mark s [] = (mark ≤ 0) × (limit < step_peak s)
Peaks limit mark s (t ∷ ts) = ((mark ≤ length (t ∷ ts)) × (limit < step_peak s)) ⊎ Peaks limit mark (advance s t) ts

pub seen_here : (limit mark : ℕ) (s : Step) (xs : List Lexeme) → mark ≤ length xs → limit < step_peak s → Peaks limit mark s xs
seen_here limit mark s [] le lt = (le, lt)
seen_here limit mark s (t ∷ ts) le lt = inl (le, lt)

pub seen_within : (limit mark : ℕ) (s : Step) (xs : List Lexeme) → Peaks limit mark s xs → mark ≤ length xs
seen_within limit mark s [] h = h.0
seen_within limit mark s (t ∷ ts) (inl h) = h.0
seen_within limit mark s (t ∷ ts) (inr h) = omega (arith, seen_within limit mark (advance s t) ts h)

falls_peak : {s r : State} → Falls s r → peak r ≤ peak s
falls_peak falls_name = omega arith
falls_peak falls_index = omega arith
falls_peak falls_expr = omega arith
falls_peak falls_minus = omega arith
falls_peak falls_rest = omega arith
falls_peak falls_arguments = omega arith
falls_peak falls_end = omega arith
falls_peak falls_do_end = omega arith
falls_peak falls_option = omega arith
falls_peak falls_value = omega arith
falls_peak falls_return = omega arith
falls_peak falls_target = omega arith
falls_peak falls_label = omega arith
falls_peak falls_arm = omega arith
falls_peak falls_stmts = omega arith
falls_peak falls_case = omega arith
falls_peak falls_clause = omega arith
falls_peak falls_member = omega arith
falls_peak falls_init = omega arith
falls_peak falls_globals = omega arith
falls_peak falls_local = omega arith
falls_peak falls_locals = omega arith
falls_peak falls_marks = omega arith
falls_peak falls_tables = omega arith
falls_peak falls_comma = omega arith

pub falls_seen : (limit mark : ℕ) (s r : State) (xs : List Lexeme) → peak r ≤ peak s → GoAlike s r xs → Peaks limit mark (goes r) xs → Peaks limit mark (goes s) xs
falls_seen limit mark s r [] le same h = let lt = h.1 in (h.0, omega arith)
falls_seen limit mark s r (t ∷ ts) le same (inl h) = let lt = h.1 in inl (h.0, omega arith)
falls_seen limit mark s r (t ∷ ts) le same (inr h) = inr (subst (λ (q : Step). Peaks limit mark q ts) (sym same) h)

pub begun_seen : (limit mark : ℕ) (p : ℕ) (k : ExprTree → State) (t : Lexeme) (ts : List Lexeme) → Peaks limit mark (goes (at_expr p k)) (t ∷ ts) → Peaks limit mark (expr_by t.class t p k) ts
begun_seen limit mark p k t ts (inl h) = let lt = h.1 in absurd (omega arith)
begun_seen limit mark p k t ts (inr h) = h

pub falls_higher : (s r : State) → Falls s r → peak r ≤ peak s
falls_higher s r f = falls_peak f

abbrev pub peaks : ℕ → ℕ → Observer
peaks limit mark = record {
  Sees = Peaks limit mark;
  later = λ s t ts h. inr h;
  begun = λ p k t ts h. begun_seen limit mark p k t ts h;
  falls_on = λ s r xs f same h. falls_seen limit mark s r xs (falls_higher s r f) same h;
}

-- ---- expressions

module _ (limit mark : ℕ) where
  abbrev see : Observer
  see = peaks limit mark

  pub ended_here : (s : State) (ys : List Lexeme) (h : ℕ) → Here limit mark h ys → h ≤ peak s → Peaks limit mark (goes s) ys
  ended_here s ys h here le = let lt = here.0 in seen_here limit mark (goes s) ys here.1 (omega arith)

  over : (p : ℕ) (e : ExprTree) (k : ExprTree → State) (ys : List Lexeme) → Here limit mark (height e) ys → Peaks limit mark (goes (after_expr p e k)) ys
  over p e k ys here = ended_here (after_expr p e k) ys (height e) here (omega arith)

  mutual
    pub expr_seen : {q : ℕ} {e : ExprTree} {xs ys : List Lexeme} (x : IsExpr q e xs ys) → HighExpr limit mark x → (p : ℕ) → p ≤ q → q ≤ 13 → Ends q ys → (k : ExprTree → State) → Peaks limit mark (goes (at_expr p k)) xs
    expr_seen {q = q} {ys = ys} (an_operand x) h p le high end k = operand_seen x h p (operand_stop q ys high end) k
    expr_seen {q = q} {ys = vs} (a_binary {l = l} {r = r} {op = op} {t = t} {ys = ys} {zs = zs} {ws = ws} low x i y) h p le high end k =
        let le1 : p ≤ level_of op = omega (arith, low, le) in
        let le2 : level_of op ≤ 13 = omega (arith, level_low op) in
        let le3 : q ≤ suc (level_of op) = omega (arith, low) in
        elim h [
          | inl here ↦ expr_read see (a_binary low x i y) p le high end k (over p (binary t.at l op r) k ws here)
          | inr (inl hx) ↦ expr_seen x hx p le1 le2 (end_here i (level_of op) (same (level_of op))) k
          | inr (inr hy) ↦ (expr_read see x p le1 le2 (end_here i (level_of op) (same (level_of op))) k ▸ goes_on see p l k i le1)
              (expr_seen y hy (suc (level_of op)) (same (suc (level_of op))) (under_13 op) (Ends-up q (suc (level_of op)) ws le3 end) (λ r. after_expr p (binary t.at l op r) k))
        ]
    expr_seen {q = q} (a_conditional {c = c} {a = a} {b = b} {t = t} {ws = ws} {us = us} low x i y j z) h p le high end k =
        let le1 : p ≤ 1 = omega (arith, low, le) in
        let le2 : p ≤ 2 = omega (arith, low, le) in
        let le3 : 2 ≤ 13 = omega arith in
        let le4 : 1 ≤ 13 = omega arith in
        elim h [
          | inl here ↦ expr_read see (a_conditional low x i y j z) p le high end k (over p (conditional t.at c a b) k us here)
          | inr (inl hx) ↦ expr_seen x hx p le2 le3 (end_here i 2 (same 2)) k
          | inr (inr (inl hy)) ↦ (expr_read see x p le2 le3 (end_here i 2 (same 2)) k ▸ asks see p c k i le1)
              (expr_seen y hy 1 (same 1) le4 (Stops-ends 1 ws (stop_here j 1 refl)) (λ a. closes colon refl (goes (at_expr 1 (λ b. after_expr p (conditional t.at c a b) k)))))
          | inr (inr (inr hz)) ↦ (expr_read see x p le2 le3 (end_here i 2 (same 2)) k
              ▸ asks see p c k i le1
              ▸ expr_read see y 1 (same 1) le4 (Stops-ends 1 ws (stop_here j 1 refl)) (λ a. closes colon refl (goes (at_expr 1 (λ b. after_expr p (conditional t.at c a b) k))))
              ▸ falls see 1 a (λ a. closes colon refl (goes (at_expr 1 (λ b. after_expr p (conditional t.at c a b) k)))) ws (stop_here j 1 refl)
              ▸ closed see j refl (goes (at_expr 1 (λ b. after_expr p (conditional t.at c a b) k))))
              (expr_seen z hz 1 (same 1) le4 (Ends-up q 1 us low end) (λ b. after_expr p (conditional t.at c a b) k))
        ]
    expr_seen {q = q} (an_assignment {e = e} {n = n} {t = t} {ws = ws} low i j x) h p le high end k =
        let le1 : p ≤ 1 = omega (arith, low, le) in
        let le4 : 1 ≤ 13 = omega arith in
        elim h [
          | inl here ↦ expr_read see (an_assignment low i j x) p le high end k (over p (assignment t.at n.text e) k ws here)
          | inr hx ↦ (at_the_name see p k i ▸ assigns see p n k j le1) (expr_seen x hx 1 (same 1) le4 (Ends-up q 1 ws low end) (λ e. after_expr p (assignment t.at n.text e) k))
        ]
    expr_seen {q = q} (a_store {i = d} {e = e} {n = n} {t = t} {vs = vs} low i y j x) h p le high end k =
        let le1 : p ≤ 1 = omega (arith, low, le) in
        let le4 : 1 ≤ 13 = omega arith in
        elim h [
          | inl here ↦ expr_read see (a_store low i y j x) p le high end k (over p (store t.at n.text d e) k vs here)
          | inr (inl hy) ↦ at_the_name see p k i (index_seen y hy p n k)
          | inr (inr hx) ↦ (at_the_name see p k i ▸ index_read see y p n k ▸ stores see p n d k j le1) (expr_seen x hx 1 (same 1) le4 (Ends-up q 1 vs low end) (λ e. after_expr p (store t.at n.text d e) k))
        ]
    expr_seen {q = q} (a_list {e = e} {f = f} {es = es} {t = t} {ws = ws} {vs = vs} low x i y r) h p le high end k =
        let le0 : p ≤ 0 = omega (arith, low, le) in
        let le1 : p ≤ 1 = omega (arith, low, le) in
        let le4 : 1 ≤ 13 = omega arith in
        let q1 : q ≤ 1 = omega (arith, low) in
        let stop : Stops 0 vs = Ends-low q 0 vs end low q1 in
        elim h [
          | inl here ↦ expr_read see (a_list low x i y r) p le high end k (over p (listed t.at (one_expr e (one_expr f es))) k vs here)
          | inr (inl hx) ↦ expr_seen x hx p le1 le4 (end_here i 1 (same 1)) k
          | inr (inr (inl hy)) ↦ (expr_read see x p le1 le4 (end_here i 1 (same 1)) k ▸ lists see p e k i le0)
              (expr_seen y hy 1 (same 1) le4 (Stops-ends 1 ws (rest_Stops r stop)) (λ f. in_rest (one_expr e (one_expr f no_expr)) (λ es. after_expr p (listed t.at es) k)))
          | inr (inr (inr hr)) ↦ (expr_read see x p le1 le4 (end_here i 1 (same 1)) k
              ▸ lists see p e k i le0
              ▸ expr_read see y 1 (same 1) le4 (Stops-ends 1 ws (rest_Stops r stop)) (λ f. in_rest (one_expr e (one_expr f no_expr)) (λ es. after_expr p (listed t.at es) k))
              ▸ falls see 1 f (λ f. in_rest (one_expr e (one_expr f no_expr)) (λ es. after_expr p (listed t.at es) k)) ws (rest_Stops r stop))
              (rest_seen r hr (one_expr e (one_expr f no_expr)) (λ es. after_expr p (listed t.at es) k) stop)
        ]

    operand_seen : {e : ExprTree} {xs ys : List Lexeme} (x : IsOperand e xs ys) → HighOperand limit mark x → (p : ℕ) → Stops 13 ys → (k : ExprTree → State) → Peaks limit mark (goes (at_expr p k)) xs
    operand_seen (a_literal {t = t} {ys = ys} i) h p stop k = operand_read see (a_literal i) p stop k (over p _ k ys h)
    operand_seen (a_negative {zs = zs} i j) h p stop k = operand_read see (a_negative i j) p stop k (over p _ k zs h)
    operand_seen (a_decimal_literal {ys = ys} i) h p stop k = operand_read see (a_decimal_literal i) p stop k (over p _ k ys h)
    operand_seen (a_variable {ys = ys} i) h p stop k = operand_read see (a_variable i) p stop k (over p _ k ys h)
    operand_seen (an_element {n = n} {i = d} {zs = zs} i x) h p stop k = elim h [
      | inl here ↦ operand_read see (an_element i x) p stop k (over p (element n.at n.text d) k zs here)
      | inr hx ↦ at_the_name see p k i (index_seen x hx p n k)
    ]
    operand_seen (a_call {n = n} {es = es} {ws = ws} i j x) h p stop k = elim h [
      | inl here ↦ operand_read see (a_call i j x) p stop k (over p (call n.at n.text es) k ws here)
      | inr hx ↦ (at_the_name see p k i ▸ on_class see (after_name p n k) (λ c u. name_by c u p n k (feed (k (variable n.at n.text)) u)) (λ u. refl) j) (arguments_seen x hx (λ es. after_expr p (call n.at n.text es) k))
    ]
    operand_seen (a_table_call {n = n} {i = d} {es = es} {vs = vs} i x j y) h p stop k = elim h [
      | inl here ↦ operand_read see (a_table_call i x j y) p stop k (over p (table_call n.at n.text d es) k vs here)
      | inr (inl hx) ↦ at_the_name see p k i (index_seen x hx p n k)
      | inr (inr hy) ↦ (at_the_name see p k i ▸ index_read see x p n k ▸ on_class see (after_index p n d k) (λ c u. index_by c u p n d k (feed (k (element n.at n.text d)) u)) (λ u. refl) j)
          (arguments_seen y hy (λ es. after_expr p (table_call n.at n.text d es) k))
    ]
    operand_seen (in_parens {e = e} {zs = zs} i x j) h p stop k =
        let le : 0 ≤ 13 = omega arith in
        on_class see (at_expr p k) (λ c u. expr_by c u p k) (λ u. refl) i (expr_seen x h 0 (same 0) le (Stops-ends 0 zs (stop_here j 0 refl)) (λ e. closes close_paren refl (goes (after_expr p e k))))
    operand_seen (a_prefix {op = op} {t = t} {e = e} {zs = zs} q i x) h p stop k = elim h [
      | inl here ↦ operand_read see (a_prefix q i x) p stop k (over p (unary t.at op e) k zs here)
      | inr hx ↦ prefix_read see q i p k (expr_seen x hx 13 (same 13) (same 13) (Stops-ends 13 zs stop) (λ e. after_expr p (unary t.at op e) k))
    ]
    operand_seen (a_minus {t = t} {e = e} {ys = ys} {zs = zs} i b x) h p stop k = elim h [
      | inl here ↦ operand_read see (a_minus i b x) p stop k (over p (unary t.at Neg e) k zs here)
      | inr hx ↦ (on_class see (at_expr p k) (λ c u. expr_by c u p k) (λ u. refl) i ▸ minus_goes see t (λ e. after_expr p e k) ys b)
          (expr_seen x hx 13 (same 13) (same 13) (Stops-ends 13 zs stop) (λ e. after_expr p (unary t.at Neg e) k))
    ]

    index_seen : {e : ExprTree} {xs ys : List Lexeme} (x : IsIndex e xs ys) → HighIndex limit mark x → (p : ℕ) (n : Lexeme) (k : ExprTree → State) → Peaks limit mark (goes (after_name p n k)) xs
    index_seen (an_index {e = e} {zs = zs} i x j) h p n k =
        let le : 0 ≤ 13 = omega arith in
        on_class see (after_name p n k) (λ c u. name_by c u p n k (feed (k (variable n.at n.text)) u)) (λ u. refl) i
        (expr_seen x h 0 (same 0) le (Stops-ends 0 zs (stop_here j 0 refl)) (λ e. closes close_bracket refl (goes (after_index p n e k))))

    arguments_seen : {es : ExprTrees} {xs ys : List Lexeme} (x : IsArguments es xs ys) → HighArguments limit mark x → (k : ExprTrees → State) → Peaks limit mark (goes (at_arguments k)) xs
    arguments_seen (no_argument i) h k = absurd h
    arguments_seen (arguments {e = e} {es = es} {xs = xs} {ys = ys} {zs = zs} {ws = ws} x r j) h k =
        let le : 1 ≤ 13 = omega arith in
        let stop : Stops 0 zs = stop_here j 0 refl in
        elim h [
          | inl hx ↦ first_argument see k xs (expr_first x) (expr_seen x hx 1 (same 1) le (Stops-ends 1 ys (rest_Stops r stop)) (λ e. in_rest (one_expr e no_expr) (λ es. closes close_paren refl (goes (k es)))))
          | inr hr ↦ (first_argument see k xs (expr_first x)
              ▸ expr_read see x 1 (same 1) le (Stops-ends 1 ys (rest_Stops r stop)) (λ e. in_rest (one_expr e no_expr) (λ es. closes close_paren refl (goes (k es))))
              ▸ falls see 1 e (λ e. in_rest (one_expr e no_expr) (λ es. closes close_paren refl (goes (k es)))) ys (rest_Stops r stop))
              (rest_seen r hr (one_expr e no_expr) (λ es. closes close_paren refl (goes (k es))) stop)
        ]

    rest_seen : {es : ExprTrees} {xs ys : List Lexeme} (x : IsRest es xs ys) → HighRest limit mark x → (fs : ExprTrees) (k : ExprTrees → State) → Stops 0 ys → Peaks limit mark (goes (in_rest fs k)) xs
    rest_seen no_further h fs k stop = absurd h
    rest_seen (a_further {e = e} {es = es} {zs = zs} i x r) h fs k stop =
        let le : 1 ≤ 13 = omega arith in
        elim h [
          | inl hx ↦ on_class see (in_rest fs k) (λ c u. rest_by c fs k (feed (k fs) u)) (λ u. refl) i (expr_seen x hx 1 (same 1) le (Stops-ends 1 zs (rest_Stops r stop)) (λ e. in_rest (more_exprs fs e) k))
          | inr hr ↦ (on_class see (in_rest fs k) (λ c u. rest_by c fs k (feed (k fs) u)) (λ u. refl) i
              ▸ expr_read see x 1 (same 1) le (Stops-ends 1 zs (rest_Stops r stop)) (λ e. in_rest (more_exprs fs e) k)
              ▸ falls see 1 e (λ e. in_rest (more_exprs fs e) k) zs (rest_Stops r stop))
              (rest_seen r hr (more_exprs fs e) k stop)
        ]
