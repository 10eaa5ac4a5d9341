-- The short form of an accepted module is within the limits on counts.
use Rattle.std.proofs.Common.{◌≡◌, ℕ, suc, ◌+◌, ◌≤◌, ◌<◌, Bool, true, false, ◌&&◌, ◌||◌, List, [], ◌∷◌, ◌++◌, length, Option, Some, None, refl, sym, ap, ap₂, ◌∙◌, subst, arith, length-append, eqb-true}
use Rattle.std.proofs.lemmas.Bool.{and_parts}
use Rattle.std.proofs.lemmas.Bool.Decides.{nat_tests}
use Rattle.std.proofs.lemmas.Slice.Eq.{bytes_eq-Decides}
use Rattle.std.specs.Prelude.{nat_lt, nat_le, ◌==◌, if◌then◌else◌, map, Contains}
use Rattle.std.specs.List.{AllByRecursion}
use Rattle.asm_lang.specs.Trees.{Init, number, decimal, foreign_int, foreign_double, member, math, view}
use Rattle.asm_lang.specs.Modules.{Expr, Exprs, exprs, Links, Stmt, Stmts, Clauses, Variable, Function, Table, Module}
use Rattle.asm_lang_valid.specs.declared.rule.Rule.{Rule}
use Rattle.asm_lang_valid.specs.declared.rule.Rule.TheVariants.{PastLimit}
use Rattle.asm_lang_valid.specs.Scope.{Meaning, a_foreign, signature_of}
use Rattle.asm_lang_valid.specs.Rows.{need, expr_count, body_at, function_count, functions_at, tables_at}
use Rattle.asm_lang_valid.specs.Typing.{Scope, exprs_length, same, is_call, or_zero}
use Rattle.asm_lang_valid.specs.Typed.{scope_of}
use Rattle.asm_lang_valid.specs.LimitRows.{ForeignCall, Mark, a_row, a_use, rows_of, callee_marks, expr_marks, exprs_marks, links_marks, comma_marks, call_marks, effect_marks, part_marks, option_marks, clauses_length, stmt_marks, stmts_marks, clauses_marks, is_same, is_among, rows_after, counted, member_length, globals_marks, names_marks, function_marks, functions_marks, tables_marks, marks, limit_rows, foreign_calls, most_functions, most_params, most_locals, most_globals, most_members, most_entries, most_clauses, longest_name, most_foreign_calls}
use Rattle.asm2wasm_laws_within.specs.Uses.{AllListed}
use Rattle.asm2wasm_laws_within.proofs.Marks.{NoRows, rows_none, few_calls, all_listed}
use Rattle.asm_short_lang.specs.Reached.{IsReached, IsEntered, Keeps, none, kept, left_out}
use Rattle.asm_short_lang.specs.Renaming.{declared_name, init_with, renamed_param, renamed_local, renamed_function, renamed_global, renamed_table, renamed}
use Rattle.asm_laws_alike.specs.Places.{Open}
use Rattle.asm_laws_alike.specs.Code.{Pair, ArePaired, SameMeaning, same_nothing, same_int, same_outside, same_foreign, same_builtin, same_view, same_function, same_table, same_parameter, SameExpr, same_lit, same_decimal, same_var, same_index, same_call as same_call_expr, same_table_call, same_assign, same_store, same_unary, same_binary, same_chain, same_cond, same_comma, SameExprs, same_no_exprs, same_exprs, SameLinks, same_no_links, same_links, SamePart, no_part, a_part, SameStmt, same_block, same_plain, same_empty, same_if_only, same_if_else, same_returns, same_while, same_do, same_for, same_breaks, same_continues, same_labelled, same_switches, SameStmts, same_no_stmts, same_stmts, SameClauses, same_no_clauses, same_clauses}
use Rattle.asm_laws_short.proofs.Lists.{all_both, all_append}
use Rattle.asm_laws_short.proofs.Rows.{OfParams, Says}
use Rattle.asm_laws_short.proofs.Kept.{contains_here, contains_later}
use Rattle.asm_laws_short.proofs.Outside.{rest_of, pairs, function_goes}
use Rattle.asm_laws_short.proofs.Types.{many_same, zero_same, call_same}
use Rattle.asm_laws_short.proofs.Acceptable.{both_true, from_same, paired_signature}

-- ---- calls that are all among few

same_self : (b : Bool) → same b b ≡ true
same_self true = refl
same_self false = refl

equal_self : (n : ℕ) → (n == n) ≡ true
equal_self n = grind (arith, nat_tests)

is_same_call : (c : ForeignCall) → is_same c c ≡ true
is_same_call c = let e = (bytes_eq-Decides c.name c.name).1 refl in let f = equal_self c.params in let g = same_self c.result in rw (e, f, g) refl

same_flags : (a b : Bool) → same a b ≡ true → a ≡ b
same_flags true b h = sym h
same_flags false true h = absurd (cc h)
same_flags false false h = refl

same_call : (c d : ForeignCall) → is_same c d ≡ true → c ≡ d
same_call c d h =
    let p = and_parts _ _ h in
    let q = and_parts _ _ p.1 in
    let n = (bytes_eq-Decides c.name d.name).0 p.0 in
    let k : c.params ≡ d.params = eqb-true c.params d.params q.0 in
    let r = same_flags c.result d.result q.1 in
    λ i. record { name = n i; params = k i; result = r i }

-- a call that is among these
abbrev pub IsUse : List ForeignCall → Mark → Type 0
IsUse uses (a_row x) = ⊥
IsUse uses (a_use f at) = is_among f uses ≡ true

or_false : (a : Bool) → (a || false) ≡ a
or_false true = refl
or_false false = refl

or_true : (a : Bool) → (a || true) ≡ true
or_true true = refl
or_true false = refl

or_assoc : (a b c : Bool) → (a || (b || c)) ≡ ((a || b) || c)
or_assoc true b c = refl
or_assoc false b c = refl

more_among : (c x : ForeignCall) (cs : List ForeignCall) → is_among c (cs ++ x ∷ []) ≡ (is_among c cs || is_same c x)
more_among c x [] = or_false (is_same c x)
more_among c x (d ∷ cs) = ap (λ b. is_same c d || b) (more_among c x cs) ∙ or_assoc (is_same c d) (is_among c cs) (is_same c x)

abbrev one_unless : Bool → ℕ → ℕ
one_unless true n = n
one_unless false n = suc n

-- how many weren't seen
abbrev fresh : (seen : List ForeignCall) → List ForeignCall → ℕ
fresh seen [] = 0
fresh seen (c ∷ cs) = one_unless (is_among c seen) (fresh seen cs)

fresh_all : (seen cs : List ForeignCall) → fresh seen cs ≤ length cs
fresh_all seen [] = omega arith
fresh_all seen (c ∷ cs) = by (is_among c seen) (fresh_all seen cs)
  where
    by : (b : Bool) {m n : ℕ} → m ≤ n → one_unless b m ≤ suc n
    by true h = omega (arith, h)
    by false h = omega (arith, h)

fewer : (b c : Bool) {m n : ℕ} → m ≤ n → one_unless (b || c) m ≤ one_unless b n
fewer true c h = h
fewer false true h = omega (arith, h)
fewer false false h = omega (arith, h)

fewer_by_one : (b c : Bool) {m n : ℕ} → suc m ≤ n → suc (one_unless (b || c) m) ≤ one_unless b n
fewer_by_one true c h = h
fewer_by_one false true h = omega (arith, h)
fewer_by_one false false h = omega (arith, h)

fresh_less : (seen : List ForeignCall) (x : ForeignCall) (cs : List ForeignCall) → fresh (seen ++ x ∷ []) cs ≤ fresh seen cs
fresh_less seen x [] = omega arith
fresh_less seen x (c ∷ cs) =
    subst (λ b. one_unless b (fresh (seen ++ x ∷ []) cs) ≤ one_unless (is_among c seen) (fresh seen cs)) (sym (more_among c x seen)) (fewer (is_among c seen) (is_same c x) (fresh_less seen x cs))

abbrev LessBy : (seen : List ForeignCall) (x c : ForeignCall) (cs : List ForeignCall) → Bool → Type 0
LessBy seen x c cs b = suc (one_unless b (fresh (seen ++ x ∷ []) cs)) ≤ one_unless (is_among c seen) (fresh seen cs)

fresh_one : (seen : List ForeignCall) (x : ForeignCall) (cs : List ForeignCall) → is_among x cs ≡ true → is_among x seen ≡ false → suc (fresh (seen ++ x ∷ []) cs) ≤ fresh seen cs
fresh_one seen x [] h new = absurd (cc h)
fresh_one seen x (c ∷ cs) h new = by (is_same x c) refl h (λ e. fresh_one seen x cs e new)
  where
    at_first : (b : Bool) {m n : ℕ} → b ≡ false → m ≤ n → suc (one_unless true m) ≤ one_unless b n
    at_first true e h = absurd (cc e)
    at_first false e h = omega (arith, h)

    here : x ≡ c → LessBy seen x c cs (is_among c (seen ++ x ∷ []))
    here same =
        let there : is_among c (seen ++ x ∷ []) ≡ true = more_among c x seen ∙ ap (λ b. is_among c seen || b) (ap (λ c. is_same c x) (sym same) ∙ is_same_call x) ∙ or_true (is_among c seen) in
        subst (LessBy seen x c cs) (sym there) (at_first (is_among c seen) (ap (λ c. is_among c seen) (sym same) ∙ new) (fresh_less seen x cs))

    by : (s : Bool) → is_same x c ≡ s → (s || is_among x cs) ≡ true → (is_among x cs ≡ true → suc (fresh (seen ++ x ∷ []) cs) ≤ fresh seen cs) → LessBy seen x c cs (is_among c (seen ++ x ∷ []))
    by true e h further = here (same_call x c e)
    by false e h further = subst (LessBy seen x c cs) (sym (more_among c x seen)) (fewer_by_one (is_among c seen) (is_same c x) (further h))

module _ (uses : List ForeignCall) (few : length uses ≤ 25000) where
  no_rows : (seen : List ForeignCall) (ms : List Mark) → length seen + fresh seen uses ≤ length uses → AllByRecursion (IsUse uses) ms → rows_after seen ms ≡ []
  no_rows seen [] le h = refl
  no_rows seen (a_row x ∷ ms) le h = absurd h.0
  no_rows seen (a_use f at ∷ ms) le h = by (is_among f seen) refl (no_rows seen ms le h.1) (λ le. no_rows (seen ++ f ∷ []) ms le h.1)
    where
      room : (s g n : ℕ) → s + g ≤ n → n ≤ 25000 → 1 ≤ g → nat_lt s 25000 ≡ true
      room s g n p q r = let less : s < 25000 = omega (arith, p, q, r) in grind (arith, nat_tests, less)

      counted : (s t g i n : ℕ) → t ≡ s + 1 → suc i ≤ g → s + g ≤ n → t + i ≤ n
      counted s t g i n p q r = omega (arith, p, q, r)

      some : (i g : ℕ) → suc i ≤ g → 1 ≤ g
      some i g h = omega (arith, h)

      by : (b : Bool) → is_among f seen ≡ b → rows_after seen ms ≡ [] → (length (seen ++ f ∷ []) + fresh (seen ++ f ∷ []) uses ≤ length uses → rows_after (seen ++ f ∷ []) ms ≡ [])
          → (if b then rows_after seen ms else need (nat_lt (length seen) most_foreign_calls) PastLimit at ++ rows_after (seen ++ f ∷ []) ms) ≡ []
      by true e same more = same
      by false e same more =
          let one = fresh_one seen f uses h.0 e in
          let rest = more (counted (length seen) (length (seen ++ f ∷ [])) (fresh seen uses) (fresh (seen ++ f ∷ []) uses) (length uses) (length-append seen (f ∷ [])) one le) in
          let t = room (length seen) (fresh seen uses) (length uses) le few (some (fresh (seen ++ f ∷ []) uses) (fresh seen uses) one) in
          ap (λ b. need b PastLimit at ++ rows_after (seen ++ f ∷ []) ms) t ∙ rest

  pub none_after : (ms : List Mark) → AllByRecursion (IsUse uses) ms → rows_after [] ms ≡ []
  none_after ms h = no_rows [] ms (let f = fresh_all [] uses in omega (arith, f)) h

-- ---- code of the same form

abbrev Quiet : List ForeignCall → List Mark → Type 0
Quiet uses ms = AllByRecursion (IsUse uses) ms

module _ (uses : List ForeignCall) where
  -- where a row of a rule isn't met, it isn't at another node
  elsewhere : (b : Bool) (r : Rule) (at at' : ℕ) → Quiet uses (rows_of (need b r at)) → Quiet uses (rows_of (need b r at'))
  elsewhere true r at at' h = tt
  elsewhere false r at at' h = absurd h.0

  held : (b : Bool) (r : Rule) (at : ℕ) → Quiet uses (rows_of (need b r at)) → b ≡ true
  held true r at h = refl
  held false r at h = absurd h.0

  holds : (b : Bool) (r : Rule) (at : ℕ) → b ≡ true → Quiet uses (rows_of (need b r at))
  holds true r at h = tt
  holds false r at h = absurd (cc h)

  split : (ms ns : List Mark) → Quiet uses (ms ++ ns) → Quiet uses ms × Quiet uses ns
  split ms ns h = all_both (IsUse uses) ms ns h

  join : (ms ns : List Mark) → Quiet uses ms → Quiet uses ns → Quiet uses (ms ++ ns)
  join ms ns h k = all_append (IsUse uses) ms ns h k

  module _ (pairs : List Pair) (c c' : Scope) (sig : (f f' : Function) → ArePaired pairs f f' → signature_of f' ≡ signature_of f) where
    callee_quiet : (result : Bool) (n n' at at' : ℕ) {x x' : Meaning} → n' ≡ n → SameMeaning pairs c.home c'.home x x' → Quiet uses (callee_marks x result n at) → Quiet uses (callee_marks x' result n' at')
    callee_quiet result n n' at at' e same_nothing h = tt
    callee_quiet result n n' at at' e same_int h = tt
    callee_quiet result n n' at at' e same_outside h = tt
    callee_quiet result n n' at at' e (same_foreign p) h =
        let q = split (rows_of (need (nat_le n most_params) PastLimit at)) (a_use (record { name = p; params = n; result = result }) at ∷ []) h in
        subst (λ k. Quiet uses (callee_marks (a_foreign p) result k at')) (sym e) (join (rows_of (need (nat_le n most_params) PastLimit at')) (a_use (record { name = p; params = n; result = result }) at' ∷ []) (elsewhere (nat_le n most_params) PastLimit at at' q.0) (q.1.0, tt))
    callee_quiet result n n' at at' e (same_builtin b) h = tt
    callee_quiet result n n' at at' e (same_view v) h = tt
    callee_quiet result n n' at at' e (same_function k) h = tt
    callee_quiet result n n' at at' e (same_table k) h = tt
    callee_quiet result n n' at at' e same_parameter h = tt

    -- of two parts, the one that a test asks for
    either : (b b' : Bool) (xs ys xs' ys' : List Mark) → b' ≡ b → (Quiet uses xs → Quiet uses xs') → (Quiet uses ys → Quiet uses ys') → Quiet uses (if b then xs else ys) → Quiet uses (if b' then xs' else ys')
    either true true xs ys xs' ys' e f g h = f h
    either true false xs ys xs' ys' e f g h = absurd (cc e)
    either false true xs ys xs' ys' e f g h = absurd (cc e)
    either false false xs ys xs' ys' e f g h = g h

    both_parts : (xs ys xs' ys' : List Mark) → (Quiet uses xs → Quiet uses xs') → (Quiet uses ys → Quiet uses ys') → Quiet uses (xs ++ ys) → Quiet uses (xs' ++ ys')
    both_parts xs ys xs' ys' f g h = let p = split xs ys h in join xs' ys' (f p.0) (g p.1)

    mutual
      expr_quiet : {e e' : Expr} (at at' : ℕ) → SameExpr pairs c c' e e' → Quiet uses (expr_marks c at e) → Quiet uses (expr_marks c' at' e')
      expr_quiet at at' (same_lit z) h = tt
      expr_quiet at at' (same_decimal bs) h = tt
      expr_quiet at at' (same_var k) h = tt
      expr_quiet at at' (same_index k i) h = expr_quiet (at + 1) (at' + 1) i h
      expr_quiet at at' (same_call_expr k es) h = exprs_quiet (at + 1) (at' + 1) es h
      expr_quiet at at' (same_table_call k i es) h = both_parts _ _ _ _ (expr_quiet (at + 1) (at' + 1) i) (exprs_quiet _ _ es) h
      expr_quiet at at' (same_assign k e) h = expr_quiet (at + 1) (at' + 1) e h
      expr_quiet at at' (same_store k i e) h = both_parts _ _ _ _ (expr_quiet (at + 1) (at' + 1) i) (expr_quiet _ _ e) h
      expr_quiet at at' (same_unary op e) h = expr_quiet (at + 1) (at' + 1) e h
      expr_quiet at at' (same_binary op {l = l} {l' = l'} {r = r} {r' = r'} x y) h =
          either (is_call c l && or_zero op r) (is_call c' l' && or_zero op r') (call_marks c true (at + 1) l) (expr_marks c (at + 1) l ++ expr_marks c (at + 1 + expr_count l) r) (call_marks c' true (at' + 1) l') (expr_marks c' (at' + 1) l' ++ expr_marks c' (at' + 1 + expr_count l') r')
          (ap₂ (λ u v. u && v) (call_same pairs c c' sig x) (zero_same pairs c c' op y)) (call_quiet true (at + 1) (at' + 1) x)
          (both_parts (expr_marks c (at + 1) l) (expr_marks c (at + 1 + expr_count l) r) (expr_marks c' (at' + 1) l') (expr_marks c' (at' + 1 + expr_count l') r') (expr_quiet (at + 1) (at' + 1) x) (expr_quiet (at + 1 + expr_count l) (at' + 1 + expr_count l') y)) h
      expr_quiet at at' (same_chain e ls) h = both_parts _ _ _ _ (expr_quiet (at + 1) (at' + 1) e) (links_quiet _ _ ls) h
      expr_quiet at at' (same_cond e a b) h = both_parts _ _ _ _ (expr_quiet (at + 1) (at' + 1) e) (λ k. both_parts _ _ _ _ (expr_quiet _ _ a) (expr_quiet _ _ b) k) h
      expr_quiet at at' (same_comma es) h = comma_quiet (at + 1) (at' + 1) es h

      exprs_quiet : {es es' : Exprs} (at at' : ℕ) → SameExprs pairs c c' es es' → Quiet uses (exprs_marks c at es) → Quiet uses (exprs_marks c' at' es')
      exprs_quiet at at' same_no_exprs h = tt
      exprs_quiet at at' (same_exprs e es) h = both_parts _ _ _ _ (expr_quiet at at' e) (exprs_quiet _ _ es) h

      links_quiet : {ls ls' : Links} (at at' : ℕ) → SameLinks pairs c c' ls ls' → Quiet uses (links_marks c at ls) → Quiet uses (links_marks c' at' ls')
      links_quiet at at' same_no_links h = tt
      links_quiet at at' (same_links minus e ls) h = both_parts _ _ _ _ (expr_quiet at at' e) (links_quiet _ _ ls) h

      comma_quiet : {es es' : Exprs} (at at' : ℕ) → SameExprs pairs c c' es es' → Quiet uses (comma_marks c at es) → Quiet uses (comma_marks c' at' es')
      comma_quiet at at' same_no_exprs h = tt
      comma_quiet at at' (same_exprs e same_no_exprs) h = expr_quiet at at' e h
      comma_quiet at at' (same_exprs {e = e} {e' = e'} w (same_exprs {e = x} {e' = x'} {es = es} {es' = es'} y z)) h =
          both_parts (if is_call c e then call_marks c false at e else expr_marks c at e) (comma_marks c (at + expr_count e) (exprs x es)) (if is_call c' e' then call_marks c' false at' e' else expr_marks c' at' e') (comma_marks c' (at' + expr_count e') (exprs x' es'))
          (either (is_call c e) (is_call c' e') (call_marks c false at e) (expr_marks c at e) (call_marks c' false at' e') (expr_marks c' at' e') (call_same pairs c c' sig w) (call_quiet false at at' w) (expr_quiet at at' w))
          (comma_quiet (at + expr_count e) (at' + expr_count e') (same_exprs y z)) h

      call_quiet : (result : Bool) {e e' : Expr} (at at' : ℕ) → SameExpr pairs c c' e e' → Quiet uses (call_marks c result at e) → Quiet uses (call_marks c' result at' e')
      call_quiet result at at' (same_lit z) h = tt
      call_quiet result at at' (same_decimal bs) h = tt
      call_quiet result at at' (same_var k) h = tt
      call_quiet result at at' (same_index k i) h = tt
      call_quiet result at at' (same_call_expr {es = es} {es' = es'} k w) h = both_parts _ _ _ _ (exprs_quiet (at + 1) (at' + 1) w) (callee_quiet result (exprs_length es) (exprs_length es') at at' (many_same pairs c c' w) k.meaning) h
      call_quiet result at at' (same_table_call k i es) h = both_parts _ _ _ _ (expr_quiet (at + 1) (at' + 1) i) (exprs_quiet _ _ es) h
      call_quiet result at at' (same_assign k e) h = tt
      call_quiet result at at' (same_store k i e) h = tt
      call_quiet result at at' (same_unary op e) h = tt
      call_quiet result at at' (same_binary op l r) h = tt
      call_quiet result at at' (same_chain e ls) h = tt
      call_quiet result at at' (same_cond e a b) h = tt
      call_quiet result at at' (same_comma es) h = tt

    effect_quiet : {e e' : Expr} (at at' : ℕ) → SameExpr pairs c c' e e' → Quiet uses (effect_marks c at e) → Quiet uses (effect_marks c' at' e')
    effect_quiet {e = e} {e' = e'} at at' w h = either (is_call c e) (is_call c' e') (call_marks c false at e) (expr_marks c at e) (call_marks c' false at' e') (expr_marks c' at' e') (call_same pairs c c' sig w) (call_quiet false at at' w) (expr_quiet at at' w) h

    part_quiet : {o o' : Option Expr} (at at' : ℕ) → SamePart pairs c c' o o' → Quiet uses (part_marks c at o) → Quiet uses (part_marks c' at' o')
    part_quiet at at' no_part h = tt
    part_quiet at at' (a_part e) h = effect_quiet at at' e h

    option_quiet : {o o' : Option Expr} (at at' : ℕ) → SamePart pairs c c' o o' → Quiet uses (option_marks c at o) → Quiet uses (option_marks c' at' o')
    option_quiet at at' no_part h = tt
    option_quiet at at' (a_part e) h = expr_quiet at at' e h

    clauses_many : {a a' : Open} {cs cs' : Clauses} → SameClauses pairs c c' a a' cs cs' → clauses_length cs' ≡ clauses_length cs
    clauses_many same_no_clauses = refl
    clauses_many (same_clauses None ss cs) = clauses_many cs
    clauses_many (same_clauses (Some v) ss cs) = ap suc (clauses_many cs)

    mutual
      stmt_quiet : {a a' : Open} {s s' : Stmt} (at at' : ℕ) → SameStmt pairs c c' a a' s s' → Quiet uses (stmt_marks c at s) → Quiet uses (stmt_marks c' at' s')
      stmt_quiet at at' (same_block ss) h = stmts_quiet (at + 1) (at' + 1) ss h
      stmt_quiet at at' (same_plain e) h = effect_quiet (at + 1) (at' + 1) e h
      stmt_quiet at at' same_empty h = tt
      stmt_quiet at at' (same_if_only e s) h = both_parts _ _ _ _ (expr_quiet (at + 1) (at' + 1) e) (stmt_quiet _ _ s) h
      stmt_quiet at at' (same_if_else e s r) h = both_parts _ _ _ _ (expr_quiet (at + 1) (at' + 1) e) (λ k. both_parts _ _ _ _ (stmt_quiet _ _ s) (stmt_quiet _ _ r) k) h
      stmt_quiet at at' (same_returns o) h = option_quiet (at + 1) (at' + 1) o h
      stmt_quiet at at' (same_while e s) h = both_parts _ _ _ _ (expr_quiet (at + 1) (at' + 1) e) (stmt_quiet _ _ s) h
      stmt_quiet at at' (same_do s e) h = both_parts _ _ _ _ (stmt_quiet (at + 1) (at' + 1) s) (expr_quiet _ _ e) h
      stmt_quiet at at' (same_for x y z s) h = both_parts _ _ _ _ (part_quiet (at + 1) (at' + 1) x) (λ k. both_parts _ _ _ _ (option_quiet _ _ y) (λ l. both_parts _ _ _ _ (part_quiet _ _ z) (stmt_quiet _ _ s) l) k) h
      stmt_quiet at at' (same_breaks l) h = tt
      stmt_quiet at at' (same_continues l) h = tt
      stmt_quiet at at' (same_labelled l s) h = stmt_quiet (at + 1) (at' + 1) s h
      stmt_quiet at at' (same_switches {cs = cs} {cs' = cs'} e w) h =
          both_parts _ _ _ _ (expr_quiet (at + 1) (at' + 1) e)
          (λ k. both_parts (rows_of (need (nat_le (clauses_length cs) most_clauses) PastLimit at)) _ (rows_of (need (nat_le (clauses_length cs') most_clauses) PastLimit at')) _ (λ l. subst (λ n. Quiet uses (rows_of (need (nat_le n most_clauses) PastLimit at'))) (sym (clauses_many w)) (elsewhere (nat_le (clauses_length cs) most_clauses) PastLimit at at' l)) (clauses_quiet _ _ w) k) h

      stmts_quiet : {a a' : Open} {ss ss' : Stmts} (at at' : ℕ) → SameStmts pairs c c' a a' ss ss' → Quiet uses (stmts_marks c at ss) → Quiet uses (stmts_marks c' at' ss')
      stmts_quiet at at' same_no_stmts h = tt
      stmts_quiet at at' (same_stmts s ss) h = both_parts _ _ _ _ (stmt_quiet at at' s) (stmts_quiet _ _ ss) h

      clauses_quiet : {a a' : Open} {cs cs' : Clauses} (at at' : ℕ) → SameClauses pairs c c' a a' cs cs' → Quiet uses (clauses_marks c at cs) → Quiet uses (clauses_marks c' at' cs')
      clauses_quiet at at' same_no_clauses h = tt
      clauses_quiet at at' (same_clauses v ss cs) h = both_parts _ _ _ _ (stmts_quiet at at' ss) (clauses_quiet _ _ cs) h

-- ---- declarations

less_before : (j k limit : ℕ) → j ≤ k → nat_lt k limit ≡ true → nat_lt j limit ≡ true
less_before j k limit l h = grind (arith, nat_tests)

most_before : (j k n limit : ℕ) → j ≤ k → nat_le (k + n) limit ≡ true → nat_le (j + n) limit ≡ true
most_before j k n limit l h = grind (arith, nat_tests)

length_mapped : {A B : Type 0} (f : A → B) (xs : List A) → length (map f xs) ≡ length xs
length_mapped f [] = refl
length_mapped f (x ∷ xs) = ap suc (length_mapped f xs)

module _ (uses : List ForeignCall) where
  names_quiet : {A B : Type 0} (f : A → B) (before limit at at' : ℕ) (xs : List A) → Quiet uses (names_marks before limit at xs) → Quiet uses (names_marks before limit at' (map f xs))
  names_quiet f before limit at at' [] h = tt
  names_quiet f before limit at at' (x ∷ xs) h =
      let p = split uses (counted before limit at) (names_marks (before + 1) limit (at + 1) xs) h in
      join uses (counted before limit at') (names_marks (before + 1) limit (at' + 1) (map f xs)) (elsewhere uses (nat_lt before limit) PastLimit at at' p.0) (names_quiet f (before + 1) limit (at + 1) (at' + 1) xs p.1)

  counted_quiet : (before before' limit at at' : ℕ) → before' ≤ before → Quiet uses (counted before limit at) → Quiet uses (counted before' limit at')
  counted_quiet before before' limit at at' l h = holds uses (nat_lt before' limit) PastLimit at' (less_before before' before limit l (held uses (nat_lt before limit) PastLimit at h))

module _ (m : Module) (fs : List Function) (ts : List Table) (says : Says m) (reached : Keeps (IsReached m) m.functions fs) (entered : Keeps (IsEntered m) m.tables ts) where
  abbrev left : Module
  left = rest_of m fs ts

  abbrev short : Module
  short = renamed (rest_of m fs ts)

  abbrev uses : List ForeignCall
  uses = foreign_calls m

  length_same : (i : Init) → OfParams m i → member_length short (init_with (declared_name left) i) ≡ member_length m i
  length_same (number z) h = refl
  length_same (decimal bs) h = refl
  length_same (foreign_int f p) h = refl
  length_same (foreign_double f p) h = refl
  length_same (member f p) h = ap (λ b. if b then length p else 0) (from_same m fs ts says reached entered f h)
  length_same (math f p) h = refl
  length_same (view f p b) h = refl

  globals_quiet : (before at : ℕ) (vs : List Variable) → AllByRecursion (λ (v : Variable). OfParams m v.init) vs → Quiet uses (globals_marks m before at vs) → Quiet uses (globals_marks short before at (map (renamed_global left) vs))
  globals_quiet before at [] k h = tt
  globals_quiet before at (v ∷ vs) k h =
      let w = renamed_global left v in
      let test = rows_of (need (nat_le (member_length m v.init) longest_name) PastLimit at) in
      let test' = rows_of (need (nat_le (member_length short w.init) longest_name) PastLimit at) in
      let p = split uses (counted before most_globals at) (test ++ globals_marks m (before + 1) (at + 1) vs) h in
      let q = split uses test (globals_marks m (before + 1) (at + 1) vs) p.1 in
      join uses (counted before most_globals at) (test' ++ globals_marks short (before + 1) (at + 1) (map (renamed_global left) vs)) p.0
      (join uses test' (globals_marks short (before + 1) (at + 1) (map (renamed_global left) vs)) (subst (λ n. Quiet uses (rows_of (need (nat_le n longest_name) PastLimit at))) (sym (length_same v.init k.0)) q.0) (globals_quiet (before + 1) (at + 1) vs k.1 q.1))

  function_quiet : (f : Function) → Contains fs f → (before before' at at' : ℕ) → before' ≤ before → Quiet uses (function_marks m before at f) → Quiet uses (function_marks short before' at' (renamed_function left f))
  function_quiet f c before before' at at' l h =
      let g = renamed_function left f in
      let code = stmts_marks (scope_of m f) (body_at f at) f.body in
      let code' = stmts_marks (scope_of short g) (body_at g at') g.body in
      let locals = names_marks (length f.params) most_locals (at + 1 + length f.params) f.locals in
      let locals' = names_marks (length g.params) most_locals (at' + 1 + length g.params) g.locals in
      let p = split uses (counted before most_functions at) (names_marks 0 most_params (at + 1) f.params ++ (locals ++ code)) h in
      let q = split uses (names_marks 0 most_params (at + 1) f.params) (locals ++ code) p.1 in
      let x = split uses locals code q.1 in
      join uses (counted before' most_functions at') (names_marks 0 most_params (at' + 1) g.params ++ (locals' ++ code')) (counted_quiet uses before before' most_functions at at' l p.0)
      (join uses (names_marks 0 most_params (at' + 1) g.params) (locals' ++ code') (names_quiet uses (renamed_param left f) 0 most_params (at + 1) (at' + 1) f.params q.0)
      (join uses locals' code' (subst (λ n. Quiet uses (names_marks n most_locals (at' + 1 + length g.params) g.locals)) (sym (length_mapped (renamed_param left f) f.params)) (names_quiet uses (renamed_local left f) (length f.params) most_locals (at + 1 + length f.params) (at' + 1 + length g.params) f.locals x.0))
      (stmts_quiet uses (pairs m fs ts says reached entered) (scope_of m f) (scope_of short g) (paired_signature m fs ts says reached entered) (body_at f at) (body_at g at') (function_goes m fs ts says reached entered f c).body x.1)))

  functions_quiet : {P : Function → Type 0} {xs ys : List Function} (before before' at at' : ℕ) → Keeps P xs ys → ((f : Function) → Contains ys f → Contains fs f) → before' ≤ before → Quiet uses (functions_marks m before at xs) → Quiet uses (functions_marks short before' at' (map (renamed_function left) ys))
  functions_quiet before before' at at' none all l h = tt
  functions_quiet before before' at at' (kept {x = f} {xs = xs} {ys = ys} q k) all l h =
      let p = split uses (function_marks m before at f) (functions_marks m (before + 1) (at + function_count f) xs) h in
      join uses (function_marks short before' at' (renamed_function left f)) (functions_marks short (before' + 1) (at' + function_count (renamed_function left f)) (map (renamed_function left) ys)) (function_quiet f (all f (contains_here f f ys refl)) before before' at at' l p.0)
      (functions_quiet (before + 1) (before' + 1) (at + function_count f) (at' + function_count (renamed_function left f)) k (λ g c. all g (contains_later g f ys c)) (omega (arith, l)) p.1)
  functions_quiet before before' at at' (left_out {x = f} {xs = xs} q k) all l h =
      let p = split uses (function_marks m before at f) (functions_marks m (before + 1) (at + function_count f) xs) h in
      functions_quiet (before + 1) before' (at + function_count f) at' k all (omega (arith, l)) p.1

  tables_quiet : {P : Table → Type 0} {xs ys : List Table} (before before' at at' : ℕ) → Keeps P xs ys → before' ≤ before → Quiet uses (tables_marks before at xs) → Quiet uses (tables_marks before' at' (map (renamed_table left) ys))
  tables_quiet before before' at at' none l h = tt
  tables_quiet before before' at at' (kept {x = t} {xs = xs} {ys = ys} q k) l h =
      let n = length t.members in
      let e : length (map (declared_name left) t.members) ≡ n = length_mapped (declared_name left) t.members in
      let p = split uses (rows_of (need (nat_le n most_members && nat_le (before + n) most_entries) PastLimit at)) (tables_marks (before + n) (at + 1) xs) h in
      let w = and_parts (nat_le n most_members) (nat_le (before + n) most_entries) (held uses (nat_le n most_members && nat_le (before + n) most_entries) PastLimit at p.0) in
      subst (λ j. Quiet uses (rows_of (need (nat_le j most_members && nat_le (before' + j) most_entries) PastLimit at') ++ tables_marks (before' + j) (at' + 1) (map (renamed_table left) ys))) (sym e)
      (join uses (rows_of (need (nat_le n most_members && nat_le (before' + n) most_entries) PastLimit at')) (tables_marks (before' + n) (at' + 1) (map (renamed_table left) ys))
      (holds uses (nat_le n most_members && nat_le (before' + n) most_entries) PastLimit at' (both_true (nat_le n most_members) (nat_le (before' + n) most_entries) w.0 (most_before before' before n most_entries l w.1)))
      (tables_quiet (before + n) (before' + n) (at + 1) (at' + 1) k (omega (arith, l)) p.1))
  tables_quiet before before' at at' (left_out {x = t} {xs = xs} q k) l h =
      let n = length t.members in
      let p = split uses (rows_of (need (nat_le n most_members && nat_le (before + n) most_entries) PastLimit at)) (tables_marks (before + n) (at + 1) xs) h in
      tables_quiet (before + n) before' (at + 1) at' k (omega (arith, l)) p.1

  quiet_of : (ms : List Mark) → NoRows ms → AllListed uses ms → Quiet uses ms
  quiet_of [] h k = tt
  quiet_of (a_row x ∷ ms) h k = absurd h
  quiet_of (a_use f at ∷ ms) h k = (k.0, quiet_of ms h k.1)

  pub short_is_within : limit_rows short ≡ []
  short_is_within =
      let fns = functions_marks m 0 (functions_at m) m.functions in
      let tbs = tables_marks 0 (tables_at m) m.tables in
      let all = quiet_of (marks m) (rows_none [] (marks m) says.limits) (all_listed [] (marks m)) in
      let p = split uses (globals_marks m 0 1 m.globals) (fns ++ tbs) all in
      let q = split uses fns tbs p.1 in
      let few = few_calls [] (marks m) (omega arith) says.limits in
      none_after uses few (marks short)
      (join uses (globals_marks short 0 1 short.globals) (functions_marks short 0 (functions_at short) short.functions ++ tables_marks 0 (tables_at short) short.tables) (globals_quiet 0 1 m.globals says.inits p.0)
      (join uses (functions_marks short 0 (functions_at short) short.functions) (tables_marks 0 (tables_at short) short.tables) (functions_quiet 0 0 (functions_at m) (functions_at short) reached (λ f c. c) (omega arith) q.0)
      (tables_quiet 0 0 (tables_at m) (tables_at short) entered (omega arith) q.1)))
