-- A node above the limit that ends at a mark shows as a peak at the mark or before: statements.
use Rattle.std.proofs.Common.{ℕ, ◌≡◌, ◌≤◌, Bool, true, false, List, Option, Some, None, refl, ap, inl, inr, arith}
use Rattle.std.specs.Prelude.{ℤ}
use Rattle.asm_lang.specs.Lexemes.{Class, close_brace, open_brace, open_paren, close_paren, colon, semicolon, Lexeme, sign, At}
use Rattle.asm_lang.specs.Trees.{ExprTree, variable, StmtTree, block, plain, empty, if_only, if_else, returns, while_loop, do_loop, for_loop, breaks, continues, switches, StmtTrees, no_stmt, ClauseTrees, no_clause, one_clause}
use Rattle.asm_lang.specs.Grammar.{IsExpr, place_of, under, IsOption, absent, present, IsReturned, no_value, a_value, IsStmt, a_block, a_plain, an_empty, an_if_only, an_if_else, a_return, a_while, a_do, a_for, a_break, a_continue, a_labelled, a_switch, IsStmts, no_stmts, more_stmts, IsClauses, no_clauses, a_case, a_default}
use Rattle.asm_lang.specs.Machine.{is_quiet, begins_expr, State, closes, at_expr, ends, ends_do, at_stmt, after_stmt_name, at_option, at_return, after_arm, after_body, at_stmts, at_clauses, in_case, Step, goes, expects, end_by, more_stmts_of, condition, stmt_name_by, arm_by, case_value, clauses_by, feed}
use Rattle.asm_lang.proofs.Tokens.{Stops-ends, stop_here, stop_at_end, end_no_colon, expr_begins, expr_first, stops_at}
use Rattle.asm_lang.proofs.Leads.{Observer, ◌▸◌, by_step, takes, closed, bodied, on_class}
use Rattle.asm_lang.proofs.CompleteExprs.{same}
use Rattle.asm_lang.proofs.CompleteStmts.{option_some, option_read, return_value, literal_read, with_no_stmt, stmt_begins, plain_begins, at_the_word, condition_read, stmts_go_on, cases_go_on, clauses_over, stmt_read, case_read}
use Rattle.asm_lang.specs.TreeHeights.{stmt_height, body_height, counted}
use Rattle.asm_lang.specs.HighNodes.{HighExpr, HighOption, HighReturned, HighStmt, HighStmts, HighClauses}
use Rattle.asm_laws_height.specs.Peaks.{peak}
use Rattle.asm_laws_height.proofs.Sizes.{under_height, under_body, last_of_more}
use Rattle.asm_laws_height.proofs.Seen.{Peaks, peaks, ended_here, expr_seen}

-- a statement that is put in shows, as what it counts there
abbrev pub Shows : Bool → (StmtTree → State) → Type 0
Shows b k = (s : StmtTree) → counted b s ≤ peak (k s)

counted_alone : (b : Bool) (s : StmtTree) → body_height s ≡ stmt_height s → counted b s ≡ stmt_height s
counted_alone true s is = is
counted_alone false s is = refl

-- a statement whose two heights are one
alone_shows : (b : Bool) (k : StmtTree → State) (s : StmtTree) → body_height s ≡ stmt_height s → Shows b k → stmt_height s ≤ peak (k s)
alone_shows b k s is h = omega (arith, counted_alone b s is, h s)

listed_shows : (ss : StmtTrees) (k : StmtTrees → Step) → Shows false (λ s. at_stmts (more_stmts_of ss s) k)
listed_shows ss k = λ s. omega (arith, last_of_more ss s)

clause_shows : (v : ℤ) (ss : StmtTrees) (k : ClauseTrees → Step) → Shows false (λ s. in_case v (more_stmts_of ss s) k)
clause_shows v ss k = λ s. omega (arith, last_of_more ss s)

arm_shows : (b : Bool) (at : ℕ) (c : ExprTree) (k : StmtTree → State) → Shows b k → Shows true (λ s. after_arm at c s k)
arm_shows b at c k h = λ s. omega (arith, alone_shows b k (if_only at c s) refl h)

else_shows : (b : Bool) (at : ℕ) (c : ExprTree) (a : StmtTree) (k : StmtTree → State) → Shows b k → Shows true (λ s. k (if_else at c a s))
else_shows b at c a k h = λ s. omega (arith, alone_shows b k (if_else at c a s) refl h)

while_shows : (b : Bool) (at : ℕ) (c : ExprTree) (k : StmtTree → State) → Shows b k → Shows true (λ s. k (while_loop at c s))
while_shows b at c k h = λ s. omega (arith, alone_shows b k (while_loop at c s) refl h)

for_shows : (b : Bool) (at : ℕ) (x y z : Option ExprTree) (k : StmtTree → State) → Shows b k → Shows true (λ s. k (for_loop at x y z s))
for_shows b at x y z k h = λ s. omega (arith, alone_shows b k (for_loop at x y z s) refl h)

label_shows : (b : Bool) (n : Lexeme) (k : StmtTree → State) → Shows b k → Shows false (λ s. k (under n s))
label_shows true n k h = λ s. omega (arith, h (under n s), under_body n s)
label_shows false n k h = λ s. omega (arith, h (under n s), under_height n s)

empty_counts : (b : Bool) (at : ℕ) → 1 ≤ counted b (empty at)
empty_counts true at = omega arith
empty_counts false at = omega arith

breaks_count : (b : Bool) (at : ℕ) (l : Option (List ℕ)) → 1 ≤ counted b (breaks at l)
breaks_count true at l = omega arith
breaks_count false at l = omega arith

continues_count : (b : Bool) (at : ℕ) (l : Option (List ℕ)) → 1 ≤ counted b (continues at l)
continues_count true at l = omega arith
continues_count false at l = omega arith

module _ (limit mark : ℕ) where
  abbrev see : Observer
  see = peaks limit mark

  condition_seen : {e : ExprTree} {t u : Lexeme} {xs ys zs ws : List Lexeme} → At open_paren t xs ys → (x : IsExpr 0 e ys zs) → HighExpr limit mark x → At close_paren u zs ws → (k : ExprTree → Step) → Peaks limit mark (condition k) xs
  condition_seen {zs = zs} i x h j k =
      let le : 0 ≤ 13 = omega arith in
      takes see i (λ u. goes (at_expr 0 (λ c. closes close_paren refl (k c)))) (expr_seen limit mark x h 0 (same 0) le (Stops-ends 0 zs (stop_here j 0 refl)) (λ c. closes close_paren refl (k c)))

  option_seen : {o : Option ExprTree} {c : Class} {t : Lexeme} {xs ys zs : List Lexeme} (x : IsOption o xs ys) → HighOption limit mark x → At c t ys zs → stops_at 0 c ≡ true → (q : is_quiet c ≡ true) (b : begins_expr c ≡ false) (k : Option ExprTree → Step)
      → Peaks limit mark (goes (at_option c q b k)) xs
  option_seen absent h i stop q b k = absurd h
  option_seen {c = c} {xs = xs} {ys = ys} (present x) h i stop q b k =
      let le : 0 ≤ 13 = omega arith in
      option_some see c q b k xs (expr_first x) (expr_seen limit mark x h 0 (same 0) le (Stops-ends 0 ys (stop_here i 0 stop)) (λ e. closes c q (k (Some e))))

  returned_seen : {o : Option ExprTree} {xs ys : List Lexeme} (x : IsReturned o xs ys) → HighReturned limit mark x → (k : Option ExprTree → State) → Peaks limit mark (goes (at_return k)) xs
  returned_seen (no_value end) h k = absurd h
  returned_seen {xs = xs} (a_value {ys = ys} line x end) h k =
      let le : 0 ≤ 13 = omega arith in
      return_value see k xs (expr_first x) line (expr_seen limit mark x h 0 (same 0) le (Stops-ends 0 ys (stop_at_end end)) (λ e. ends (k (Some e))))

  mutual
    pub stmt_seen : {s : StmtTree} {xs ys : List Lexeme} (x : IsStmt s xs ys) → (b : Bool) → HighStmt limit mark b x → (k : StmtTree → State) → Shows b k → Peaks limit mark (goes (at_stmt k)) xs
    stmt_seen (a_block {t = t} {ss = ss} {ws = ws} i x j) b h k shows = elim h [
      | inl here ↦ stmt_read see (a_block i x j) k (ended_here limit mark (k (block t.at ss)) ws (counted b (block t.at ss)) here (shows (block t.at ss)))
      | inr hx ↦ at_the_word see k i (stmts_seen x hx no_stmt (λ ss. goes (k (block t.at ss))) j)
    ]
    stmt_seen (a_plain {e = e} {xs = xs} {ys = ys} {zs = zs} x end) b h k shows =
        let le : 0 ≤ 13 = omega arith in
        elim h [
          | inl here ↦ stmt_read see (a_plain x end) k (ended_here limit mark (k (plain (place_of xs) e)) zs (counted b (plain (place_of xs) e)) here (shows (plain (place_of xs) e)))
          | inr hx ↦ plain_begins see k xs (expr_begins x (end_no_colon end)) (expr_seen limit mark x hx 0 (same 0) le (Stops-ends 0 ys (stop_at_end end)) (λ e. ends (k (plain (place_of xs) e))))
        ]
    stmt_seen (an_empty {t = t} {ys = ys} i) b h k shows = stmt_read see (an_empty i) k (ended_here limit mark (k (empty t.at)) ys 1 h (omega (arith, empty_counts b t.at, shows (empty t.at))))
    stmt_seen (an_if_only {t = t} {c = c} {s = s} {us = us} i j x l y alone) b h k shows = elim h [
      | inl here ↦ stmt_read see (an_if_only i j x l y alone) k (ended_here limit mark (k (if_only t.at c s)) us (counted b (if_only t.at c s)) here (shows (if_only t.at c s)))
      | inr (inl hx) ↦ at_the_word see k i (condition_seen j x hx l (λ c. goes (at_stmt (λ s. after_arm t.at c s k))))
      | inr (inr hy) ↦ (at_the_word see k i ▸ condition_read see j x l (λ c. goes (at_stmt (λ s. after_arm t.at c s k)))) (stmt_seen y true hy (λ s. after_arm t.at c s k) (arm_shows b t.at c k shows))
    ]
    stmt_seen (an_if_else {t = t} {c = c} {s = s} {r = r} {rs = rs} i j x l y m z) b h k shows = elim h [
      | inl here ↦ stmt_read see (an_if_else i j x l y m z) k (ended_here limit mark (k (if_else t.at c s r)) rs (counted b (if_else t.at c s r)) here (shows (if_else t.at c s r)))
      | inr (inl hx) ↦ at_the_word see k i (condition_seen j x hx l (λ c. goes (at_stmt (λ s. after_arm t.at c s k))))
      | inr (inr (inl hy)) ↦ (at_the_word see k i ▸ condition_read see j x l (λ c. goes (at_stmt (λ s. after_arm t.at c s k)))) (stmt_seen y true hy (λ s. after_arm t.at c s k) (arm_shows b t.at c k shows))
      | inr (inr (inr hz)) ↦ (at_the_word see k i
          ▸ condition_read see j x l (λ c. goes (at_stmt (λ s. after_arm t.at c s k)))
          ▸ stmt_read see y (λ s. after_arm t.at c s k)
          ▸ on_class see (after_arm t.at c s k) (λ d u. arm_by d t.at c s k (feed (k (if_only t.at c s)) u)) (λ u. refl) m)
          (stmt_seen z true hz (λ r. k (if_else t.at c s r)) (else_shows b t.at c s k shows))
    ]
    stmt_seen (a_return {t = t} {o = o} {zs = zs} i x) b h k shows = elim h [
      | inl here ↦ stmt_read see (a_return i x) k (ended_here limit mark (k (returns t.at o)) zs (counted b (returns t.at o)) here (shows (returns t.at o)))
      | inr hx ↦ at_the_word see k i (returned_seen x hx (λ o. k (returns t.at o)))
    ]
    stmt_seen (a_while {t = t} {c = c} {s = s} {us = us} i j x l y) b h k shows = elim h [
      | inl here ↦ stmt_read see (a_while i j x l y) k (ended_here limit mark (k (while_loop t.at c s)) us (counted b (while_loop t.at c s)) here (shows (while_loop t.at c s)))
      | inr (inl hx) ↦ at_the_word see k i (condition_seen j x hx l (λ c. goes (at_stmt (λ s. k (while_loop t.at c s)))))
      | inr (inr hy) ↦ (at_the_word see k i ▸ condition_read see j x l (λ c. goes (at_stmt (λ s. k (while_loop t.at c s))))) (stmt_seen y true hy (λ s. k (while_loop t.at c s)) (while_shows b t.at c k shows))
    ]
    stmt_seen (a_do {t = t} {c = c} {s = s} {rs = rs} i y j l x m end) b h k shows = elim h [
      | inl here ↦ stmt_read see (a_do i y j l x m end) k (ended_here limit mark (k (do_loop t.at s c)) rs (counted b (do_loop t.at s c)) here (shows (do_loop t.at s c)))
      | inr (inl hy) ↦ at_the_word see k i (stmt_seen y true hy (λ s. after_body s (condition (λ c. goes (ends_do (k (do_loop t.at s c)))))) (λ s. omega arith))
      | inr (inr hx) ↦ (at_the_word see k i
          ▸ stmt_read see y (λ s. after_body s (condition (λ c. goes (ends_do (k (do_loop t.at s c))))))
          ▸ bodied see j s (condition (λ c. goes (ends_do (k (do_loop t.at s c))))))
          (condition_seen l x hx m (λ c. goes (ends_do (k (do_loop t.at s c)))))
    ]
    stmt_seen (a_for {t = t} {a = a} {b = d} {c = c} {s = s} {ps = ps} i j x l y m z n w) b h k shows =
        let third : Option ExprTree → Option ExprTree → Option ExprTree → Step = λ a d c. goes (at_stmt (λ s. k (for_loop t.at a d c s))) in
        let second : Option ExprTree → Option ExprTree → Step = λ a d. goes (at_option close_paren refl refl (third a d)) in
        let first : Option ExprTree → Step = λ a. goes (at_option semicolon refl refl (second a)) in
        elim h [
          | inl here ↦ stmt_read see (a_for i j x l y m z n w) k (ended_here limit mark (k (for_loop t.at a d c s)) ps (counted b (for_loop t.at a d c s)) here (shows (for_loop t.at a d c s)))
          | inr (inl hx) ↦ (at_the_word see k i ▸ takes see j (λ u. goes (at_option semicolon refl refl first))) (option_seen x hx l refl refl refl first)
          | inr (inr (inl hy)) ↦ (at_the_word see k i ▸ takes see j (λ u. goes (at_option semicolon refl refl first)) ▸ option_read see x l refl refl refl first) (option_seen y hy m refl refl refl (second a))
          | inr (inr (inr (inl hz))) ↦ (at_the_word see k i ▸ takes see j (λ u. goes (at_option semicolon refl refl first)) ▸ option_read see x l refl refl refl first ▸ option_read see y m refl refl refl (second a)) (option_seen z hz n refl refl refl (third a d))
          | inr (inr (inr (inr hw))) ↦ (at_the_word see k i
              ▸ takes see j (λ u. goes (at_option semicolon refl refl first))
              ▸ option_read see x l refl refl refl first
              ▸ option_read see y m refl refl refl (second a)
              ▸ option_read see z n refl refl refl (third a d))
              (stmt_seen w true hw (λ s. k (for_loop t.at a d c s)) (for_shows b t.at a d c k shows))
        ]
    stmt_seen (a_break {t = t} {l = l} {zs = zs} i x) b h k shows = stmt_read see (a_break i x) k (ended_here limit mark (k (breaks t.at l)) zs 1 h (omega (arith, breaks_count b t.at l, shows (breaks t.at l))))
    stmt_seen (a_continue {t = t} {l = l} {zs = zs} i x) b h k shows = stmt_read see (a_continue i x) k (ended_here limit mark (k (continues t.at l)) zs 1 h (omega (arith, continues_count b t.at l, shows (continues t.at l))))
    stmt_seen (a_labelled {n = n} i j x) b h k shows =
        (at_the_word see k i
        ▸ on_class see (after_stmt_name n k) (λ c u. stmt_name_by c u n k (end_by u.class u (k (plain n.at (variable n.at n.text))) (feed (k (plain n.at (variable n.at n.text))) u))) (λ u. refl) j)
        (stmt_seen x false h (λ s. k (under n s)) (label_shows b n k shows))
    stmt_seen (a_switch {t = t} {e = e} {cs = cs} {rs = rs} i j x l m y n) b h k shows = elim h [
      | inl here ↦ stmt_read see (a_switch i j x l m y n) k (ended_here limit mark (k (switches t.at e cs)) rs (counted b (switches t.at e cs)) here (shows (switches t.at e cs)))
      | inr (inl hx) ↦ at_the_word see k i (condition_seen j x hx l (λ e. expects (sign open_brace) (λ w. goes (at_clauses (λ cs. goes (k (switches t.at e cs)))))))
      | inr (inr hy) ↦ (at_the_word see k i
          ▸ condition_read see j x l (λ e. expects (sign open_brace) (λ w. goes (at_clauses (λ cs. goes (k (switches t.at e cs))))))
          ▸ takes see m (λ w. goes (at_clauses (λ cs. goes (k (switches t.at e cs))))))
          (clauses_seen y hy (λ cs. goes (k (switches t.at e cs))) n)
    ]

    pub stmts_seen : {ss : StmtTrees} {t : Lexeme} {xs ys zs : List Lexeme} (x : IsStmts ss xs ys) → HighStmts limit mark x → (rs : StmtTrees) (k : StmtTrees → Step) → At close_brace t ys zs → Peaks limit mark (goes (at_stmts rs k)) xs
    stmts_seen no_stmts h rs k j = absurd h
    stmts_seen {xs = xs} (more_stmts {s = s} x y) h rs k j = elim h [
      | inl hx ↦ stmts_go_on see rs k xs (stmt_begins x) (stmt_seen x false hx (λ s. at_stmts (more_stmts_of rs s) k) (listed_shows rs k))
      | inr hy ↦ (stmts_go_on see rs k xs (stmt_begins x) ▸ stmt_read see x (λ s. at_stmts (more_stmts_of rs s) k)) (stmts_seen y hy (more_stmts_of rs s) k j)
    ]

    case_seen : {ss : StmtTrees} {xs ys : List Lexeme} (x : IsStmts ss xs ys) → HighStmts limit mark x → (v : ℤ) (rs : StmtTrees) (k : ClauseTrees → Step) → Peaks limit mark (goes (in_case v rs k)) xs
    case_seen no_stmts h v rs k = absurd h
    case_seen {xs = xs} (more_stmts {s = s} x y) h v rs k = elim h [
      | inl hx ↦ cases_go_on see v rs k xs (stmt_begins x) (stmt_seen x false hx (λ s. in_case v (more_stmts_of rs s) k) (clause_shows v rs k))
      | inr hy ↦ (cases_go_on see v rs k xs (stmt_begins x) ▸ stmt_read see x (λ s. in_case v (more_stmts_of rs s) k)) (case_seen y hy v (more_stmts_of rs s) k)
    ]

    clauses_seen : {cs : ClauseTrees} {t : Lexeme} {xs ys zs : List Lexeme} (x : IsClauses cs xs ys) → HighClauses limit mark x → (k : ClauseTrees → Step) → At close_brace t ys zs → Peaks limit mark (goes (at_clauses k)) xs
    clauses_seen no_clauses h k j = absurd h
    clauses_seen (a_case {v = v} {ss = ss} {cs = cs} {vs = vs} i l m x y) h k j = elim h [
      | inl hx ↦ (on_class see (at_clauses k) (λ c u. clauses_by c u k) (λ u. refl) i
          ▸ literal_read see l (λ i. closes colon refl (goes (case_value i (λ v. in_case v no_stmt k))))
          ▸ closed see m refl (goes (in_case v no_stmt k)))
          (case_seen x hx v no_stmt k)
      | inr hy ↦ (on_class see (at_clauses k) (λ c u. clauses_by c u k) (λ u. refl) i
          ▸ literal_read see l (λ i. closes colon refl (goes (case_value i (λ v. in_case v no_stmt k))))
          ▸ closed see m refl (goes (in_case v no_stmt k))
          ▸ case_read see x v no_stmt k
          ▸ by_step see (ap (λ ss. goes (in_case v ss k)) (with_no_stmt ss))
          ▸ clauses_over see v ss k y j)
          (clauses_seen y hy (λ cs. k (one_clause (Some v) ss cs)) j)
    ]
    clauses_seen (a_default {ss = ss} i l x) h k j =
        (on_class see (at_clauses k) (λ c u. clauses_by c u k) (λ u. refl) i ▸ takes see l (λ u. goes (at_stmts no_stmt (λ ss. k (one_clause None ss no_clause)))))
        (stmts_seen x h no_stmt (λ ss. k (one_clause None ss no_clause)) j)
