-- Branches by an index are fine.
use Rattle.std.proofs.Common.{◌≡◌, ℕ, zero, suc, ◌+◌, ◌*◌, ◌/◌, ◌^◌, ◌<◌, ◌≤◌, max, Bool, true, false, List, [], ◌∷◌, length, take, drop, None, refl, ap, subst, arith}
use Rattle.std.specs.Prelude.{ℤ, pos, negsuc, nat_le, nat_lt, FitsSigned}
use Rattle.std.specs.Int.{w32}
use Rattle.std.proofs.lemmas.Int.{ints}
use Rattle.std.specs.List.{AllByRecursion}
use Rattle.std.proofs.lemmas.Bool.Decides.{nat_tests}
use Rattle.sem_words.specs.Words.{signed_of}
use Rattle.sem_words.proofs.WordLaws.{signed_of-fits_32}
use Rattle.asm_lang.specs.Modules.{Stmt, Clauses, clauses, no_clauses, switches}
use Rattle.asm_lang.specs.Heights.{clauses_height}
use Rattle.asm_laws_print.specs.Fitting.{FitsNumber, FitsClauses}
use Rattle.asm_lang_valid.specs.Rows.{need, expr_count, stmts_count}
use Rattle.asm_lang_valid.specs.declared.rule.Rule.TheVariants.{PastLimit}
use Rattle.asm_lang_valid.specs.Typing.{Scope, Around, in_a_switch, values, cases_fit, distinct, in_range, close_together, clauses_typed}
use Rattle.asm_lang_valid.specs.LimitRows.{clauses_length, clauses_marks, expr_marks, most_clauses, rows_of}
use Rattle.wasm2js_translation.specs.Words.{stmts_in}
use Rattle.wasm2js_laws_terms.specs.Sound.{IsInt}
use Rattle.wasm2js_laws_terms.specs.Laws.{IsTrapUse, IsFine}
use Rattle.wasm2js_laws_terms.proofs.FineExprs.{is_typed_below}
use Rattle.wasm2js_laws_terms.proofs.FineActions.{no_marks, both_marks, both_true}
use Rattle.wasm2js_translation.specs.Actions.{low}
use Rattle.wasm2js_translation.specs.Bodies.{signed_word, cases, switches_from}
use Rattle.wasm2js_laws_typed.specs.Constructs.{AllFine, EachFine, SwitchesAreFine}
use Rattle.wasm2js_laws_typed.proofs.Cases.{lows, highs, low_values, high_values, low_distinct, high_distinct, low_range, high_range, low_close, high_close}
use Rattle.wasm2js_laws_typed.proofs.FineBlocks.{together, word_signed}

-- ---- clauses

record AreFineClauses (s : Scope) (a : Around) (cs : Clauses) : Type 0 where
  are_typed : clauses_typed s a cs ≡ true
  printed : FitsClauses cs
  low : clauses_height cs ≤ 8
  marks : (at : ℕ) → AllByRecursion IsTrapUse (clauses_marks s at cs)

both_low : {m n : ℕ} → m ≤ 8 → n ≤ 8 → max m n ≤ 8
both_low p q = omega (arith, p, q)

module _ (s : Scope) (a : Around) where
  none_fine : AreFineClauses s a no_clauses
  none_fine = record { are_typed = refl; printed = tt; low = omega arith; marks = λ at. tt }

  default_fine : (ss : List Stmt) → AllFine s a 8 ss → AreFineClauses s a (clauses None (stmts_in ss) no_clauses)
  default_fine ss f =
      let g = together s a 8 ss f in
      record { are_typed = both_true _ _ g.are_typed refl; printed = (g.printed, refl); low = both_low g.low (omega arith); marks = λ at. both_marks _ _ (g.marks at) tt }

  number_fits : (i : ℕ) → i < 2 ^ 32 → FitsNumber (signed_of 32 i)
  number_fits i h = small (signed_of 32 i) (signed_of-fits_32 i h)
    where
      small : (z : ℤ) → FitsSigned w32 z → FitsNumber z
      small (pos n) h = grind (arith, ints)
      small (negsuc n) h = grind (arith, ints)

  cases_fine : (to : ℕ → List Stmt) (i : ℕ) (ks : List ℕ) (more : Clauses) → i + length ks ≤ 2 ^ 32 → EachFine s a to ks → AreFineClauses s a more → AreFineClauses s a (cases to i ks more)
  cases_fine to i [] more h f g = g
  cases_fine to i (k ∷ ks) more h f g =
      let p = together s a 8 (to k) f.0 in
      let q = cases_fine to (suc i) ks more (omega (arith, h)) f.1 g in
      record {
        are_typed = both_true _ _ p.are_typed q.are_typed;
        printed = (number_fits i (omega (arith, h)), p.printed, q.printed);
        low = both_low p.low q.low;
        marks = λ at. both_marks _ _ (p.marks at) (q.marks (at + stmts_count (stmts_in (to k))));
      }

case_count : (to : ℕ → List Stmt) (i : ℕ) (ks : List ℕ) (more : Clauses) → clauses_length more ≡ 0 → clauses_length (cases to i ks more) ≡ length ks
case_count to i [] more e = e
case_count to i (k ∷ ks) more e = ap suc (case_count to (suc i) ks more e)

-- ---- the values of one switch

fit_of : (cs : Clauses) (vs : List ℤ) → values cs ≡ vs → distinct vs ≡ true → in_range vs ≡ true → close_together vs ≡ true → cases_fit cs ≡ true
fit_of cs vs e p q r = rw (e, p, q, r) refl

-- the first number is a multiple of 512, so the cases lie on one side of 2 ^ 31
values_fit : (to : ℕ → List Stmt) (q : ℕ) (ks : List ℕ) (more : Clauses) → values more ≡ [] → length ks ≤ 512 → q * 512 + length ks ≤ 2 ^ 32 → cases_fit (cases to (q * 512) ks more) ≡ true
values_fit to q ks more none few h = by (nat_lt q (2 ^ 22)) refl
  where
    below : nat_lt q (2 ^ 22) ≡ true → q * 512 + length ks ≤ 2 ^ 31
    below e = let lt : q < 2 ^ 22 = grind (arith, nat_tests) in omega (arith, lt, few)

    above : nat_lt q (2 ^ 22) ≡ false → 2 ^ 31 ≤ q * 512
    above e = let le : 2 ^ 22 ≤ q = grind (arith, nat_tests) in omega (arith, le)

    by : (t : Bool) → nat_lt q (2 ^ 22) ≡ t → cases_fit (cases to (q * 512) ks more) ≡ true
    by true e =
        let le = below e in
        fit_of (cases to (q * 512) ks more) (lows (q * 512) (length ks)) (low_values to (q * 512) ks more none le) (low_distinct (q * 512) (length ks)) (low_range (q * 512) (length ks) le) (low_close (q * 512) (length ks) le)
    by false e =
        let le = above e in
        fit_of (cases to (q * 512) ks more) (highs (q * 512) (length ks)) (high_values to (q * 512) ks more none le h) (high_distinct (q * 512) (length ks) h) (high_range (q * 512) (length ks) le) (high_close (q * 512) (length ks) le)

-- ---- switches

module _ (s : Scope) (a : Around) (d : ℕ) (is : IsInt s (low d)) (to : ℕ → List Stmt) where
  switch_fine : (q : ℕ) (ks : List ℕ) (more : Clauses) → values more ≡ [] → clauses_length more ≡ 0 → length ks ≤ 512 → q * 512 + length ks ≤ 2 ^ 32
      → EachFine s (in_a_switch a) to ks → AreFineClauses s (in_a_switch a) more → IsFine s a (switches (signed_word d) (cases to (q * 512) ks more)) 9
  switch_fine q ks more none count few h f g =
      let e = word_signed s d is in
      let cs = cases_fine s (in_a_switch a) to (q * 512) ks more h f g in
      let short : nat_le (clauses_length (cases to (q * 512) ks more)) most_clauses ≡ true = shortly (clauses_length (cases to (q * 512) ks more)) (length ks) (case_count to (q * 512) ks more count) few in
      record {
        is_typed = both_true _ _ (both_true _ _ (is_typed_below s e) (values_fit to q ks more none few h)) cs.are_typed;
        printed = (e.printed, cs.printed);
        low = switch_low e.low cs.low;
        marks = λ at. both_marks (expr_marks s (at + 1) (signed_word d)) _ (no_marks (expr_marks s (at + 1) (signed_word d)) (e.no_marks (at + 1)))
            (both_marks _ _ (limit short at) (cs.marks (at + 1 + expr_count (signed_word d))));
      }
    where
      shortly : (n k : ℕ) → n ≡ k → k ≤ 512 → nat_le n most_clauses ≡ true
      shortly n k e h = let le : n ≤ 1000 = omega (arith, e, h) in grind (arith, nat_tests)

      switch_low : {m n : ℕ} → m ≤ 2 → n ≤ 8 → 1 + max m n ≤ 9
      switch_low p q = omega (arith, p, q)

      limit : {t : Bool} → t ≡ true → (at : ℕ) → AllByRecursion IsTrapUse (rows_of (need t PastLimit at))
      limit e at = rw e tt

  each_take : (n : ℕ) (ks : List ℕ) → EachFine s (in_a_switch a) to ks → EachFine s (in_a_switch a) to (take n ks)
  each_take zero [] f = tt
  each_take (suc n) [] f = tt
  each_take zero (k ∷ ks) f = tt
  each_take (suc n) (k ∷ ks) f = (f.0, each_take n ks f.1)

  each_drop : (n : ℕ) (ks : List ℕ) → EachFine s (in_a_switch a) to ks → EachFine s (in_a_switch a) to (drop n ks)
  each_drop zero [] f = tt
  each_drop (suc n) [] f = tt
  each_drop zero (k ∷ ks) f = f
  each_drop (suc n) (k ∷ ks) f = each_drop n ks f.1

  taken : (n : ℕ) (ks : List ℕ) → n ≤ length ks → length (take n ks) ≡ n
  taken zero [] h = refl
  taken (suc n) [] h = absurd (omega (arith, h))
  taken zero (k ∷ ks) h = refl
  taken (suc n) (k ∷ ks) h = ap suc (taken n ks (omega (arith, h)))

  at_most : (n : ℕ) (ks : List ℕ) → length (take n ks) ≤ n
  at_most zero [] = omega arith
  at_most (suc n) [] = omega arith
  at_most zero (k ∷ ks) = omega arith
  at_most (suc n) (k ∷ ks) = let h = at_most n ks in omega (arith, h)

  dropped : (n : ℕ) (ks : List ℕ) → n ≤ length ks → length (drop n ks) + n ≡ length ks
  dropped zero [] h = refl
  dropped (suc n) [] h = absurd (omega (arith, h))
  dropped zero (k ∷ ks) h = omega arith
  dropped (suc n) (k ∷ ks) h = let e = dropped n ks (omega (arith, h)) in omega (arith, e)

  from_fine : (default : ℕ) → AllFine s (in_a_switch a) 8 (to default) → (full q : ℕ) (ks : List ℕ) → full * 512 ≤ length ks → length ks < full * 512 + 512 → q * 512 + length ks ≤ 2 ^ 32
      → EachFine s (in_a_switch a) to ks → AllFine s a 9 (switches_from to (signed_word d) full (q * 512) ks default)
  from_fine default g zero q ks le lt h f = (switch_fine q ks _ refl refl (omega (arith, lt)) h f (default_fine s (in_a_switch a) (to default) g), tt)
  from_fine default g (suc full) q ks le lt h f =
      let t = taken 512 ks (omega (arith, le)) in
      let r = dropped 512 ks (omega (arith, le)) in
      let next : suc q * 512 ≡ q * 512 + 512 = omega arith in (
        switch_fine q (take 512 ks) no_clauses refl refl (omega (arith, t)) (omega (arith, t, h, le)) (each_take 512 ks f) (none_fine s (in_a_switch a)),
        subst (λ i. AllFine s a 9 (switches_from to (signed_word d) full i (drop 512 ks) default)) next
            (from_fine default g full (suc q) (drop 512 ks) (omega (arith, r, le)) (omega (arith, r, lt)) (omega (arith, r, h)) (each_drop 512 ks f)),
      )

pub switches_are_fine : SwitchesAreFine
switches_are_fine s a d to ks default is f g =
    let near = take (2 ^ 32) ks in
    let few = at_most s a d is to (2 ^ 32) ks in
    let start : 0 * 512 ≡ 0 = omega arith in
    subst (λ i. AllFine s a 9 (switches_from to (signed_word d) (length near / 512) i near default)) start
    (from_fine s a d is to default g (length near / 512) 0 near (omega arith) (omega arith) (omega (arith, few)) (each_take s a d is to (2 ^ 32) ks f))
