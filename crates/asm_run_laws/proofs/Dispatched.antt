-- The dispatch of a switch goes to the clause that is meant.
use Rattle.std.proofs.Common.{◌≡◌, ℕ, zero, suc, ◌+◌, ◌-◌, ◌≤◌, Bool, true, false, List, [], ◌∷◌, length, Some, None, ℤ, pos, ◌+ℤ◌, refl, sym, ap, ◌∙◌, subst, arith}
use Rattle.std.specs.Prelude.{◌==◌, nat_le, nat_lt, if◌then◌else◌}
use Rattle.std.proofs.lemmas.Bool.{le-leb}
use Rattle.std.proofs.lemmas.Bool.Decides.{nat_tests}
use Rattle.std.proofs.lemmas.Int.{ints}
use Rattle.sem_words.specs.Words.{word_of, sub_of}
use Rattle.asm_lang.specs.Modules.{Clauses, no_clauses, clauses}
use Rattle.asm_lang_valid.specs.Typing.{values, in_range}
use Rattle.asm_lang_exec.specs.Runs.{Place}
use Rattle.asm_lang_exec.specs.Meaning.{is_case, before_case, before_default, has_case, passed_over}
use Rattle.asm2wasm_translation.specs.Bodies.{clauses_count, low, span, is_dense}
use Rattle.asm_run_code.specs.declared.op.Op.{Op}
use Rattle.asm_run_code.specs.declared.op.Op.TheVariants.{Go, Case, Choose}
use Rattle.asm_run_code.specs.Slots.{get}
use Rattle.asm_run_code.specs.Machine.{going, lost, lesser, Leads}
use Rattle.asm_run_code.specs.Bodies.{start_of, case_ops, target_ops, dispatched}
use Rattle.asm_run_laws.specs.Frames.{Setting, Frame, IsFrame, Ends, state}
use Rattle.asm_run_laws.proofs.Fetched.{fetched, leads_on, leads_once}
use Rattle.asm_run_laws.proofs.Fronts.{ends_on, ends_after, ends_length, cases_pass}
use Rattle.asm_run_laws.proofs.Tabled.{IsSigned, case_range, equal_words, index, passed_inside, passed_outside}

module _ (s : Setting) (x : Frame) (f : IsFrame s x) (ws : List ℕ) (p : Place) where
  abbrev Goes : (from to : ℕ) → Type 0
  Goes from to = Leads s.codes (state x from ws p) (going (state x to ws p))

  goes : (to : ℕ) (rest : List Op) → Ends x.whole (Go to ∷ rest) → to ≤ length rest → Goes (length (Go to ∷ rest)) to
  goes to rest ends le =
      leads_once s.codes (state x (length (Go to ∷ rest)) ws p) (going (state x to ws p)) (fetched s x f (Go to) rest ws p ends ∙ ap (λ b. if b then going (state x to ws p) else lost) (le-leb to (length rest) le))

  module _ (a : ℕ) (z : ℤ) (fits : IsSigned z) (found : get ws (x.base + a) ≡ word_of 32 z) (code : List Op) where
    -- ---- a comparison for each case

    compares : (n to : ℕ) (rest : List Op) (b : Bool) → (word_of 32 z == n) ≡ b → Ends x.whole (Case a n to ∷ rest) → to ≤ length rest → Goes (length (Case a n to ∷ rest)) (if b then to else length rest)
    compares n to rest b is ends le =
        leads_once s.codes (state x (length (Case a n to ∷ rest)) ws p) (going (state x (if b then to else length rest) ws p))
        (fetched s x f (Case a n to) rest ws p ends
        ∙ ap (λ w. if w == n then (if nat_le to (length rest) then going (state x to ws p) else lost) else going (state x (length rest) ws p)) found
        ∙ ap (λ b. if b then (if nat_le to (length rest) then going (state x to ws p) else lost) else going (state x (length rest) ws p)) is
        ∙ by b)
      where
        by : (b : Bool) → (if b then (if nat_le to (length rest) then going (state x to ws p) else lost) else going (state x (length rest) ws p)) ≡ going (state x (if b then to else length rest) ws p)
        by true = ap (λ b. if b then going (state x to ws p) else lost) (le-leb to (length rest) le)
        by false = refl

    cases_go : (cs : Clauses) (starts : List ℕ) (to : ℕ) → in_range (values cs) ≡ true → length starts ≡ suc (clauses_count cs) → ((k : ℕ) → start_of starts k ≤ length code) → to ≤ length code
        → Ends x.whole (case_ops a cs starts (Go to ∷ code)) → Goes (length (case_ops a cs starts (Go to ∷ code))) (if has_case z cs then start_of starts (before_case z cs) else to)
    cases_go no_clauses starts to h many below le ends = goes to code ends le
    cases_go (clauses v ss cs) [] to h many below le ends = absurd (omega (arith, many))
    cases_go (clauses None ss cs) (k ∷ starts) to h many below le ends =
        cases_go cs starts to h (omega (arith, many)) (λ i. below (suc i)) le ends
    cases_go (clauses (Some v) ss cs) (k ∷ starts) to h many below le ends =
        let r = case_range v (values cs) h in
        let more = case_ops a cs starts (Go to ∷ code) in
        let past = ends_length more (Go to ∷ code) (cases_pass a cs starts (Go to ∷ code)) in
        let first = below 0 in
        by (is_case z (Some v)) (compares (word_of 32 v) k more (is_case z (Some v)) (equal_words z v fits r.0) ends (omega (arith, past, first)))
        (cases_go cs starts to r.1 (omega (arith, many)) (λ i. below (suc i)) le (ends_on x.whole (Case a (word_of 32 v) k ∷ more) more ends (ends_after (Case a (word_of 32 v) k) more)))
      where
        by : (b : Bool) → let more = case_ops a cs starts (Go to ∷ code) in Goes (suc (length more)) (if b then k else length more) → Goes (length more) (if has_case z cs then start_of starts (before_case z cs) else to)
            → Goes (suc (length more)) (if (if b then true else has_case z cs) then start_of (k ∷ starts) (if b then 0 else suc (before_case z cs)) else to)
        by true one others = one
        by false one others =
            let more = case_ops a cs starts (Go to ∷ code) in
            leads_on s.codes (state x (suc (length more)) ws p) (state x (length more) ws p) (going (state x (if has_case z cs then start_of starts (before_case z cs) else to) ws p)) one others

    -- ---- a table of jumps

    module _ (cs : Clauses) (starts : List ℕ) (below : (k : ℕ) → start_of starts k ≤ length code) (to : ℕ) (le : to ≤ length code) where
      abbrev table : ℕ → ℤ → List Op
      table n v = target_ops n v cs starts (Go to ∷ code)

      table_long : (n : ℕ) (v : ℤ) → length (table n v) ≡ n + suc (length code)
      table_long zero v = omega arith
      table_long (suc n) v = let k = table_long n (v +ℤ pos 1) in omega (arith, k)

      target_goes : (n i : ℕ) (v : ℤ) → nat_lt i n ≡ true → Ends x.whole (table n v) → Goes (length (table n v) - i) (start_of starts (passed_over (v +ℤ pos i) cs))
      target_goes zero i v h ends = absurd (let none : nat_lt i 0 ≡ false = grind (arith, nat_tests) in cc (sym none ∙ h))
      target_goes (suc n) zero v h ends =
          let e : v ≡ v +ℤ pos 0 = grind (arith, ints) in
          let here : length (table (suc n) v) ≡ length (table (suc n) v) - 0 = omega arith in
          let k = below (passed_over v cs) in
          let long = table_long n (v +ℤ pos 1) in
          subst (λ u. Goes (length (table (suc n) v) - 0) (start_of starts (passed_over u cs))) e
          (subst (λ at. Goes at (start_of starts (passed_over v cs))) here (goes (start_of starts (passed_over v cs)) (table n (v +ℤ pos 1)) ends (omega (arith, k, long))))
      target_goes (suc n) (suc i) v h ends =
          let less : nat_lt i n ≡ true = grind (arith, nat_tests) in
          let e : v +ℤ pos 1 +ℤ pos i ≡ v +ℤ pos (suc i) = grind (arith, ints) in
          let rest = table n (v +ℤ pos 1) in
          let here : length rest - i ≡ length (table (suc n) v) - suc i = omega arith in
          subst (λ at. Goes at (start_of starts (passed_over (v +ℤ pos (suc i)) cs))) here
          (subst (λ u. Goes (length rest - i) (start_of starts (passed_over u cs))) e
          (target_goes n i (v +ℤ pos 1) less (ends_on x.whole (table (suc n) v) rest ends (ends_after (Go (start_of starts (passed_over v cs))) rest))))

      default_goes : (n : ℕ) (v : ℤ) → Ends x.whole (table n v) → Goes (length (table n v) - n) to
      default_goes zero v ends = let here : length (table zero v) ≡ length (table zero v) - 0 = omega arith in subst (λ at. Goes at to) here (goes to code ends le)
      default_goes (suc n) v ends =
          let rest = table n (v +ℤ pos 1) in
          let here : length rest - n ≡ length (table (suc n) v) - suc n = omega arith in
          subst (λ at. Goes at to) here (default_goes n (v +ℤ pos 1) (ends_on x.whole (table (suc n) v) rest ends (ends_after (Go (start_of starts (passed_over v cs))) rest)))

      table_goes : (dense : is_dense (values cs) ≡ true) → in_range (values cs) ≡ true → to ≡ start_of starts (before_default cs)
          → let vs = values cs in let n = suc (span vs) in let all = table n (low vs) in
          Ends x.whole (Choose a (word_of 32 (low vs)) n ∷ all) → Goes (suc (length all)) (start_of starts (passed_over z cs))
      table_goes dense h is ends =
          let vs = values cs in
          let n = suc (span vs) in
          let all = table n (low vs) in
          let chooses : Goes (suc (length all)) (length all - lesser (index z vs) n)
          = leads_once s.codes (state x (suc (length all)) ws p) (going (state x (length all - lesser (index z vs) n) ws p))
          (fetched s x f (Choose a (word_of 32 (low vs)) n) all ws p ends ∙ ap (λ w. going (state x (length all - lesser (sub_of 32 w (word_of 32 (low vs))) n) ws p)) found) in
          by (nat_lt (index z vs) n) refl chooses (ends_on x.whole (Choose a (word_of 32 (low vs)) n ∷ all) all ends (ends_after (Choose a (word_of 32 (low vs)) n) all))
        where
          by : (b : Bool) → let vs = values cs in let n = suc (span vs) in let all = table n (low vs) in nat_lt (index z vs) n ≡ b → Goes (suc (length all)) (length all - (if b then index z vs else n)) → Ends x.whole all
              → Goes (suc (length all)) (start_of starts (passed_over z cs))
          by true e chooses ends =
              let vs = values cs in
              let n = suc (span vs) in
              let all = table n (low vs) in
              leads_on s.codes (state x (suc (length all)) ws p) (state x (length all - index z vs) ws p) (going (state x (start_of starts (passed_over z cs)) ws p)) chooses
              (subst (λ k. Goes (length all - index z vs) (start_of starts k)) (passed_inside z fits cs dense h e) (target_goes n (index z vs) (low vs) e ends))
          by false e chooses ends =
              let vs = values cs in
              let n = suc (span vs) in
              let all = table n (low vs) in
              leads_on s.codes (state x (suc (length all)) ws p) (state x (length all - n) ws p) (going (state x (start_of starts (passed_over z cs)) ws p)) chooses
              (subst (λ to. Goes (length all - n) to) (is ∙ ap (start_of starts) (passed_outside z fits cs dense h e)) (default_goes n (low vs) ends))

    -- ---- both

    -- from the dispatch on the word of a value to the clause that is meant
    pub dispatched_goes : (cs : Clauses) (starts : List ℕ) → in_range (values cs) ≡ true → length starts ≡ suc (clauses_count cs) → ((k : ℕ) → start_of starts k ≤ length code) → Ends x.whole (dispatched cs starts a code)
        → Goes (length (dispatched cs starts a code)) (start_of starts (passed_over z cs))
    dispatched_goes cs starts h many below ends = by (is_dense (values cs)) refl ends
      where
        to : ℕ
        to = start_of starts (before_default cs)

        ops : Bool → List Op
        ops b = if b then Choose a (word_of 32 (low (values cs))) (suc (span (values cs))) ∷ target_ops (suc (span (values cs))) (low (values cs)) cs starts (Go to ∷ code) else case_ops a cs starts (Go to ∷ code)

        one : (b : Bool) → Goes (length (case_ops a cs starts (Go to ∷ code))) (if b then start_of starts (before_case z cs) else to)
            → Goes (length (case_ops a cs starts (Go to ∷ code))) (start_of starts (if b then before_case z cs else before_default cs))
        one true g = g
        one false g = g

        by : (b : Bool) → is_dense (values cs) ≡ b → Ends x.whole (ops b) → Goes (length (ops b)) (start_of starts (passed_over z cs))
        by true dense ends = table_goes cs starts below to (below (before_default cs)) dense h refl ends
        by false dense ends = one (has_case z cs) (cases_go cs starts to h many below (below (before_default cs)) ends)
