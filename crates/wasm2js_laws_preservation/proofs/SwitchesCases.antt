-- Which clause of a switch is chosen by an index.
use Rattle.std.proofs.Common.{◌≡◌, ℕ, zero, suc, ◌+◌, ◌^◌, ◌<◌, ◌≤◌, true, false, List, [], ◌∷◌, length, Some, ℤ, refl, ap, ◌∙◌, arith}
use Rattle.std.specs.Prelude.{slice_get, ◌==◌, if◌then◌else◌}
use Rattle.std.proofs.lemmas.Bool.Decides.{nat_tests, Decides-eqb}
use Rattle.std.proofs.lemmas.Int.{ints}
use Rattle.sem_words.specs.Words.{signed_of}
use Rattle.asm_lang.specs.Modules.{Stmt, Clauses}
use Rattle.asm_lang_valid.specs.Typing.{Scope}
use Rattle.asm_lang_exec.specs.Runs.{Part}
use Rattle.asm_lang_exec.specs.Meaning.{Completion, is_case, has_case, before_case, before_default, passed_over}
use Rattle.asm_laws_continuation.specs.Following.{Before, CallsBefore, exec_all_to, exec_clauses_to, unless_left_to}
use Rattle.wasm2js_translation.specs.Words.{stmts_in}
use Rattle.wasm2js_translation.specs.Bodies.{cases}

-- the case of an index is that of the word alone
case_is : (x j : ℕ) → x < 2 ^ 32 → j < 2 ^ 32 → is_case (signed_of 32 x) (Some (signed_of 32 j)) ≡ (x == j)
case_is x j h k = grind (arith, ints, nat_tests)

same_index : (x : ℕ) → (x == x) ≡ true
same_index x = (Decides-eqb x x).1 refl

other_index : (x j : ℕ) → j < x → (x == j) ≡ false
other_index x j h = grind (arith, nat_tests)

module _ (to : ℕ → List Stmt) (x : ℕ) (small : x < 2 ^ 32) where
  abbrev z : ℤ
  z = signed_of 32 x

  at_index : (i : ℕ) → i ≡ x → is_case z (Some (signed_of 32 i)) ≡ true
  at_index i e = case_is x i small (omega (arith, small, e)) ∙ ap (λ j. x == j) e ∙ same_index x

  before_index : (i : ℕ) → i < x → is_case z (Some (signed_of 32 i)) ≡ false
  before_index i h = case_is x i small (omega (arith, small, h)) ∙ other_index x i h

  -- no index of these is the word
  pub none_has : (i : ℕ) (ks : List ℕ) (more : Clauses) → i + length ks ≤ x → has_case z (cases to i ks more) ≡ has_case z more
  none_has i [] more h = refl
  none_has i (k ∷ ks) more h =
      let e = before_index i (omega (arith, h)) in
      ap (λ b. if b then true else has_case z (cases to (suc i) ks more)) e ∙ none_has (suc i) ks more (omega (arith, h))

  pub default_after : (i : ℕ) (ks : List ℕ) (more : Clauses) → before_default (cases to i ks more) ≡ length ks + before_default more
  default_after i [] more = omega arith
  default_after i (k ∷ ks) more = let h = default_after (suc i) ks more in omega (arith, h)

  module _ (calls : CallsBefore (Unit {0})) (c : Scope) (bound : ℕ) (next : Completion → Part (Unit {0})) where
    pub passed_by : (i : ℕ) (ks : List ℕ) (more : Clauses) (n : ℕ) → exec_clauses_to calls c bound (cases to i ks more) (length ks + n) next ≡ exec_clauses_to calls c bound more n next
    passed_by i [] more n = let e : 0 + n ≡ n = omega arith in ap (λ k. exec_clauses_to calls c bound more k next) e
    passed_by i (k ∷ ks) more n =
        let e : suc (length ks) + n ≡ suc (length ks + n) = omega arith in
        ap (λ k'. exec_clauses_to calls c bound (cases to i (k ∷ ks) more) k' next) e ∙ passed_by (suc i) ks more n

    -- the clause of the word, with those after it
    pub record Found (i : ℕ) (ks : List ℕ) (more : Clauses) (k : ℕ) : Type 0 where
      pub has : has_case z (cases to i ks more) ≡ true
      pub others : Before (Unit {0}) Completion
      pub runs : exec_clauses_to calls c bound (cases to i ks more) (before_case z (cases to i ks more)) next ≡ exec_all_to calls c bound (stmts_in (to k)) (λ d. unless_left_to d others next)

    pub is_found : (i j : ℕ) (ks : List ℕ) (more : Clauses) (k : ℕ) → slice_get ks j ≡ Some k → i + j ≡ x → Found i ks more k
    is_found i j [] more k there e = absurd (cc there)
    is_found i zero (k' ∷ ks) more k there e =
        let same : k' ≡ k = cc there in
        let h = at_index i (omega (arith, e)) in
        record {
          has = ap (λ b. if b then true else has_case z (cases to (suc i) ks more)) h;
          others = exec_clauses_to calls c bound (cases to (suc i) ks more) zero;
          runs = ap (λ b. exec_clauses_to calls c bound (cases to i (k' ∷ ks) more) (if b then 0 else suc (before_case z (cases to (suc i) ks more))) next) h
              ∙ ap (λ k. exec_all_to calls c bound (stmts_in (to k)) (λ d. unless_left_to d (exec_clauses_to calls c bound (cases to (suc i) ks more) zero) next)) same;
        }
    is_found i (suc j) (k' ∷ ks) more k there e =
        let h = before_index i (omega (arith, e)) in
        let f = is_found (suc i) j ks more k there (omega (arith, e)) in
        record {
          has = ap (λ b. if b then true else has_case z (cases to (suc i) ks more)) h ∙ f.has;
          others = f.others;
          runs = ap (λ b. exec_clauses_to calls c bound (cases to i (k' ∷ ks) more) (if b then 0 else suc (before_case z (cases to (suc i) ks more))) next) h ∙ f.runs;
        }

    -- what the clauses of a switch come to
    abbrev pub chosen : Clauses → Part (Unit {0})
    chosen cs = exec_clauses_to calls c bound cs (passed_over z cs) next

    pub found_runs : (i : ℕ) (ks : List ℕ) (more : Clauses) (k : ℕ) (f : Found i ks more k) → chosen (cases to i ks more) ≡ exec_all_to calls c bound (stmts_in (to k)) (λ d. unless_left_to d f.others next)
    found_runs i ks more k f =
        ap (λ b. exec_clauses_to calls c bound (cases to i ks more) (if b then before_case z (cases to i ks more) else before_default (cases to i ks more)) next) f.has ∙ f.runs

    pub none_runs : (i : ℕ) (ks : List ℕ) (more : Clauses) → i + length ks ≤ x → has_case z more ≡ false → chosen (cases to i ks more) ≡ exec_clauses_to calls c bound more (before_default more) next
    none_runs i ks more h none =
        ap (λ b. exec_clauses_to calls c bound (cases to i ks more) (if b then before_case z (cases to i ks more) else before_default (cases to i ks more)) next) (none_has i ks more h ∙ none)
        ∙ ap (λ n. exec_clauses_to calls c bound (cases to i ks more) n next) (default_after i ks more) ∙ passed_by i ks more (before_default more)
