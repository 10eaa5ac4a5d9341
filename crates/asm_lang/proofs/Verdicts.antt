-- Each token list is a module or has a fault.
use Rattle.std.proofs.Common.{ℕ, zero, suc, ◌≡◌, ◌≤◌, ◌+◌, Bool, true, false, ◌&&◌, List, [], ◌∷◌, length, drop, Result, Ok, Err, ◌⊎◌, inl, inr, refl, sym, ap, subst, ◌∙◌, arith, length-append}
use Rattle.std.proofs.lemmas.List.{drop_at}
use Rattle.sem_words.specs.declared.js_value.JsOp.TheVariants.{Sub}
use Rattle.asm_lang.specs.Lexemes.{operator, Lexeme, sign, a_zero}
use Rattle.asm_lang.specs.Trees.{ModuleTree}
use Rattle.asm_lang.specs.Machine.{meets, Fault, grammar, no_use_asm, Refusal, run, at_start, failed}
use Rattle.asm_lang.specs.Faults.{IsPair, Verdict, a_module, a_negative_zero, a_missing_use, a_first_fault}
use Rattle.asm_lang.proofs.Tokens.{and_left, and_right, and_both, meets_true, meets_is}
use Rattle.asm_lang.proofs.Sound.{found_module}
use Rattle.asm_lang.proofs.First.{stopped, rest_is, first_fault, negative_zero, missing_use}

-- whether a pair stands at a place
abbrev PairOr : List Lexeme → ℕ → Type 0
PairOr xs j = IsPair xs j ⊎ (¬ IsPair xs j)

abbrev both : Lexeme → Lexeme → Bool
both m z = meets (sign (operator Sub)) m && meets a_zero z

pair_of : (xs : List Lexeme) (j : ℕ) (m z : Lexeme) (rest : List Lexeme) → drop j xs ≡ m ∷ z ∷ rest → PairOr xs j
pair_of xs j m z rest is =
    let P : Bool → Type 0 = λ b. both m z ≡ b → PairOr xs j in
    let cases : (b : Bool) → P b = elim [
      | true ↦ λ h. inl (record { minus = m; zero = z; rest = rest; there = is; is_minus = meets_is (sign (operator Sub)) m (and_left (meets (sign (operator Sub)) m) (meets a_zero z) h); is_zero = meets_is a_zero z (and_right (meets (sign (operator Sub)) m) (meets a_zero z) h) })
      | false ↦ λ h. inr (λ p. no_pair m z rest p is h)
    ] in
    cases (both m z) refl
  where
    no_pair : (m z : Lexeme) (rest : List Lexeme) {ys : List Lexeme} {k : ℕ} (p : IsPair ys k) → drop k ys ≡ m ∷ z ∷ rest → both m z ≡ false → ⊥
    no_pair m z rest p is h =
        let same : p.minus ∷ p.zero ∷ p.rest ≡ m ∷ z ∷ rest = sym p.there ∙ is in
        let minus : p.minus ≡ m = cc in
        let zero_is : p.zero ≡ z = cc in
        let yes : both p.minus p.zero ≡ true = and_both (meets (sign (operator Sub)) p.minus) (meets a_zero p.zero) (meets_true (sign (operator Sub)) p.minus p.is_minus) (meets_true a_zero p.zero p.is_zero) in
        let same_both : both p.minus p.zero ≡ both m z = ap (λ (y : Lexeme × Lexeme). both y.0 y.1) (λ i. (minus i, zero_is i)) in
        let no : true ≡ false = sym yes ∙ same_both ∙ h in
        absurd cc

pair_at : (xs : List Lexeme) (j : ℕ) (ys : List Lexeme) → drop j xs ≡ ys → PairOr xs j
pair_at xs j [] is = inr (λ p. let no : p.minus ∷ p.zero ∷ p.rest ≡ [] = sym p.there ∙ is in absurd cc)
pair_at xs j (t ∷ []) is = inr (λ p. let no : p.minus ∷ p.zero ∷ p.rest ≡ t ∷ [] = sym p.there ∙ is in absurd cc)
pair_at xs j (m ∷ z ∷ rest) is = pair_of xs j m z rest is

grammar_verdict : (xs : List Lexeme) (k : ℕ) → k ≤ length xs → run at_start xs ≡ failed grammar (drop k xs) → Verdict xs
grammar_verdict xs zero le e = a_first_fault 0 (first_fault xs 0 le e (λ j is p. absurd (omega arith)))
grammar_verdict xs (suc j) le e =
    let same : suc j ≡ j + 1 = omega arith in
    let le2 : j + 1 ≤ length xs = omega arith in
    let e2 : run at_start xs ≡ failed grammar (drop (j + 1) xs) = e ∙ ap (λ n. failed grammar (drop n xs)) same in
    elim (pair_at xs j (drop j xs) refl) [
      | inl p ↦ a_negative_zero j (negative_zero xs j le2 e2 p)
      | inr n ↦ a_first_fault (suc j) (first_fault xs (suc j) le e (λ i is p. n (at_j i is p)))
    ]
  where
    at_j : (i : ℕ) → i + 1 ≡ suc j → IsPair xs i → IsPair xs j
    at_j i is p = let same : i ≡ j = omega arith in subst (λ (n : ℕ). IsPair xs n) same p

fault_verdict : (xs : List Lexeme) (f : Fault) (k : ℕ) → k ≤ length xs → run at_start xs ≡ failed f (drop k xs) → Verdict xs
fault_verdict xs grammar k le e = grammar_verdict xs k le e
fault_verdict xs no_use_asm k le e = a_missing_use k (missing_use xs k le e)

refused_verdict : (xs : List Lexeme) (f : Fault) (rest : List Lexeme) → run at_start xs ≡ failed f rest → Verdict xs
refused_verdict xs f rest e =
    let w = stopped xs f rest e in
    let k : ℕ = length w.front in
    let left : rest ≡ w.after = rest_is xs f rest w.front w.last w.after w.promise w.stuck_at in
    let le : length w.front ≤ length xs = omega (arith, ap length w.parts, length-append w.front w.after) in
    let dropped : drop (length w.front) xs ≡ w.after = ap (drop (length w.front)) w.parts ∙ drop_at w.front w.after (length w.front) refl in
    fault_verdict xs f (length w.front) le (e ∙ ap (failed f) (left ∙ sym dropped))

pub verdict : (xs : List Lexeme) → Verdict xs
verdict xs =
    let P : Result ModuleTree Refusal → Type 0 = λ r. run at_start xs ≡ r → Verdict xs in
    let cases : (r : Result ModuleTree Refusal) → P r = elim [ Ok m ↦ λ e. a_module m (found_module xs m e) | Err r ↦ λ e. refused_verdict xs r.fault r.rest e ] in
    cases (run at_start xs) refl
