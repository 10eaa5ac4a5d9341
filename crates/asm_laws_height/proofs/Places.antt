-- Where reading stops at a node above the limit is the first token that completes one.
use Rattle.std.proofs.Common.{ℕ, ◌≡◌, ◌≤◌, ◌<◌, ◌+◌, List, [], ◌∷◌, ◌++◌, length, take, drop, Result, Ok, Err, inl, inr, refl, sym, ap, subst, ◌∙◌, arith, append_assoc, length-append, length-drop}
use Rattle.std.proofs.lemmas.List.{take_at, drop_at}
use Rattle.std.proofs.lemmas.Bool.{cases_lt}
use Rattle.asm_lang.specs.Lexemes.{Lexeme}
use Rattle.asm_lang.specs.Trees.{ModuleTree}
use Rattle.asm_lang.specs.Machine.{Fault, Step, goes, expects, either, refuses, advance, at_start}
use Rattle.asm_lang.specs.HighNodes.{BeginsHigh, IsHeightFault}
use Rattle.asm_laws_height.specs.Peaks.{step_peak, after, Stop, refused, high, run_low}
use Rattle.asm_laws_height.proofs.SeenModules.{high_stop, none_in_found, none_in_refused, none_before}
use Rattle.asm_laws_height.proofs.Carried.{Moves, advance_carries, at_start_carries}
use Rattle.asm_laws_height.proofs.Finished.{High, high_ending}

module _ (limit mark : ℕ) (all : List Lexeme) where
  refused_after : (f : Fault) (back front ys : List Lexeme) → Moves limit mark all ⊥ (after (refuses f back) front) ys
  refused_after f back [] ys = tt
  refused_after f back (t ∷ ts) ys = refused_after f (back ++ t ∷ []) ts ys

  after_moves : (front ys : List Lexeme) (s : Step) → Moves limit mark all ⊥ s (front ++ ys) → Moves limit mark all ⊥ (after s front) ys
  after_moves [] ys s h = h
  after_moves (t ∷ ts) ys s h =
      let P : Step → Type 0 = λ r. Moves limit mark all ⊥ r (t ∷ (ts ++ ys)) → Moves limit mark all ⊥ (after (advance r t) ts) ys in
      let step : (r : Step) → P r = elim [
        | goes q ↦ λ g. after_moves ts ys (advance (goes q) t) (advance_carries limit mark all ⊥ (goes q) t (ts ++ ys) g)
        | expects w k ↦ λ g. after_moves ts ys (advance (expects w k) t) (advance_carries limit mark all ⊥ (expects w k) t (ts ++ ys) g)
        | either w d q k r ↦ λ g. after_moves ts ys (advance (either w d q k r) t) (advance_carries limit mark all ⊥ (either w d q k r) t (ts ++ ys) g)
        | refuses f back ↦ λ g. refused_after f (back ++ t ∷ []) ts ys
      ] in
      step s h

after_more : (front : List Lexeme) (t : Lexeme) (s : Step) → after s (front ++ t ∷ []) ≡ advance (after s front) t
after_more [] t s = refl
after_more (u ∷ us) t s = after_more us t (advance s u)

begins_high : (limit : ℕ) (front : List Lexeme) → limit < step_peak (after at_start front) → BeginsHigh limit front
begins_high limit front lt =
    let e = high_ending limit (after at_start front) front (λ ys mark is. after_moves limit mark (front ++ ys) front ys at_start (at_start_carries limit mark (front ++ ys))) lt in
    let none : 0 + length e.tokens ≡ length e.tokens = omega arith in
    let w = subst (λ (n : ℕ). High limit e.found n (front ++ e.tokens)) none e.whole in
    (e.found, e.tokens, w.0, w.1)

pub height_fault : (limit : ℕ) (xs : List Lexeme) (k : ℕ) → k ≤ length xs → run_low limit at_start xs ≡ Err (high (drop k xs)) → IsHeightFault limit xs k
height_fault limit xs k le e =
    let w = high_stop limit xs at_start (drop k xs) (omega arith) e in
    let len : length (w.front ++ w.token ∷ []) ≡ k + 1 = omega (arith, length-append w.front (w.token ∷ []), ap length w.parts, length-append w.front (drop k xs), length-drop k xs) in
    let whole : xs ≡ (w.front ++ w.token ∷ []) ++ w.others = w.parts ∙ ap (λ (ys : List Lexeme). w.front ++ ys) w.left ∙ sym (append_assoc w.front (w.token ∷ []) w.others) in
    let same : take (k + 1) xs ≡ w.front ++ w.token ∷ [] = ap (take (k + 1)) whole ∙ take_at (w.front ++ w.token ∷ []) w.others (k + 1) len in
    record {
      within = omega (arith, ap length w.left, length-drop k xs);
      here = subst (BeginsHigh limit) (sym same) (begins_high limit (w.front ++ w.token ∷ []) (subst (λ (r : Step). limit < step_peak r) (sym (after_more w.front w.token at_start)) w.over));
      before = none_before limit xs k le e;
    }

-- ---- the place is the only one

one_place : (limit : ℕ) (xs : List Lexeme) (i j : ℕ) → IsHeightFault limit xs i → IsHeightFault limit xs j → i ≡ j
one_place limit xs i j f g = elim (cases_lt i j) [
  | inl lt ↦ absurd (g.before i lt f.here)
  | inr le ↦ elim (cases_lt j i) [ inl lt ↦ absurd (f.before j lt g.here) | inr le2 ↦ omega arith ]
]

same_place : (limit : ℕ) (xs rest : List Lexeme) (k : ℕ) → IsHeightFault limit xs k → run_low limit at_start xs ≡ Err (high rest) → rest ≡ drop k xs
same_place limit xs rest k f e =
    let w = high_stop limit xs at_start rest (omega arith) e in
    let le : length w.front ≤ length xs = omega (arith, ap length w.parts, length-append w.front rest) in
    let dropped : drop (length w.front) xs ≡ rest = ap (drop (length w.front)) w.parts ∙ drop_at w.front rest (length w.front) refl in
    let g = height_fault limit xs (length w.front) le (e ∙ ap (λ (ys : List Lexeme). let r : Result ModuleTree Stop = Err (high ys) in r) (sym dropped)) in
    sym dropped ∙ ap (λ (n : ℕ). drop n xs) (one_place limit xs (length w.front) k g f)

pub height_stop : (limit : ℕ) (xs : List Lexeme) (k : ℕ) → IsHeightFault limit xs k → run_low limit at_start xs ≡ Err (high (drop k xs))
height_stop limit xs k f =
    let P : Result ModuleTree Stop → Type 0 = λ r. run_low limit at_start xs ≡ r → run_low limit at_start xs ≡ Err (high (drop k xs)) in
    let cases : (r : Result ModuleTree Stop) → P r = elim [
      | Ok m ↦ λ e. absurd (none_in_found limit xs m e (k + 1) f.here)
      | Err (refused q) ↦ λ e. absurd (none_in_refused limit xs q e (k + 1) f.here)
      | Err (high rest) ↦ λ e. e ∙ ap (λ (ys : List Lexeme). let r : Result ModuleTree Stop = Err (high ys) in r) (same_place limit xs rest k f e)
    ] in
    cases (run_low limit at_start xs) refl
