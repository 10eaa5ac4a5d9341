-- Tokens are a module within the limit or have a fault, and never both.
use Rattle.std.proofs.Common.{ℕ, ◌≡◌, ◌≤◌, ◌+◌, List, length, drop, Result, Ok, Err, refl, sym, ap, ◌∙◌, arith, length-append}
use Rattle.std.proofs.lemmas.List.{drop_at}
use Rattle.asm_lang.specs.Lexemes.{Lexeme}
use Rattle.asm_lang.specs.Trees.{ModuleTree}
use Rattle.asm_lang.specs.Grammar.{IsModule}
use Rattle.asm_lang.specs.Machine.{Refusal, run, at_start}
use Rattle.asm_lang.specs.Faults as lang
use Rattle.asm_lang.proofs.CompleteModules.{module_read}
use Rattle.asm_lang.proofs.Sound.{found_module}
use Rattle.asm_lang.proofs.Verdicts.{verdict}
use Rattle.asm_lang.specs.TreeHeights.{whole_height}
use Rattle.asm_lang.specs.Kinds.{Kind, negative_zero, missing_use, grammar, height, IsLow, IsFault}
use Rattle.asm_laws_height.specs.Peaks.{Stop, refused, high, run_low}
use Rattle.asm_laws_height.proofs.Within.{start_kept}
use Rattle.asm_laws_height.proofs.Limits.{low_read, low_found}
use Rattle.asm_laws_height.proofs.SeenModules.{high_stop, refused_low, none_in_found, none_in_refused}
use Rattle.asm_laws_height.proofs.Places.{height_fault}
use Rattle.asm_laws_fault.specs.Outcomes.{Outcome, a_module, a_fault}
use Rattle.asm_laws_fault.proofs.Edges.{module_viable}

pub none : (limit : ℕ) (xs : List Lexeme) (m : ModuleTree) → IsModule m xs → whole_height m ≤ limit → (a : Kind) (i : ℕ) → IsFault limit xs a i → ⊥
none limit xs m h le negative_zero i f = (let z = f.0 in z.here (module_viable xs m (i + 2) h))
none limit xs m h le missing_use i f = (let u = f.0 in u.here (module_viable xs m (i + 1) h))
none limit xs m h le grammar i f = (let w = f.0 in w.whole m h)
none limit xs m h le height i f = none_in_found limit xs m (low_read limit xs at_start m start_kept (module_read h) le) (i + 1) f.here

-- ---- what stops reading is a fault

no_module : (xs : List Lexeme) (m : ModuleTree) (r : Refusal) → IsModule m xs → run at_start xs ≡ Err r → ⊥
no_module xs m r h e = let reads = module_read h in cc

refused_outcome : (limit : ℕ) (xs : List Lexeme) (r : Refusal) → run at_start xs ≡ Err r → IsLow limit xs → lang.Verdict xs → Outcome limit xs
refused_outcome limit xs r e low (lang.a_module m h) = absurd (no_module xs m r h e)
refused_outcome limit xs r e low (lang.a_negative_zero k z) = a_fault negative_zero k (z, low)
refused_outcome limit xs r e low (lang.a_missing_use k u) = a_fault missing_use k (u, low)
refused_outcome limit xs r e low (lang.a_first_fault k f) = a_fault grammar k (f, low)

high_outcome : (limit : ℕ) (xs rest : List Lexeme) → run_low limit at_start xs ≡ Err (high rest) → Outcome limit xs
high_outcome limit xs rest e =
    let w = high_stop limit xs at_start rest (omega arith) e in
    let le : length w.front ≤ length xs = omega (arith, ap length w.parts, length-append w.front rest) in
    let dropped : drop (length w.front) xs ≡ rest = ap (drop (length w.front)) w.parts ∙ drop_at w.front rest (length w.front) refl in
    a_fault height (length w.front) (height_fault limit xs (length w.front) le (e ∙ ap (λ (ys : List Lexeme). let r : Result ModuleTree Stop = Err (high ys) in r) (sym dropped)))

pub outcome : (limit : ℕ) (xs : List Lexeme) → Outcome limit xs
outcome limit xs =
    let P : Result ModuleTree Stop → Type 0 = λ r. run_low limit at_start xs ≡ r → Outcome limit xs in
    let cases : (r : Result ModuleTree Stop) → P r = elim [
      | Ok m ↦ λ e. (let found = low_found limit xs at_start m (omega arith) e in a_module m (found_module xs m found.0) found.1)
      | Err (refused q) ↦ λ e. (let read = refused_low limit xs at_start q (omega arith) e in refused_outcome limit xs q read.0 (λ j f. none_in_refused limit xs q e (j + 1) f.here) (verdict xs))
      | Err (high rest) ↦ λ e. high_outcome limit xs rest e
    ] in
    cases (run_low limit at_start xs) refl
