-- The laws of reading within a limit.
use Rattle.std.proofs.Common.{Bool, true, false, cond, ltb, ◌≡◌, ℕ, ◌≤◌, List, [], ◌∷◌, ◌++◌, None, Result, Ok, Err, refl, ap, ◌∙◌, arith}
use Rattle.std.proofs.lemmas.Bool.{ltb-false, le-ltb, cond-false}
use Rattle.asm_lang.specs.Lexemes.{Lexeme}
use Rattle.asm_lang.specs.Trees.{variable, element, plain, if_only, member, ModuleTree}
use Rattle.asm_lang.specs.Grammar.{IsModule}
use Rattle.asm_lang.specs.Machine.{State, after_name, after_index, after_expr, in_rest, ends, ends_do, after_stmt_name, at_return, at_target, after_arm, after_member, at_marks, at_locals, in_locals, may_comma, at_end, Step, goes, expects, either, refuses, advance, Refusal, ended, stops, run, at_start}
use Rattle.asm_lang.proofs.CompleteModules.{module_read}
use Rattle.asm_lang.specs.TreeHeights.{whole_height}
use Rattle.asm_laws_height.specs.Peaks.{peak, step_peak, after, high, stop_of, run_low}
use Rattle.asm_laws_height.proofs.Bounds.{step_bound, KeptStep, Rises}
use Rattle.asm_laws_height.proofs.Within.{advance_rises, refused_is, run_bound, step_peak_below, start_kept}

-- ---- a low module is read

stop_is : (r : Result ModuleTree Refusal) (m : ModuleTree) → stop_of r ≡ Ok m → r ≡ Ok m
stop_is (Ok n) m e = let same : n ≡ m = cc in ap (λ (x : ModuleTree). let r : Result ModuleTree Refusal = Ok x in r) same
stop_is (Err r) m e = absurd cc

pub low_read : (limit : ℕ) (xs : List Lexeme) (s : Step) (m : ModuleTree) → KeptStep s → run s xs ≡ Ok m → whole_height m ≤ limit → run_low limit s xs ≡ Ok m
low_read limit [] s m h e le = ap stop_of e
low_read limit (t ∷ ts) s m h e le =
    let on : (r : Step) → KeptStep r → run r ts ≡ Ok m → cond (ltb limit (step_peak r)) (Err (high (t ∷ ts))) (run_low limit r ts) ≡ Ok m =
    λ r g f. cond-false (ltb limit (step_peak r)) _ _ (le-ltb limit (step_peak r) (omega (arith, step_peak_below r g, run_bound ts r m g f, le))) ∙ low_read limit ts r m g f le in
    let P : Step → Type 0 = λ r. Rises (step_bound s) r → run r ts ≡ Ok m → cond (ltb limit (step_peak r)) (Err (high (t ∷ ts))) (run_low limit r ts) ≡ Ok m in
    let step : (r : Step) → P r = elim [
      | goes q ↦ λ up f. on (goes q) up.1 f
      | expects w k ↦ λ up f. on (expects w k) up.1 f
      | either w d q k r ↦ λ up f. on (either w d q k r) up.1 f
      | refuses f back ↦ λ up g. absurd (refused_is f back ts m g)
    ] in
    step (advance s t) (advance_rises s t h) e

-- ---- what is read is low

end_peak : (s : State) (m : ModuleTree) → ended s ≡ Ok m → whole_height m ≤ peak s
end_peak (at_end b n) m e = let is : n ≡ m = cc in omega (arith, ap whole_height is)
end_peak (after_name p n k) m e = omega (arith, end_peak (k (variable n.at n.text)) m e)
end_peak (after_index p n i k) m e = omega (arith, end_peak (k (element n.at n.text i)) m e)
end_peak (after_expr p x k) m e = omega (arith, end_peak (k x) m e)
end_peak (in_rest es k) m e = end_peak (k es) m e
end_peak (ends s) m e = end_peak s m e
end_peak (ends_do s) m e = end_peak s m e
end_peak (after_stmt_name n k) m e = omega (arith, end_peak (k (plain n.at (variable n.at n.text))) m e)
end_peak (at_return k) m e = end_peak (k None) m e
end_peak (at_target k) m e = end_peak (k None) m e
end_peak (after_arm at c s k) m e = end_peak (k (if_only at c s)) m e
end_peak (after_member f p k) m e = end_peak (k (member f.text p.text)) m e
end_peak (at_marks [] ds k) m e = end_peak (k ds) m e
end_peak (at_locals ls k) m e = end_peak (k ls) m e
end_peak (in_locals ls k) m e = end_peak (k ls) m e
end_peak (may_comma k s) m e = end_peak s m e
end_peak _ m e = absurd cc

stop_peak : (s : Step) (m : ModuleTree) → stops s ≡ Ok m → whole_height m ≤ step_peak s
stop_peak (goes s) m e = end_peak s m e
stop_peak _ m e = absurd cc

pub low_found : (limit : ℕ) (xs : List Lexeme) (s : Step) (m : ModuleTree) → step_peak s ≤ limit → run_low limit s xs ≡ Ok m → (run s xs ≡ Ok m) × (whole_height m ≤ limit)
low_found limit [] s m le e = let is = stop_is (stops s) m e in (is, omega (arith, stop_peak s m is))
low_found limit (t ∷ ts) s m le e =
    let r = advance s t in
    let Q : Bool → Type 0 = λ v. ltb limit (step_peak r) ≡ v → cond v (Err (high (t ∷ ts))) (run_low limit r ts) ≡ Ok m → (run r ts ≡ Ok m) × (whole_height m ≤ limit) in
    let both : Q (ltb limit (step_peak r)) = elim (ltb limit (step_peak r)) as Q [ true ↦ λ is g. absurd cc | false ↦ λ is g. low_found limit ts r m (ltb-false limit (step_peak r) is) g ] in
    both refl e

-- ---- each peak on the way

walk : (xs ys : List Lexeme) (s : Step) (m : ModuleTree) → KeptStep s → run s (xs ++ ys) ≡ Ok m → step_peak (after s xs) ≤ whole_height m
walk [] ys s m h e = omega (arith, step_peak_below s h, run_bound ys s m h e)
walk (t ∷ ts) ys s m h e =
    let P : Step → Type 0 = λ r. Rises (step_bound s) r → run r (ts ++ ys) ≡ Ok m → step_peak (after r ts) ≤ whole_height m in
    let step : (r : Step) → P r = elim [
      | goes q ↦ λ up f. walk ts ys (goes q) m up.1 f
      | expects w k ↦ λ up f. walk ts ys (expects w k) m up.1 f
      | either w d q k r ↦ λ up f. walk ts ys (either w d q k r) m up.1 f
      | refuses f back ↦ λ up g. absurd (refused_is f back (ts ++ ys) m g)
    ] in
    step (advance s t) (advance_rises s t h) e

pub peak_within : (xs ys : List Lexeme) (m : ModuleTree) → IsModule m (xs ++ ys) → step_peak (after at_start xs) ≤ whole_height m
peak_within xs ys m h = walk xs ys at_start m start_kept (module_read h)
