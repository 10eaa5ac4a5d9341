-- A node above the limit that ends at a mark shows as a peak at the mark or before: modules. So where no peak is above it, none is.
use Rattle.std.proofs.Common.{ℕ, ◌≡◌, ◌≤◌, ◌<◌, ◌+◌, Bool, true, false, cond, ltb, List, [], ◌∷◌, ◌++◌, zero, suc, length, take, drop, Result, Ok, Err, refl, sym, ap, subst, ◌∙◌, inl, inr, arith, length-append, length-drop}
use Rattle.std.proofs.lemmas.Bool.{ltb-true, ltb-false}
use Rattle.std.proofs.lemmas.List.{take_at, take-append-le}
use Rattle.asm_lang.specs.Lexemes.{Class, identifier, function_word, close_paren, open_paren, Lexeme, sign}
use Rattle.asm_lang.specs.Trees.{no_stmt, VariableTree, FunctionTree, TableTree, Heading, ModuleTree}
use Rattle.asm_lang.specs.Grammar.{IsFunction, a_function, IsFunctions, no_functions, more_functions, IsModule, a_module}
use Rattle.asm_lang.specs.Modules.{function_of}
use Rattle.asm_lang.specs.Heights.{function_height}
use Rattle.asm_lang.specs.Machine as machine
use Rattle.asm_lang.specs.Machine.{State, at_stmts, in_names, at_marks, at_locals, at_use, at_globals, at_functions, at_end, Step, goes, expects, either, body_step, function_step, globals_by, functions_by, use_by, feed, advance, Refusal, stops, run, at_start}
use Rattle.asm_lang.proofs.Leads.{Observer, ◌▸◌, by_step, takes, closed, on_class}
use Rattle.asm_lang.proofs.CompleteStmts.{end_read}
use Rattle.asm_lang.proofs.CompleteModules.{with_all, with_nothing, heading_read, globals_read, params_read, marks_read, locals_read, locals_over, function_read, body_read}
use Rattle.asm_lang.specs.TreeHeights.{whole_height}
use Rattle.asm_lang.specs.HighNodes.{HighFunction, HighFunctions, HighModule, BeginsHigh}
use Rattle.asm_laws_height.specs.Peaks.{last_function, step_peak, after, Stop, refused, high, stop_of, run_low}
use Rattle.asm_laws_height.proofs.Seen.{Peaks, seen_within, peaks, ended_here}
use Rattle.asm_laws_height.proofs.SeenStmts.{stmts_seen}

pub last_function_more : (fs : List FunctionTree) (f : FunctionTree) → last_function (fs ++ f ∷ []) ≡ function_height (function_of f)
last_function_more [] f = refl
last_function_more (g ∷ []) f = refl
last_function_more (g ∷ (h ∷ fs)) f = last_function_more (h ∷ fs) f

module _ (limit mark : ℕ) where
  abbrev see : Observer
  see = peaks limit mark

  function_seen : {f : FunctionTree} {xs ys : List Lexeme} (x : IsFunction f xs ys) → HighFunction limit mark x → (s : State) (by : Class → Lexeme → Step) → ((u : Lexeme) → feed s u ≡ by u.class u) → (h : Heading) (gs : List VariableTree) (fs : List FunctionTree)
      → ((u : Lexeme) → by function_word u ≡ function_step h gs fs) → Peaks limit mark (goes s) xs
  function_seen (a_function {f = f} {n = n} {ps = ps} {ds = ds} {ls = ls} {ss = ss} {os = os} i j l x m y z v w) tall s by same h gs fs is = elim tall [
    | inl here ↦ function_read see (a_function i j l x m y z v w) s by same h gs fs is
        (ended_here limit mark (at_functions h gs (fs ++ machine.function_of n ds ls ss ∷ [])) os (function_height (function_of (machine.function_of n ds ls ss))) here (omega (arith, last_function_more fs (machine.function_of n ds ls ss))))
    | inr hv ↦ (on_class see s by same i
        ▸ by_step see (is f)
        ▸ takes see j (λ n. expects (sign open_paren) (λ t. either (sign identifier) close_paren refl (λ p. goes (in_names close_paren refl [] (λ ps. body_step n (p ∷ ps) h gs fs))) (body_step n [] h gs fs)))
        ▸ takes see l (λ t. either (sign identifier) close_paren refl (λ p. goes (in_names close_paren refl [] (λ ps. body_step n (p ∷ ps) h gs fs))) (body_step n [] h gs fs))
        ▸ params_read see x (λ ps. body_step n ps h gs fs)
        ▸ takes see m (λ u. goes (at_marks ps [] (λ ds. at_locals [] (λ ls. at_stmts no_stmt (λ ss. goes (at_functions h gs (fs ++ machine.function_of n ds ls ss ∷ [])))))))
        ▸ marks_read see y [] (λ ds. at_locals [] (λ ls. at_stmts no_stmt (λ ss. goes (at_functions h gs (fs ++ machine.function_of n ds ls ss ∷ [])))))
        ▸ locals_read see z [] (λ ls. at_stmts no_stmt (λ ss. goes (at_functions h gs (fs ++ machine.function_of n (with_all [] ds) ls ss ∷ []))))
        ▸ locals_over see v w (with_all [] ls) (λ ls. at_stmts no_stmt (λ ss. goes (at_functions h gs (fs ++ machine.function_of n (with_all [] ds) ls ss ∷ [])))))
        (stmts_seen limit mark v hv no_stmt (λ ss. goes (at_functions h gs (fs ++ machine.function_of n (with_all [] ds) (with_all [] ls) ss ∷ []))) w)
  ]

  functions_seen : {es : List FunctionTree} {xs ys : List Lexeme} (x : IsFunctions es xs ys) → HighFunctions limit mark x → (h : Heading) (gs : List VariableTree) (fs : List FunctionTree) → Peaks limit mark (goes (at_functions h gs fs)) xs
  functions_seen no_functions tall h gs fs = absurd tall
  functions_seen (more_functions {f = f} x y) tall h gs fs = elim tall [
    | inl hx ↦ function_seen x hx (at_functions h gs fs) (λ c u. functions_by c u h gs fs) (λ u. refl) h gs fs (λ u. refl)
    | inr hy ↦ function_read see x (at_functions h gs fs) (λ c u. functions_by c u h gs fs) (λ u. refl) h gs fs (λ u. refl) (functions_seen y hy h gs (fs ++ f ∷ []))
  ]

  first_functions_seen : {es : List FunctionTree} {xs ys : List Lexeme} (x : IsFunctions es xs ys) → HighFunctions limit mark x → (h : Heading) (gs : List VariableTree) → Peaks limit mark (goes (at_globals h gs)) xs
  first_functions_seen no_functions tall h gs = absurd tall
  first_functions_seen (more_functions {f = f} x y) tall h gs = elim tall [
    | inl hx ↦ function_seen x hx (at_globals h gs) (λ c u. globals_by c u h gs) (λ u. refl) h gs [] (λ u. refl)
    | inr hy ↦ function_read see x (at_globals h gs) (λ c u. globals_by c u h gs) (λ u. refl) h gs [] (λ u. refl) (functions_seen y hy h gs (f ∷ []))
  ]

  pub module_seen : {m : ModuleTree} {xs : List Lexeme} (x : IsModule m xs) → HighModule limit mark x → Peaks limit mark at_start xs
  module_seen (a_module {h = h} {gs = gs} {fs = fs} {ts = ts} {ex = ex} {x8 = x8} heading i end globals functions tables exported w last) tall =
      let begin = heading_read see heading ▸ on_class see (at_use h) (λ c u. use_by c u h) (λ u. refl) i ▸ end_read see end (at_globals h []) ▸ globals_read see globals h [] in
      elim tall [
        | inl here ↦ (begin
            ▸ body_read see functions tables exported h (with_all [] gs)
            ▸ closed see w refl (goes (at_end true (machine.module_of h (with_all [] gs) (with_all [] fs) (with_all [] ts) ex)))
            ▸ by_step see (ap (λ (y : List VariableTree). goes (at_end true (machine.module_of h y (with_all [] fs) (with_all [] ts) ex))) (with_nothing gs))
            ▸ by_step see (ap (λ (y : List FunctionTree). goes (at_end true (machine.module_of h gs y (with_all [] ts) ex))) (with_nothing fs))
            ▸ by_step see (ap (λ (y : List TableTree). goes (at_end true (machine.module_of h gs fs y ex))) (with_nothing ts)))
            (ended_here limit mark (at_end true (machine.module_of h gs fs ts ex)) x8 (whole_height (machine.module_of h gs fs ts ex)) here (omega arith))
        | inr hf ↦ begin (first_functions_seen functions hf h (with_all [] gs))
      ]

-- ---- where no peak is above the limit

abbrev pub LowAlong : ℕ → Step → List Lexeme → Type 0
LowAlong limit s [] = step_peak s ≤ limit
LowAlong limit s (t ∷ ts) = (step_peak s ≤ limit) × LowAlong limit (advance s t) ts

not_seen : (limit : ℕ) (s : Step) (front ys : List Lexeme) → LowAlong limit s front → Peaks limit (length ys) s (front ++ ys) → ⊥
not_seen limit s [] [] low h = let lt = h.1 in absurd (omega arith)
not_seen limit s [] (t ∷ ts) low (inl h) = let lt = h.1 in absurd (omega arith)
not_seen limit s [] (t ∷ ts) low (inr h) = let le = seen_within limit (length (t ∷ ts)) (advance s t) ts h in absurd (omega arith)
not_seen limit s (t ∷ ts) ys low (inl h) = let lt = h.1 in let le = low.0 in absurd (omega arith)
not_seen limit s (t ∷ ts) ys low (inr h) = not_seen limit (advance s t) ts ys low.1 h

pub none_high : (limit : ℕ) (front : List Lexeme) → LowAlong limit at_start front → ¬ BeginsHigh limit front
none_high limit front low h = not_seen limit at_start front h.1 low (module_seen limit (length h.1) h.2 h.3)

pub low_front : (limit : ℕ) (n : ℕ) (s : Step) (xs : List Lexeme) → LowAlong limit s xs → LowAlong limit s (take n xs)
low_front limit zero s [] low = low
low_front limit (suc n) s [] low = low
low_front limit zero s (t ∷ ts) low = low.0
low_front limit (suc n) s (t ∷ ts) low = (low.0, low_front limit n (advance s t) ts low.1)

-- ---- how reading stops

-- the way to a token that completes a node above the limit
pub record HighStop (limit : ℕ) (s : Step) (xs rest : List Lexeme) : Type 0 where
  pub front : List Lexeme
  pub token : Lexeme
  pub others : List Lexeme
  pub left : rest ≡ token ∷ others
  pub parts : xs ≡ front ++ rest
  pub low : LowAlong limit s front
  pub over : limit < step_peak (advance (after s front) token)

no_high : (r : Result ModuleTree Refusal) (rest : List Lexeme) → stop_of r ≡ Err (high rest) → ⊥
no_high (Ok m) rest e = absurd cc
no_high (Err r) rest e = absurd cc

same_rest : (us rest : List Lexeme) → (let r : Result ModuleTree Stop = Err (high us) in r) ≡ Err (high rest) → rest ≡ us
same_rest us rest e = cc

pub high_stop : (limit : ℕ) (xs : List Lexeme) (s : Step) (rest : List Lexeme) → step_peak s ≤ limit → run_low limit s xs ≡ Err (high rest) → HighStop limit s xs rest
high_stop limit [] s rest le e = absurd (no_high (stops s) rest e)
high_stop limit (t ∷ ts) s rest le e =
    let r = advance s t in
    let Q : Bool → Type 0 = λ v. ltb limit (step_peak r) ≡ v → cond v (Err (high (t ∷ ts))) (run_low limit r ts) ≡ Err (high rest) → HighStop limit s (t ∷ ts) rest in
    let both : Q (ltb limit (step_peak r)) = elim (ltb limit (step_peak r)) as Q [
      | true ↦ λ is g. record { front = []; token = t; others = ts; left = same_rest (t ∷ ts) rest g; parts = sym (same_rest (t ∷ ts) rest g); low = le; over = ltb-true limit (step_peak r) is }
      | false ↦ λ is g. (let w = high_stop limit ts r rest (ltb-false limit (step_peak r) is) g in
          record { front = t ∷ w.front; token = w.token; others = w.others; left = w.left; parts = ap (λ (ys : List Lexeme). t ∷ ys) w.parts; low = (le, w.low); over = w.over })
    ] in
    both refl e

same_refusal : (r : Result ModuleTree Refusal) (q : Refusal) → stop_of r ≡ Err (refused q) → r ≡ Err q
same_refusal (Ok m) q e = absurd cc
same_refusal (Err r) q e = let same : r ≡ q = cc in ap (λ (x : Refusal). let y : Result ModuleTree Refusal = Err x in y) same

pub refused_low : (limit : ℕ) (xs : List Lexeme) (s : Step) (q : Refusal) → step_peak s ≤ limit → run_low limit s xs ≡ Err (refused q) → (run s xs ≡ Err q) × LowAlong limit s xs
refused_low limit [] s q le e = (same_refusal (stops s) q e, le)
refused_low limit (t ∷ ts) s q le e =
    let r = advance s t in
    let Q : Bool → Type 0 = λ v. ltb limit (step_peak r) ≡ v → cond v (Err (high (t ∷ ts))) (run_low limit r ts) ≡ Err (refused q) → (run r ts ≡ Err q) × ((step_peak s ≤ limit) × LowAlong limit r ts) in
    let both : Q (ltb limit (step_peak r)) = elim (ltb limit (step_peak r)) as Q [
      | true ↦ λ is g. absurd cc
      | false ↦ λ is g. (let w = refused_low limit ts r q (ltb-false limit (step_peak r) is) g in (w.0, (le, w.1)))
    ] in
    both refl e

pub found_low : (limit : ℕ) (xs : List Lexeme) (s : Step) (m : ModuleTree) → step_peak s ≤ limit → run_low limit s xs ≡ Ok m → LowAlong limit s xs
found_low limit [] s m le e = le
found_low limit (t ∷ ts) s m le e =
    let r = advance s t in
    let Q : Bool → Type 0 = λ v. ltb limit (step_peak r) ≡ v → cond v (Err (high (t ∷ ts))) (run_low limit r ts) ≡ Ok m → (step_peak s ≤ limit) × LowAlong limit r ts in
    let both : Q (ltb limit (step_peak r)) = elim (ltb limit (step_peak r)) as Q [
      | true ↦ λ is g. absurd cc
      | false ↦ λ is g. (le, found_low limit ts r m (ltb-false limit (step_peak r) is) g)
    ] in
    both refl e

-- no front of what is read within the limit begins a module with a node above it
pub none_in_found : (limit : ℕ) (xs : List Lexeme) (m : ModuleTree) → run_low limit at_start xs ≡ Ok m → (n : ℕ) → ¬ BeginsHigh limit (take n xs)
none_in_found limit xs m e n = none_high limit (take n xs) (low_front limit n at_start xs (found_low limit xs at_start m (omega arith) e))

pub none_in_refused : (limit : ℕ) (xs : List Lexeme) (q : Refusal) → run_low limit at_start xs ≡ Err (refused q) → (n : ℕ) → ¬ BeginsHigh limit (take n xs)
none_in_refused limit xs q e n = let w = refused_low limit xs at_start q (omega arith) e in none_high limit (take n xs) (low_front limit n at_start xs w.1)

front_is : (xs front rest : List Lexeme) (k : ℕ) → k ≤ length xs → drop k xs ≡ rest → xs ≡ front ++ rest → (length front ≡ k) × (take k xs ≡ front)
front_is xs front rest k le is e =
    let len : length front ≡ k = omega (arith, ap length e, length-append front rest, length-drop k xs, ap length is) in
    (len, ap (take k) e ∙ take_at front rest k len)

pub none_before : (limit : ℕ) (xs : List Lexeme) (k : ℕ) → k ≤ length xs → run_low limit at_start xs ≡ Err (high (drop k xs)) → (j : ℕ) → j < k → ¬ BeginsHigh limit (take (j + 1) xs)
none_before limit xs k le e j lt v =
    let w = high_stop limit xs at_start (drop k xs) (omega arith) e in
    let f = front_is xs w.front (drop k xs) k le refl w.parts in
    let less : j + 1 ≤ length w.front = omega (arith, f.0) in
    let same : take (j + 1) xs ≡ take (j + 1) w.front = ap (take (j + 1)) w.parts ∙ take-append-le (j + 1) w.front (drop k xs) less in
    none_high limit (take (j + 1) w.front) (low_front limit (j + 1) at_start w.front w.low) (subst (BeginsHigh limit) same v)
