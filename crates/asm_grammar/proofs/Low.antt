-- One token of reading within a limit.
use Rattle.std.proofs.Common.{◌≡◌, ℕ, cond, ltb, ◌<◌, ◌≤◌, List, [], ◌∷◌, ◌++◌, Result, Err, append_assoc, refl, sym, ap, ◌∙◌, arith}
use Rattle.std.proofs.lemmas.Bool.{lt-ltb, le-ltb, cond-true, cond-false}
use Rattle.std.proofs.lemmas.List.{append-nil}
use Rattle.asm_lang.specs.Lexemes.{Lexeme}
use Rattle.asm_lang.specs.Trees.{ModuleTree}
use Rattle.asm_lang.specs.Machine.{Fault, Step, refuses, advance}
use Rattle.asm_laws_height.specs.Peaks.{step_peak, Stop, high, run_low}
use Rattle.asm_grammar.specs.Ends.{stopped}

-- where a node above the limit ends
abbrev pub stops_high : List Lexeme → Result ModuleTree Stop
stops_high xs = Err (high xs)

pub high_low : (limit : ℕ) (s r : Step) (t : Lexeme) (ts : List Lexeme) → advance s t ≡ r → limit < step_peak r → run_low limit s (t ∷ ts) ≡ stops_high (t ∷ ts)
high_low limit s r t ts e lt = ap (λ (q : Step). cond (ltb limit (step_peak q)) (stops_high (t ∷ ts)) (run_low limit q ts)) e ∙ cond-true (ltb limit (step_peak r)) _ _ (lt-ltb limit (step_peak r) lt)

pub on_low : (limit : ℕ) (s r : Step) (t : Lexeme) (ts : List Lexeme) → advance s t ≡ r → step_peak r ≤ limit → run_low limit s (t ∷ ts) ≡ run_low limit r ts
on_low limit s r t ts e le = ap (λ (q : Step). cond (ltb limit (step_peak q)) (stops_high (t ∷ ts)) (run_low limit q ts)) e ∙ cond-false (ltb limit (step_peak r)) _ _ (le-ltb limit (step_peak r) le)

refuses_all : (limit : ℕ) (f : Fault) (xs back : List Lexeme) → run_low limit (refuses f back) xs ≡ stopped f (back ++ xs)
refuses_all limit f [] back = ap (stopped f) (sym (append-nil back))
refuses_all limit f (t ∷ ts) back = on_low limit (refuses f back) (refuses f (back ++ t ∷ [])) t ts refl (omega arith) ∙ (refuses_all limit f ts (back ++ t ∷ []) ∙ ap (stopped f) (append_assoc back (t ∷ []) ts))

pub refused_low : (limit : ℕ) (s : Step) (f : Fault) (t : Lexeme) (ts : List Lexeme) → advance s t ≡ refuses f (t ∷ []) → run_low limit s (t ∷ ts) ≡ stopped f (t ∷ ts)
refused_low limit s f t ts e = on_low limit s (refuses f (t ∷ [])) t ts e (omega arith) ∙ refuses_all limit f ts (t ∷ [])
