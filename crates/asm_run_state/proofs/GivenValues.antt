-- The values that a script gives rest on its lines of globals alone.
use Rattle.std.proofs.Common.{◌≡◌, ℕ, Bool, true, false, List, [], ◌∷◌, Option, Some, None, bytes_eq, refl, ap, ◌∙◌}
use Rattle.std.specs.Prelude.{ℤ, pos, if◌then◌else◌}
use Rattle.session_lang.specs.Script.{GlobalPlain, ScriptPlain}
use Rattle.asm_lang.specs.Trees.{Init, number, decimal, foreign_int, foreign_double, member, math, view}
use Rattle.asm_lang.specs.Modules.{Variable}
use Rattle.script_lines.specs.GlobalLines.{given}
use Rattle.asm_lang_exec.specs.Session.{given_value, global_value, with_binding, first_globals}
use Rattle.asm_run_state.specs.Globals.{only_globals}

-- ---- one value

abbrev or_zero : Option ℤ → ℤ
or_zero None = pos 0
or_zero (Some z) = z

either_value : (b : Bool) (z v : ℤ) (o : Option ℤ) → v ≡ or_zero o → (if b then z else v) ≡ or_zero (if b then Some z else o)
either_value true z v o e = refl
either_value false z v o e = e

given_is : (gs : List GlobalPlain) (n : List ℕ) → given_value gs n ≡ or_zero (given gs n)
given_is [] n = refl
given_is (g ∷ gs) n = either_value (bytes_eq g.name n) g.value (given_value gs n) (given gs n) (given_is gs n)

pub value_given : (gs : List GlobalPlain) (n : List ℕ) (z : ℤ) → given gs n ≡ Some z → given_value gs n ≡ z
value_given gs n z e = given_is gs n ∙ ap or_zero e

pub no_value_given : (gs : List GlobalPlain) (n : List ℕ) → given gs n ≡ None → given_value gs n ≡ pos 0
no_value_given gs n e = given_is gs n ∙ ap or_zero e

-- ---- the variables

value_by_lines : (s : ScriptPlain) (i : Init) → global_value s i ≡ global_value (only_globals s.globals) i
value_by_lines s (number z) = refl
value_by_lines s (decimal bs) = refl
value_by_lines s (foreign_int f n) = refl
value_by_lines s (foreign_double f n) = refl
value_by_lines s (member f n) = refl
value_by_lines s (math f n) = refl
value_by_lines s (view f n b) = refl

pub by_lines : (s : ScriptPlain) (vs : List Variable) → first_globals s vs ≡ first_globals (only_globals s.globals) vs
by_lines s [] = refl
by_lines s (v ∷ vs) =
    ap (λ o. with_binding v.name o (first_globals s vs)) (value_by_lines s v.init)
    ∙ ap (with_binding v.name (global_value (only_globals s.globals) v.init)) (by_lines s vs)
