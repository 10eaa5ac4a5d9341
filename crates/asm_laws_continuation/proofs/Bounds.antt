-- A larger bound changes nothing, from each place with no more units.
use Rattle.std.proofs.Common.{◌≡◌, ℕ, ◌+◌, ◌≤◌, Bool, [], Option, ap, ◌∙◌, subst, arith}
use Rattle.asm_lang.specs.Modules.{Expr, Stmt, Module}
use Rattle.asm_lang_valid.specs.Typing.{Scope}
use Rattle.asm_lang_exec.specs.Runs.{Place, Run, goes, stops, spent, wrong, Part}
use Rattle.asm_lang_exec.specs.Meaning.{exec_test, exec_part, exec, call_at}
use Rattle.asm_lang_exec.proofs.Grown.{more, Grows, Grown}
use Rattle.asm_lang_exec.proofs.Growth.{CallsGrow, call_grown, turns_grown, do_turns_grown, exec_grown, part_grown, test_grown}
use Rattle.asm_laws_continuation.specs.Laws.{CallsAreBounded, TurnsAreBounded, DoTurnsAreBounded}

more_none : (p : Place) → more 0 p ≡ p
more_none p = let e : p.units + 0 ≡ p.units = omega arith in ap (λ n. record p { units = n }) e

grows_same : {A : Type 0} (n : ℕ) (r r' : Run A) → Grows n 0 r r' → r' ≡ r
grows_same n (goes a p) r' h = h.1 ∙ ap (λ p. goes a p) (more_none p)
grows_same n (stops e p) r' h = h ∙ ap (λ p. stops e p) (more_none p)
grows_same n (spent p) r' h = h ∙ ap (λ p. spent p) (more_none p)
grows_same n wrong r' h = h

grown_same : {A : Type 0} (f f' : Part A) (p : Place) → Grown p.units 0 f f' → f' p ≡ f p
grown_same f f' p h = subst (λ q. f' q ≡ f p) (more_none p) (grows_same p.units (f p) (f' (more 0 p)) (h.grows p (omega arith)))

pub calls_are_bounded : CallsAreBounded
calls_are_bounded checks m n bound f vs p h k = grown_same _ _ p (call_grown checks m bound n p.units 0 h (omega (arith, h, k)) f vs)

module _ (checks : Bool) (m : Module) (c : Scope) (bound u : ℕ) (h : u ≤ bound) where
  abbrev same_calls : CallsGrow u 0 (call_at checks m bound) (call_at checks m bound)
  same_calls = call_grown checks m bound bound u 0 h (omega (arith, h))

  same_test : (y : Option Expr) → Grown u 0 (exec_test checks (call_at checks m bound) c bound y) (exec_test checks (call_at checks m bound) c bound y)
  same_test y = test_grown checks c u 0 bound bound h (omega (arith, h)) _ _ same_calls y

  same_body : (s : Stmt) → Grown u 0 (exec checks (call_at checks m bound) c bound [] s) (exec checks (call_at checks m bound) c bound [] s)
  same_body s = exec_grown checks c u 0 bound bound h (omega (arith, h)) _ _ same_calls [] s

  same_step : (z : Option Expr) → Grown u 0 (exec_part checks (call_at checks m bound) c bound z) (exec_part checks (call_at checks m bound) c bound z)
  same_step z = part_grown checks c u 0 bound bound h (omega (arith, h)) _ _ same_calls z

pub turns_are_bounded : TurnsAreBounded
turns_are_bounded checks m c n bound own y z s p h k =
    let le : p.units ≤ bound = omega (arith, h, k) in
    grown_same _ _ p (turns_grown own 0 _ _ _ _ _ _ p.units n bound h (omega (arith, h, k)) (same_test checks m c bound p.units le y) (same_body checks m c bound p.units le s) (same_step checks m c bound p.units le z))

pub do_turns_are_bounded : DoTurnsAreBounded
do_turns_are_bounded checks m c n bound own y s p h k =
    let le : p.units ≤ bound = omega (arith, h, k) in
    grown_same _ _ p (do_turns_grown own 0 _ _ _ _ p.units n bound h (omega (arith, h, k)) (same_test checks m c bound p.units le y) (same_body checks m c bound p.units le s))
