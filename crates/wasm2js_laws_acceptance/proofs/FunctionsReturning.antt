-- Statements of functions that are made for a purpose: returns, and foreign calls.
use Rattle.std.proofs.Common.{◌≡◌, ℕ, ◌+◌, ◌≤◌, true, List, [], ◌∷◌, ◌++◌, Some, refl, sym, subst, arith}
use Rattle.std.specs.List.{AllByRecursion}
use Rattle.asm_types.specs.declared.value_type.ValueType.TheVariants.{Fixnum, Signed}
use Rattle.asm_lang.specs.Modules.{Expr, returns}
use Rattle.asm_lang_valid.specs.Typing.{Scope, Around, result_of}
use Rattle.asm_lang_valid.specs.LimitRows.{ForeignCall, Mark, expr_marks}
use Rattle.wasm2js_translation.specs.Words.{natural}
use Rattle.wasm2js_laws_terms.specs.Laws.{IsFineExpr, IsFine}
use Rattle.wasm2js_laws_terms.proofs.FineExprs.{is_typed_below}
use Rattle.wasm2js_laws_terms.proofs.FineActions.{both_true, no_marks}
use Rattle.wasm2js_laws_acceptance.specs.FunctionsFunctions.{IsUse}

-- ---- returns

pub returned_fine : (s : Scope) (a : Around) (e : Expr) (h : ℕ) → result_of s ≡ true → IsFineExpr s e Signed h → IsFine s a (returns (Some e)) (1 + h)
returned_fine s a e h gives f = record {
  is_typed = both_true _ _ gives (is_typed_below s f);
  printed = f.printed;
  low = one_more f.low;
  marks = λ at. no_marks (expr_marks s (at + 1) e) (f.no_marks (at + 1));
}
  where
    one_more : {k : ℕ} → k ≤ h → 1 + k ≤ 1 + h
    one_more p = omega (arith, p)

pub zero_signed : (s : Scope) → IsFineExpr s (natural 0) Signed 1
zero_signed s = record { type = Fixnum; has_type = refl; below = refl; no_call = refl; printed = omega arith; low = omega arith; no_marks = λ at. refl }

-- ---- foreign calls

pub uses_join : (uses : List ForeignCall) (a b : List Mark) → AllByRecursion (IsUse uses) a → AllByRecursion (IsUse uses) b → AllByRecursion (IsUse uses) (a ++ b)
uses_join uses [] b p q = q
uses_join uses (x ∷ a) b p q = (p.0, uses_join uses a b p.1 q)

pub uses_none : (uses : List ForeignCall) (a : List Mark) → a ≡ [] → AllByRecursion (IsUse uses) a
uses_none uses a e = subst (AllByRecursion (IsUse uses)) (sym e) tt
