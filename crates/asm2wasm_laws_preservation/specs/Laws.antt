-- What holds of the code of expressions.
use Rattle.std.specs.Prelude.{◌≡◌, ℕ, Bool, true, false, [], length, Some}
use Rattle.heap_lang.specs.Heap.{IsHeapLength}
use Rattle.asm_types.specs.declared.value_type.ValueType.{ValueType}
use Rattle.asm_lang.specs.Modules.{Expr}
use Rattle.asm_lang_valid.specs.LimitRows.{expr_marks, call_marks, effect_marks, foreign_calls}
use Rattle.asm_lang_valid.specs.Refusal.{IsAccepted, foreign_globals, has_heap}
use Rattle.asm_lang_valid.specs.Typing.{Scope, type_of, call_fits, effect_fits}
use Rattle.asm_lang_valid.specs.Typed.{scope_of}
use Rattle.asm_lang_exec.specs.Values.{Calls}
use Rattle.asm_lang_exec.specs.Meaning.{eval}
use Rattle.asm2wasm_translation.specs.Values.{expr_code}
use Rattle.asm2wasm_laws_run.specs.State.{AnyValue}
use Rattle.asm2wasm_laws_preservation.specs.Kept.{Fits, no_value, result, Surroundings, Keeps}
use Rattle.asm2wasm_laws_preservation.specs.Made.{AllListed, Within, CallsKept, OwnKept, IsMade}

-- the surroundings are those of a function of an accepted module, whose foreign globals are given and whose heap has a length
pub record AreAccepted (s : Surroundings) : Type 0 where
  pub accepted : IsAccepted s.home
  pub given : length s.fixed.given ≡ length (foreign_globals s.home)
  pub heap_fits : has_heap s.home ≡ true → IsHeapLength s.heap

abbrev pub scope : Surroundings → Scope
scope s = scope_of s.home s.within

-- an expression of a type: its value is left where it is wanted. Its meaning is the checked one, which is the meaning of an accepted module
abbrev pub ExpressionsAreKept : Type 0
ExpressionsAreKept =
    (s : Surroundings) (limit : ℕ) (calls : Calls) (e : Expr) (wanted : Bool) (t : ValueType) (d at : ℕ) → AreAccepted s → CallsKept s limit calls
    → type_of (scope s) e ≡ Some t → Within s (expr_code s.heap (scope s) wanted d e) → AllListed (foreign_calls s.home) (expr_marks (scope s) at e)
    → Keeps s limit d [] (Fits t) (result wanted) (expr_code s.heap (scope s) wanted d e) (eval true calls (scope s) e)

-- a call with a result or without
abbrev pub CallsAreKept : Type 0
CallsAreKept =
    (s : Surroundings) (limit : ℕ) (calls : Calls) (e : Expr) (wanted : Bool) (d at : ℕ) → AreAccepted s → CallsKept s limit calls
    → call_fits (scope s) wanted e ≡ true → Within s (expr_code s.heap (scope s) wanted d e) → AllListed (foreign_calls s.home) (call_marks (scope s) wanted at e)
    → Keeps s limit d [] AnyValue (result wanted) (expr_code s.heap (scope s) wanted d e) (eval true calls (scope s) e)

-- an expression whose value isn't used
abbrev pub EffectsAreKept : Type 0
EffectsAreKept =
    (s : Surroundings) (limit : ℕ) (calls : Calls) (e : Expr) (d at : ℕ) → AreAccepted s → CallsKept s limit calls
    → effect_fits (scope s) e ≡ true → Within s (expr_code s.heap (scope s) false d e) → AllListed (foreign_calls s.home) (effect_marks (scope s) at e)
    → Keeps s limit d [] AnyValue no_value (expr_code s.heap (scope s) false d e) (eval true calls (scope s) e)

-- ---- calls that leave the function's module, or go by a table

-- where functions of the module are kept, so are all calls
abbrev pub AllCallsAreKept : Type 0
AllCallsAreKept = (s : Surroundings) (limit : ℕ) (calls : Calls) → AreAccepted s → IsMade s.target s.fixed s.home → OwnKept s limit calls → CallsKept s limit calls
