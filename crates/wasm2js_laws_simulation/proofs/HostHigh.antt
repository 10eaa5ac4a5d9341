-- The call of `$hi`: it takes a unit that no reduction pays for, and gives the high word of the last result.
use Rattle.std.proofs.Common.{◌≡◌, ℕ, zero, suc, ◌+◌, ◌≤◌, Bool, true, false, [], ◌∷◌, ◌++◌, pos, refl, ap, ◌∙◌, arith}
use Rattle.std.specs.Prelude.{if◌then◌else◌}
use Rattle.std.specs.Int.Bits.{bit_or}
use Rattle.sem_words.specs.declared.js_value.JsValue.{JsValue}
use Rattle.sem_words.specs.declared.js_value.JsValue.TheVariants.{Whole}
use Rattle.sem_words.specs.declared.js_value.JsOp.TheVariants.{Or}
use Rattle.sem_words.specs.JsValues.{to_uint32_of}
use Rattle.sem_words.specs.JsOperators.{js_binary_of, signed_value}
use Rattle.session_lang.specs.Observation.{EventPlain, running}
use Rattle.session_lang.specs.Simulation.{Comparison, TargetIsBelow}
use Rattle.session_lang.specs.Laws.{KeepsOrder}
use Rattle.wasm_lang.specs.Modules.{WasmModule}
use Rattle.asm_lang_valid.specs.Scope.{is_in}
use Rattle.asm_lang_valid.specs.Typed.{scope_of}
use Rattle.asm_lang_exec.specs.Runs.{Place, Part, spent, and_then, defined, paid, read, back_to}
use Rattle.asm_lang_exec.specs.Meaning.{returned, first_locals, function_end}
use Rattle.asm_laws_continuation.specs.Following.{call_at_to, exec_all_to, with_locals_to}
use Rattle.wasm2js_translation.specs.Names.{Name, fixed, result_high, spelled}
use Rattle.wasm2js_translation.specs.Bodies.{high_result}
use Rattle.wasm2js_translation.specs.Modules.{high_function, translated}
use Rattle.wasm2js_laws_places.specs.Following.{Rest, Follows}
use Rattle.wasm2js_laws_places.proofs.Paced.{free_units, unpaid_stops}
use Rattle.wasm2js_laws_places.specs.Places.{is_own, word_at, names_in, AreApart}
use Rattle.wasm2js_laws_actions.proofs.Reading.{read_then}
use Rattle.wasm2js_laws_actions.proofs.Variables.{variable_read}
use Rattle.wasm2js_laws_simulation.proofs.CallsReturned.{signed_word}

-- the host has no variables
pub host_apart : (p : Place) → ((n : Name) → is_own n ≡ true → is_in (spelled n) (names_in p.globals) ≡ false) → p.locals ≡ [] → AreApart p
host_apart p names none n = by (is_own n) refl
  where
    by : (b : Bool) → is_own n ≡ b → is_in (spelled n) (names_in (if b then p.globals else p.locals)) ≡ false
    by true e = names n e
    by false e = ap (λ bs. is_in (spelled n) (names_in bs)) none

-- of a call from a place with one event more than q
module _ (w : WasmModule) (by : Comparison) (keeps : KeepsOrder by) (c z : ℕ) (q : Place) (names : (n : Name) → is_own n ≡ true → is_in (spelled n) (names_in q.globals) ≡ false)
    (e : EventPlain) (r : Rest) (shows : TargetIsBelow by (running (q.events ++ e ∷ [])) (r 0)) (next : JsValue → Part (Unit {0})) where
  abbrev pub shown : ℕ → Place
  shown u = record q { events = q.events ++ e ∷ []; units = u }

  abbrev IsHigh : Part (Unit {0}) → Type 0
  IsHigh run = Follows by c (z + 1) q r (run (shown q.units))

  module _ (go : (u : ℕ) → q.units ≡ suc u → (v : JsValue) → to_uint32_of v ≡ word_at q (fixed result_high) → Follows by c z (shown u) r (next v (shown u))) where
    no_unit : q.units ≡ 0 → Follows by c (z + 1) q r (spent (shown q.units))
    no_unit h = unpaid_stops by keeps c (z + 1) 0 q (shown q.units) r (omega (arith, h)) (e ∷ [], refl) shows

    abbrev inside : ℕ → Place
    inside u = record (shown u) { locals = [] }

    abbrev comes_back : JsValue → Part (Unit {0})
    comes_back v = and_then (function_end (returned v)) (λ a. and_then (back_to q.locals a) next)

    read_high : (u : ℕ) → q.units ≡ suc u
        → Follows by c z (shown u) r (and_then (read (spelled high_result)) (λ v. and_then (defined (js_binary_of Or v (Whole (pos 0)))) comes_back) (inside u))
    read_high u h =
        read_then (Follows by c z (shown u) r) (word_at (inside u) high_result) (inside u) (read (spelled high_result) (inside u))
        (λ v. and_then (defined (js_binary_of Or v (Whole (pos 0)))) comes_back) tt (variable_read high_result (inside u) (host_apart (inside u) names refl))
        (λ v is. go u h (signed_value (bit_or (to_uint32_of v) 0)) (signed_word v ∙ is))

    abbrev called : (bound : ℕ) → Part (Unit {0})
    called bound = and_then (defined (first_locals high_function []))
        (λ locals. with_locals_to locals (λ next. exec_all_to (call_at_to (translated w) bound) (scope_of (translated w) high_function) bound high_function.body (λ d. and_then (function_end d) next)) next)

    by_units : (bound u : ℕ) → q.units ≡ u → Follows by c (z + 1) q r (and_then (paid u) (λ _. called bound) (shown q.units))
    by_units bound zero h = no_unit h
    by_units bound (suc u) h = free_units by keeps c z 1 q (shown u) r (called bound (shown u)) (omega (arith, h)) (e ∷ [], refl) (read_high u h)

    pub high_called : (bound : ℕ) → q.units ≤ bound → IsHigh (call_at_to (translated w) bound high_function [] next)
    high_called zero few = no_unit (omega (arith, few))
    high_called (suc bound) few = by_units bound q.units refl
