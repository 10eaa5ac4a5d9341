-- The laws of calls of functions.
use Rattle.std.proofs.Common.{◌≡◌, ◌+◌, true, length, Some, sym, subst}
use Rattle.wasm_lang_exec.specs.Reductions.{a_function, callee_at}
use Rattle.asm_lang_valid.specs.Scope.{signature_of}
use Rattle.asm_lang_valid.specs.Typed.{scope_of}
use Rattle.asm_lang_valid.specs.LimitRows.{foreign_calls}
use Rattle.asm_lang_exec.specs.Meaning.{call_at}
use Rattle.asm2wasm_translation.specs.Bodies.{function_code}
use Rattle.asm2wasm_translation.specs.Modules.{type_for, body_for}
use Rattle.asm2wasm_laws_acceptance.specs.Laws.{FunctionsAreCalled, CallsAreMade}
use Rattle.asm2wasm_laws_preservation.specs.Kept.{Surroundings}
use Rattle.asm2wasm_laws_preservation.specs.Made.{IsMade}
use Rattle.asm2wasm_laws_preservation.proofs.Entries.{all_calls_are_kept}
use Rattle.asm2wasm_laws_simulation.specs.Functions.Laws.{AreTranslated, UnitsPay, FunctionsAreKept, CallsInModulesAreKept}
use Rattle.asm2wasm_laws_simulation.proofs.Functions.Kept.{Known, own_kept}

known : FunctionsAreCalled → CallsAreMade → (s : Surroundings) → AreTranslated s → UnitsPay s → Known s
known are_called are_made s is pay = record {
  accepted = is.accepted;
  made = subst (λ w. IsMade w s.fixed s.home) (sym is.target) (are_made s.home s.heap s.fixed is.accepted.accepted is.entries);
  functions = λ n g h.
      subst (λ w. callee_at w (length (foreign_calls s.home) + n) ≡ Some (a_function (type_for (signature_of g)) (body_for s.home s.heap g).locals (function_code s.heap (scope_of s.home g)))) (sym is.target)
      (are_called s.home s.heap n g h);
  pay = pay;
}

pub functions_are_kept : FunctionsAreCalled → CallsAreMade → FunctionsAreKept
functions_are_kept are_called are_made s limit bound is pay le = own_kept bound s limit (known are_called are_made s is pay) le

pub calls_in_modules_are_kept : FunctionsAreCalled → CallsAreMade → CallsInModulesAreKept
calls_in_modules_are_kept are_called are_made s limit bound is pay le =
    let k = known are_called are_made s is pay in
    all_calls_are_kept s limit (call_at true s.home bound) k.accepted k.made (own_kept bound s limit k le)
