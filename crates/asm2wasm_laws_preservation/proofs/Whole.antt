-- The laws of expressions.
use Rattle.std.proofs.Common.{true, false, []}
use Rattle.asm_lang_valid.specs.LimitRows.{expr_marks, call_marks}
use Rattle.asm_lang_valid.specs.Typing.{is_call}
use Rattle.asm_lang_exec.specs.Meaning.{eval}
use Rattle.asm_laws_sound.proofs.Members.{accepted_is_typed}
use Rattle.asm_laws_sound.proofs.Expressions.{Valued}
use Rattle.asm2wasm_translation.specs.Values.{expr_code}
use Rattle.asm2wasm_laws_preservation.specs.Kept.{Fits, result}
use Rattle.asm2wasm_laws_preservation.specs.Laws.{scope, ExpressionsAreKept, CallsAreKept, EffectsAreKept}
use Rattle.asm2wasm_laws_preservation.proofs.Joined.{keeps_weaker}
use Rattle.asm2wasm_laws_preservation.proofs.Evaluated.{value_kept, call_kept, effect_kept}

pub expressions_are_kept : ExpressionsAreKept
expressions_are_kept s limit calls e wanted t d at is kept h room l =
    keeps_weaker s limit d [] (Valued t e) (Fits t) (result wanted) (expr_code s.heap (scope s) wanted d e) (eval true calls (scope s) e) (λ v g. g.0)
    (value_kept s limit calls kept is.given is.heap_fits (accepted_is_typed s.home is.accepted) e wanted t d at h room l)

pub calls_are_kept : CallsAreKept
calls_are_kept s limit calls e wanted d at is kept h room l = call_kept s limit calls kept is.given is.heap_fits (accepted_is_typed s.home is.accepted) e wanted d at h room l

pub effects_are_kept : EffectsAreKept
effects_are_kept s limit calls e d at is kept h room l =
    let ok = accepted_is_typed s.home is.accepted in
    effect_kept s limit calls kept is.given is.heap_fits ok e d (call_marks (scope s) false at e) (expr_marks (scope s) at e) (is_call (scope s) e) h l
    (λ fits ls. call_kept s limit calls kept is.given is.heap_fits ok e false d at fits room ls)
    (λ t typed ls. value_kept s limit calls kept is.given is.heap_fits ok e false t d at typed room ls)
