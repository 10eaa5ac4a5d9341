-- Instructions without code.
use Rattle.std.proofs.Common.{◌≡◌, ℕ, ◌+◌, ◌*◌, ◌%◌, ◌^◌, ◌<◌, ◌≤◌, List, [], ◌∷◌, ◌++◌, length, refl, sym, ap, subst, arith}
use Rattle.sem_words.specs.declared.word.Word.TheVariants.{W32}
use Rattle.session_lang.specs.Imports.{Replies}
use Rattle.session_lang.specs.Observation.{EventPlain}
use Rattle.wasm_lang.specs.declared.types.ValType.{ValType}
use Rattle.wasm_lang.specs.declared.types.ValType.TheVariants.{I32, I64}
use Rattle.wasm_lang.specs.Instructions.{Plain, nop, drop_operand, wrap}
use Rattle.wasm_lang_valid.specs.Typing.{AnyOne, Acts, any_one}
use Rattle.wasm_lang_exec.specs.Plain as machine
use Rattle.wasm_lang_exec.specs.Plain.{do_plain}
use Rattle.wasm2js_translation.specs.Names.{numbered, operand_high}
use Rattle.wasm2js_translation.specs.Bodies.{after_plain}
use Rattle.wasm2js_translation.specs.Actions.{low}
use Rattle.wasm2js_laws_places.specs.Straight.{Words, Helping, goes, ActionsAsk, run_actions, actions_units}
use Rattle.wasm2js_laws_places.specs.Places.{operands, locals_of, store_with}
use Rattle.wasm2js_laws_preservation.specs.ControlControl.{Function}
use Rattle.wasm2js_laws_preservation.specs.InstructionsPlain.{AreWords, IsAlike, IsPlain, code_of, Always}
use Rattle.wasm2js_laws_typed.proofs.SoundPlain.{of_fixed}
use Rattle.wasm2js_laws_preservation.proofs.PlainConstant.{drop_none}

silent_is : (f : Function) (helping : Helping) (p : Plain) (b : ℕ) (ts us : List ValType) → after_plain f.context p ts ≡ us → code_of f helping p b ts ≡ [] →
    ((words : Words) (heap : List ℕ) (replies : Replies) (events : List EventPlain) → AreWords words
    → do_plain p (operands b ts words) (locals_of f.context.locals words) (store_with f.setting words heap replies events) ≡ machine.goes (operands b us words) (locals_of f.context.locals words) (store_with f.setting words heap replies events))
    → IsPlain f helping p b ts us
silent_is f helping p b ts us types code does = record {
  types = types;
  asks = subst ActionsAsk (sym code) tt;
  paid = λ words heap. subst (λ c. actions_units helping c words heap ≤ f.pace) (sym code) (omega arith);
  free = λ e words heap. subst (λ c. actions_units helping c words heap ≡ 0) (sym code) refl;
  alike = λ words heap replies events are_words is_heap.
      subst (λ c. IsAlike f helping b us words heap replies events (do_plain p (operands b ts words) (locals_of f.context.locals words) (store_with f.setting words heap replies events)) (run_actions helping c words heap))
      (sym code)
      (subst (λ e. IsAlike f helping b us words heap replies events e (goes words heap)) (sym (does words heap replies events are_words))
      (refl, refl, refl, record { low = λ d less. refl; high = λ d less. refl }, refl));
}

pub nothing_is : Always nop
nothing_is f helping supports ls b form takes gives below is acts =
    of_fixed (λ takes gives. IsPlain f helping nop b (takes ++ below) (gives ++ below))
    [] [] takes gives form is acts (silent_is f helping nop b below below (drop_none below) refl (λ words heap replies events are. refl))

low_half : (a x : ℕ) → a < 2 ^ 32 → (a + 2 ^ 32 * x) % 2 ^ 32 ≡ a
low_half a x h = omega (arith, h)

pub wrapped_is : Always wrap
wrapped_is f helping supports ls b form takes gives below is acts =
    of_fixed (λ takes gives. IsPlain f helping wrap b (takes ++ below) (gives ++ below))
    (I64 ∷ []) (I32 ∷ []) takes gives form is acts
    (silent_is f helping wrap b (I64 ∷ below) (I32 ∷ below) refl refl
    (λ words heap replies events are.
    ap (λ x. machine.goes (W32 x ∷ operands b below words) (locals_of f.context.locals words) (store_with f.setting words heap replies events))
    (low_half (words (low (b + length below))) (words (numbered operand_high (b + length below))) (are (low (b + length below))))))

any_takes : (P : List ValType → List ValType → Type 0) {takes gives : List ValType} → Acts AnyOne takes gives → ((t : ValType) → P (t ∷ []) []) → P takes gives
any_takes P (any_one {t = t}) h = h t

pub dropped_is : Always drop_operand
dropped_is f helping supports ls b form takes gives below is acts =
    let e : AnyOne ≡ form = cc is in
    any_takes (λ takes gives. IsPlain f helping drop_operand b (takes ++ below) (gives ++ below))
    (subst (λ f. Acts f takes gives) (sym e) acts)
    (λ t. silent_is f helping drop_operand b (t ∷ below) below refl refl (λ words heap replies events are. refl))
