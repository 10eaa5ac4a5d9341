-- Code that asks a helper for one word: quotients, remainders and set bits.
use Rattle.std.proofs.Common.{◌≡◌, ℕ, ◌+◌, ◌≤◌, true, false, List, [], ◌∷◌, ◌++◌, length, Result, Ok, Err, refl, sym, ap, ◌∙◌, subst, arith}
use Rattle.sem_words.specs.declared.word.Bin.{Bin}
use Rattle.sem_words.specs.declared.word.Bin.TheVariants.{DivS, DivU, RemS, RemU}
use Rattle.sem_words.specs.declared.word.Un.TheVariants.{Popcnt}
use Rattle.sem_words.specs.declared.word.TrapKind.{TrapKind}
use Rattle.sem_words.specs.Words.{bin_of, set_bits_of}
use Rattle.session_lang.specs.Imports.{Replies}
use Rattle.session_lang.specs.Observation.{EventPlain}
use Rattle.wasm_lang.specs.declared.types.ValType.{ValType}
use Rattle.wasm_lang.specs.declared.types.ValType.TheVariants.{I32}
use Rattle.wasm_lang.specs.Instructions.{Plain, bin32, un32}
use Rattle.wasm_lang_exec.specs.Plain.{Effect, do_plain, answer32}
use Rattle.wasm_laws_drive.specs.Equations.{is_constant}
use Rattle.wasm2js_translation.specs.Names as names
use Rattle.wasm2js_translation.specs.Names.{Fixed}
use Rattle.wasm2js_translation.specs.Words.{Term, read, ask, simply}
use Rattle.wasm2js_translation.specs.Actions.{low}
use Rattle.wasm2js_translation.specs.Bodies.{after_plain}
use Rattle.wasm2js_laws_places.specs.Straight.{Words, values, Helping, is_helper, Outcome, goes, stops, asked, then_do, units_after, ActionsAsk, run_actions, actions_units}
use Rattle.wasm2js_laws_places.specs.Places.{operands, locals_of, store_with}
use Rattle.wasm2js_laws_helpers.specs.Answers.{checked, divided, length_of}
use Rattle.wasm2js_laws_helpers.proofs.Bits.{few_units}
use Rattle.wasm2js_laws_preservation.specs.ControlControl.{Function}
use Rattle.wasm2js_laws_preservation.specs.InstructionsPlain.{IsAlike, IsPlain, code_of, AnswersAtOnce, Supports, Always}
use Rattle.wasm2js_laws_preservation.proofs.PlainPuts.{word_alike}
use Rattle.wasm2js_laws_typed.proofs.SoundPlain.{of_fixed}

no_units_after : (helping : Helping) (o : Outcome) → units_after o (actions_units helping []) ≡ 0
no_units_after helping (goes words heap) = refl
no_units_after helping (stops kind heap) = refl

no_more : (helping : Helping) (cost most : ℕ) (o : Outcome) → cost ≤ most → cost + units_after o (actions_units helping []) ≤ most
no_more helping cost most o h = let e = no_units_after helping o in omega (arith, h, e)

module _ (f : Function) (helping : Helping) (p : Plain) (b : ℕ) (ts below : List ValType) (helper : Fixed) (args : List Term) (of : Words → Result ℕ TrapKind) where
  abbrev Effects : Words → List ℕ → Replies → List EventPlain → Effect → Type 0
  Effects words heap replies events e =
      IsAlike f helping b (I32 ∷ below) words heap replies events e (then_do (asked (low (b + length below)) (helping.answer helper (values args words heap) heap) words heap) (run_actions helping []))

  answered : (words : Words) (heap : List ℕ) (replies : Replies) (events : List EventPlain) (r : Result ℕ TrapKind)
      → IsAlike f helping b (I32 ∷ below) words heap replies events (answer32 r (operands b below words) (locals_of f.context.locals words) (store_with f.setting words heap replies events))
      (then_do (asked (low (b + length below)) (checked r heap) words heap) (run_actions helping []))
  answered words heap replies events (Ok n) = word_alike f helping b below words heap replies events n
  answered words heap replies events (Err kind) = (refl, refl)

  pub asked_is : after_plain f.context p ts ≡ I32 ∷ below → code_of f helping p b ts ≡ simply (ask (low (b + length below)) helper args) ∷ [] → is_helper helper ≡ true → is_constant p ≡ false
      → ((words : Words) (heap : List ℕ) → helping.cost helper (values args words heap) ≤ f.pace)
      → ((words : Words) (heap : List ℕ) → helping.answer helper (values args words heap) heap ≡ checked (of words) heap)
      → ((words : Words) (heap : List ℕ) (replies : Replies) (events : List EventPlain)
      → do_plain p (operands b ts words) (locals_of f.context.locals words) (store_with f.setting words heap replies events)
      ≡ answer32 (of words) (operands b below words) (locals_of f.context.locals words) (store_with f.setting words heap replies events))
      → IsPlain f helping p b ts (I32 ∷ below)
  asked_is types code helps not_constant cheap answer does = record {
    types = types;
    asks = subst ActionsAsk (sym code) (helps, tt);
    paid = λ words heap.
        subst (λ c. actions_units helping c words heap ≤ f.pace) (sym code)
        (no_more helping (helping.cost helper (values args words heap)) f.pace (asked (low (b + length below)) (helping.answer helper (values args words heap) heap) words heap) (cheap words heap));
    free = λ e words heap. absurd (cc (sym e ∙ not_constant));
    alike = λ words heap replies events are_words is_heap.
        subst (λ c. IsAlike f helping b (I32 ∷ below) words heap replies events (do_plain p (operands b ts words) (locals_of f.context.locals words) (store_with f.setting words heap replies events)) (run_actions helping c words heap))
        (sym code)
        (subst (λ e. Effects words heap replies events e) (sym (does words heap replies events))
        (subst (λ a. IsAlike f helping b (I32 ∷ below) words heap replies events (answer32 (of words) (operands b below words) (locals_of f.context.locals words) (store_with f.setting words heap replies events))
        (then_do (asked (low (b + length below)) a words heap) (run_actions helping []))) (sym (answer words heap)) (answered words heap replies events (of words))));
  }

-- ---- quotients and remainders

divided_is : (op : Bin) (helper : Fixed) → is_helper helper ≡ true
    → ((f : Function) (helping : Helping) (b : ℕ) (below : List ValType)
    → code_of f helping (bin32 op) b (I32 ∷ I32 ∷ below) ≡ simply (ask (low (b + length below)) helper (read (low (b + length below)) ∷ read (low (b + length below + 1)) ∷ [])) ∷ [])
    → ((f : Function) (helping : Helping) → Supports f helping → AnswersAtOnce helping helper (divided op)) → Always (bin32 op)
divided_is op helper helps code answers f helping supports ls b form takes gives below is acts =
    of_fixed (λ takes gives. IsPlain f helping (bin32 op) b (takes ++ below) (gives ++ below)) (I32 ∷ I32 ∷ []) (I32 ∷ []) takes gives form is acts
    (asked_is f helping (bin32 op) b (I32 ∷ I32 ∷ below) below helper (read (low d) ∷ read (low (d + 1)) ∷ []) (λ words. bin_of 32 op (words (low d)) (words (low (d + 1)))) refl (code f helping b below) helps refl
    (λ words heap. let once = (answers f helping supports (words (low d) ∷ words (low (d + 1)) ∷ []) heap).1 in let pace = supports.pace in omega (arith, once, pace))
    (λ words heap. (answers f helping supports (words (low d) ∷ words (low (d + 1)) ∷ []) heap).0)
    (λ words heap replies events.
    ap (λ n. answer32 (bin_of 32 op (words (low d)) (words (low n))) (operands b below words) (locals_of f.context.locals words) (store_with f.setting words heap replies events)) top))
  where
    d : ℕ
    d = b + length below

    top : b + length (I32 ∷ below) ≡ b + length below + 1
    top = omega arith

pub quotient_signed_is : Always (bin32 DivS)
quotient_signed_is = divided_is DivS names.divide_signed refl (λ f helping b below. refl) (λ f helping supports. supports.helpers.divide_signed)

pub quotient_is : Always (bin32 DivU)
quotient_is = divided_is DivU names.divide refl (λ f helping b below. refl) (λ f helping supports. supports.helpers.divide)

pub rest_signed_is : Always (bin32 RemS)
rest_signed_is = divided_is RemS names.remainder_signed refl (λ f helping b below. refl) (λ f helping supports. supports.helpers.remainder_signed)

pub rest_is : Always (bin32 RemU)
rest_is = divided_is RemU names.remainder refl (λ f helping b below. refl) (λ f helping supports. supports.helpers.remainder)

-- ---- set bits

pub few_enough : (cost a pace : ℕ) → cost ≡ 2 + length_of 32 a → 68 ≤ pace → cost ≤ pace
few_enough cost a pace e h = let few = few_units a in omega (arith, e, h, few)

pub set_bits_is : Always (un32 Popcnt)
set_bits_is f helping supports ls b form takes gives below is acts =
    of_fixed (λ takes gives. IsPlain f helping (un32 Popcnt) b (takes ++ below) (gives ++ below)) (I32 ∷ []) (I32 ∷ []) takes gives form is acts
    (let d = b + length below in
    asked_is f helping (un32 Popcnt) b (I32 ∷ below) below names.set_bits (read (low d) ∷ []) (λ words. Ok (set_bits_of 32 (words (low d)))) refl refl refl refl
    (λ words heap. few_enough (helping.cost names.set_bits (words (low d) ∷ [])) (words (low d)) f.pace (supports.helpers.set_bits (words (low d) ∷ []) heap).1 supports.pace)
    (λ words heap. (supports.helpers.set_bits (words (low d) ∷ []) heap).0) (λ words heap replies events. refl))
