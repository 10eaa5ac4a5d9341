-- What is to be shown of each instruction that computes, reads or writes, with no asm.js in it: that its code does on words and the heap
-- what it does on operands, locals and the store.
use Rattle.std.specs.Prelude.{◌≡◌, ℕ, ◌^◌, ◌<◌, ◌≤◌, true, List, ◌++◌, map, drop, Ok}
use Rattle.sem_words.specs.declared.word.Bin.TheVariants as bins
use Rattle.sem_words.specs.Words.{trap_code, shl_of, shr_s_of, shr_u_of, rotl_of, leading_zeros_of, trailing_zeros_of}
use Rattle.session_lang.specs.Imports.{Replies}
use Rattle.session_lang.specs.Observation.{EventPlain}
use Rattle.wasm_lang.specs.declared.types.ValType.{ValType}
use Rattle.wasm_lang.specs.declared.types.GlobalType.{GlobalType}
use Rattle.wasm_lang.specs.Instructions.{Plain}
use Rattle.wasm_lang_valid.specs.Typing.{Shape, Acts, plain_shape}
use Rattle.wasm_lang_exec.specs.Plain as machine
use Rattle.wasm_lang_exec.specs.Plain.{Effect, do_plain}
use Rattle.wasm_laws_drive.specs.Equations.{is_constant}
use Rattle.wasm2js_translation.specs.Names as names
use Rattle.wasm2js_translation.specs.Names.{Fixed, Name}
use Rattle.wasm2js_translation.specs.Words.{Action}
use Rattle.wasm2js_translation.specs.Actions.{actions, actions_amid}
use Rattle.wasm2js_translation.specs.Delays.{Delayed}
use Rattle.wasm2js_translation.specs.Bodies.{Aim, after_plain}
use Rattle.wasm2js_laws_places.specs.Straight.{Words, Answer, Helping, ActionsAsk, Outcome, goes, stops, run_actions, actions_units}
use Rattle.wasm2js_laws_places.specs.Places.{operands, locals_of, store_with, IsHeap, Stays}
use Rattle.wasm2js_laws_helpers.specs.Answers.{turned, counted, divided, set_bits_answer, set_bits_units}
use Rattle.wasm2js_laws_preservation.specs.ControlControl.{Function, under_aims}

-- words of 32 bits
abbrev pub AreWords : Words → Type 0
AreWords words = (n : Name) → words n < 2 ^ 32

module _ (f : Function) (helping : Helping) where
  -- an instruction's effect, and what its code comes to: the operands have these types then, and those below stay; or both trap
  abbrev pub IsAlike : (b : ℕ) → List ValType → Words → (heap : List ℕ) → Replies → List EventPlain → Effect → Outcome → Type 0
  IsAlike b us words heap replies events (machine.goes values locals store) (goes words' heap') =
      (values ≡ operands b us words') × (locals ≡ locals_of f.context.locals words') × (store ≡ store_with f.setting words' heap' replies events)
      × Stays b words words' × (drop f.setting.bytes heap' ≡ drop f.setting.bytes heap)
  IsAlike b us words heap replies events (machine.traps kind) (stops k heap') = (k ≡ trap_code kind) × (heap' ≡ heap)
  IsAlike b us words heap replies events e o = ⊥

  abbrev pub code_of : Plain → (b : ℕ) → List ValType → List Action
  code_of p b ts = actions f.setting.bytes f.context p b ts

  -- where these words wait
  abbrev pub code_amid : List Delayed → Plain → (b : ℕ) → List ValType → List Action
  code_amid ds p b ts = actions_amid f.setting.bytes f.context ds p b ts

  -- above b operands, where the block's have the types ts, and us afterwards
  pub record IsPlain (p : Plain) (b : ℕ) (ts us : List ValType) : Type 0 where
    pub types : after_plain f.context p ts ≡ us
    pub asks : ActionsAsk (code_of p b ts)
    pub paid : (words : Words) (heap : List ℕ) → actions_units helping (code_of p b ts) words heap ≤ f.pace
    -- a constant is no reduction
    pub free : is_constant p ≡ true → (words : Words) (heap : List ℕ) → actions_units helping (code_of p b ts) words heap ≡ 0
    pub alike : (words : Words) (heap : List ℕ) (replies : Replies) (events : List EventPlain) → AreWords words → IsHeap f.setting.bytes heap
        → IsAlike b us words heap replies events (do_plain p (operands b ts words) (locals_of f.context.locals words) (store_with f.setting words heap replies events))
        (run_actions helping (code_of p b ts) words heap)

  abbrev pub PlainIs : Plain → Type 0
  PlainIs p =
      (ls : List Aim) (b : ℕ) (form : Shape) (takes gives below : List ValType) → plain_shape (under_aims f.context ls) p ≡ Ok form → Acts form takes gives
      → IsPlain p b (takes ++ below) (gives ++ below)

-- ---- what laws of instructions take of a function, and of what helpers do

abbrev pub Answers : Helping → Fixed → (List ℕ → (heap : List ℕ) → Answer) → (units : List ℕ → ℕ) → Type 0
Answers helping f answer units = (args heap : List ℕ) → (helping.answer f args heap ≡ answer args heap) × (helping.cost f args ≡ units args)

abbrev pub AnswersAtOnce : Helping → Fixed → (List ℕ → (heap : List ℕ) → Answer) → Type 0
AnswersAtOnce helping f answer = Answers helping f answer (λ args. 1)

-- the helpers on words do what their operators do
pub record AreUsual (helping : Helping) : Type 0 where
  pub shift_left : AnswersAtOnce helping names.shift_left (turned shl_of)
  pub shift_right_signed : AnswersAtOnce helping names.shift_right_signed (turned shr_s_of)
  pub shift_right : AnswersAtOnce helping names.shift_right (turned shr_u_of)
  pub rotate_left : AnswersAtOnce helping names.rotate_left (turned rotl_of)
  pub leading_zeros : AnswersAtOnce helping names.leading_zeros (counted leading_zeros_of)
  pub trailing_zeros : AnswersAtOnce helping names.trailing_zeros (counted trailing_zeros_of)
  pub set_bits : Answers helping names.set_bits set_bits_answer set_bits_units
  pub divide_signed : AnswersAtOnce helping names.divide_signed (divided bins.DivS)
  pub divide : AnswersAtOnce helping names.divide (divided bins.DivU)
  pub remainder_signed : AnswersAtOnce helping names.remainder_signed (divided bins.RemS)
  pub remainder : AnswersAtOnce helping names.remainder (divided bins.RemU)

pub record Supports (f : Function) (helping : Helping) : Type 0 where
  pub kinds : f.setting.kinds ≡ map (λ (g : GlobalType). g.kind) f.context.globals
  pub helpers : AreUsual helping
  -- for the set bits of two words
  pub pace : 68 ≤ f.pace

-- in each such function
abbrev pub Always : Plain → Type 0
Always p = (f : Function) (helping : Helping) → Supports f helping → PlainIs f helping p
