-- Code that puts one word where the deepest operand stood.
use Rattle.std.proofs.Common.{◌≡◌, ℕ, suc, ◌+◌, ◌<◌, ◌≤◌, true, false, List, [], ◌∷◌, length, Result, Ok, refl, sym, ap, ◌∙◌, subst, arith}
use Rattle.std.specs.Prelude.{◌==◌, ◌*◌, ◌^◌, take}
use Rattle.std.proofs.lemmas.Bool.Decides.{nat_tests}
use Rattle.sem_words.specs.declared.word.Word.TheVariants.{W32, W64}
use Rattle.sem_words.specs.declared.word.TrapKind.{TrapKind}
use Rattle.session_lang.specs.Imports.{Replies}
use Rattle.session_lang.specs.Observation.{EventPlain}
use Rattle.wasm_lang.specs.declared.types.ValType.{ValType}
use Rattle.wasm_lang.specs.declared.types.ValType.TheVariants.{I32, I64}
use Rattle.wasm_lang.specs.Instructions.{Plain}
use Rattle.wasm_lang_exec.specs.Plain as machine
use Rattle.wasm_lang_exec.specs.Plain.{Effect, do_plain, answer32, both32, with32}
use Rattle.wasm2js_translation.specs.Names.{numbered, operand_high}
use Rattle.wasm2js_translation.specs.Words.{Term, put, simply}
use Rattle.wasm2js_translation.specs.Actions.{low}
use Rattle.wasm2js_translation.specs.Pairs.{local_pair, operand_pair, global_pair}
use Rattle.wasm2js_translation.specs.Bodies.{after_plain}
use Rattle.wasm2js_laws_places.specs.Straight.{Words, with_word, value, Helping, goes, ActionsAsk, run_actions, actions_units}
use Rattle.wasm2js_laws_places.specs.Places.{value_at, operands, locals_from, locals_of, globals_from, store_with, Stays}
use Rattle.wasm2js_laws_preservation.specs.ControlControl.{Function}
use Rattle.wasm2js_laws_preservation.specs.InstructionsPlain.{AreWords, IsAlike, IsPlain, code_of}

-- ---- other variables keep their words

is_other : (d n : ℕ) → n < d → (d == n) ≡ false
is_other d n h = grind (arith, nat_tests, h)

is_self : (n : ℕ) → (n == n) ≡ true
is_self n = grind (arith, nat_tests)

module _ (d y : ℕ) (words : Words) where
  abbrev After : Words
  After = with_word (low d) y words

  same_low : (n : ℕ) → n < d → After (low n) ≡ words (low n)
  same_low n h = rw (is_other d n h) refl

  pub word_put : After (low d) ≡ y
  word_put = rw (is_self d) refl

  same_operand : (t : ValType) (n : ℕ) → n < d → value_at t (operand_pair n) words ≡ value_at t (operand_pair n) After
  same_operand I32 n h = ap W32 (sym (same_low n h))
  same_operand I64 n h = ap (λ w. W64 (w + 2 ^ 32 * words (numbered operand_high n))) (sym (same_low n h))

  same_operands : (b : ℕ) (ts : List ValType) → b + length ts ≤ d → operands b ts words ≡ operands b ts After
  same_operands b [] h = refl
  same_operands b (t ∷ ts) h =
      ap (λ v. v ∷ operands b ts words) (same_operand t (b + length ts) (omega (arith, h)))
      ∙ ap (λ vs. value_at t (operand_pair (b + length ts)) After ∷ vs) (same_operands b ts (omega (arith, h)))

  same_local : (t : ValType) (x : ℕ) → value_at t (local_pair x) words ≡ value_at t (local_pair x) After
  same_local I32 x = refl
  same_local I64 x = refl

  same_locals : (x : ℕ) (ts : List ValType) → locals_from x ts words ≡ locals_from x ts After
  same_locals x [] = refl
  same_locals x (t ∷ ts) = ap (λ v. v ∷ locals_from (suc x) ts words) (same_local t x) ∙ ap (λ vs. value_at t (local_pair x) After ∷ vs) (same_locals (suc x) ts)

  same_global : (t : ValType) (x : ℕ) → value_at t (global_pair x) words ≡ value_at t (global_pair x) After
  same_global I32 x = refl
  same_global I64 x = refl

  same_globals : (x : ℕ) (ts : List ValType) → globals_from x ts words ≡ globals_from x ts After
  same_globals x [] = refl
  same_globals x (t ∷ ts) = ap (λ v. v ∷ globals_from (suc x) ts words) (same_global t x) ∙ ap (λ vs. value_at t (global_pair x) After ∷ vs) (same_globals (suc x) ts)

  same_below : (b : ℕ) → b ≤ d → Stays b words After
  same_below b h = record { low = λ n less. same_low n (omega (arith, h, less)); high = λ n less. refl }

-- ---- a word where the deepest operand stood

module _ (f : Function) (helping : Helping) (b : ℕ) (below : List ValType) (words : Words) (heap : List ℕ) (replies : Replies) (events : List EventPlain) where
  abbrev Deepest : ℕ
  Deepest = b + length below

  abbrev Alike : Effect → ℕ → Type 0
  Alike e y = IsAlike f helping b (I32 ∷ below) words heap replies events e (goes (with_word (low (b + length below)) y words) heap)

  pub word_alike : (y : ℕ) → Alike (machine.goes (W32 y ∷ operands b below words) (locals_of f.context.locals words) (store_with f.setting words heap replies events)) y
  word_alike y = (
    ap (λ w. W32 w ∷ operands b below words) (sym (word_put Deepest y words))
        ∙ ap (λ vs. W32 (with_word (low Deepest) y words (low Deepest)) ∷ vs) (same_operands Deepest y words b below (omega arith)),
    same_locals Deepest y words 0 f.context.locals,
    ap (λ gs. record { memory = take f.setting.bytes heap; globals = gs; table = f.setting.table; events = events; replies = replies }) (same_globals Deepest y words 0 f.setting.kinds),
    same_below Deepest y words b (omega arith),
    refl,
  )

  pub two_alike : (h : ℕ → ℕ → Result ℕ TrapKind) (y : ℕ) → h (words (low Deepest)) (words (low (Deepest + 1))) ≡ Ok y
      → Alike (both32 h (operands b (I32 ∷ I32 ∷ below) words) (locals_of f.context.locals words) (store_with f.setting words heap replies events)) y
  two_alike h y e =
      let top : b + length (I32 ∷ below) ≡ Deepest + 1 = omega arith in
      subst (λ r. Alike (answer32 r (operands b below words) (locals_of f.context.locals words) (store_with f.setting words heap replies events)) y)
      (sym (ap (λ d. h (words (low Deepest)) (words (low d))) top ∙ e)) (word_alike y)

  pub one_alike : (h : ℕ → Result ℕ TrapKind) (y : ℕ) → h (words (low Deepest)) ≡ Ok y
      → Alike (with32 h answer32 (operands b (I32 ∷ below) words) (locals_of f.context.locals words) (store_with f.setting words heap replies events)) y
  one_alike h y e =
      subst (λ r. Alike (answer32 r (operands b below words) (locals_of f.context.locals words) (store_with f.setting words heap replies events)) y) (sym e) (word_alike y)

-- ---- an instruction whose code puts one word

pub put_is : (f : Function) (helping : Helping) (p : Plain) (b : ℕ) (ts below : List ValType) (t : Term)
    → after_plain f.context p ts ≡ I32 ∷ below → code_of f helping p b ts ≡ simply (put (low (b + length below)) t) ∷ []
    → ((words : Words) (heap : List ℕ) (replies : Replies) (events : List EventPlain) → AreWords words
    → IsAlike f helping b (I32 ∷ below) words heap replies events (do_plain p (operands b ts words) (locals_of f.context.locals words) (store_with f.setting words heap replies events))
    (goes (with_word (low (b + length below)) (value t words heap) words) heap))
    → IsPlain f helping p b ts (I32 ∷ below)
put_is f helping p b ts below t types code alike = record {
  types = types;
  asks = subst ActionsAsk (sym code) (tt, tt);
  paid = λ words heap. subst (λ c. actions_units helping c words heap ≤ f.pace) (sym code) (omega arith);
  free = λ e words heap. subst (λ c. actions_units helping c words heap ≡ 0) (sym code) refl;
  alike = λ words heap replies events are_words is_heap.
      subst (λ c. IsAlike f helping b (I32 ∷ below) words heap replies events (do_plain p (operands b ts words) (locals_of f.context.locals words) (store_with f.setting words heap replies events)) (run_actions helping c words heap))
      (sym code) (alike words heap replies events are_words);
}
