-- Code that changes the word or words of one operand: what else stays, and when it is alike.
use Rattle.std.proofs.Common.{◌≡◌, ℕ, suc, ◌+◌, ◌<◌, ◌≤◌, true, false, List, [], ◌∷◌, length, Result, Ok, refl, sym, ap, ◌∙◌, subst, arith}
use Rattle.std.specs.Prelude.{◌==◌, ◌*◌, ◌^◌, take}
use Rattle.std.proofs.lemmas.Bool.Decides.{nat_tests}
use Rattle.sem_words.specs.declared.word.Word.{Word}
use Rattle.sem_words.specs.declared.word.Word.TheVariants.{W32, W64}
use Rattle.sem_words.specs.declared.word.TrapKind.{TrapKind}
use Rattle.session_lang.specs.Imports.{Replies}
use Rattle.session_lang.specs.Observation.{EventPlain}
use Rattle.wasm_lang.specs.declared.types.ValType.{ValType}
use Rattle.wasm_lang.specs.declared.types.ValType.TheVariants.{I32, I64}
use Rattle.wasm_lang_exec.specs.Plain as machine
use Rattle.wasm_lang_exec.specs.Plain.{Effect, answer32, answer64, both64, with32, with64}
use Rattle.wasm2js_translation.specs.Names.{Name, Fixed, numbered, fixed, local_low, local_high, operand_low, operand_high, global_low, global_high}
use Rattle.wasm2js_translation.specs.Pairs.{Pair, local_pair, operand_pair, global_pair}
use Rattle.wasm2js_laws_places.specs.Straight.{Words, with_word, Helping, goes}
use Rattle.wasm2js_laws_places.specs.Places.{value_at, operands, locals_from, locals_of, globals_from, store_with, Stays}
use Rattle.wasm2js_laws_preservation.specs.ControlControl.{Function}
use Rattle.wasm2js_laws_preservation.specs.InstructionsPlain.{IsAlike}

-- ---- numbers of variables

pub is_self : (n : ℕ) → (n == n) ≡ true
is_self n = grind (arith, nat_tests)

pub is_below : (d n : ℕ) → n < d → (d == n) ≡ false
is_below d n h = grind (arith, nat_tests, h)

pub is_next : (d : ℕ) → (d == d + 1) ≡ false
is_next d = grind (arith, nat_tests)

abbrev pub low : ℕ → Name
low d = numbered operand_low d

abbrev pub high : ℕ → Name
high d = numbered operand_high d

-- ---- all but the operand of this number, and those above it, stays

pub record Keeps (d : ℕ) (before after : Words) : Type 0 where
  pub lows : (n : ℕ) → n < d → after (numbered operand_low n) ≡ before (numbered operand_low n)
  pub highs : (n : ℕ) → n < d → after (numbered operand_high n) ≡ before (numbered operand_high n)
  pub local_lows : (x : ℕ) → after (numbered local_low x) ≡ before (numbered local_low x)
  pub local_highs : (x : ℕ) → after (numbered local_high x) ≡ before (numbered local_high x)
  pub global_lows : (x : ℕ) → after (numbered global_low x) ≡ before (numbered global_low x)
  pub global_highs : (x : ℕ) → after (numbered global_high x) ≡ before (numbered global_high x)

pub kept_all : (d : ℕ) (words : Words) → Keeps d words words
kept_all d words = record {
  lows = λ n h. refl;
  highs = λ n h. refl;
  local_lows = λ x. refl;
  local_highs = λ x. refl;
  global_lows = λ x. refl;
  global_highs = λ x. refl;
}

pub kept_low : (d x : ℕ) (words after : Words) → Keeps d words after → Keeps d words (with_word (numbered operand_low d) x after)
kept_low d x words after k = record {
  lows = λ n h. rw (is_below d n h) (k.lows n h);
  highs = k.highs;
  local_lows = k.local_lows;
  local_highs = k.local_highs;
  global_lows = k.global_lows;
  global_highs = k.global_highs;
}

pub kept_fixed : (d x : ℕ) (g : Fixed) (words after : Words) → Keeps d words after → Keeps d words (with_word (fixed g) x after)
kept_fixed d x g words after k = record {
  lows = k.lows;
  highs = k.highs;
  local_lows = k.local_lows;
  local_highs = k.local_highs;
  global_lows = k.global_lows;
  global_highs = k.global_highs;
}

pub kept_high : (d x : ℕ) (words after : Words) → Keeps d words after → Keeps d words (with_word (numbered operand_high d) x after)
kept_high d x words after k = record {
  lows = k.lows;
  highs = λ n h. rw (is_below d n h) (k.highs n h);
  local_lows = k.local_lows;
  local_highs = k.local_highs;
  global_lows = k.global_lows;
  global_highs = k.global_highs;
}

-- ---- operands, locals and globals

module _ (d : ℕ) (words after : Words) (k : Keeps d words after) where
  same_pair : (t : ValType) (p : Pair) → after p.low ≡ words p.low → after p.high ≡ words p.high → value_at t p words ≡ value_at t p after
  same_pair I32 p g h = ap W32 (sym g)
  same_pair I64 p g h = ap (λ w. W64 (w + 2 ^ 32 * words p.high)) (sym g) ∙ ap (λ w. W64 (after p.low + 2 ^ 32 * w)) (sym h)

  pub same_operands : (b : ℕ) (ts : List ValType) → b + length ts ≤ d → operands b ts words ≡ operands b ts after
  same_operands b [] h = refl
  same_operands b (t ∷ ts) h =
      ap (λ v. v ∷ operands b ts words)
      (same_pair t (operand_pair (b + length ts)) (k.lows (b + length ts) (omega (arith, h))) (k.highs (b + length ts) (omega (arith, h))))
      ∙ ap (λ vs. value_at t (operand_pair (b + length ts)) after ∷ vs) (same_operands b ts (omega (arith, h)))

  pub same_locals : (x : ℕ) (ts : List ValType) → locals_from x ts words ≡ locals_from x ts after
  same_locals x [] = refl
  same_locals x (t ∷ ts) =
      ap (λ v. v ∷ locals_from (suc x) ts words) (same_pair t (local_pair x) (k.local_lows x) (k.local_highs x))
      ∙ ap (λ vs. value_at t (local_pair x) after ∷ vs) (same_locals (suc x) ts)

  pub same_globals : (x : ℕ) (ts : List ValType) → globals_from x ts words ≡ globals_from x ts after
  same_globals x [] = refl
  same_globals x (t ∷ ts) =
      ap (λ v. v ∷ globals_from (suc x) ts words) (same_pair t (global_pair x) (k.global_lows x) (k.global_highs x))
      ∙ ap (λ vs. value_at t (global_pair x) after ∷ vs) (same_globals (suc x) ts)

  pub same_below : (b : ℕ) → b ≤ d → Stays b words after
  same_below b h = record { low = λ n less. k.lows n (omega (arith, h, less)); high = λ n less. k.highs n (omega (arith, h, less)) }

-- ---- what an effect and its code come to

module _ (f : Function) (helping : Helping) (b : ℕ) (below : List ValType) (words after : Words) (heap : List ℕ) (replies : Replies) (events : List EventPlain) (k : Keeps (b + length below) words after) where
  abbrev Alike : ValType → Effect → Type 0
  Alike t e = IsAlike f helping b (t ∷ below) words heap replies events e (goes after heap)

  abbrev Deepest : ℕ
  Deepest = b + length below

  abbrev Whole : ℕ → ℕ
  Whole d = words (low d) + 2 ^ 32 * words (high d)

  pub value_alike : (t : ValType) (v : Word) → v ≡ value_at t (operand_pair Deepest) after
      → Alike t (machine.goes (v ∷ operands b below words) (locals_of f.context.locals words) (store_with f.setting words heap replies events))
  value_alike t v e = (
    ap (λ v. v ∷ operands b below words) e ∙ ap (λ vs. value_at t (operand_pair Deepest) after ∷ vs) (same_operands Deepest words after k b below (omega arith)),
    same_locals Deepest words after k 0 f.context.locals,
    ap (λ gs. record { memory = take f.setting.bytes heap; globals = gs; table = f.setting.table; events = events; replies = replies }) (same_globals Deepest words after k 0 f.setting.kinds),
    same_below Deepest words after k b (omega arith),
    refl,
  )

  top : b + length (I64 ∷ below) ≡ Deepest + 1
  top = omega arith

  pub two_to_wide : (h : ℕ → ℕ → Result ℕ TrapKind) → h (Whole Deepest) (Whole (Deepest + 1)) ≡ Ok (after (low Deepest) + 2 ^ 32 * after (high Deepest))
      → Alike I64 (both64 h answer64 (operands b (I64 ∷ I64 ∷ below) words) (locals_of f.context.locals words) (store_with f.setting words heap replies events))
  two_to_wide h e =
      subst (λ r. Alike I64 (answer64 r (operands b below words) (locals_of f.context.locals words) (store_with f.setting words heap replies events)))
      (sym (ap (λ d. h (Whole Deepest) (Whole d)) top ∙ e)) (value_alike I64 (W64 (after (low Deepest) + 2 ^ 32 * after (high Deepest))) refl)

  pub two_to_narrow : (h : ℕ → ℕ → Result ℕ TrapKind) → h (Whole Deepest) (Whole (Deepest + 1)) ≡ Ok (after (low Deepest))
      → Alike I32 (both64 h answer32 (operands b (I64 ∷ I64 ∷ below) words) (locals_of f.context.locals words) (store_with f.setting words heap replies events))
  two_to_narrow h e =
      subst (λ r. Alike I32 (answer32 r (operands b below words) (locals_of f.context.locals words) (store_with f.setting words heap replies events)))
      (sym (ap (λ d. h (Whole Deepest) (Whole d)) top ∙ e)) (value_alike I32 (W32 (after (low Deepest))) refl)

  pub one_to_narrow : (h : ℕ → Result ℕ TrapKind) → h (Whole Deepest) ≡ Ok (after (low Deepest))
      → Alike I32 (with64 h answer32 (operands b (I64 ∷ below) words) (locals_of f.context.locals words) (store_with f.setting words heap replies events))
  one_to_narrow h e =
      subst (λ r. Alike I32 (answer32 r (operands b below words) (locals_of f.context.locals words) (store_with f.setting words heap replies events)))
      (sym e) (value_alike I32 (W32 (after (low Deepest))) refl)

  pub narrow_to_wide : (h : ℕ → Result ℕ TrapKind) → h (words (low Deepest)) ≡ Ok (after (low Deepest) + 2 ^ 32 * after (high Deepest))
      → Alike I64 (with32 h answer64 (operands b (I32 ∷ below) words) (locals_of f.context.locals words) (store_with f.setting words heap replies events))
  narrow_to_wide h e =
      subst (λ r. Alike I64 (answer64 r (operands b below words) (locals_of f.context.locals words) (store_with f.setting words heap replies events)))
      (sym e) (value_alike I64 (W64 (after (low Deepest) + 2 ^ 32 * after (high Deepest))) refl)

  pub one_to_wide : (h : ℕ → Result ℕ TrapKind) → h (Whole Deepest) ≡ Ok (after (low Deepest) + 2 ^ 32 * after (high Deepest))
      → Alike I64 (with64 h answer64 (operands b (I64 ∷ below) words) (locals_of f.context.locals words) (store_with f.setting words heap replies events))
  one_to_wide h e =
      subst (λ r. Alike I64 (answer64 r (operands b below words) (locals_of f.context.locals words) (store_with f.setting words heap replies events)))
      (sym e) (value_alike I64 (W64 (after (low Deepest) + 2 ^ 32 * after (high Deepest))) refl)
