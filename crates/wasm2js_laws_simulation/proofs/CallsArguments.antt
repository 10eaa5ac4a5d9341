-- The operands that a call takes, as arguments on both sides.
use Rattle.std.proofs.Common.{◌≡◌, ℕ, suc, ◌+◌, ◌*◌, ◌^◌, ◌≤◌, List, [], ◌∷◌, ◌++◌, length, drop, refl, sym, ap, ◌∙◌, arith}
use Rattle.std.specs.Prelude.{reverse}
use Rattle.std.proofs.lemmas.List.{length-append, length-reverse, reverse-append}
use Rattle.sem_words.specs.declared.word.Word.{Word}
use Rattle.sem_words.specs.declared.word.Word.TheVariants.{W32, W64}
use Rattle.sem_words.specs.declared.js_value.JsValue.{JsValue}
use Rattle.wasm_lang.specs.declared.types.ValType.{ValType}
use Rattle.wasm_lang.specs.declared.types.ValType.TheVariants.{I32, I64}
use Rattle.sem_words.specs.JsValues.{to_uint32_of}
use Rattle.asm_lang.specs.Modules.{exprs}
use Rattle.asm_lang_exec.specs.Runs.{Place, Part}
use Rattle.asm_laws_continuation.specs.Following.{eval_all_to}
use Rattle.wasm2js_translation.specs.Names.{Name}
use Rattle.wasm2js_translation.specs.Words.{int_of}
use Rattle.wasm2js_translation.specs.Pairs.{operand_pair}
use Rattle.wasm2js_translation.specs.Actions.{under}
use Rattle.wasm2js_translation.specs.Delays.{Delayed, at_hand}
use Rattle.wasm2js_translation.specs.Bodies.{words_from, arguments_from}
use Rattle.wasm2js_laws_terms.specs.Sound.{AllSound}
use Rattle.wasm2js_laws_places.specs.Following.{Rest}
use Rattle.wasm2js_laws_places.specs.Straight.{Words, value}
use Rattle.wasm2js_laws_places.specs.Places.{value_at, word_at, AreApart, operands}
use Rattle.wasm2js_laws_preservation.specs.ControlControl.{Function, IsFollowed}
use Rattle.wasm2js_laws_preservation.proofs.ControlTerms.{int_then}
use Rattle.wasm2js_laws_simulation.specs.CallsCalled.{Passes}

-- ---- on the side of WebAssembly

-- the values of these types from operand number d on, the first one first
abbrev pub passed_from : ℕ → List ValType → Words → List Word
passed_from d [] words = []
passed_from d (t ∷ ts) words = value_at t (operand_pair d) words ∷ passed_from (suc d) ts words

pub operands_joined : (b : ℕ) (xs ys : List ValType) (words : Words) → operands b (xs ++ ys) words ≡ operands (b + length ys) xs words ++ operands b ys words
operands_joined b [] ys words = refl
operands_joined b (t ∷ xs) ys words =
    let e = length-append xs ys in
    let d : b + length (xs ++ ys) ≡ b + length ys + length xs = omega (arith, e) in
    ap (λ d. value_at t (operand_pair d) words ∷ operands b (xs ++ ys) words) d
    ∙ ap (λ vs. value_at t (operand_pair (b + length ys + length xs)) words ∷ vs) (operands_joined b xs ys words)

last_first : (x : Word) (xs : List Word) → reverse xs ++ x ∷ [] ≡ reverse (x ∷ xs)
last_first x xs = sym (reverse-append (x ∷ []) xs)

operands_reversed : (d : ℕ) (ps : List ValType) (words : Words) → operands d (reverse ps) words ≡ reverse (passed_from d ps words)
operands_reversed d [] words = refl
operands_reversed d (p ∷ ps) words =
    let one : d + 1 ≡ suc d = omega arith in
    let none : d + 0 ≡ d = omega arith in
    ap (λ ts. operands d ts words) (reverse-append (p ∷ []) ps)
    ∙ operands_joined d (reverse ps) (p ∷ []) words
    ∙ ap (λ n. operands n (reverse ps) words ++ operands d (p ∷ []) words) one
    ∙ ap (λ n. operands (suc d) (reverse ps) words ++ value_at p (operand_pair n) words ∷ []) none
    ∙ ap (λ vs. vs ++ value_at p (operand_pair d) words ∷ []) (operands_reversed (suc d) ps words)
    ∙ last_first (value_at p (operand_pair d) words) (passed_from (suc d) ps words)

-- those that a call takes, and those that stay
pub operands_taken : (b : ℕ) (ps below : List ValType) (words : Words)
    → operands b (reverse ps ++ below) words ≡ reverse (passed_from (b + length below) ps words) ++ operands b below words
operands_taken b ps below words =
    operands_joined b (reverse ps) below words ∙ ap (λ vs. vs ++ operands b below words) (operands_reversed (b + length below) ps words)

drop_length : {A : Type 0} → (xs ys : List A) → drop (length xs) (xs ++ ys) ≡ ys
drop_length [] ys = refl
drop_length (x ∷ xs) ys = drop_length xs ys

-- what stays below the arguments
pub stay_below : (ps below : List ValType) → drop (length ps) (reverse ps ++ below) ≡ below
stay_below ps below = ap (λ n. drop n (reverse ps ++ below)) (sym (length-reverse ps)) ∙ drop_length (reverse ps) below

pub depth_of : (b : ℕ) (ps below : List ValType) → under (length ps) b (reverse ps ++ below) ≡ b + length below
depth_of b ps below = ap (λ (ts : List ValType). b + length ts) (stay_below ps below)

-- ---- on the side of asm.js

-- the words of the operands from number d on, where these wait, come to those
abbrev pub ComeTo : Place → List Delayed → Words → ℕ → Type 0
ComeTo p ds words d =
    (k : ℕ) → d ≤ k
    → (value (at_hand ds (operand_pair k).low) (word_at p) p.heap ≡ words (operand_pair k).low) × (value (at_hand ds (operand_pair k).high) (word_at p) p.heap ≡ words (operand_pair k).high)

module _ (f : Function) (r : Rest) (p : Place) (apart : AreApart p) (ds : List Delayed) (words : Words) where
  pub arguments_then : (d : ℕ) (ts : List ValType) (next : List JsValue → Part (Unit {0})) → AllSound f.scope (words_from ds d ts) → ComeTo p ds words d
      → ((vs : List JsValue) → Passes ts vs (passed_from d ts words) → IsFollowed f p r (next vs p))
      → IsFollowed f p r (eval_all_to f.calls f.scope (arguments_from ds d ts) next p)
  arguments_then d [] next sound come h = h [] tt
  arguments_then d (I32 ∷ ts) next sound come h =
      int_then f r p (at_hand ds (operand_pair d).low) p (λ v. eval_all_to f.calls f.scope (arguments_from ds (suc d) ts) (λ vs. next (v ∷ vs))) sound.0 apart
      (λ v a.
      arguments_then (suc d) ts (λ vs. next (v ∷ vs)) sound.1 (λ k le. come k (omega (arith, le)))
      (λ vs passes. h (v ∷ vs) (ap W32 (sym (a ∙ (come d (omega arith)).0)), passes)))
  arguments_then d (I64 ∷ ts) next sound come h =
      let low : Name = (operand_pair d).low in
      let high : Name = (operand_pair d).high in
      int_then f r p (at_hand ds low) p (λ v. eval_all_to f.calls f.scope (exprs (int_of (at_hand ds high)) (arguments_from ds (suc d) ts)) (λ vs. next (v ∷ vs))) sound.0 apart
      (λ v a.
      int_then f r p (at_hand ds high) p (λ u. eval_all_to f.calls f.scope (arguments_from ds (suc d) ts) (λ vs. next (v ∷ u ∷ vs))) sound.1.0 apart
      (λ u c.
      arguments_then (suc d) ts (λ vs. next (v ∷ u ∷ vs)) sound.1.1 (λ k le. come k (omega (arith, le)))
      (λ vs passes.
      h (v ∷ u ∷ vs)
      (ap (λ n. W64 (n + 2 ^ 32 * words high)) (sym (a ∙ (come d (omega arith)).0)) ∙ ap (λ n. W64 (to_uint32_of v + 2 ^ 32 * n)) (sym (c ∙ (come d (omega arith)).1)), passes))))
