-- What code that loads leaves in the words of its operand.
use Rattle.std.proofs.Common.{◌≡◌, ℕ, ◌+◌, ◌*◌, ◌^◌, ◌<◌, ◌≤◌, Bool, true, false, List, [], ◌∷◌, refl, sym, ap, ◌∙◌, subst, arith}
use Rattle.std.specs.Prelude.{if◌then◌else◌}
use Rattle.sem_words.specs.declared.word.Word.{Word}
use Rattle.sem_words.specs.declared.word.Word.TheVariants.{W32, W64}
use Rattle.sem_words.specs.Words.{shr_s_of}
use Rattle.wasm_lang.specs.declared.types.MemOp.{MemOp}
use Rattle.wasm_lang_valid.specs.Typing.{kind_of}
use Rattle.wasm_lang_exec.specs.Plain.{loaded_number}
use Rattle.wasm2js_translation.specs.Words.{read, put, Action, simply}
use Rattle.wasm2js_translation.specs.Pairs.{operand_pair, sign_of, literal}
use Rattle.wasm2js_laws_places.specs.Straight.{Words, with_word, Helping, Outcome, goes, stops, then_do, ActionAsks, ActionsAsk, run_action, run_actions, action_units, actions_units}
use Rattle.wasm2js_laws_places.specs.Places.{value_at, IsHeap}
use Rattle.wasm2js_laws_preservation.proofs.WideKept.{is_self, low, high, Keeps, kept_all, kept_low, kept_high}
use Rattle.wasm2js_laws_preservation.proofs.LoadsGuarded.{nothing_after}
use Rattle.wasm2js_laws_preservation.proofs.LoadsNumbers.{number_of, number_below, narrow_number, wide_number}

abbrev pub access_to : (wide : Bool) → (size : ℕ) → (signed : Bool) → MemOp
access_to wide size signed = record { wide = wide; size = size; signed = signed }

abbrev pub loaded_value : MemOp → ℕ → Word
loaded_value op n = if op.wide then W64 (loaded_number op 64 n) else W32 (loaded_number op 32 n)

-- the value of this number stands where the operand of number d stood, and nothing else that counts has changed
abbrev pub HasLoaded : MemOp → (d : ℕ) → Words → (heap : List ℕ) → (n : ℕ) → Outcome → Type 0
HasLoaded op d words heap n (goes after heap') = (heap' ≡ heap) × Keeps d words after × (loaded_value op n ≡ value_at (kind_of op.wide) (operand_pair d) after)
HasLoaded op d words heap n (stops k heap') = ⊥

-- code that loads, by the operand's number
pub record CodeLoads (helping : Helping) (bytes : ℕ) (op : MemOp) (offset : ℕ) (code : ℕ → List Action) : Type 0 where
  pub asks : (d : ℕ) → ActionsAsk (code d)
  pub units : (d : ℕ) (words : Words) (heap : List ℕ) → actions_units helping (code d) words heap ≤ 1
  pub runs : (d : ℕ) (words : Words) (heap : List ℕ) → IsHeap bytes heap → words (low d) + offset + op.size ≤ bytes
      → HasLoaded op d words heap (number_of op.size (words (low d) + offset) heap) (run_actions helping (code d) words heap)

-- an action that leaves the word alone
pub record PutsLow (helping : Helping) (bytes offset size : ℕ) (signed : Bool) (code : ℕ → Action) : Type 0 where
  pub asks : (d : ℕ) → ActionAsks (code d)
  pub units : (d : ℕ) (words : Words) (heap : List ℕ) → action_units helping (code d) words heap ≤ 1
  pub runs : (d : ℕ) (words : Words) (heap : List ℕ) → IsHeap bytes heap → words (low d) + offset + size ≤ bytes
      → run_action helping (code d) words heap ≡ goes (with_word (low d) (narrow_number signed (8 * size) (number_of size (words (low d) + offset) heap)) words) heap

-- ---- words that are put

module _ (d x y : ℕ) (words : Words) where
  abbrev pub low_put : Words
  low_put = with_word (low d) x words

  abbrev pub both_put : Words
  both_put = with_word (high d) y low_put

  pub low_is : low_put (low d) ≡ x
  low_is = rw (is_self d) refl

  pub high_is : both_put (high d) ≡ y
  high_is = rw (is_self d) refl

  pub low_keeps : Keeps d words low_put
  low_keeps = kept_low d x words words (kept_all d words)

  pub both_keep : Keeps d words both_put
  both_keep = kept_high d y words low_put low_keeps

-- ---- an action, and what sets the high word

abbrev pub high_action : Bool → ℕ → Action
high_action signed d = simply (put (high d) (if signed then sign_of (read (low d)) else literal 0))

module _ (helping : Helping) (bytes offset size : ℕ) (code : ℕ → Action) where
  pub narrow_of : (signed : Bool) → PutsLow helping bytes offset size signed code → CodeLoads helping bytes (access_to false size signed) offset (λ d. code d ∷ [])
  narrow_of signed puts = record {
    asks = λ d. (puts.asks d, tt);
    units = λ d words heap.
        let few = puts.units d words heap in
        let none = nothing_after (run_action helping (code d) words heap) (actions_units helping []) (λ words heap. refl) in
        omega (arith, few, none);
    runs = λ d words heap h within.
        let n = number_of size (words (low d) + offset) heap in
        let x = narrow_number signed (8 * size) n in
        subst (λ o. HasLoaded (access_to false size signed) d words heap n (then_do o (run_actions helping []))) (sym (puts.runs d words heap h within))
        (refl, low_keeps d x 0 words, ap W32 (sym (low_is d x 0 words)));
  }

  module _ (signed : Bool) (puts : PutsLow helping bytes offset size signed code) where
    few_units : (d : ℕ) (words : Words) (heap : List ℕ) → actions_units helping (code d ∷ high_action signed d ∷ []) words heap ≤ 1
    few_units d words heap =
        let few = puts.units d words heap in
        let none = nothing_after (run_action helping (code d) words heap) (actions_units helping (high_action signed d ∷ [])) (λ words heap. refl) in
        omega (arith, few, none)

  pub unsigned_of : PutsLow helping bytes offset size false code → CodeLoads helping bytes (access_to true size false) offset (λ d. code d ∷ high_action false d ∷ [])
  unsigned_of puts = record {
    asks = λ d. (puts.asks d, (tt, tt));
    units = few_units false puts;
    runs = λ d words heap h within.
        let n = number_of size (words (low d) + offset) heap in
        let same : n ≡ n + 2 ^ 32 * 0 = omega arith in
        subst (λ o. HasLoaded (access_to true size false) d words heap n (then_do o (run_actions helping (high_action false d ∷ [])))) (sym (puts.runs d words heap h within)) (
          refl,
          both_keep d n 0 words,
          ap W64 (same ∙ ap (λ y. n + 2 ^ 32 * y) (sym (high_is d n 0 words)) ∙ ap (λ x. x + 2 ^ 32 * both_put d n 0 words (high d)) (sym (low_is d n 0 words))),
        );
  }

  -- the high word has the low one's sign
  pub extended_of : PutsLow helping bytes offset size true code
      → ((n : ℕ) → n < 256 ^ size → wide_number true (8 * size) n ≡ narrow_number true (8 * size) n + 2 ^ 32 * shr_s_of 32 (narrow_number true (8 * size) n) 31)
      → CodeLoads helping bytes (access_to true size true) offset (λ d. code d ∷ high_action true d ∷ [])
  extended_of puts extends = record {
    asks = λ d. (puts.asks d, (tt, tt));
    units = few_units true puts;
    runs = λ d words heap h within.
        let at = words (low d) + offset in
        let n = number_of size at heap in
        let x = narrow_number true (8 * size) n in
        let y = shr_s_of 32 (low_put d x 0 words (low d)) 31 in
        let holds = h.holds in
        let below = number_below heap at size (record { are_bytes = h.are_bytes; holds = omega arith; small = h.small }) (omega (arith, within, holds)) in
        subst (λ o. HasLoaded (access_to true size true) d words heap n (then_do o (run_actions helping (high_action true d ∷ [])))) (sym (puts.runs d words heap h within)) (
          refl,
          both_keep d x y words,
          ap W64
              (extends n below
              ∙ ap (λ z. x + 2 ^ 32 * z) (sym (high_is d x y words ∙ ap (λ z. shr_s_of 32 z 31) (low_is d x y words)))
              ∙ ap (λ z. z + 2 ^ 32 * both_put d x y words (high d)) (sym (low_is d x y words))),
        );
  }
