-- An instruction where words wait: its code is that of the instruction by itself, or a shift or rotation in place.
use Rattle.std.proofs.Common.{◌≡◌, ℕ, ◌+◌, ◌<◌, ◌≤◌, Bool, true, false, List, [], ◌∷◌, ◌++◌, length, Option, Some, None, Ok, refl, sym, ap, ◌∙◌, subst, arith}
use Rattle.std.specs.Prelude.{◌-◌, ◌^◌, ◌%◌, ℤ, if◌then◌else◌}
use Rattle.sem_words.specs.declared.word.Bin.{Bin}
use Rattle.sem_words.specs.declared.word.Bin.TheVariants as bins
use Rattle.sem_words.specs.Words.{word_of, shl_of, shr_s_of, shr_u_of, rotl_of, rotr_of, bin_of}
use Rattle.session_lang.specs.Imports.{Replies}
use Rattle.session_lang.specs.Observation.{EventPlain}
use Rattle.wasm_lang.specs.declared.types.ValType.{ValType}
use Rattle.wasm_lang.specs.declared.types.ValType.TheVariants.{I64}
use Rattle.wasm_lang.specs.Instructions.{Plain, bin64}
use Rattle.wasm_lang_valid.specs.Typing.{Shape, Acts, plain_shape}
use Rattle.wasm_lang_exec.specs.Plain.{do_plain, answer64, both64}
use Rattle.wasm_laws_drive.specs.Equations.{is_constant}
use Rattle.wasm2js_translation.specs.Names.{Name, same_name}
use Rattle.wasm2js_translation.specs.Words.{Term, number, Simple, Action}
use Rattle.wasm2js_translation.specs.Pairs.{operand_pair, simples}
use Rattle.wasm2js_translation.specs.Wide.{left_by, right_by, round_by, wide_binary, wide_binary_by, wide_binary_at}
use Rattle.wasm2js_translation.specs.Delays.{Delayed, waiting, word_or, number_in, number_at}
use Rattle.wasm2js_translation.specs.Bodies.{Aim, after_plain}
use Rattle.wasm2js_laws_numbers.specs.Laws.{joined}
use Rattle.wasm2js_laws_numbers.proofs.Together.{places_left, places_right, places_right_signed, places_round, places_round_right}
use Rattle.wasm2js_laws_places.specs.Straight.{Words, value, Helping, ActionsAsk, run_actions, actions_units}
use Rattle.wasm2js_laws_places.specs.Places.{operands, locals_of, store_with, IsHeap}
use Rattle.wasm2js_laws_places.specs.Delaying.{seen}
use Rattle.wasm2js_laws_typed.proofs.SoundPlain.{of_fixed}
use Rattle.wasm2js_laws_preservation.specs.ControlControl.{Function, under_aims}
use Rattle.wasm2js_laws_preservation.specs.InstructionsPlain.{AreWords, IsAlike, IsPlain, PlainIs, code_of, code_amid}
use Rattle.wasm2js_laws_preservation.proofs.WideKept.{low, high, two_to_wide}
use Rattle.wasm2js_laws_preservation.proofs.WideTurnedInPlace.{OnlyPuts, puts_ask_none, puts_are_free, left_puts, right_puts, round_puts, Turns, left_turns, right_turns, round_turns}

-- ---- numbers that wait

-- they are the words of their variables
abbrev pub AreNumbers : List Delayed → Words → Type 0
AreNumbers ds words = (n : Name) (z : ℤ) → number_at ds n ≡ Some z → words n ≡ word_of 32 z

number_is : (t : Term) (z : ℤ) (words : Words) (heap : List ℕ) → number_in t ≡ Some z → value t words heap ≡ word_of 32 z
number_is (number y) z words heap e = let same : y ≡ z = cc e in ap (word_of 32) same
number_is t z words heap e = absurd (cc e)

pub numbers_seen : (ds : List Delayed) (words : Words) (heap : List ℕ) → AreNumbers ds (seen ds words heap)
numbers_seen [] words heap n z e = absurd (cc e)
numbers_seen (d ∷ ds) words heap n z e = by (same_name d.name n) (numbers_seen ds words heap n z) e
  where
    by : (t : Bool) → (number_at ds n ≡ Some z → seen ds words heap n ≡ word_of 32 z) → number_in (word_or (if t then Some d.word else waiting ds n) n) ≡ Some z
        → (if t then value d.word words heap else seen ds words heap n) ≡ word_of 32 z
    by true further e = number_is d.word z words heap e
    by false further e = further e

-- ---- an instruction and this code, where the words are such

module _ (f : Function) (helping : Helping) where
  pub record IsDone (code : List Action) (Such : Words → Type 0) (p : Plain) (b : ℕ) (ts us : List ValType) : Type 0 where
    pub types : after_plain f.context p ts ≡ us
    pub asks : ActionsAsk code
    pub paid : (words : Words) (heap : List ℕ) → actions_units helping code words heap ≤ f.pace
    pub free : is_constant p ≡ true → (words : Words) (heap : List ℕ) → actions_units helping code words heap ≡ 0
    pub alike : (words : Words) (heap : List ℕ) (replies : Replies) (events : List EventPlain) → AreWords words → IsHeap f.setting.bytes heap → Such words
        → IsAlike f helping b us words heap replies events (do_plain p (operands b ts words) (locals_of f.context.locals words) (store_with f.setting words heap replies events))
        (run_actions helping code words heap)

  -- where these words wait
  abbrev pub IsAmid : List Delayed → Plain → (b : ℕ) → (ts us : List ValType) → Type 0
  IsAmid ds p b ts us = IsDone (code_amid f helping ds p b ts) (AreNumbers ds) p b ts us

  -- with the code of the instruction by itself
  by_itself : (Such : Words → Type 0) (p : Plain) (b : ℕ) (ts us : List ValType) → IsPlain f helping p b ts us → IsDone (code_of f helping p b ts) Such p b ts us
  by_itself Such p b ts us is = record {
    types = is.types;
    asks = is.asks;
    paid = is.paid;
    free = is.free;
    alike = λ words heap replies events are is_heap such. is.alike words heap replies events are is_heap;
  }

  -- ---- shifts and rotations in place

  module _ (Such : Words → Type 0) (b : ℕ) (below : List ValType) where
    abbrev d : ℕ
    d = b + length below

    abbrev first : Words → ℕ
    first words = joined (words (low d)) (words (high d))

    abbrev second : Words → ℕ
    second words = joined (words (low (d + 1))) (words (high (d + 1)))

    abbrev Done : Bin → List Simple → Type 0
    Done op code = IsDone (simples code) Such (bin64 op) b (I64 ∷ I64 ∷ below) (I64 ∷ below)

    in_place : (op : Bin) (code : List Simple) → OnlyPuts code → (wide : Words → ℕ) → ((words : Words) → AreWords words → Such words → bin_of 64 op (first words) (second words) ≡ Ok (wide words))
        → ((words : Words) (heap : List ℕ) → AreWords words → Turns d words heap (wide words) (run_actions helping (simples code) words heap)) → Done op code
    in_place op code puts wide is turns = record {
      types = refl;
      asks = puts_ask_none code puts;
      paid = λ words heap. subst (λ u. u ≤ f.pace) (sym (puts_are_free helping code puts words heap)) (omega arith);
      free = λ e words heap. absurd (cc e);
      alike = λ words heap replies events are is_heap such.
          let t = turns words heap are in
          let effect = both64 (bin_of 64 op) answer64 (operands b (I64 ∷ I64 ∷ below) words) (locals_of f.context.locals words) (store_with f.setting words heap replies events) in
          subst (λ o. IsAlike f helping b (I64 ∷ below) words heap replies events effect o) (sym t.is)
          (two_to_wide f helping b below words t.after heap replies events t.keeps (bin_of 64 op) (is words are such ∙ ap Ok t.same));
    }

    module _ (n : ℕ) (counts : (words : Words) → Such words → words (low (d + 1)) ≡ n) where
      abbrev k : ℕ
      k = n % 64

      few : (m : ℕ) → m % 64 < 64
      few m = omega arith

      -- the operator with the count that it has
      counted : (o : ℕ → ℕ → ℕ) (words : Words) → Such words → o (first words) (second words) ≡ o (first words) (joined n (words (high (d + 1))))
      counted o words such = ap (λ m. o (first words) (joined m (words (high (d + 1))))) (counts words such)

      first_fits : (words : Words) → AreWords words → first words < 2 ^ 64
      first_fits words are = let g = are (low d) in let h = are (high d) in omega (arith, g, h)

      is_count : (words : Words) → AreWords words → Such words → n < 2 ^ 32
      is_count words are such = subst (λ m. m < 2 ^ 32) (counts words such) (are (low (d + 1)))

      at_number : (op : Bin) → Done op (wide_binary op (operand_pair d) (operand_pair (d + 1)) (operand_pair d)) → Done op (wide_binary_by op k (operand_pair d) (operand_pair (d + 1)) (operand_pair d))
      at_number bins.Shl is = in_place bins.Shl (left_by k (operand_pair d) (operand_pair d)) (left_puts k (operand_pair d) (operand_pair d)) (λ words. shl_of 64 (first words) (joined k 0))
          (λ words are such. ap Ok (counted (shl_of 64) words such ∙ places_left (first words) n (words (high (d + 1)))))
          (λ words heap are. left_turns helping d words heap are k (few n))
      at_number bins.ShrS is = in_place bins.ShrS (right_by true k (operand_pair d) (operand_pair d)) (right_puts true k (operand_pair d) (operand_pair d)) (λ words. shr_s_of 64 (first words) (joined k 0))
          (λ words are such. ap Ok (counted (shr_s_of 64) words such ∙ places_right_signed (first words) n (words (high (d + 1)))))
          (λ words heap are. right_turns helping d words heap are k (few n) true)
      at_number bins.ShrU is = in_place bins.ShrU (right_by false k (operand_pair d) (operand_pair d)) (right_puts false k (operand_pair d) (operand_pair d)) (λ words. shr_u_of 64 (first words) (joined k 0))
          (λ words are such. ap Ok (counted (shr_u_of 64) words such ∙ places_right (first words) n (words (high (d + 1)))))
          (λ words heap are. right_turns helping d words heap are k (few n) false)
      at_number bins.Rotl is = in_place bins.Rotl (round_by k (operand_pair d) (low (d + 1)) (operand_pair d)) (round_puts k (operand_pair d) (low (d + 1)) (operand_pair d)) (λ words. rotl_of 64 (first words) (joined k 0))
          (λ words are such. ap Ok (counted (rotl_of 64) words such ∙ places_round (first words) n (words (high (d + 1)))))
          (λ words heap are. round_turns helping d words heap are k (few n))
      at_number bins.Rotr is = in_place bins.Rotr (round_by ((64 - k) % 64) (operand_pair d) (low (d + 1)) (operand_pair d)) (round_puts ((64 - k) % 64) (operand_pair d) (low (d + 1)) (operand_pair d))
          (λ words. rotl_of 64 (first words) (joined ((64 - k) % 64) 0))
          (λ words are such. ap Ok (counted (rotr_of 64) words such ∙ places_round_right (first words) n (words (high (d + 1))) (first_fits words are) (is_count words are such)))
          (λ words heap are. round_turns helping d words heap are ((64 - k) % 64) (few (64 - k)))
      at_number op is = is

  -- ---- each instruction

  module _ (ds : List Delayed) where
    wide_amid : (op : Bin) (b : ℕ) (below : List ValType) → IsPlain f helping (bin64 op) b (I64 ∷ I64 ∷ below) (I64 ∷ below) → IsAmid ds (bin64 op) b (I64 ∷ I64 ∷ below) (I64 ∷ below)
    wide_amid op b below is = by (number_at ds (low (b + length below + 1))) refl
      where
        alone : IsDone (code_of f helping (bin64 op) b (I64 ∷ I64 ∷ below)) (AreNumbers ds) (bin64 op) b (I64 ∷ I64 ∷ below) (I64 ∷ below)
        alone = by_itself (AreNumbers ds) (bin64 op) b (I64 ∷ I64 ∷ below) (I64 ∷ below) is

        by : (o : Option ℤ) → number_at ds (low (b + length below + 1)) ≡ o
            → IsDone (simples (wide_binary_at o op (operand_pair (b + length below)) (operand_pair (b + length below + 1)) (operand_pair (b + length below)))) (AreNumbers ds) (bin64 op) b (I64 ∷ I64 ∷ below) (I64 ∷ below)
        by None e = alone
        by (Some z) e = at_number (AreNumbers ds) b below (word_of 32 z) (λ words are. are (low (b + length below + 1)) z e) op alone

    abbrev PlainIsAmid : Plain → Type 0
    PlainIsAmid p =
        (ls : List Aim) (b : ℕ) (form : Shape) (takes gives below : List ValType) → plain_shape (under_aims f.context ls) p ≡ Ok form → Acts form takes gives
        → IsAmid ds p b (takes ++ below) (gives ++ below)

    pub plain_amid : (p : Plain) → PlainIs f helping p → PlainIsAmid p
    plain_amid (bin64 op) is ls b form takes gives below shape acts =
        of_fixed (λ takes gives. IsPlain f helping (bin64 op) b (takes ++ below) (gives ++ below) → IsAmid ds (bin64 op) b (takes ++ below) (gives ++ below))
        (I64 ∷ I64 ∷ []) (I64 ∷ []) takes gives form shape acts (wide_amid op b below) (is ls b form takes gives below shape acts)
    plain_amid p is ls b form takes gives below shape acts = by_itself (AreNumbers ds) p b (takes ++ below) (gives ++ below) (is ls b form takes gives below shape acts)
