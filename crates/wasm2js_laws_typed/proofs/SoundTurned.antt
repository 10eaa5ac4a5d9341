-- The code of shifts and rotations by a number that is known is sound where its variables are ints.
use Rattle.std.proofs.Common.{ℕ, ◌-◌, ◌%◌, ◌<◌, Bool, true, false, List, Option, Some, None, refl, arith}
use Rattle.std.specs.Prelude.{ℤ, nat_lt, ◌==◌, if◌then◌else◌}
use Rattle.sem_words.specs.declared.word.Bin.{Bin}
use Rattle.sem_words.specs.declared.word.Bin.TheVariants as bins
use Rattle.sem_words.specs.Words.{word_of}
use Rattle.wasm_lang.specs.declared.types.ValType.TheVariants.{I64}
use Rattle.wasm_lang.specs.Instructions.{bin64}
use Rattle.asm_lang_valid.specs.Typing.{Scope}
use Rattle.wasm2js_translation.specs.Names.{Name}
use Rattle.wasm2js_translation.specs.Words.{BitOp, shift_left, read, both, Simple}
use Rattle.wasm2js_translation.specs.Pairs.{Pair, literal, moved}
use Rattle.wasm2js_translation.specs.Wide.{shifted, joined_left, left_by, emptied, to_right, right_by, turned_from, round_by, wide_binary_by, wide_binary_at}
use Rattle.wasm2js_laws_terms.specs.Sound.{IsInt, IsSound, AreSoundSimple}
use Rattle.wasm2js_laws_scopes.specs.Provided.{HasFixed, WordsHelp}
use Rattle.wasm2js_laws_typed.proofs.Facts.{plain_literal}
use Rattle.wasm2js_laws_typed.proofs.SoundCode.{moved_sound, wide_binary_sound}

few_places : (n : ℕ) → n % 64 < 64
few_places n = omega arith

module _ (s : Scope) where
  abbrev IsPair : Pair → Type 0
  IsPair a = IsInt s a.low × IsInt s a.high

  if_sound : (t : Bool) (x y : List Simple) → AreSoundSimple s x → AreSoundSimple s y → AreSoundSimple s (if t then x else y)
  if_sound true x y h k = h
  if_sound false x y h k = k

  count_sound : (k : ℕ) → k < 64 → IsSound s (literal k)
  count_sound k few = plain_literal k (omega (arith, few))

  shifted_sound : (op : BitOp) (k : ℕ) (a : Name) → k < 64 → IsInt s a → IsSound s (shifted op k a)
  shifted_sound op k a few h = by (k == 0)
    where
      by : (t : Bool) → IsSound s (if t then read a else both op (read a) (literal k))
      by true = h
      by false = (h, count_sound k few)

  joined_sound : (k : ℕ) (upper lower : Name) → k < 64 → IsInt s upper → IsInt s lower → IsSound s (joined_left k upper lower)
  joined_sound k upper lower few f g = ((f, count_sound k few), (g, count_sound (32 - k) (omega arith)))

  pair_moved : (a to : Pair) → IsPair a → IsPair to → AreSoundSimple s (moved I64 a to)
  pair_moved a to f h = moved_sound s I64 a to (f.0, (f.1, tt)) (h.0, (h.1, tt))

  left_sound : (k : ℕ) (a to : Pair) → k < 64 → IsPair a → IsPair to → AreSoundSimple s (left_by k a to)
  left_sound k a to few f h =
      if_sound (k == 0) _ _ (pair_moved a to f h)
      (if_sound (nat_lt k 32) _ _ ((h.1, joined_sound k a.high a.low few f.1 f.0), ((h.0, shifted_sound shift_left k a.low few f.0), tt))
      ((h.1, shifted_sound shift_left (k - 32) a.low (omega (arith, few)) f.0), ((h.0, refl), tt)))

  emptied_sound : (signed : Bool) (a : Name) → IsInt s a → IsSound s (emptied signed a)
  emptied_sound true a f = (f, refl)
  emptied_sound false a f = refl

  right_sound : (signed : Bool) (k : ℕ) (a to : Pair) → k < 64 → IsPair a → IsPair to → AreSoundSimple s (right_by signed k a to)
  right_sound signed k a to few f h =
      if_sound (k == 0) _ _ (pair_moved a to f h)
      (if_sound (nat_lt k 32) _ _ ((h.0, joined_sound (32 - k) a.high a.low (omega arith) f.1 f.0), ((h.1, shifted_sound (to_right signed) k a.high few f.1), tt))
      ((h.0, shifted_sound (to_right signed) (k - 32) a.high (omega (arith, few)) f.1), ((h.1, emptied_sound signed a.high f.1), tt)))

  turned_sound : (k : ℕ) (spare high : Name) (to : Pair) → k < 64 → IsInt s spare → IsInt s high → IsPair to → AreSoundSimple s (turned_from k spare high to)
  turned_sound k spare high to few f g h =
      let rest : k - 32 < 64 = omega (arith, few) in
      if_sound (k == 32) _ _ ((h.0, g), ((h.1, f), tt))
      (if_sound (nat_lt k 32) _ _ ((h.0, joined_sound k spare high few f g), ((h.1, joined_sound k high spare few g f), tt))
      ((h.0, joined_sound (k - 32) high spare rest g f), ((h.1, joined_sound (k - 32) spare high rest f g), tt)))

  round_sound : (k : ℕ) (a : Pair) (spare : Name) (to : Pair) → k < 64 → IsPair a → IsInt s spare → IsPair to → AreSoundSimple s (round_by k a spare to)
  round_sound k a spare to few f g h = if_sound (k == 0) _ _ (pair_moved a to f h) ((g, f.0), turned_sound k spare a.high to few g f.1 h)

  module _ (given : HasFixed s) where
    by_number_sound : (op : Bin) → WordsHelp s (bin64 op) → (k : ℕ) (a b to : Pair) → k < 64 → IsPair a → IsPair b → IsPair to → AreSoundSimple s (wide_binary_by op k a b to)
    by_number_sound bins.Shl helped k a b to few f g h = left_sound k a to few f h
    by_number_sound bins.ShrS helped k a b to few f g h = right_sound true k a to few f h
    by_number_sound bins.ShrU helped k a b to few f g h = right_sound false k a to few f h
    by_number_sound bins.Rotl helped k a b to few f g h = round_sound k a b.low to few f g.0 h
    by_number_sound bins.Rotr helped k a b to few f g h = round_sound ((64 - k) % 64) a b.low to (few_places (64 - k)) f g.0 h
    by_number_sound op helped k a b to few f g h = wide_binary_sound s given op helped a b to f g h

    pub wide_binary_at_sound : (count : Option ℤ) (op : Bin) → WordsHelp s (bin64 op) → (a b to : Pair) → IsPair a → IsPair b → IsPair to → AreSoundSimple s (wide_binary_at count op a b to)
    wide_binary_at_sound None op helped a b to f g h = wide_binary_sound s given op helped a b to f g h
    wide_binary_at_sound (Some z) op helped a b to f g h = by_number_sound op helped (word_of 32 z % 64) a b to (few_places (word_of 32 z)) f g h
