-- The code of operators is sound where its variables are ints.
use Rattle.std.proofs.Common.{◌≡◌, ℕ, ◌+◌, ◌-◌, ◌%◌, ◌^◌, ◌<◌, ◌≤◌, Bool, true, false, ◌||◌, List, [], ◌∷◌, ◌++◌, Option, Some, refl, sym, subst, arith}
use Rattle.std.specs.Prelude.{nat_le, ◌==◌, if◌then◌else◌}
use Rattle.std.proofs.lemmas.Bool.Decides.{nat_tests}
use Rattle.sem_words.specs.declared.word.Bin.{Bin}
use Rattle.sem_words.specs.declared.word.Bin.TheVariants as bins
use Rattle.sem_words.specs.declared.word.Un.{Un}
use Rattle.sem_words.specs.declared.word.Un.TheVariants as uns
use Rattle.sem_words.specs.declared.word.Rel.{Rel}
use Rattle.sem_words.specs.declared.word.Rel.TheVariants as rels
use Rattle.wasm_lang.specs.declared.types.ValType.{ValType}
use Rattle.wasm_lang.specs.declared.types.ValType.TheVariants.{I32, I64}
use Rattle.wasm_lang.specs.Instructions.{un32, un64, bin32, bin64}
use Rattle.asm_lang_valid.specs.Typing.{Scope}
use Rattle.wasm2js_translation.specs.Names as names
use Rattle.wasm2js_translation.specs.Names.{Name, Fixed}
use Rattle.wasm2js_translation.specs.Words.{read, Term, Simple, put, stop, guard, byte, Action, simply}
use Rattle.wasm2js_laws_terms.specs.Sound.{IsInt, IsHelper, IsSound, AreSoundSimple, AreSoundActions}
use Rattle.wasm2js_laws_scopes.specs.Provided.{signature, AreInts, HasFixed, HasMemory, WordsHelp}
use Rattle.wasm2js_translation.specs.Pairs.{Pair, names_of, simples, moved, literal, plus, minus, sign_of}
use Rattle.wasm2js_translation.specs.Actions.{narrow_binary, narrow_unary, narrow_relation, selected, moved_if, place, guarded, by_place, half, sign_extended}
use Rattle.wasm2js_translation.specs.Wide.{wide_binary, wide_unary, wide_relation, wide_extend, wide_turn}
use Rattle.wasm2js_laws_typed.proofs.Facts.{plain_literal}

module _ (s : Scope) where
  -- ---- lists

  pub all_simple : (ss : List Simple) → AreSoundSimple s ss → AreSoundActions s (simples ss)
  all_simple [] h = tt
  all_simple (x ∷ ss) h = (h.0, all_simple ss h.1)

  pub join_sound : (a b : List Action) → AreSoundActions s a → AreSoundActions s b → AreSoundActions s (a ++ b)
  join_sound [] b h k = k
  join_sound (x ∷ a) b h k = (h.0, join_sound a b h.1 k)

  -- ---- a value from one place to another

  pub moved_sound : (t : ValType) (from to : Pair) → AreInts s (names_of t from) → AreInts s (names_of t to) → AreSoundSimple s (moved t from to)
  moved_sound I32 from to f g = ((g.0, f.0), tt)
  moved_sound I64 from to f g = ((g.0, f.0), ((g.1.0, f.1.0), tt))

  pub moved_if_sound : (o : Option ValType) (t : ValType) (from to : Pair) → o ≡ Some t → AreInts s (names_of t from) → AreInts s (names_of t to) → AreSoundActions s (simples (moved_if o from to))
  moved_if_sound o t from to e f g = subst (λ o. AreSoundActions s (simples (moved_if o from to))) (sym e) (all_simple (moved t from to) (moved_sound t from to f g))

  pub selected_sound : (t : ValType) (a b : Pair) (c : Name) → IsInt s c → AreInts s (names_of t a) → AreInts s (names_of t b) → AreSoundSimple s (selected (Some t) a b c)
  selected_sound I32 a b c h f g = ((f.0, (h, f.0, g.0)), tt)
  selected_sound I64 a b c h f g = ((f.0, (h, f.0, g.0)), ((f.1.0, (h, f.1.0, g.1.0)), tt))

  -- ---- words of 32 bits

  module _ (given : HasFixed s) where
    pub narrow_binary_sound : (op : Bin) → WordsHelp s (bin32 op) → (a b : Name) → IsInt s a → IsInt s b → AreSoundSimple s (narrow_binary op a b)
    narrow_binary_sound bins.Add helped a b f g = ((f, (f, (g, tt), refl, omega arith)), tt)
    narrow_binary_sound bins.Sub helped a b f g = ((f, (f, (g, tt), refl, omega arith)), tt)
    narrow_binary_sound bins.Mul helped a b f g = ((f, (given.multiplies, f, g)), tt)
    narrow_binary_sound bins.DivS helped a b f g = ((f, helped names.divide_signed (signature 2 true) refl refl, (f, (g, tt))), tt)
    narrow_binary_sound bins.DivU helped a b f g = ((f, helped names.divide (signature 2 true) refl refl, (f, (g, tt))), tt)
    narrow_binary_sound bins.RemS helped a b f g = ((f, helped names.remainder_signed (signature 2 true) refl refl, (f, (g, tt))), tt)
    narrow_binary_sound bins.RemU helped a b f g = ((f, helped names.remainder (signature 2 true) refl refl, (f, (g, tt))), tt)
    narrow_binary_sound bins.And helped a b f g = ((f, (f, g)), tt)
    narrow_binary_sound bins.Or helped a b f g = ((f, (f, g)), tt)
    narrow_binary_sound bins.Xor helped a b f g = ((f, (f, g)), tt)
    narrow_binary_sound bins.Shl helped a b f g = ((f, (f, g)), tt)
    narrow_binary_sound bins.ShrS helped a b f g = ((f, (f, g)), tt)
    narrow_binary_sound bins.ShrU helped a b f g = ((f, (f, g)), tt)
    narrow_binary_sound bins.Rotl helped a b f g = ((f, ((f, g), (((f, refl), g), tt), refl, omega arith)), tt)
    narrow_binary_sound bins.Rotr helped a b f g = ((f, ((f, g), (((f, refl), g), tt), refl, omega arith)), tt)

    pub narrow_unary_sound : (op : Un) → WordsHelp s (un32 op) → (a : Name) → IsInt s a → AreSoundSimple s (narrow_unary op a)
    narrow_unary_sound uns.Clz helped a f = ((f, (given.counts, f)), tt)
    narrow_unary_sound uns.Ctz helped a f = ((f, (refl, ((given.counts, (f, (f, (refl, tt), refl, omega arith))), tt), refl, omega arith)), tt)
    narrow_unary_sound uns.Popcnt helped a f = ((f, helped names.set_bits (signature 1 true) refl refl, (f, tt)), tt)

  pub narrow_relation_sound : (op : Rel) (a b : Name) → IsInt s a → IsInt s b → IsSound s (narrow_relation op (read a) (read b))
  narrow_relation_sound rels.Eq a b f g = (f, g)
  narrow_relation_sound rels.Ne a b f g = (f, g)
  narrow_relation_sound rels.LtS a b f g = (f, g)
  narrow_relation_sound rels.LtU a b f g = (f, g)
  narrow_relation_sound rels.GtS a b f g = (f, g)
  narrow_relation_sound rels.GtU a b f g = (f, g)
  narrow_relation_sound rels.LeS a b f g = (f, g)
  narrow_relation_sound rels.LeU a b f g = (f, g)
  narrow_relation_sound rels.GeS a b f g = (f, g)
  narrow_relation_sound rels.GeU a b f g = (f, g)

  -- ---- words of 64 bits

  abbrev IsPair : Pair → Type 0
  IsPair a = IsInt s a.low × IsInt s a.high

  module _ (given : HasFixed s) where
    turn_sound : (f : Fixed) (a to : Pair) (count : Term) → IsHelper s f 3 true → IsPair a → IsPair to → IsSound s count → AreSoundSimple s (wide_turn f a to count)
    turn_sound f a to count is p q h = ((q.0, is, (p.0, (p.1, (h, tt)))), ((q.1, given.spare), tt))

    pub wide_binary_sound : (op : Bin) → WordsHelp s (bin64 op) → (a b to : Pair) → IsPair a → IsPair b → IsPair to → AreSoundSimple s (wide_binary op a b to)
    wide_binary_sound bins.Add helped a b to f g h = ((h.0, (f.0, (g.0, tt), refl, omega arith)), ((h.1, (f.1, (g.1, ((h.0, g.0), tt)), refl, omega arith)), tt))
    wide_binary_sound bins.Sub helped a b to f g h = ((h.1, (f.1, (g.1, ((f.0, g.0), tt)), refl, omega arith)), ((h.0, (f.0, (g.0, tt), refl, omega arith)), tt))
    wide_binary_sound bins.Mul helped a b to f g h = tt
    wide_binary_sound bins.DivS helped a b to f g h = tt
    wide_binary_sound bins.DivU helped a b to f g h = tt
    wide_binary_sound bins.RemS helped a b to f g h = tt
    wide_binary_sound bins.RemU helped a b to f g h = tt
    wide_binary_sound bins.And helped a b to f g h = ((h.0, (f.0, g.0)), ((h.1, (f.1, g.1)), tt))
    wide_binary_sound bins.Or helped a b to f g h = ((h.0, (f.0, g.0)), ((h.1, (f.1, g.1)), tt))
    wide_binary_sound bins.Xor helped a b to f g h = ((h.0, (f.0, g.0)), ((h.1, (f.1, g.1)), tt))
    wide_binary_sound bins.Shl helped a b to f g h = turn_sound names.shift_left a to (read b.low) (helped names.shift_left (signature 3 true) refl refl) f h g.0
    wide_binary_sound bins.ShrS helped a b to f g h = turn_sound names.shift_right_signed a to (read b.low) (helped names.shift_right_signed (signature 3 true) refl refl) f h g.0
    wide_binary_sound bins.ShrU helped a b to f g h = turn_sound names.shift_right a to (read b.low) (helped names.shift_right (signature 3 true) refl refl) f h g.0
    wide_binary_sound bins.Rotl helped a b to f g h = turn_sound names.rotate_left a to (read b.low) (helped names.rotate_left (signature 3 true) refl refl) f h g.0
    wide_binary_sound bins.Rotr helped a b to f g h = turn_sound names.rotate_left a to (minus (literal 0) (read b.low)) (helped names.rotate_left (signature 3 true) refl refl) f h (refl, (g.0, tt), refl, omega arith)

    pub wide_unary_sound : (op : Un) → WordsHelp s (un64 op) → (a to : Pair) → IsPair a → IsPair to → AreSoundSimple s (wide_unary op a to)
    wide_unary_sound uns.Clz helped a to f h = ((h.0, helped names.leading_zeros (signature 2 true) refl refl, (f.0, (f.1, tt))), ((h.1, refl), tt))
    wide_unary_sound uns.Ctz helped a to f h = ((h.0, helped names.trailing_zeros (signature 2 true) refl refl, (f.0, (f.1, tt))), ((h.1, refl), tt))
    wide_unary_sound uns.Popcnt helped a to f h =
        let is = helped names.set_bits (signature 1 true) refl refl in
        ((h.0, is, (f.0, tt)), ((h.1, is, (f.1, tt)), ((h.0, (h.0, (h.1, tt), refl, omega arith)), ((h.1, refl), tt))))

  pub wide_relation_sound : (op : Rel) (a b : Pair) → IsPair a → IsPair b → IsSound s (wide_relation op a b)
  wide_relation_sound rels.Eq a b f g = ((f.0, g.0), (f.1, g.1))
  wide_relation_sound rels.Ne a b f g = (((f.0, g.0), (f.1, g.1)), refl)
  wide_relation_sound rels.LtS a b f g = ((f.1, g.1), (f.0, g.0), (f.1, g.1))
  wide_relation_sound rels.LtU a b f g = ((f.1, g.1), (f.0, g.0), (f.1, g.1))
  wide_relation_sound rels.GtS a b f g = ((f.1, g.1), (f.0, g.0), (f.1, g.1))
  wide_relation_sound rels.GtU a b f g = ((f.1, g.1), (f.0, g.0), (f.1, g.1))
  wide_relation_sound rels.LeS a b f g = ((f.1, g.1), (f.0, g.0), (f.1, g.1))
  wide_relation_sound rels.LeU a b f g = ((f.1, g.1), (f.0, g.0), (f.1, g.1))
  wide_relation_sound rels.GeS a b f g = ((f.1, g.1), (f.0, g.0), (f.1, g.1))
  wide_relation_sound rels.GeU a b f g = ((f.1, g.1), (f.0, g.0), (f.1, g.1))

  -- ---- sign extensions

  few_bits : (bits : ℕ) → 32 - bits < 2 ^ 32
  few_bits bits = omega arith

  pub wide_extend_sound : (bits : ℕ) (a to : Pair) → IsPair a → IsPair to → AreSoundSimple s (wide_extend bits a to)
  wide_extend_sound bits a to f h = by (bits == 32) refl
    where
      by : (t : Bool) → (bits == 32) ≡ t → AreSoundSimple s (wide_extend bits a to)
      by true e = rw e ((h.0, f.0), ((h.1, (h.0, refl)), tt))
      by false e = let l = plain_literal (32 - bits) (few_bits bits) in rw e ((h.0, ((f.0, l), l)), ((h.1, (h.0, refl)), tt))

  pub narrow_extended_sound : (bits : ℕ) (a : Pair) → IsInt s a.low → AreSoundSimple s (sign_extended false bits a)
  narrow_extended_sound bits a f = let l = plain_literal (32 - bits) (few_bits bits) in ((f, ((f, l), l)), tt)

  pub wide_extended_sound : (bits : ℕ) (a : Pair) → IsPair a → AreSoundSimple s (sign_extended true bits a)
  wide_extended_sound bits a f = by (bits == 32) refl
    where
      by : (t : Bool) → (bits == 32) ≡ t → AreSoundSimple s (sign_extended true bits a)
      by true e = rw e ((f.1, (f.0, refl)), tt)
      by false e = subst (λ t. AreSoundSimple s (if t then put a.high (sign_of (read a.low)) ∷ [] else wide_extend bits a a)) (sym e) (wide_extend_sound bits a a f f)

  -- ---- memory

  is_short : (n : ℕ) → n ≤ 2 ^ 28 → n < 2 ^ 32
  is_short n h = omega (arith, h)

  pub place_sound : (a : Name) (offset : ℕ) → IsInt s a → offset < 2 ^ 32 → IsSound s (place a offset)
  place_sound a offset f h = by (offset == 0) refl
    where
      by : (t : Bool) → (offset == 0) ≡ t → IsSound s (place a offset)
      by true e = rw e f
      by false e = subst (λ t. IsSound s (if t then read a else plus (read a) (literal offset))) (sym e) (f, (plain_literal offset h, tt), refl, omega arith)

  module _ (given : HasFixed s) (memory : HasMemory s) (bytes : ℕ) (few : bytes ≤ 2 ^ 28) where
    pub guarded_sound : (size offset : ℕ) (a : Name) (access : List Action) → IsInt s a → (size + offset ≤ bytes → AreSoundActions s access) → AreSoundActions s (guarded bytes size offset a access)
    guarded_sound size offset a access f h = by (nat_le (size + offset) bytes) refl
      where
        within : nat_le (size + offset) bytes ≡ true → size + offset ≤ bytes
        within e = grind (arith, nat_tests)

        room : bytes - (size + offset) < 2 ^ 32
        room = omega (arith, few)

        by : (t : Bool) → nat_le (size + offset) bytes ≡ t → AreSoundActions s (guarded bytes size offset a access)
        by true e = subst (λ t. AreSoundActions s (if t then simply (guard (read a) (bytes - (size + offset)) 2) ∷ access else simply (stop 2) ∷ [])) (sym e) ((f, room, (given.traps, omega arith)), h (within e))
        by false e = rw e ((given.traps, omega arith), tt)

    pub byte_sound : (signed : Bool) (at : Term) → IsSound s at → IsSound s (byte signed at)
    byte_sound true at h = (memory.signed_bytes, h)
    byte_sound false at h = (memory.bytes, h)

    pub half_sound : (signed : Bool) (a : Name) (offset : ℕ) → IsInt s a → offset + 1 < 2 ^ 32 → IsSound s (half signed a offset)
    half_sound signed a offset f h =
        (byte_sound false (place a offset) (place_sound a offset f (omega (arith, h))), ((byte_sound signed (place a (offset + 1)) (place_sound a (offset + 1) f h), refl), tt), refl, omega arith)

    pub apart_sound : (a : Name) (offset : ℕ) (apart together : List Simple) → IsInt s a → offset < 2 ^ 32 → AreSoundSimple s apart → AreSoundSimple s together → AreSoundActions s (by_place a offset apart together)
    apart_sound a offset apart together f h p q = (((place_sound a (offset % 4) f (omega arith), refl), p, q), tt)

  pub last_is : (a b c w : Bool) → (a || (b || (c || w))) ≡ true → a ≡ false → b ≡ false → c ≡ false → w ≡ true
  last_is true b c w h p q r = absurd (cc p)
  last_is false true c w h p q r = absurd (cc q)
  last_is false false true w h p q r = absurd (cc r)
  last_is false false false w h p q r = h
