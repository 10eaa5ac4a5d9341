-- Loads and stores are sound where their variables are ints.
use Rattle.std.proofs.Common.{◌≡◌, ℕ, ◌+◌, ◌^◌, ◌<◌, ◌≤◌, Bool, true, false, ◌&&◌, ◌||◌, List, [], ◌∷◌, refl, arith}
use Rattle.std.specs.Prelude.{nat_lt, ◌==◌, if◌then◌else◌}
use Rattle.wasm_lang.specs.declared.types.MemOp.{MemOp}
use Rattle.asm_lang_valid.specs.Typing.{Scope}
use Rattle.wasm2js_translation.specs.Names as names
use Rattle.wasm2js_translation.specs.Names.{Name, fixed, spare_high}
use Rattle.wasm2js_translation.specs.Words.{read, both, shift_right, put, ask, tell, byte, whole, write_byte, write_whole, Action}
use Rattle.wasm2js_laws_terms.specs.Sound.{IsInt, IsHelper, IsSound, AreSoundActions}
use Rattle.wasm2js_laws_scopes.specs.Provided.{HasFixed, HasMemory}
use Rattle.wasm2js_translation.specs.Pairs.{Pair, literal, sign_of}
use Rattle.wasm2js_translation.specs.Actions.{place, half, load_word, load_high, load_code, store_word, store_code}
use Rattle.wasm2js_laws_typed.specs.Laws.{is_loaded, is_stored}
use Rattle.wasm2js_laws_typed.proofs.SoundCode.{all_simple, join_sound, place_sound, guarded_sound, byte_sound, half_sound, apart_sound, last_is}

-- one of four
chosen : (s : Scope) (x y z : Bool) (a b c d : List Action)
    → AreSoundActions s a → AreSoundActions s b → (z ≡ true → AreSoundActions s c) → (x ≡ false → y ≡ false → z ≡ false → AreSoundActions s d)
    → AreSoundActions s (if x then a else (if y then b else (if z then c else d)))
chosen s true y z a b c d f g h k = f
chosen s false true z a b c d f g h k = g
chosen s false false true a b c d f g h k = h refl
chosen s false false false a b c d f g h k = k refl refl refl

if_sound : (s : Scope) (x : Bool) (a : List Action) → (x ≡ true → AreSoundActions s a) → AreSoundActions s (if x then a else [])
if_sound s true a f = f refl
if_sound s false a f = tt

first_true : (a b : Bool) → (a && b) ≡ true → a ≡ true
first_true true b h = refl
first_true false b h = absurd (cc h)

near : (size offset bytes : ℕ) → bytes ≤ 2 ^ 28 → size + offset ≤ bytes → offset + 4 < 2 ^ 32
near size offset bytes few h = omega (arith, few, h)

nearer : (offset k : ℕ) → k ≤ 4 → offset + 4 < 2 ^ 32 → offset + k < 2 ^ 32
nearer offset k le h = omega (arith, le, h)

at_it : (offset : ℕ) → offset + 4 < 2 ^ 32 → offset < 2 ^ 32
at_it offset h = omega (arith, h)

-- ---- the sizes of accesses: 1, 2 or 4 bytes, and else a word of 64 bits

abbrev pub is_access : MemOp → Bool
is_access op = (op.size == 1) || ((op.size == 2) || ((op.size == 4) || op.wide))

one_of_two : (t u v w : Bool) → (t || u) ≡ true → (t || (u || (v || w))) ≡ true
one_of_two true u v w h = refl
one_of_two false true v w h = refl
one_of_two false false v w h = absurd (cc h)

one_of_three : (t u v w : Bool) → (t || (u || v)) ≡ true → (t || (u || (v || w))) ≡ true
one_of_three true u v w h = refl
one_of_three false true v w h = refl
one_of_three false false true w h = refl
one_of_three false false false w h = absurd (cc h)

any_of_four : (t u v : Bool) → (t || (u || (v || true))) ≡ true
any_of_four true u v = refl
any_of_four false true v = refl
any_of_four false false true = refl
any_of_four false false false = refl

pub loads_access : (wide signed : Bool) (n : ℕ) → is_loaded wide signed n ≡ true → ((n == 1) || ((n == 2) || ((n == 4) || wide))) ≡ true
loads_access false false n h = one_of_three (n == 1) (n == 2) (n == 4) false h
loads_access false true n h = one_of_two (n == 1) (n == 2) (n == 4) false h
loads_access true signed n h = any_of_four (n == 1) (n == 2) (n == 4)

pub stores_access : (wide signed : Bool) (n : ℕ) → is_stored wide signed n ≡ true → ((n == 1) || ((n == 2) || ((n == 4) || wide))) ≡ true
stores_access wide false n h = loads_access wide false n h
stores_access wide true n h = absurd (cc h)

-- a word of 64 bits has 8 bytes
past_four : (t u v w : Bool) → (t || (u || (v || w))) ≡ true → t ≡ false → u ≡ false → v ≡ false → w ≡ true
past_four true u v w h p q r = absurd (cc p)
past_four false true v w h p q r = absurd (cc q)
past_four false false true w h p q r = absurd (cc r)
past_four false false false w h p q r = h

no_further : (t u v : Bool) → (t || (u || v)) ≡ true → t ≡ false → u ≡ false → v ≡ false → ⊥
no_further true u v h p q r = cc p
no_further false true v h p q r = cc q
no_further false false true h p q r = cc r
no_further false false false h p q r = cc h

no_second : (t u : Bool) → (t || u) ≡ true → t ≡ false → u ≡ false → ⊥
no_second true u h p q = cc p
no_second false true h p q = cc q
no_second false false h p q = cc h

-- a size is none of 1, 2 and 4, and so 8
abbrev pub IsEight : ℕ → Type 0
IsEight n = (n == 1) ≡ false → (n == 2) ≡ false → (n == 4) ≡ false → (n == 8) ≡ true

pub loads_eight : (wide signed : Bool) (n : ℕ) → is_loaded wide signed n ≡ true → IsEight n
loads_eight false false n h p q r = absurd (no_further (n == 1) (n == 2) (n == 4) h p q r)
loads_eight false true n h p q r = absurd (no_second (n == 1) (n == 2) h p q)
loads_eight true false n h p q r = past_four (n == 1) (n == 2) (n == 4) (n == 8) h p q r
loads_eight true true n h p q r = absurd (no_further (n == 1) (n == 2) (n == 4) h p q r)

pub stores_eight : (wide signed : Bool) (n : ℕ) → is_stored wide signed n ≡ true → IsEight n
stores_eight wide false n h = loads_eight wide false n h
stores_eight wide true n h = absurd (cc h)

module _ (s : Scope) (given : HasFixed s) (memory : HasMemory s) (bytes : ℕ) (few : bytes ≤ 2 ^ 28) (op : MemOp) (formed : is_access op ≡ true) (eight : IsEight op.size) (offset : ℕ) where
  is_wide : (op.size == 1) ≡ false → (op.size == 2) ≡ false → (op.size == 4) ≡ false → op.wide ≡ true
  is_wide p q r = last_is s (op.size == 1) (op.size == 2) (op.size == 4) op.wide formed p q r

  module _ (p : Pair) (f : IsInt s p.low) (g : op.wide ≡ true → IsInt s p.high) (one : (op.size == 4) ≡ true → IsHelper s names.load_32 1 true) (two : (op.size == 8) ≡ true → IsHelper s names.load_64 1 true) where
    load_word_sound : offset + 4 < 2 ^ 32 → AreSoundActions s (load_word op offset p)
    load_word_sound h =
        let here : IsSound s (place p.low offset) = place_sound s p.low offset f (at_it offset h) in
        chosen s (op.size == 1) (op.size == 2) (op.size == 4) _ _ _ _
        (all_simple s (put p.low (byte op.signed (place p.low offset)) ∷ []) ((f, byte_sound s given memory bytes few op.signed (place p.low offset) here), tt))
        (all_simple s (put p.low (half op.signed p.low offset) ∷ []) ((f, half_sound s given memory bytes few op.signed p.low offset f (nearer offset 1 (omega arith) h)), tt))
        (λ z. apart_sound s given memory bytes few p.low offset (ask p.low names.load_32 (place p.low offset ∷ []) ∷ []) (put p.low (whole (place p.low offset)) ∷ []) f (at_it offset h)
        ((f, one z, (here, tt)), tt) ((f, (memory.words, here)), tt))
        (λ x y z.
        let high = g (is_wide x y z) in
        apart_sound s given memory bytes few p.low offset (ask p.low names.load_64 (place p.low offset ∷ []) ∷ put p.high (read (fixed spare_high)) ∷ [])
        (put p.high (whole (place p.low (offset + 4))) ∷ put p.low (whole (place p.low offset)) ∷ []) f (at_it offset h)
        ((f, two (eight x y z), (here, tt)), ((high, given.spare), tt))
        ((high, (memory.words, place_sound s p.low (offset + 4) f h)), ((f, (memory.words, here)), tt)))

    high_of : (signed : Bool) → IsSound s (if signed then sign_of (read p.low) else literal 0)
    high_of true = (f, refl)
    high_of false = refl

    load_high_sound : AreSoundActions s (load_high op p)
    load_high_sound = if_sound s (op.wide && nat_lt op.size 8) _ (λ e. all_simple s (put p.high (if op.signed then sign_of (read p.low) else literal 0) ∷ []) ((g (first_true _ _ e), high_of op.signed), tt))

    pub load_sound : AreSoundActions s (load_code bytes op offset p)
    load_sound = guarded_sound s given memory bytes few op.size offset p.low _ f
        (λ h. join_sound s (load_word op offset p) (load_high op p) (load_word_sound (near op.size offset bytes few h)) load_high_sound)

  module _ (a : Name) (v : Pair) (e : IsInt s a) (f : IsInt s v.low) (g : op.wide ≡ true → IsInt s v.high) (one : (op.size == 4) ≡ true → IsHelper s names.store_32 2 false) (two : (op.size == 8) ≡ true → IsHelper s names.store_64 3 false) where
    store_word_sound : offset + 4 < 2 ^ 32 → AreSoundActions s (store_word op offset a v)
    store_word_sound h =
        let here : IsSound s (place a offset) = place_sound s a offset e (at_it offset h) in
        chosen s (op.size == 1) (op.size == 2) (op.size == 4) _ _ _ _
        (all_simple s (write_byte (place a offset) (read v.low) ∷ []) ((memory.bytes, here, f), tt))
        (all_simple s (write_byte (place a offset) (read v.low) ∷ write_byte (place a (offset + 1)) (both shift_right (read v.low) (literal 8)) ∷ [])
        ((memory.bytes, here, f), ((memory.bytes, place_sound s a (offset + 1) e (nearer offset 1 (omega arith) h), (f, refl)), tt)))
        (λ z. apart_sound s given memory bytes few a offset (tell names.store_32 (place a offset ∷ read v.low ∷ []) ∷ []) (write_whole (place a offset) (read v.low) ∷ []) e (at_it offset h)
        ((one z, (here, (f, tt))), tt) ((memory.words, here, f), tt))
        (λ x y z.
        let high = g (is_wide x y z) in
        apart_sound s given memory bytes few a offset (tell names.store_64 (place a offset ∷ read v.low ∷ read v.high ∷ []) ∷ [])
        (write_whole (place a offset) (read v.low) ∷ write_whole (place a (offset + 4)) (read v.high) ∷ []) e (at_it offset h)
        ((two (eight x y z), (here, (f, (high, tt)))), tt)
        ((memory.words, here, f), ((memory.words, place_sound s a (offset + 4) e h, high), tt)))

    pub store_sound : AreSoundActions s (store_code bytes op offset a v)
    store_sound = guarded_sound s given memory bytes few op.size offset a _ e (λ h. store_word_sound (near op.size offset bytes few h))
