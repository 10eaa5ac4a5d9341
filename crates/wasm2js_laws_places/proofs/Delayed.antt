-- The laws of words that wait.
use Rattle.std.proofs.Common.{◌≡◌, ℕ, suc, ◌+◌, ◌-◌, ◌<◌, Bool, true, false, List, [], ◌∷◌, length, Option, Some, None, refl, sym, ap, ◌∙◌, arith}
use Rattle.std.proofs.lemmas.Bool.{and_parts}
use Rattle.std.proofs.lemmas.Bool.Decides.{nat_tests}
use Rattle.std.proofs.Math.Bool.{or-true}
use Rattle.std.specs.Prelude.{nat_lt, slice_get}
use Rattle.wasm_lang.specs.declared.types.ValType.{ValType}
use Rattle.wasm_lang.specs.declared.types.ValType.TheVariants.{I32, I64}
use Rattle.wasm2js_translation.specs.Names.{Name, numbered, operand_low, operand_high, local_low, local_high, global_low, global_high}
use Rattle.wasm2js_translation.specs.Words.{Term}
use Rattle.wasm2js_translation.specs.Delays.{Delayed, waiting, is_wide, has_number, stands, standing}
use Rattle.wasm2js_laws_places.specs.Straight.{Words, with_word, value, goes}
use Rattle.wasm2js_laws_places.specs.Places.{operands, locals_from, globals_from, Stays}
use Rattle.wasm2js_laws_places.specs.Delaying.{seen, AreWaiting, LateIsAlike, WrittenIsSeen, StandingIsSeen, OthersAreSeen}
use Rattle.wasm2js_laws_places.proofs.DelayedLists.{kept, those_by_name, those_wait}
use Rattle.wasm2js_laws_places.proofs.DelayedTerms.{seen_as, seen_at_hand, seen_other, written_first}
use Rattle.wasm2js_laws_places.proofs.DelayedArms.{code_alike}

-- ---- straight code

pub late_is_alike : LateIsAlike
late_is_alike helping ds actions words heap h = let x = code_alike helping actions ds words heap h in (x.wait, x.same, x.cost)

pub written_is_seen : WrittenIsSeen
written_is_seen helping [] words heap h = (refl, refl)
written_is_seen helping (d ∷ ds) words heap h =
    let k = written_is_seen helping ds (with_word d.name (value d.word words heap) words) heap h.4 in
    let units = k.1 in
    (k.0 ∙ ap (λ w. goes w heap) (written_first d ds words heap h), omega (arith, units))

-- ---- operands that stand

is_less : (a b : ℕ) → nat_lt a b ≡ true → a < b
is_less a b h = grind (arith, nat_tests)

less_is : (a b : ℕ) → a < b → nat_lt a b ≡ true
less_is a b h = grind (arith, nat_tests)

-- one that stands stands too where another is above it

low_under : (b : ℕ) (t : ValType) (ts : List ValType) (d : ℕ) → stands b ts (numbered operand_low d) ≡ true → stands b (t ∷ ts) (numbered operand_low d) ≡ true
low_under b t ts d h = let l = is_less d (b + length ts) h in less_is d (b + suc (length ts)) (omega (arith, l))

high_under : (b : ℕ) (t : ValType) (ts : List ValType) (d : ℕ) → stands b ts (numbered operand_high d) ≡ true → stands b (t ∷ ts) (numbered operand_high d) ≡ true
high_under b t ts d h = by (nat_lt d b) refl
  where
    by : (x : Bool) → nat_lt d b ≡ x → stands b (t ∷ ts) (numbered operand_high d) ≡ true
    by true e = rw e refl
    by false e =
        let k = and_parts (has_number b ts d) (is_wide (slice_get ts ((b + length ts) - suc d))) (rw e at h) in
        let l = is_less d (b + length ts) k.0 in
        let deeper : (b + suc (length ts)) - suc d ≡ suc ((b + length ts) - suc d) = omega (arith, l) in
        let wide : is_wide (slice_get (t ∷ ts) ((b + suc (length ts)) - suc d)) ≡ true = ap (λ i. is_wide (slice_get (t ∷ ts) i)) deeper ∙ k.1 in
        let more : has_number b (t ∷ ts) d ≡ true = low_under b t ts d k.0 in
        rw (e, more, wide) refl

low_on_top : (b : ℕ) (t : ValType) (ts : List ValType) → stands b (t ∷ ts) (numbered operand_low (b + length ts)) ≡ true
low_on_top b t ts = less_is (b + length ts) (b + suc (length ts)) (omega arith)

high_on_top : (b : ℕ) (ts : List ValType) → stands b (I64 ∷ ts) (numbered operand_high (b + length ts)) ≡ true
high_on_top b ts =
    let first : (b + suc (length ts)) - suc (b + length ts) ≡ 0 = omega arith in
    let wide : is_wide (slice_get (I64 ∷ ts) ((b + suc (length ts)) - suc (b + length ts))) ≡ true = ap (λ i. is_wide (slice_get (I64 ∷ ts) i)) first in
    let more : has_number b (I64 ∷ ts) (b + length ts) ≡ true = low_on_top b I64 ts in
    rw (more, wide) (or-true (nat_lt (b + length ts) b))

-- operands are the same where all that stand have the same words
operands_same : (b : ℕ) (ts : List ValType) (words words' : Words)
    → ((d : ℕ) → stands b ts (numbered operand_low d) ≡ true → words' (numbered operand_low d) ≡ words (numbered operand_low d))
    → ((d : ℕ) → stands b ts (numbered operand_high d) ≡ true → words' (numbered operand_high d) ≡ words (numbered operand_high d)) → operands b ts words' ≡ operands b ts words
operands_same b [] words words' low high = refl
operands_same b (I32 ∷ ts) words words' low high =
    let l = low (b + length ts) (low_on_top b I32 ts) in
    let more = operands_same b ts words words' (λ d e. low d (low_under b I32 ts d e)) (λ d e. high d (high_under b I32 ts d e)) in
    cc (l, more)
operands_same b (I64 ∷ ts) words words' low high =
    let l = low (b + length ts) (low_on_top b I64 ts) in
    let k = high (b + length ts) (high_on_top b ts) in
    let more = operands_same b ts words words' (λ d e. low d (low_under b I64 ts d e)) (λ d e. high d (high_under b I64 ts d e)) in
    cc (l, k, more)

module _ (b : ℕ) (ts : List ValType) (ds : List Delayed) (words : Words) (heap : List ℕ) (h : AreWaiting ds) where
  abbrev asked : Delayed → Bool
  asked d = stands b ts d.name

  standing_seen : (n : Name) → stands b ts n ≡ true → seen (standing b ts ds) words heap n ≡ seen ds words heap n
  standing_seen n e = seen_as (standing b ts ds) words heap n (waiting ds n) (those_by_name asked ds n h ∙ by (waiting ds n)) ∙ sym (seen_at_hand ds words heap n)
    where
      by : (o : Option Term) → kept asked n o ≡ o
      by None = refl
      by (Some t) = rw e refl

  low_below : (d : ℕ) → d < b → stands b ts (numbered operand_low d) ≡ true
  low_below d l = less_is d (b + length ts) (omega (arith, l))

  high_below : (d : ℕ) → d < b → stands b ts (numbered operand_high d) ≡ true
  high_below d l = let e = less_is d b l in rw e refl

  stays : Stays b (seen ds words heap) (seen (standing b ts ds) words heap)
  stays = record { low = λ d l. standing_seen (numbered operand_low d) (low_below d l); high = λ d l. standing_seen (numbered operand_high d) (high_below d l) }

  operands_stand : operands b ts (seen (standing b ts ds) words heap) ≡ operands b ts (seen ds words heap)
  operands_stand =
      operands_same b ts (seen ds words heap) (seen (standing b ts ds) words heap) (λ d e. standing_seen (numbered operand_low d) e) (λ d e. standing_seen (numbered operand_high d) e)

pub standing_is_seen : StandingIsSeen
standing_is_seen b ts ds words heap h = (those_wait (λ d. stands b ts d.name) ds h, operands_stand b ts ds words heap h, stays b ts ds words heap h)

-- ---- other variables

module _ (ds : List Delayed) (words : Words) (heap : List ℕ) (h : AreWaiting ds) where
  locals_seen : (x : ℕ) (ts : List ValType) → locals_from x ts (seen ds words heap) ≡ locals_from x ts words
  locals_seen x [] = refl
  locals_seen x (I32 ∷ ts) =
      let low = seen_other ds words heap (numbered local_low x) h refl in
      let more = locals_seen (suc x) ts in
      cc (low, more)
  locals_seen x (I64 ∷ ts) =
      let low = seen_other ds words heap (numbered local_low x) h refl in
      let high = seen_other ds words heap (numbered local_high x) h refl in
      let more = locals_seen (suc x) ts in
      cc (low, high, more)

  globals_seen : (g : ℕ) (ts : List ValType) → globals_from g ts (seen ds words heap) ≡ globals_from g ts words
  globals_seen g [] = refl
  globals_seen g (I32 ∷ ts) =
      let low = seen_other ds words heap (numbered global_low g) h refl in
      let more = globals_seen (suc g) ts in
      cc (low, more)
  globals_seen g (I64 ∷ ts) =
      let low = seen_other ds words heap (numbered global_low g) h refl in
      let high = seen_other ds words heap (numbered global_high g) h refl in
      let more = globals_seen (suc g) ts in
      cc (low, high, more)

pub others_are_seen : OthersAreSeen
others_are_seen ts ds words heap h = (locals_seen ds words heap h 0 ts, globals_seen ds words heap h 0 ts)
