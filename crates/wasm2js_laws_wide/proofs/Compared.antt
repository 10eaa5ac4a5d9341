-- Comparisons, and the test for zero.
use Rattle.std.proofs.Common.{◌≡◌, ℕ, Bool, true, false, not, List, [], ◌∷◌, refl, sym, ap, ◌∙◌, arith}
use Rattle.std.specs.Prelude.{◌==◌, if◌then◌else◌, bit_and}
use Rattle.sem_words.specs.declared.word.Rel.{Rel}
use Rattle.sem_words.specs.declared.word.Rel.TheVariants.{Eq, Ne, LtS, LtU, GtS, GtU, LeS, LeU, GeS, GeU}
use Rattle.sem_words.specs.Words.{rel_of}
use Rattle.wasm2js_translation.specs.Names.{spelled}
use Rattle.wasm2js_translation.specs.Words.{put}
use Rattle.wasm2js_translation.specs.Pairs.{Pair}
use Rattle.wasm2js_translation.specs.Wide.{wide_relation, wide_compare, is_wide_zero}
use Rattle.wasm2js_translation.specs.Helpers.{wide_helpers}
use Rattle.wasm2js_lang.specs.SplitWords.{wide_at, word_at, truth_word}
use Rattle.wasm2js_laws_numbers.specs.Laws.{low_relation}
use Rattle.wasm2js_laws_numbers.proofs.Related.{high_words_decide}
use Rattle.wasm2js_laws_places.specs.Straight.{Words, truth, value}
use Rattle.wasm2js_laws_wide.specs.Laws.{halves, RelationsCompute, ZeroTestsCompute}
use Rattle.wasm2js_laws_wide.proofs.Looked.{words_at}
use Rattle.wasm2js_laws_wide.proofs.Steps.{IsEasy}
use Rattle.wasm2js_laws_wide.proofs.Standing.{computes}
use Rattle.wasm2js_laws_wide.proofs.Named.{put_here, alone, is_word}

-- ---- truth values

in_order : (s t u : Bool) → (if truth s == 0 then truth u else truth t) ≡ truth_word (if s then t else u)
in_order true true u = refl
in_order true false u = refl
in_order false t true = refl
in_order false t false = refl

alike_words : (s t : Bool) → bit_and (truth t) (truth s) ≡ truth_word (if s then t else s)
alike_words true true = refl
alike_words true false = refl
alike_words false true = refl
alike_words false false = refl

other_words : (s t : Bool) → truth (bit_and (truth t) (truth s) == 0) ≡ truth_word (if s then not t else not s)
other_words true true = refl
other_words true false = refl
other_words false true = refl
other_words false false = refl

module _ (a b : Pair) (w : Words) (heap : List ℕ) where
  abbrev compared : Rel → ℕ
  compared op = value (wide_relation op a b) w heap

  abbrev alike : Bool
  alike = w a.high == w b.high

  abbrev by_low : Rel → Bool
  by_low op = rel_of 32 op (w a.low) (w b.low)

  abbrev by_high : Rel → Bool
  by_high op = rel_of 32 op (w a.high) (w b.high)

  decided : (op : Rel) → compared op ≡ truth_word (if alike then by_low (low_relation op) else by_high op)
  decided Eq = alike_words alike (by_low Eq)
  decided Ne = other_words alike (by_low Eq)
  decided LtS = in_order alike (by_low LtU) (by_high LtS)
  decided LtU = in_order alike (by_low LtU) (by_high LtU)
  decided GtS = in_order alike (by_low GtU) (by_high GtS)
  decided GtU = in_order alike (by_low GtU) (by_high GtU)
  decided LeS = in_order alike (by_low LeU) (by_high LeS)
  decided LeU = in_order alike (by_low LeU) (by_high LeU)
  decided GeS = in_order alike (by_low GeU) (by_high GeS)
  decided GeU = in_order alike (by_low GeU) (by_high GeU)

relation_is_easy : (op : Rel) (a b : Pair) → IsEasy (wide_relation op a b)
relation_is_easy Eq a b = ((tt, tt), (tt, tt))
relation_is_easy Ne a b = (((tt, tt), (tt, tt)), tt)
relation_is_easy LtS a b = ((tt, tt), (tt, tt), (tt, tt))
relation_is_easy LtU a b = ((tt, tt), (tt, tt), (tt, tt))
relation_is_easy GtS a b = ((tt, tt), (tt, tt), (tt, tt))
relation_is_easy GtU a b = ((tt, tt), (tt, tt), (tt, tt))
relation_is_easy LeS a b = ((tt, tt), (tt, tt), (tt, tt))
relation_is_easy LeU a b = ((tt, tt), (tt, tt), (tt, tt))
relation_is_easy GeS a b = ((tt, tt), (tt, tt), (tt, tt))
relation_is_easy GeU a b = ((tt, tt), (tt, tt), (tt, tt))

pub relations_compute : RelationsCompute
relations_compute op a b to =
    computes wide_helpers (spelled to ∷ []) (wide_compare op a b to) (λ p q. word_at q (spelled to) ≡ truth_word (rel_of 64 op (wide_at p (halves a)) (wide_at p (halves b))))
    (λ m f stand bound. ((alone (spelled to), relation_is_easy op a b), tt)) (λ w heap. omega arith)
    (λ p q end.
    let w : Words = words_at p in
    end to ∙ put_here to (compared a b w p.heap op) w ∙ decided a b w p.heap op
    ∙ ap truth_word (sym (high_words_decide op (w a.low) (w a.high) (w b.low) (w b.high) (is_word p a.low) (is_word p a.high) (is_word p b.low) (is_word p b.high))))

pub zero_tests_compute : ZeroTestsCompute
zero_tests_compute a to =
    computes wide_helpers (spelled to ∷ []) (put to (is_wide_zero a) ∷ []) (λ p q. word_at q (spelled to) ≡ truth_word (wide_at p (halves a) == 0))
    (λ m f stand bound. ((alone (spelled to), ((tt, tt), (tt, tt))), tt)) (λ w heap. omega arith)
    (λ p q end.
    let w : Words = words_at p in
    end to ∙ put_here to (value (is_wide_zero a) w p.heap) w ∙ alike_words (w a.high == 0) (w a.low == 0)
    ∙ ap truth_word (sym (high_words_decide Eq (w a.low) (w a.high) 0 0 (is_word p a.low) (is_word p a.high) (omega arith) (omega arith))))
