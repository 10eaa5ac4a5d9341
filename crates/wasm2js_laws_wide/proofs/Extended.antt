-- Low bits that are extended with their sign.
use Rattle.std.proofs.Common.{◌≡◌, ℕ, Bool, true, false, ◌||◌, refl, sym, ap, ◌∙◌, subst, arith}
use Rattle.std.specs.Prelude.{◌==◌}
use Rattle.std.proofs.lemmas.Bool.Decides.{Decides-eqb}
use Rattle.sem_words.specs.Words.{shr_s_of, extend_of}
use Rattle.wasm2js_translation.specs.Words.{simple_statements}
use Rattle.wasm2js_translation.specs.Pairs.{Pair}
use Rattle.wasm2js_translation.specs.Wide.{wide_extend}
use Rattle.wasm2js_translation.specs.Helpers.{wide_helpers}
use Rattle.wasm2js_lang.specs.SplitWords.{wide_at, ComputesExtension}
use Rattle.wasm2js_laws_numbers.specs.Laws as numbers
use Rattle.wasm2js_laws_numbers.specs.Laws.{joined, with_sign}
use Rattle.wasm2js_laws_numbers.proofs.Extended.{wide_extensions}
use Rattle.wasm2js_laws_places.specs.Straight.{Words, with_word}
use Rattle.wasm2js_laws_wide.specs.Laws.{halves, ExtensionsCompute}
use Rattle.wasm2js_laws_wide.proofs.Looked.{words_at}
use Rattle.wasm2js_laws_wide.proofs.Standing.{computes}
use Rattle.wasm2js_laws_wide.proofs.Named.{put_here, put_elsewhere, Replaces, replaces, targets, low_among, high_among, is_word, whole_is}

module _ (a to : Pair) (free : Replaces to a) (w : Words) (x : ℕ) where
  abbrev low_put : Words
  low_put = with_word to.low x w

  abbrev sign_put : Words
  sign_put = with_word to.high (shr_s_of 32 (low_put to.low) 31) low_put

  sign_low : sign_put to.low ≡ x
  sign_low = put_elsewhere to.high to.low _ low_put free.high_low ∙ put_here to.low x w

  sign_high : sign_put to.high ≡ shr_s_of 32 x 31
  sign_high = put_here to.high _ low_put ∙ ap (λ x. shr_s_of 32 x 31) (put_here to.low x w)

module _ (a to : Pair) where
  byte_computes : ComputesExtension wide_helpers (simple_statements (wide_extend 8 a to)) 8 (halves a) (halves to)
  byte_computes replace =
      computes wide_helpers (targets to) (wide_extend 8 a to) (λ p q. wide_at q (halves to) ≡ extend_of 64 8 (wide_at p (halves a)))
      (λ m f stand bound. ((low_among to, ((tt, tt), tt)), ((high_among to, (tt, tt)), tt))) (λ w heap. omega arith)
      (λ p q end.
      let w : Words = words_at p in
      let free = replaces to a replace in
      let x : ℕ = numbers.extended 8 (w a.low) in
      whole_is q to (sign_put a to free w x) x (shr_s_of 32 x 31) end (sign_low a to free w x) (sign_high a to free w x)
      ∙ sym (wide_extensions (w a.low) (w a.high) (is_word p a.low) (is_word p a.high)).0)

  half_computes : ComputesExtension wide_helpers (simple_statements (wide_extend 16 a to)) 16 (halves a) (halves to)
  half_computes replace =
      computes wide_helpers (targets to) (wide_extend 16 a to) (λ p q. wide_at q (halves to) ≡ extend_of 64 16 (wide_at p (halves a)))
      (λ m f stand bound. ((low_among to, ((tt, tt), tt)), ((high_among to, (tt, tt)), tt))) (λ w heap. omega arith)
      (λ p q end.
      let w : Words = words_at p in
      let free = replaces to a replace in
      let x : ℕ = numbers.extended 16 (w a.low) in
      whole_is q to (sign_put a to free w x) x (shr_s_of 32 x 31) end (sign_low a to free w x) (sign_high a to free w x)
      ∙ sym (wide_extensions (w a.low) (w a.high) (is_word p a.low) (is_word p a.high)).1)

  word_computes : ComputesExtension wide_helpers (simple_statements (wide_extend 32 a to)) 32 (halves a) (halves to)
  word_computes replace =
      computes wide_helpers (targets to) (wide_extend 32 a to) (λ p q. wide_at q (halves to) ≡ extend_of 64 32 (wide_at p (halves a)))
      (λ m f stand bound. ((low_among to, tt), ((high_among to, (tt, tt)), tt))) (λ w heap. omega arith)
      (λ p q end.
      let w : Words = words_at p in
      let free = replaces to a replace in
      whole_is q to (sign_put a to free w (w a.low)) (w a.low) (shr_s_of 32 (w a.low) 31) end (sign_low a to free w (w a.low)) (sign_high a to free w (w a.low))
      ∙ sym (wide_extensions (w a.low) (w a.high) (is_word p a.low) (is_word p a.high)).2)

  abbrev Extends : ℕ → Type 0
  Extends bits = ComputesExtension wide_helpers (simple_statements (wide_extend bits a to)) bits (halves a) (halves to)

  by_bits : (bits : ℕ) (t u v : Bool) → (bits == 8) ≡ t → (bits == 16) ≡ u → (bits == 32) ≡ v → (t || (u || v)) ≡ true → Extends bits
  by_bits bits true u v e f g h = subst Extends (sym ((Decides-eqb bits 8).0 e)) byte_computes
  by_bits bits false true v e f g h = subst Extends (sym ((Decides-eqb bits 16).0 f)) half_computes
  by_bits bits false false true e f g h = subst Extends (sym ((Decides-eqb bits 32).0 g)) word_computes
  by_bits bits false false false e f g h = absurd (cc h)

pub extensions_compute : ExtensionsCompute
extensions_compute bits a to h = by_bits a to bits (bits == 8) (bits == 16) (bits == 32) refl refl refl h
