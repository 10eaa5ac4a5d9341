-- Statements that set words, one step after another.
use Rattle.std.proofs.Common.{◌≡◌, ℕ, ◌+◌, ◌≤◌, List, [], ◌∷◌, length, take, drop, refl, sym, ap, ◌∙◌, arith}
use Rattle.std.proofs.lemmas.List.{drop-drop, length-drop}
use Rattle.wasm2js_translation.specs.Modules.{set_word, set_words}

word_first : (at : ℕ) (bytes : List ℕ) → 4 ≤ length bytes → set_words at bytes ≡ set_word at (take 4 bytes) ∷ set_words (at + 4) (drop 4 bytes)
word_first at [] h = absurd (omega arith)
word_first at (w ∷ []) h = absurd (omega arith)
word_first at (w ∷ x ∷ []) h = absurd (omega arith)
word_first at (w ∷ x ∷ y ∷ []) h = absurd (omega arith)
word_first at (w ∷ x ∷ y ∷ z ∷ bytes) h = refl

pub words_more : (at : ℕ) (bytes : List ℕ) (i n : ℕ) → i + 4 ≤ length bytes → n ≡ 4
    → set_words (at + i) (drop i bytes) ≡ set_word (at + i) (take n (drop i bytes)) ∷ set_words (at + (i + 4)) (drop (i + 4) bytes)
words_more at bytes i n inside four =
    word_first (at + i) (drop i bytes) (simp length-drop (omega arith))
    ∙ ap (λ k. set_word (at + i) (take k (drop i bytes)) ∷ set_words (at + i + 4) (drop 4 (drop i bytes))) (sym four)
    ∙ ap (λ rest. set_word (at + i) (take n (drop i bytes)) ∷ set_words (at + i + 4) rest) (drop-drop 4 i bytes)
    ∙ ap (λ k. set_word (at + i) (take n (drop i bytes)) ∷ set_words k (drop (i + 4) bytes)) (omega arith)
