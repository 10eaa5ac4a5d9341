-- Words and chunks of a segment, one step after another.
use Rattle.std.proofs.Common.{◌≡◌, ℕ, suc, ◌+◌, ◌≤◌, List, [], ◌∷◌, ◌++◌, map, length, take, drop, refl, sym, ap, ◌∙◌, arith}
use Rattle.std.proofs.lemmas.List.{drop-drop, length-drop}
use Rattle.sem_words.specs.Words.{signed_of}
use Rattle.heap_lang.specs.Numbers.{little_endian}
use Rattle.asm_lang.specs.Modules.{Expr, lit, exprs}
use Rattle.asm_tree.specs.Views.{exprs_in}
use Rattle.wasm2js_translation.specs.Words.{Term, int_of, arguments}
use Rattle.wasm2js_translation.specs.Modules.{words_in, chunk_stmts, waits_from, put_chunks}

pub arguments_are : (ts : List Term) → exprs_in (map int_of ts) ≡ arguments ts
arguments_are [] = refl
arguments_are (t ∷ ts) = ap (exprs (int_of t)) (arguments_are ts)

-- the word of four bytes
abbrev word_expr : List ℕ → Expr
word_expr bytes = lit (signed_of 32 (little_endian bytes))

word_first : (bytes : List ℕ) → 4 ≤ length bytes → map int_of (words_in bytes) ≡ word_expr (take 4 bytes) ∷ map int_of (words_in (drop 4 bytes))
word_first [] h = absurd (omega arith)
word_first (w ∷ []) h = absurd (omega arith)
word_first (w ∷ x ∷ []) h = absurd (omega arith)
word_first (w ∷ x ∷ y ∷ []) h = absurd (omega arith)
word_first (w ∷ x ∷ y ∷ z ∷ bytes) h = refl

pub words_further : (bytes : List ℕ) (i n : ℕ) → i + 4 ≤ length bytes → n ≡ 4
    → map int_of (words_in (drop i bytes)) ≡ word_expr (take n (drop i bytes)) ∷ map int_of (words_in (drop (i + 4) bytes))
words_further bytes i n inside four =
    word_first (drop i bytes) (simp length-drop (omega arith))
    ∙ ap (λ k. word_expr (take k (drop i bytes)) ∷ map int_of (words_in (drop 4 (drop i bytes)))) (sym four)
    ∙ ap (λ rest. word_expr (take n (drop i bytes)) ∷ map int_of (words_in rest)) (drop-drop 4 i bytes)

none_in : (bytes : List ℕ) → length bytes ≤ 3 → words_in bytes ≡ []
none_in [] h = refl
none_in (w ∷ []) h = refl
none_in (w ∷ x ∷ []) h = refl
none_in (w ∷ x ∷ y ∷ []) h = refl
none_in (w ∷ x ∷ y ∷ z ∷ bytes) h = absurd (omega (arith, h))

pub words_end : (bytes : List ℕ) (i : ℕ) → length bytes ≤ i + 3 → map int_of (words_in (drop i bytes)) ≡ []
words_end bytes i h = ap (map int_of) (none_in (drop i bytes) (simp length-drop (omega (arith, h))))

pub chunk_next : (k from at : ℕ) (bytes : List ℕ) (i n : ℕ) → n ≡ 64
    → put_chunks (suc k) from (at + i) (drop i bytes)
    ≡ chunk_stmts from (at + i) (take n (drop i bytes)) ++ put_chunks k (waits_from from (at + i) (take n (drop i bytes))) (at + (i + 64)) (drop (i + 64) bytes)
chunk_next k from at bytes i n e =
    ap (λ n. chunk_stmts from (at + i) (take n (drop i bytes)) ++ put_chunks k (waits_from from (at + i) (take n (drop i bytes))) (at + i + 64) (drop 64 (drop i bytes))) (sym e)
    ∙ ap (λ rest. chunk_stmts from (at + i) (take n (drop i bytes)) ++ put_chunks k (waits_from from (at + i) (take n (drop i bytes))) (at + i + 64) rest) (drop-drop 64 i bytes)
    ∙ ap (λ to. chunk_stmts from (at + i) (take n (drop i bytes)) ++ put_chunks k (waits_from from (at + i) (take n (drop i bytes))) to (drop (i + 64) bytes)) (omega arith)
