-- The words of slots, one after the other.
use Rattle.std.proofs.Common.{◌≡◌, ℕ, zero, suc, ◌+◌, ◌-◌, ◌<◌, ◌≤◌, List, [], ◌∷◌, ◌++◌, refl, sym, ap, ◌∙◌, append_assoc, arith}
use Rattle.std.proofs.lemmas.List.{append-nil}
use Rattle.sem_words.specs.declared.word.Word.{Word}
use Rattle.sem_words.specs.declared.word.Word.TheVariants.{W32}
use Rattle.asm_run_code.specs.Slots.{get}
use Rattle.asm_run_code.specs.Machine.{words_from}

first_word : (ws : List ℕ) (at i n : ℕ) → i < n → words_from ws (at + i) (n - i) ≡ W32 (get ws (at + i)) ∷ words_from ws (at + (i + 1)) (n - (i + 1))
first_word ws at i n h =
    let left : n - i ≡ suc (n - (i + 1)) = omega arith in
    let next : suc (at + i) ≡ at + (i + 1) = omega arith in
    ap (words_from ws (at + i)) left ∙ ap (λ a. W32 (get ws (at + i)) ∷ words_from ws a (n - (i + 1))) next

pub words_more : (args whole : List Word) (ws : List ℕ) (at i n w : ℕ) → i < n → w ≡ get ws (at + i) → args ++ words_from ws (at + i) (n - i) ≡ whole
    → (args ++ W32 w ∷ []) ++ words_from ws (at + (i + 1)) (n - (i + 1)) ≡ whole
words_more args whole ws at i n w h is e =
    let rest = words_from ws (at + (i + 1)) (n - (i + 1)) in
    append_assoc args (W32 w ∷ []) rest ∙ ap (λ x. args ++ (W32 x ∷ rest)) is ∙ ap (λ l. args ++ l) (sym (first_word ws at i n h)) ∙ e

pub words_all : (args whole : List Word) (ws : List ℕ) (at i n : ℕ) → n ≤ i → args ++ words_from ws (at + i) (n - i) ≡ whole → args ≡ whole
words_all args whole ws at i n h e =
    let none : n - i ≡ 0 = omega arith in
    sym (append-nil args) ∙ ap (λ k. args ++ words_from ws (at + i) k) (sym none) ∙ e

pub words_begin : (ws : List ℕ) (at n : ℕ) → words_from ws (at + 0) (n - 0) ≡ words_from ws at n
words_begin ws at n =
    let same : at + 0 ≡ at = omega arith in
    let all : n - 0 ≡ n = omega arith in
    ap (λ a. words_from ws a (n - 0)) same ∙ ap (words_from ws at) all
