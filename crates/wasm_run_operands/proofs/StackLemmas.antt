-- Steps of an operand stack: words, the topmost last, of which `f` stand below the block.
use Rattle.std.proofs.Common.{◌≡◌, ℕ, zero, suc, ◌+◌, ◌-◌, ◌≤◌, ◌<◌, List, [], ◌∷◌, ◌++◌, length, take, drop, Some, None, refl, sym, ap, ◌∙◌, subst, arith, append_assoc, reverse}
use Rattle.std.proofs.lemmas.List.{take-append-drop, take-append-le, drop-append-le, drop_all, take_all, reverse-append, reverse-reverse, length-reverse, length-take-le, length-drop}
use Rattle.std.proofs.Math.Seq.{take-append_seam, drop-append_seam, paste}
use Rattle.std.proofs.lemmas.List.Edits.{take-paste}
use Rattle.wasm_lang_exec.specs.Reductions.{top_of, below_top, and_value}
use Rattle.sem_words.specs.declared.word.Word.{Word}

-- one word more
pub values_push : (f : ℕ) (xs : List Word) (w : Word) → f ≤ length xs → reverse (drop f (xs ++ w ∷ [])) ≡ w ∷ reverse (drop f xs)
values_push f xs w h = ap reverse (drop-append-le f xs (w ∷ []) h) ∙ reverse-append (drop f xs) (w ∷ [])

pub below_push : (f : ℕ) (xs : List Word) (w : Word) → f ≤ length xs → reverse (take f (xs ++ w ∷ [])) ≡ reverse (take f xs)
below_push f xs w h = ap reverse (take-append-le f xs (w ∷ []) h)

pub no_values : (f : ℕ) (xs : List Word) → length xs ≤ f → reverse (drop f xs) ≡ []
no_values f xs h = ap reverse (drop_all f xs h)

-- a block is entered
pub below_enter : (f : ℕ) (xs : List Word) → reverse (take (length xs) xs) ≡ reverse (drop f xs) ++ reverse (take f xs)
below_enter f xs =
    ap reverse (take_all (length xs) xs (omega arith))
    ∙ (ap reverse (sym (take-append-drop f xs)) ∙ reverse-append (take f xs) (drop f xs))

-- .. and left: the words that stood below it are those of the block round it, `vs`, and those below that one, `bs`
parts : (f : ℕ) (xs vs bs : List Word) → reverse (take f xs) ≡ vs ++ bs → xs ≡ reverse bs ++ (reverse vs ++ drop f xs)
parts f xs vs bs e =
    let front : take f xs ≡ reverse bs ++ reverse vs = sym (reverse-reverse (take f xs)) ∙ (ap reverse e ∙ reverse-append vs bs) in
    sym (take-append-drop f xs) ∙ (ap (λ (ys : List Word). ys ++ drop f xs) front ∙ append_assoc (reverse bs) (reverse vs) (drop f xs))

pub values_leave : (f g : ℕ) (xs vs bs : List Word) → reverse (take f xs) ≡ vs ++ bs → length bs ≡ g → reverse (drop g xs) ≡ reverse (drop f xs) ++ vs
values_leave f g xs vs bs e n =
    let rest : drop g xs ≡ reverse vs ++ drop f xs =
    ap (λ (ys : List Word). drop g ys) (parts f xs vs bs e)
    ∙ subst (λ (k : ℕ). drop k (reverse bs ++ (reverse vs ++ drop f xs)) ≡ reverse vs ++ drop f xs) (length-reverse bs ∙ n) (drop-append_seam (reverse bs) (reverse vs ++ drop f xs)) in
    ap reverse rest ∙ (reverse-append (reverse vs) (drop f xs) ∙ ap (λ (ys : List Word). reverse (drop f xs) ++ ys) (reverse-reverse vs))

pub below_leave : (f g : ℕ) (xs vs bs : List Word) → reverse (take f xs) ≡ vs ++ bs → length bs ≡ g → reverse (take g xs) ≡ bs
below_leave f g xs vs bs e n =
    let rest : take g xs ≡ reverse bs =
    ap (λ (ys : List Word). take g ys) (parts f xs vs bs e)
    ∙ subst (λ (k : ℕ). take k (reverse bs ++ (reverse vs ++ drop f xs)) ≡ reverse bs) (length-reverse bs ∙ n) (take-append_seam (reverse bs) (reverse vs ++ drop f xs)) in
    ap reverse rest ∙ reverse-reverse bs

-- ---- the topmost words

pub top_seam : (ts us : List Word) → top_of (length ts) (ts ++ us) ≡ Some ts
top_seam [] us = refl
top_seam (t ∷ ts) us = ap (and_value t) (top_seam ts us)

pub below_seam : (ts us : List Word) → below_top (length ts) (ts ++ us) ≡ us
below_seam [] us = refl
below_seam (t ∷ ts) us = below_seam ts us

pub no_top : (n : ℕ) (values : List Word) → length values < n → top_of n values ≡ None
no_top zero values h = absurd (omega (arith, h))
no_top (suc n) [] h = refl
no_top (suc n) (v ∷ values) h = ap (and_value v) (no_top n values (omega (arith, h)))

-- the words of a block, cut at place `k`
split_values : (f k : ℕ) (xs : List Word) → f ≤ k → k ≤ length xs → reverse (drop f xs) ≡ reverse (drop k xs) ++ reverse (drop f (take k xs))
split_values f k xs h l =
    let inside : f ≤ length (take k xs) = rw (length-take-le k xs l) h in
    ap (λ (ys : List Word). reverse (drop f ys)) (sym (take-append-drop k xs))
    ∙ (ap reverse (drop-append-le f (take k xs) (drop k xs) inside) ∙ reverse-append (drop f (take k xs)) (drop k xs))

count_of : (k c : ℕ) (xs : List Word) → k + c ≡ length xs → length (reverse (drop k xs)) ≡ c
count_of k c xs e = length-reverse (drop k xs) ∙ omega (arith, length-drop k xs)

pub top_words : (f k c : ℕ) (xs : List Word) → f ≤ k → k + c ≡ length xs → top_of c (reverse (drop f xs)) ≡ Some (reverse (drop k xs))
top_words f k c xs h e =
    let whole : reverse (drop f xs) ≡ reverse (drop k xs) ++ reverse (drop f (take k xs)) = split_values f k xs h (omega arith) in
    ap (λ (ys : List Word). top_of c ys) whole
    ∙ subst (λ (n : ℕ). top_of n (reverse (drop k xs) ++ reverse (drop f (take k xs))) ≡ Some (reverse (drop k xs))) (count_of k c xs e) (top_seam (reverse (drop k xs)) (reverse (drop f (take k xs))))

pub other_words : (f k c : ℕ) (xs : List Word) → f ≤ k → k + c ≡ length xs → reverse (drop f (take k xs)) ≡ below_top c (reverse (drop f xs))
other_words f k c xs h e =
    let whole : reverse (drop f xs) ≡ reverse (drop k xs) ++ reverse (drop f (take k xs)) = split_values f k xs h (omega arith) in
    sym (ap (λ (ys : List Word). below_top c ys) whole
    ∙ subst (λ (n : ℕ). below_top n (reverse (drop k xs) ++ reverse (drop f (take k xs))) ≡ reverse (drop f (take k xs))) (count_of k c xs e) (below_seam (reverse (drop k xs)) (reverse (drop f (take k xs)))))

pub too_few : (f c : ℕ) (xs : List Word) → length xs - f < c → top_of c (reverse (drop f xs)) ≡ None
too_few f c xs h = no_top c (reverse (drop f xs)) (rw (length-reverse (drop f xs), length-drop f xs) h)

-- the words from `k` on, moved down to `f`, with the rest cut off
pub kept_words : (f k c n : ℕ) (xs : List Word) → f ≤ k → k + c ≡ length xs → n ≡ c → reverse (drop f (take (f + c) (paste xs f (drop k xs) n))) ≡ reverse (drop k xs)
kept_words f k c n xs h e m =
    let long : length (drop k xs) ≡ c = omega (arith, length-drop k xs) in
    let cut : take (f + c) (paste xs f (drop k xs) c) ≡ take f xs ++ take c (drop k xs) = take-paste xs f (drop k xs) c (omega arith) (omega arith) in
    let whole : take c (drop k xs) ≡ drop k xs = take_all c (drop k xs) (omega arith) in
    let front : length (take f xs) ≡ f = length-take-le f xs (omega arith) in
    let rest : drop f (take f xs ++ drop k xs) ≡ drop k xs = subst (λ (i : ℕ). drop i (take f xs ++ drop k xs) ≡ drop k xs) front (drop-append_seam (take f xs) (drop k xs)) in
    ap (λ (i : ℕ). reverse (drop f (take (f + c) (paste xs f (drop k xs) i)))) m
    ∙ (ap (λ (ys : List Word). reverse (drop f ys)) cut
    ∙ (ap (λ (ys : List Word). reverse (drop f (take f xs ++ ys))) whole
    ∙ ap reverse rest))
