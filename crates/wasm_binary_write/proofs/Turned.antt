-- A part whose size is written behind it and brought before it.
use Rattle.std.proofs.Common.{◌≡◌, ℕ, ◌-◌, ◌≤◌, ◌==◌, true, false, List, [], ◌∷◌, ◌++◌, length, take, drop, refl, sym, ap, ◌∙◌, append_assoc}
use Rattle.std.specs.Prelude.{Result, Ok, Err, OnOk}
use Rattle.std.proofs.Math.Seq.{take-append_seam, drop-append_seam}
use Rattle.std.proofs.lemmas.List.{take-append-le, drop-append-le, length-drop}
use Rattle.wasm_binary_write.specs.Spelling.{unsigned, vector, section, sized}

-- what stands from the start to the end comes last
abbrev brought : (start end : ℕ) → List ℕ → List ℕ
brought start end l = take start l ++ (drop (end - start) (drop start l) ++ take (end - start) (drop start l))

turned : (n : ℕ) (xs ys : List ℕ) → n ≤ length xs → brought n (length xs) (xs ++ ys) ≡ take n xs ++ (ys ++ drop n xs)
turned n xs ys h =
    let count : length xs - n ≡ length (drop n xs) = sym (length-drop n xs) in
    let past : drop n (xs ++ ys) ≡ drop n xs ++ ys = drop-append-le n xs ys h in
    let front : take n (xs ++ ys) ≡ take n xs = take-append-le n xs ys h in
    ap (λ l. l ++ (drop (length xs - n) (drop n (xs ++ ys)) ++ take (length xs - n) (drop n (xs ++ ys)))) front
    ∙ ap (λ l. take n xs ++ (drop (length xs - n) l ++ take (length xs - n) l)) past
    ∙ ap (λ k. take n xs ++ (drop k (drop n xs ++ ys) ++ take k (drop n xs ++ ys))) count
    ∙ ap (λ l. take n xs ++ (l ++ take (length (drop n xs)) (drop n xs ++ ys))) (drop-append_seam (drop n xs) ys)
    ∙ ap (λ l. take n xs ++ (ys ++ l)) (take-append_seam (drop n xs) ys)

pub size_put : (n : ℕ) (xs written now : List ℕ) → n ≤ length xs → written ≡ xs ++ unsigned (length xs - n) → now ≡ brought n (length xs) written → now ≡ take n xs ++ sized (drop n xs)
size_put n xs written now h wrote is =
    is ∙ ap (λ l. brought n (length xs) l) wrote ∙ turned n xs (unsigned (length xs - n)) h ∙ ap (λ k. take n xs ++ (unsigned k ++ drop n xs)) (sym (length-drop n xs))

-- ---- what was written behind some bytes

pub sized_behind : (was content written now : List ℕ) (start : ℕ) → start ≡ length was → written ≡ was ++ content → now ≡ take start written ++ sized (drop start written) → now ≡ was ++ sized content
sized_behind was content written now start begins wrote is =
    is ∙ ap (λ n. take n written ++ sized (drop n written)) begins
    ∙ ap (λ l. take (length was) l ++ sized (drop (length was) l)) wrote
    ∙ ap (λ l. l ++ sized (drop (length was) (was ++ content))) (take-append_seam was content) ∙ ap (λ l. was ++ sized l) (drop-append_seam was content)

filled : {X : Type 0} (id : ℕ) (f : X → List ℕ) (xs : List X) → (length xs == 0) ≡ false → section id f xs ≡ id ∷ sized (vector f xs)
filled id f [] h = let clash : true ≡ false = h in absurd cc
filled id f (x ∷ xs) h = refl

pub section_put : {X : Type 0} (id : ℕ) (f : X → List ℕ) (xs : List X) (was opened written now : List ℕ) (start : ℕ) → (length xs == 0) ≡ false
    → opened ≡ was ++ id ∷ [] → start ≡ length opened → written ≡ opened ++ vector f xs → now ≡ take start written ++ sized (drop start written) → now ≡ was ++ section id f xs
section_put id f xs was opened written now start some begun begins wrote is =
    sized_behind opened (vector f xs) written now start begins wrote is
    ∙ ap (λ l. l ++ sized (vector f xs)) begun
    ∙ append_assoc was (id ∷ []) (sized (vector f xs))
    ∙ ap (λ l. was ++ l) (sym (filled id f xs some))

-- .. where all went well
pub when_ok : {E : Type 0} (r : Result (Unit {0}) E) (P Q : Type 0) → (P → Q) → OnOk r P → OnOk r Q
when_ok (Ok u) P Q f h = f h
when_ok (Err e) P Q f h = tt
