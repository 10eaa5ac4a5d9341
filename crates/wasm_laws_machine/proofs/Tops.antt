-- The topmost operands.
use Rattle.std.proofs.Common.{◌≡◌, ℕ, zero, suc, List, [], ◌∷◌, ◌++◌, Option, Some, None, refl, sym, ap, ◌∙◌}
use Rattle.sem_words.specs.declared.word.Word.{Word}
use Rattle.wasm_lang_exec.specs.Reductions.{top_of, and_value}

some_is : {A : Type 0} {x y : A} → Some x ≡ Some y → x ≡ y
some_is h = cc h

top_more : (n : ℕ) (v : Word) (top over : List Word) (o : Option (List Word))
    → ((rest : List Word) → o ≡ Some rest → top_of n (rest ++ over) ≡ Some rest) → and_value v o ≡ Some top → top_of (suc n) (top ++ over) ≡ Some top
top_more n v top over None h k = cc k
top_more n v top over (Some rest) h k =
    let same : top ≡ v ∷ rest = sym (some_is k) in
    ap (λ t. top_of (suc n) (t ++ over)) same ∙ ap (and_value v) (h rest refl) ∙ ap Some (sym same)

-- the topmost of a list are the topmost of it with more below
pub top_stays : (n : ℕ) (values top over : List Word) → top_of n values ≡ Some top → top_of n (top ++ over) ≡ Some top
top_stays zero values [] over h = refl
top_stays zero values (x ∷ top) over h = cc h
top_stays (suc n) [] top over h = cc h
top_stays (suc n) (v ∷ values) top over h = top_more n v top over (top_of n values) (λ rest is. top_stays n values rest over is) h
