-- A word is found among the names with its key.
use Rattle.std.proofs.Common.{◌≡◌, ℕ, Bool, true, false, cond, List, [], ◌∷◌, Some, bytes_eq, ◌==◌, refl, sym, ap, ◌∙◌}
use Rattle.std.specs.Map.{lookup}
use Rattle.std.proofs.lemmas.Slice.Eq.{bytes_eq-Decides}
use Rattle.std.proofs.lemmas.Bool.{eq-eqb}
use Rattle.wasm_lang.specs.Instructions.{Instruction}
use Rattle.wat_grammar.specs.Tables.{key_of, with_key}

found : (test : Bool) (kept : Bool) (i : Instruction) (ks es : List (List ℕ × Instruction)) (word name : List ℕ) → (kept ≡ false → bytes_eq word name ≡ false)
    → lookup (bytes_eq word) ks ≡ lookup (bytes_eq word) es → lookup (bytes_eq word) (cond kept ((name, i) ∷ ks) ks) ≡ cond (bytes_eq word name) (Some i) (lookup (bytes_eq word) es)
found test true i ks es word name other same = ap (cond (bytes_eq word name) (Some i)) same
found test false i ks es word name other same = same ∙ ap (λ t. cond t (Some i) (lookup (bytes_eq word) es)) (sym (other refl))

other_word : (word name : List ℕ) → (key_of name == key_of word) ≡ false → bytes_eq word name ≡ false
other_word word name h = by (bytes_eq word name) refl
  where
    by : (t : Bool) → bytes_eq word name ≡ t → bytes_eq word name ≡ false
    by true e =
        let same : word ≡ name = (bytes_eq-Decides word name).0 e in
        let f : false ≡ true = sym h ∙ ap (λ (xs : List ℕ). key_of xs == key_of word) (sym same) ∙ eq-eqb (key_of word) (key_of word) refl in absurd cc
    by false e = e

pub found_by_key : (word : List ℕ) (es : List (List ℕ × Instruction)) → lookup (bytes_eq word) (with_key (key_of word) es) ≡ lookup (bytes_eq word) es
found_by_key word [] = refl
found_by_key word (e ∷ es) =
    found true (key_of e.0 == key_of word) e.1 (with_key (key_of word) es) es word e.0 (other_word word e.0) (found_by_key word es)
