-- New names by old ones, one more at a time.
use Rattle.std.proofs.Common.{◌≡◌, ℕ, zero, suc, ◌+◌, ◌<◌, ◌≤◌, Bool, true, false, List, [], ◌∷◌, length, map, drop, get_or, Option, Some, None, ◌⊎◌, inl, inr, refl, sym, ap, ◌∙◌, arith}
use Rattle.std.proofs.lemmas.List.{drop_more}
use Rattle.std.proofs.Math.ListN.{drop_of_length-le}
use Rattle.std.specs.Prelude.{if◌then◌else◌, option_map}
use Rattle.std.specs.Borrow.{Bor}
use Rattle.std.specs.Str.{bytes_eq}
use Rattle.asm_short_lang.specs.Renaming.{in_place}
use Rattle.asm_short_tree.specs.declared.names.NewName.{NewName}
use Rattle.asm_short_tree.specs.Looking.{new_name, new_names, names_in}

-- what the names from the i-th on give
abbrev pub from_on : (kept : List ℕ) → List (Bor (List ℕ)) → List NewName → ℕ → List ℕ → Option (List ℕ)
from_on kept olds news i n = in_place (names_in (drop i olds)) (new_names kept (drop i news)) n

pub mapped : {A B : Type 0} (f : A → B) (b : Bool) (w : A) (o : Option A) → option_map f (if b then Some w else o) ≡ (if b then Some (f w) else option_map f o)
mapped f true w o = refl
mapped f false w o = refl

pub same_within : {A : Type 0} (xs : List A) (i : ℕ) (d e : A) → i < length xs → get_or xs i d ≡ get_or xs i e
same_within [] i d e h = absurd (omega (arith, h))
same_within (x ∷ xs) zero d e h = refl
same_within (x ∷ xs) (suc i) d e h = same_within xs i d e (omega (arith, h))

no_new : (os : List (List ℕ)) (n : List ℕ) → in_place os [] n ≡ None
no_new [] n = refl
no_new (o ∷ os) n = refl

pub none_given : (kept : List ℕ) (olds : List (Bor (List ℕ))) (news : List NewName) (i : ℕ) (n : List ℕ) (x : Option (List ℕ)) → length olds ≤ i ⊎ length news ≤ i → x ≡ None → x ≡ from_on kept olds news i n
none_given kept olds news i n x (inl h) e = e ∙ ap (λ os. in_place (names_in os) (new_names kept (drop i news)) n) (sym (drop_of_length-le olds h))
none_given kept olds news i n x (inr h) e = e ∙ sym (no_new (names_in (drop i olds)) n) ∙ ap (λ ws. in_place (names_in (drop i olds)) (new_names kept ws) n) (sym (drop_of_length-le news h))

pub one_given : (kept : List ℕ) (olds : List (Bor (List ℕ))) (news : List NewName) (i j : ℕ) (b : Bor (List ℕ)) (w : NewName) (n : List ℕ) (x y : Option (List ℕ)) → j ≡ i + 1 → i < length olds → i < length news → b ≡ get_or olds i b → w ≡ get_or news i w
    → x ≡ (if bytes_eq b.now n then Some (new_name kept w) else y) → y ≡ from_on kept olds news j n → x ≡ from_on kept olds news i n
one_given kept olds news i j b w n x y e low lower is this put rest =
    put ∙ ap (λ z. if bytes_eq b.now n then Some (new_name kept w) else z) (rest ∙ ap (λ k. from_on kept olds news k n) e)
    ∙ (λ k. in_place (names_in (is k ∷ drop (i + 1) olds)) (new_names kept (this k ∷ drop (i + 1) news)) n)
    ∙ (λ k. in_place (names_in (sym (drop_more olds i b low) k)) (new_names kept (sym (drop_more news i w lower) k)) n)
