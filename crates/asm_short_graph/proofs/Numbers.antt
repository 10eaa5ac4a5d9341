-- Numbers by names, one more at a time.
use Rattle.std.proofs.Common.{◌≡◌, ℕ, zero, suc, ◌+◌, ◌<◌, ◌≤◌, Bool, true, false, cond, List, [], ◌∷◌, length, drop, get_or, Option, Some, refl, sym, ap, ◌∙◌, arith, zero-add}
use Rattle.std.proofs.lemmas.List.{at_drop_more, at_drop_all}
use Rattle.std.specs.Prelude.{if◌then◌else◌}
use Rattle.std.specs.Borrow.{Bor}
use Rattle.std.specs.Map.{lookup}
use Rattle.std.specs.Option.{unwrap_or}
use Rattle.std.specs.Str.{bytes_eq}
use Rattle.asm_short_graph.specs.Graphs.{names_in, first_number}

pub found_put : (b : Bool) (v o : ℕ) (p x : Option ℕ) → x ≡ cond b (Some v) p → unwrap_or x o ≡ (if b then v else unwrap_or p o)
found_put true v o p x e = ap (λ x. unwrap_or x o) e
found_put false v o p x e = ap (λ x. unwrap_or x o) e

pub none_found : (es : List (List ℕ × ℕ)) (n : List ℕ) (o : ℕ) → es ≡ [] → unwrap_or (lookup (bytes_eq n) es) o ≡ o
none_found es n o h = ap (λ es. unwrap_or (lookup (bytes_eq n) es) o) h

either : (b : Bool) (i r : ℕ) → (if b then i else (i + 1 + r)) ≡ i + (if b then 0 else suc r)
either true i r = omega arith
either false i r = omega arith

pub same_within : {A : Type 0} (xs : List A) (i : ℕ) (d e : A) → i < length xs → get_or xs i d ≡ get_or xs i e
same_within [] i d e h = absurd (omega (arith, h))
same_within (x ∷ xs) zero d e h = refl
same_within (x ∷ xs) (suc i) d e h = same_within xs i d e (omega (arith, h))

-- x is the number with the i-th name, before y, which the later ones have
pub number_put : (names : List (Bor (List ℕ))) (i j : ℕ) (b : Bor (List ℕ)) (n : List ℕ) (x y : ℕ) → j ≡ i + 1 → i < length names → b ≡ get_or names i b → x ≡ (if bytes_eq b.now n then i else y) → y ≡ j + first_number (names_in (drop j names)) n → x ≡ i + first_number (names_in (drop i names)) n
number_put names i j b n x y p h is e k =
    e ∙ ap (λ y. if bytes_eq b.now n then i else y) (k ∙ ap (λ j. j + first_number (names_in (drop j names)) n) p)
    ∙ either (bytes_eq b.now n) i (first_number (names_in (drop (i + 1) names)) n)
    ∙ ap (λ (c : Bor (List ℕ)). i + first_number (c.now ∷ names_in (drop (i + 1) names)) n) is
    ∙ sym (at_drop_more (λ l. i + first_number (names_in l) n) names i b h)

pub numbers_begin : (names : List (Bor (List ℕ))) (n : List ℕ) (x : ℕ) → x ≡ length names → x ≡ length names + first_number (names_in (drop (length names) names)) n
numbers_begin names n x h =
    let least : length names ≤ length names = omega arith in
    let none : length names ≡ length names + 0 = omega arith in
    h ∙ none ∙ sym (at_drop_all (λ l. length names + first_number (names_in l) n) names (length names) least)

pub numbers_end : (names : List (Bor (List ℕ))) (i : ℕ) (n : List ℕ) (x : ℕ) → i ≡ 0 → x ≡ i + first_number (names_in (drop i names)) n → x ≡ first_number (names_in names) n
numbers_end names i n x e h = h ∙ ap (λ i. i + first_number (names_in (drop i names)) n) e ∙ zero-add (first_number (names_in names) n)

-- the numbers of all names of a list
pub all_numbered : (xs ys : List (Bor (List ℕ))) (ns : List (List ℕ)) (n : List ℕ) (count : ℕ) (f : ℕ → ℕ) → xs ≡ ys → names_in ys ≡ ns → count ≡ length ys → f (length xs) ≡ first_number (names_in xs) n → f count ≡ first_number ns n
all_numbered xs ys ns n count f same is long had = ap f (long ∙ sym (ap (λ (l : List (Bor (List ℕ))). length l) same)) ∙ had ∙ ap (λ l. first_number l n) (ap names_in same ∙ is)
