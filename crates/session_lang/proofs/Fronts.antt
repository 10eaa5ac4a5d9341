-- Lists that begin with others, place by place.
use Rattle.std.proofs.Common.{◌≡◌, ℕ, ◌+◌, ◌<◌, ◌≤◌, List, ◌++◌, length, get_or, take, drop, map, sym, ap, ◌∙◌, arith}
use Rattle.std.proofs.lemmas.List.{get_or-map, take_all, take-append-drop, take_more_same, length-map}
use Rattle.std.proofs.lemmas.List.Prefix.{front_reads}
use Rattle.session_lang.specs.Observation.{EventPlain, IsPrefix}

-- what a view of a list has at a place that was read
pub mapped_read : {A B : Type 0} (f : A → B) (xs : List A) (i : ℕ) (x : A) (d : B) → i < length xs → x ≡ get_or xs i x → get_or (map f xs) i d ≡ f x
mapped_read f xs i x d lt is = get_or-map f xs i x d lt ∙ ap f (sym is)

-- one more place at which two views agree
pub same_more : {A B : Type 0} (f : A → B) (xs ys : List A) (i : ℕ) (x y : A) → i < length xs → i < length ys → x ≡ get_or xs i x → y ≡ get_or ys i y → f x ≡ f y
    → take i (map f xs) ≡ take i (map f ys) → take (i + 1) (map f xs) ≡ take (i + 1) (map f ys)
same_more f xs ys i x y lx ly xis yis e before =
    take_more_same (map f xs) (map f ys) i (f x) (omega (arith, length-map xs f)) (omega (arith, length-map ys f)) before
    (mapped_read f xs i x (f x) lx xis ∙ e ∙ sym (mapped_read f ys i y (f x) ly yis))

-- a list that agrees with a front at all of its places begins with it
pub prefix_from_take : (front whole : List EventPlain) (n : ℕ) → length front ≤ n → take n front ≡ take n whole → IsPrefix front whole
prefix_from_take front whole n le e =
    (drop n whole, sym (take-append-drop n whole) ∙ ap (λ t. t ++ drop n whole) (sym e ∙ take_all n front le))

-- views that differ at a place of the first don't begin with each other
pub prefix_differs : {A : Type 0} (f : A → EventPlain) (xs ys : List A) (i : ℕ) (x y : A) → i < length xs → i < length ys → x ≡ get_or xs i x → y ≡ get_or ys i y
    → IsPrefix (map f xs) (map f ys) → f x ≡ f y
prefix_differs f xs ys i x y lx ly xis yis p =
    sym (mapped_read f xs i x (f x) lx xis)
    ∙ sym (front_reads (f x) (map f ys) (map f xs) p.0 p.1 i (omega (arith, length-map xs f)))
    ∙ mapped_read f ys i y (f x) ly yis
