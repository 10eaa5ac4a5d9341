-- What is left of a list.
use Rattle.std.proofs.Common.{◌≡◌, ◌+◌, ℕ, zero, suc, List, [], ◌∷◌, drop, sym, ap, ◌∙◌, arith}
use Rattle.std.proofs.Math.ListN.{drop_of_length-le}

pub drop_twice : {A : Type 0} (m n : ℕ) (xs : List A) → drop m (drop n xs) ≡ drop (n + m) xs
drop_twice m zero xs = let e : m ≡ 0 + m = omega arith in ap (λ n. drop n xs) e
drop_twice m (suc n) [] = drop_of_length-le [] {i = m} (omega arith) ∙ sym (drop_of_length-le [] {i = suc n + m} (omega arith))
drop_twice m (suc n) (x ∷ xs) =
    let e : suc (n + m) ≡ suc n + m = omega arith in
    drop_twice m n xs ∙ ap (λ n. drop n (x ∷ xs)) e
