-- Names and declarations that are gathered one by one.
use Rattle.std.proofs.Common.{◌≡◌, ℕ, ◌+◌, ◌<◌, ◌≤◌, List, [], ◌∷◌, ◌++◌, map, length, get_or, take, refl, sym, ap, ◌∙◌, append_assoc, append-nil}
use Rattle.std.proofs.lemmas.List.{take_more, take_all, map-append, get_or_default}
use Rattle.std.specs.Borrow.{Bor}
use Rattle.asm_short_tree.specs.Looking.{names_in}
use Rattle.asm_short_tree.proofs.Copied.{one_copied}

pub twice : {X Y Z : Type 0} (g : Y → Z) (f : X → Y) (xs : List X) → map (λ x. g (f x)) xs ≡ map g (map f xs)
twice g f [] = refl
twice g f (x ∷ xs) = ap (λ zs. g (f x) ∷ zs) (twice g f xs)

-- ---- names that are pushed

pub none_pushed : {X : Type 0} (f : X → List ℕ) (names : List (Bor (List ℕ))) (items : List X) → names_in names ≡ names_in names ++ map f (take 0 items)
none_pushed f names [] = sym (append-nil (names_in names))
none_pushed f names (x ∷ xs) = sym (append-nil (names_in names))

pub one_pushed : {X : Type 0} (f : X → List ℕ) (first done more : List (Bor (List ℕ))) (items : List X) (i : ℕ) (x : X) (b : Bor (List ℕ)) → i < length items → x ≡ get_or items i x → more ≡ done ++ b ∷ [] → b.now ≡ f x
    → names_in done ≡ names_in first ++ map f (take i items) → names_in more ≡ names_in first ++ map f (take (i + 1) items)
one_pushed f first done more items i x b low is pushed same had =
    ap names_in pushed ∙ map-append (λ (c : Bor (List ℕ)). c.now) done (b ∷ []) ∙ (λ k. had k ++ same k ∷ [])
    ∙ append_assoc (names_in first) (map f (take i items)) (f x ∷ [])
    ∙ ap (λ l. names_in first ++ l) (sym (map-append f (take i items) (x ∷ [])) ∙ ap (λ z. map f (take i items ++ z ∷ [])) is ∙ ap (map f) (sym (take_more items i x low)))

pub all_pushed : {X Y : Type 0} (g : Y → List ℕ) (f : X → Y) (first names : List (Bor (List ℕ))) (items : List X) (i : ℕ) → length items ≤ i
    → names_in names ≡ names_in first ++ map (λ x. g (f x)) (take i items) → names_in names ≡ names_in first ++ map g (map f items)
all_pushed g f first names items i high had = had ∙ ap (λ l. names_in first ++ map (λ x. g (f x)) l) (take_all i items high) ∙ ap (λ l. names_in first ++ l) (twice g f items)

-- ---- declarations that are renamed

pub all_renamed : {X Y Z : Type 0} (g : Y → Z) (f : X → Y) (zs : List Z) (items : List X) (i : ℕ) → length items ≤ i → zs ≡ map (λ x. g (f x)) (take i items) → zs ≡ map g (map f items)
all_renamed g f zs items i high had = had ∙ ap (map (λ x. g (f x))) (take_all i items high) ∙ twice g f items

-- an item that is read where it stands
pub one_read : {X Y Z : Type 0} (f : Y → Z) (g : X → Z) (done more : List Y) (items : List X) (i : ℕ) (d : X) (y : Y) → i < length items → more ≡ done ++ y ∷ [] → f y ≡ g (get_or items i d)
    → map f done ≡ map g (take i items) → map f more ≡ map g (take (i + 1) items)
one_read f g done more items i d y low pushed same had = one_copied f g done more items i (get_or items i d) y low (get_or_default items i d (get_or items i d) low) pushed same had

-- ---- names of several lists

pub two_pushed : (a b c : List (Bor (List ℕ))) (P P2 Q Q2 : List (List ℕ)) → a ≡ [] → names_in b ≡ names_in a ++ P2 → P2 ≡ P → names_in c ≡ names_in b ++ Q2 → Q2 ≡ Q → names_in c ≡ P ++ Q
two_pushed a b c P P2 Q Q2 none p p_is q q_is =
    let first : names_in b ≡ P = p ∙ ap (λ l. names_in l ++ P2) none ∙ p_is in
    q ∙ (λ k. first k ++ q_is k)

pub four_pushed : (a b c d e : List (Bor (List ℕ))) (P P2 Q Q2 R R2 S S2 : List (List ℕ)) → a ≡ [] → names_in b ≡ names_in a ++ P2 → P2 ≡ P → names_in c ≡ names_in b ++ Q2 → Q2 ≡ Q
    → names_in d ≡ names_in c ++ R2 → R2 ≡ R → names_in e ≡ names_in d ++ S2 → S2 ≡ S → names_in e ≡ P ++ (Q ++ (R ++ S))
four_pushed a b c d e P P2 Q Q2 R R2 S S2 none p p_is q q_is r r_is s s_is =
    let front : names_in c ≡ P ++ Q = two_pushed a b c P P2 Q Q2 none p p_is q q_is in
    let third : names_in d ≡ (P ++ Q) ++ R = r ∙ (λ k. front k ++ r_is k) in
    s ∙ (λ k. third k ++ s_is k) ∙ append_assoc (P ++ Q) R S ∙ append_assoc P Q (R ++ S)
