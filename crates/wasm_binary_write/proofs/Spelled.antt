-- Lists of what is written, through views.
use Rattle.std.proofs.Common.{◌≡◌, ℕ, zero, suc, ◌+◌, ◌<◌, ◌≤◌, List, [], ◌∷◌, ◌++◌, length, map, get_or, take, drop, refl, sym, ap, ◌∙◌, arith, append_assoc, append-nil, add-one, drop-cons}
use Rattle.wasm_binary_write.specs.Spelling.{items, vector, section, sized, unsigned}

pub items_map : {X Y : Type 0} (f : Y → List ℕ) (view : X → Y) (xs : List X) → items (λ x. f (view x)) xs ≡ items f (map view xs)
items_map f view [] = refl
items_map f view (x ∷ xs) = ap (λ bytes. f (view x) ++ bytes) (items_map f view xs)

length_mapped : {X Y : Type 0} (view : X → Y) (xs : List X) → length xs ≡ length (map view xs)
length_mapped view [] = refl
length_mapped view (x ∷ xs) = ap suc (length_mapped view xs)

pub vector_map : {X Y : Type 0} (f : Y → List ℕ) (view : X → Y) (xs : List X) → vector (λ x. f (view x)) xs ≡ vector f (map view xs)
vector_map f view xs = ap (λ n. unsigned n ++ items (λ x. f (view x)) xs) (length_mapped view xs) ∙ ap (λ bytes. unsigned (length (map view xs)) ++ bytes) (items_map f view xs)

pub section_map : {X Y : Type 0} (id : ℕ) (f : Y → List ℕ) (view : X → Y) (xs : List X) → section id (λ x. f (view x)) xs ≡ section id f (map view xs)
section_map id f view [] = refl
section_map id f view (x ∷ xs) = ap (λ bytes. id ∷ sized bytes) (vector_map f view (x ∷ xs))

-- ---- one item after another

pub drop_step : {X : Type 0} (xs : List X) (i : ℕ) (x : X) → i < length xs → x ≡ get_or xs i x → drop i xs ≡ x ∷ drop (i + 1) xs
drop_step xs i x lt is = rw add-one (drop-cons xs i x lt ∙ ap (λ y. y ∷ drop (suc i) xs) (sym is))

pub drop_past : {X : Type 0} (xs : List X) (i : ℕ) → length xs ≤ i → drop i xs ≡ []
drop_past [] zero h = refl
drop_past [] (suc i) h = refl
drop_past (x ∷ xs) zero h = absurd (omega arith)
drop_past (x ∷ xs) (suc i) h = drop_past xs i (omega arith)

pub items_step : {X : Type 0} (f : X → List ℕ) (front now whole : List ℕ) (xs : List X) (i : ℕ) (x : X) → i < length xs → x ≡ get_or xs i x
    → front ++ items f (drop i xs) ≡ whole → now ≡ front ++ f x → now ++ items f (drop (i + 1) xs) ≡ whole
items_step f front now whole xs i x lt is e n =
    ap (λ b. b ++ items f (drop (i + 1) xs)) n ∙ append_assoc front (f x) (items f (drop (i + 1) xs))
    ∙ ap (λ l. front ++ items f l) (sym (drop_step xs i x lt is)) ∙ e

pub items_end : {X : Type 0} (f : X → List ℕ) (front whole : List ℕ) (xs : List X) (i : ℕ) → length xs ≤ i → front ++ items f (drop i xs) ≡ whole → front ≡ whole
items_end f front whole xs i h e = sym (append-nil front) ∙ ap (λ l. front ++ items f l) (sym (drop_past xs i h)) ∙ e

-- ---- one part after another

-- what a list is through a view, in place of its own spelling
pub through : (now old own viewed : List ℕ) → now ≡ old ++ own → own ≡ viewed → now ≡ old ++ viewed
through now old own viewed e m = e ∙ ap (λ b. old ++ b) m

-- a part that stands between what was there and the rest
pub part : (old now own viewed rest : List ℕ) → now ≡ old ++ own → own ≡ viewed → now ++ rest ≡ old ++ (viewed ++ rest)
part old now own viewed rest e m = ap (λ b. b ++ rest) (through now old own viewed e m) ∙ append_assoc old viewed rest

pub begun : (now start rest : List ℕ) → now ≡ start → now ++ rest ≡ start ++ rest
begun now start rest e = ap (λ b. b ++ rest) e

pub section_viewed : {X Y : Type 0} (id : ℕ) (f : Y → List ℕ) (view : X → Y) (xs ys : List X) → xs ≡ ys → section id (λ x. f (view x)) xs ≡ section id f (map view ys)
section_viewed id f view xs ys e = section_map id f view xs ∙ ap (λ l. section id f (map view l)) e

pub take_past : {X : Type 0} (xs : List X) (i : ℕ) → length xs ≤ i → take i xs ≡ xs
take_past [] zero h = refl
take_past [] (suc i) h = refl
take_past (x ∷ xs) zero h = absurd (omega arith)
take_past (x ∷ xs) (suc i) h = ap (λ l. x ∷ l) (take_past xs i (omega arith))
