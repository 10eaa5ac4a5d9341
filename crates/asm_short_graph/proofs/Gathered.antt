-- Lists that grow while a loop goes over another list.
use Rattle.std.proofs.Common.{◌≡◌, ℕ, ◌+◌, ◌<◌, ◌≤◌, Bool, true, false, List, [], ◌∷◌, ◌++◌, map, length, get_or, take, drop, refl, sym, ap, ◌∙◌, append_assoc, append-nil, ◌⊎◌, inl, inr, arith}
use Rattle.std.proofs.lemmas.Bool.{cases_lt}
use Rattle.std.proofs.lemmas.List.{take_more, take_all, drop_more, map-append, get_or_past}
use Rattle.std.proofs.Math.ListN.{drop_of_length-le}
use Rattle.std.specs.Borrow.{Bor}
use Rattle.std.specs.Prelude.{if◌then◌else◌}
use Rattle.sem_words.specs.Lists.{list_items}
use Rattle.sem_words.specs.declared.list.List.{List as Listed}
use Rattle.graph_reach.specs.Graph.{links_in}
use Rattle.asm_short_graph.specs.Graphs.{names_in}
use Rattle.asm_short_graph.specs.Picked.{kept_if, picked}

-- ---- what a list gives, item by item

module _ {X Z : Type 0} (f : List X → List Z) (g : X → List Z) (none : f [] ≡ []) (some : (x : X) (xs : List X) → f (x ∷ xs) ≡ g x ++ f xs) where
  last_of_all : (xs : List X) (x : X) → f (xs ++ x ∷ []) ≡ f xs ++ g x
  last_of_all [] x = some x [] ∙ (ap (λ (r : List Z). g x ++ r) none ∙ (append-nil (g x) ∙ sym (ap (λ (r : List Z). r ++ g x) none)))
  last_of_all (y ∷ ys) x =
      some y (ys ++ x ∷ []) ∙ (ap (λ (r : List Z). g y ++ r) (last_of_all ys x)
      ∙ (sym (append_assoc (g y) (f ys) (g x)) ∙ sym (ap (λ (r : List Z). r ++ g x) (some y ys))))

  pub none_yet : (us : List Z) (xs : List X) → us ≡ us ++ f (take 0 xs)
  none_yet us xs = sym (ap (λ (r : List Z). us ++ r) none ∙ append-nil us)

  pub one_more : (first done more : List Z) (xs : List X) (i : ℕ) (x : X) → i < length xs → x ≡ get_or xs i x → more ≡ done ++ g x → done ≡ first ++ f (take i xs) → more ≡ first ++ f (take (i + 1) xs)
  one_more first done more xs i x low is added had =
      let more_is : take (i + 1) xs ≡ take i xs ++ x ∷ [] = take_more xs i x low ∙ ap (λ y. take i xs ++ y ∷ []) (sym is) in
      added ∙ (ap (λ l. l ++ g x) had ∙ (append_assoc first (f (take i xs)) (g x) ∙ sym (ap (λ ys. first ++ f ys) more_is ∙ ap (λ ys. first ++ ys) (last_of_all (take i xs) x))))

  pub at_end : (first done : List Z) (xs : List X) (i : ℕ) → length xs ≤ i → done ≡ first ++ f (take i xs) → done ≡ first ++ f xs
  at_end first done xs i high had = had ∙ ap (λ l. first ++ f l) (take_all i xs high)

-- ---- items that are marked

none_marked : {A : Type 0} (xs : List A) → picked [] xs ≡ []
none_marked [] = refl
none_marked (x ∷ xs) = refl

-- what a loop over the marks has left to pick
pub one_picked : {A B : Type 0} (v : A → B) (marks : List Bool) (xs : List A) (i : ℕ) (x : A) → i < length xs → x ≡ get_or xs i x
    → picked (drop i marks) (map v (drop i xs)) ≡ (if get_or marks i false then v x ∷ picked (drop (i + 1) marks) (map v (drop (i + 1) xs)) else picked (drop (i + 1) marks) (map v (drop (i + 1) xs)))
one_picked {A} {B} v marks xs i x low is = here (drop_more xs i x low ∙ ap (λ (y : A). y ∷ drop (i + 1) xs) (sym is)) (cases_lt i (length marks))
  where
    here : drop i xs ≡ x ∷ drop (i + 1) xs → i < length marks ⊎ length marks ≤ i → picked (drop i marks) (map v (drop i xs)) ≡ (if get_or marks i false then v x ∷ picked (drop (i + 1) marks) (map v (drop (i + 1) xs)) else picked (drop (i + 1) marks) (map v (drop (i + 1) xs)))
    here first (inl h) = let more = drop_more marks i false h in (λ k. picked (more k) (map v (first k)))
    here first (inr h) =
        let later : length marks ≤ i + 1 = omega arith in
        let nothing : picked (drop i marks) (map v (drop i xs)) ≡ [] = ap (λ l. picked l (map v (drop i xs))) (drop_of_length-le marks h) ∙ none_marked (map v (drop i xs)) in
        let last : picked (drop (i + 1) marks) (map v (drop (i + 1) xs)) ≡ [] = ap (λ l. picked l (map v (drop (i + 1) xs))) (drop_of_length-le marks later) ∙ none_marked (map v (drop (i + 1) xs)) in
        nothing ∙ sym (ap (λ b. if b then v x ∷ picked (drop (i + 1) marks) (map v (drop (i + 1) xs)) else picked (drop (i + 1) marks) (map v (drop (i + 1) xs))) (get_or_past marks i false h) ∙ last)

kept_first : {B : Type 0} (b : Bool) (y : B) (rest : List B) → (if b then y ∷ rest else rest) ≡ kept_if b y ++ rest
kept_first true y rest = refl
kept_first false y rest = refl

pub none_picked : {B : Type 0} (done all : List B) → done ≡ [] → done ++ all ≡ all
none_picked done all e = ap (λ l. l ++ all) e

pub one_kept : {A B : Type 0} (v : A → B) (marks : List Bool) (xs : List A) (i : ℕ) (x : A) (mark : Bool) (done more all : List B) → i < length xs → x ≡ get_or xs i x → mark ≡ get_or marks i false → more ≡ done ++ kept_if mark (v x)
    → done ++ picked (drop i marks) (map v (drop i xs)) ≡ all → more ++ picked (drop (i + 1) marks) (map v (drop (i + 1) xs)) ≡ all
one_kept v marks xs i x mark done more all low is read kept had =
    let rest = picked (drop (i + 1) marks) (map v (drop (i + 1) xs)) in
    let here : picked (drop i marks) (map v (drop i xs)) ≡ kept_if mark (v x) ++ rest = one_picked v marks xs i x low is ∙ kept_first (get_or marks i false) (v x) rest ∙ ap (λ b. kept_if b (v x) ++ rest) (sym read) in
    ap (λ l. l ++ rest) kept ∙ append_assoc done (kept_if mark (v x)) rest ∙ ap (λ l. done ++ l) (sym here) ∙ had

pub all_picked : {A B : Type 0} (v : A → B) (marks : List Bool) (xs : List A) (i : ℕ) (done all : List B) → length xs ≤ i → done ++ picked (drop i marks) (map v (drop i xs)) ≡ all → done ≡ all
all_picked v marks xs i done all high had =
    let nothing : picked (drop i marks) (map v (drop i xs)) ≡ [] = ap (λ l. picked (drop i marks) (map v l)) (drop_of_length-le xs high) in
    sym (append-nil done) ∙ ap (λ l. done ++ l) (sym nothing) ∙ had

pub item_kept : {A B : Type 0} (v : A → B) (done more : List (Bor A)) (b : Bor A) (x : A) (mark : Bool) → more ≡ done ++ b ∷ [] → b.now ≡ x → mark ≡ true → map (λ (c : Bor A). v c.now) more ≡ map (λ (c : Bor A). v c.now) done ++ kept_if mark (v x)
item_kept {A} {B} v done more b x mark pushed same marked =
    ap (map (λ (c : Bor A). v c.now)) pushed ∙ map-append (λ (c : Bor A). v c.now) done (b ∷ []) ∙ ap (λ (y : A). map (λ (c : Bor A). v c.now) done ++ v y ∷ []) same
    ∙ ap (λ b. map (λ (c : Bor A). v c.now) done ++ kept_if b (v x)) (sym marked)

pub item_left : {A B : Type 0} (v : A → B) (done : List (Bor A)) (x : A) (mark : Bool) → mark ≡ false → map (λ (c : Bor A). v c.now) done ≡ map (λ (c : Bor A). v c.now) done ++ kept_if mark (v x)
item_left {A} {B} v done x mark unmarked = sym (ap (λ b. map (λ (c : Bor A). v c.now) done ++ kept_if b (v x)) unmarked ∙ append-nil (map (λ (c : Bor A). v c.now) done))

-- ---- items that are pushed

pub name_added : (done more : List (Bor (List ℕ))) (b : Bor (List ℕ)) (n : List ℕ) → more ≡ done ++ b ∷ [] → b.now ≡ n → names_in more ≡ names_in done ++ n ∷ []
name_added done more b n pushed same = ap names_in pushed ∙ map-append (λ (c : Bor (List ℕ)). c.now) done (b ∷ []) ∙ ap (λ z. names_in done ++ z ∷ []) same

pub links_added : (done more : List (Listed ℕ)) (l : Listed ℕ) (ls : List ℕ) → more ≡ done ++ l ∷ [] → list_items l ≡ ls → links_in more ≡ links_in done ++ ls ∷ []
links_added done more l ls pushed same = ap links_in pushed ∙ map-append (λ (k : Listed ℕ). list_items k) done (l ∷ []) ∙ ap (λ z. links_in done ++ z ∷ []) same
