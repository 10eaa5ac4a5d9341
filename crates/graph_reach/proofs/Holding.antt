-- What holds while links are followed.
use Rattle.std.proofs.Common.{◌≡◌, ℕ, suc, ◌+◌, ◌<◌, ◌≤◌, ◌⊎◌, inl, inr, Bool, true, false, List, [], ◌∷◌, ◌++◌, map, length, get_or, replicate, zero, refl, sym, ap, ◌∙◌, subst, arith}
use Rattle.std.proofs.lemmas.Bool.{false≢true}
use Rattle.std.proofs.lemmas.List.{length-append, get_or-map}
use Rattle.std.proofs.lemmas.List.Elements.{Contains-append_left, Contains-push, Contains-push_cases}
use Rattle.std.specs.Prelude.{Contains}
use Rattle.sem_words.specs.Lists.{list_items}
use Rattle.sem_words.specs.declared.list.List.{List as Listed}
use Rattle.graph_reach.specs.Graph.{IsReached, at_first, by_link, links_in}
use Rattle.graph_reach.specs.declared.marks.Marks.{Marks}
use Rattle.graph_reach.specs.Marked.{is_marked, weight, IsGrown}
use Rattle.graph_reach.proofs.Grown.{none_in, within}

-- marked nodes are reached, and what waits is marked; what doesn't wait links to marked nodes
pub record Holds (links : List (List ℕ)) (first : List ℕ) (m : Marks) : Type 0 where
  pub size : length m.marked.items ≡ length links
  pub sound : (i : ℕ) → is_marked m.marked.items i ≡ true → IsReached links first i
  pub waiting : (i : ℕ) → Contains m.waiting.items i → is_marked m.marked.items i ≡ true
  pub closed : (i : ℕ) → is_marked m.marked.items i ≡ true → Contains m.waiting.items i ⊎ ((j : ℕ) → Contains (get_or links i []) j → j < length links → is_marked m.marked.items j ≡ true)
  pub begins : (i : ℕ) → Contains first i → i < length links → is_marked m.marked.items i ≡ true

pub links_count : (ls : List (Listed ℕ)) → length (links_in ls) ≡ length ls
links_count [] = refl
links_count (l ∷ ls) = ap suc (links_count ls)

pub begun : (links : List (List ℕ)) (first : List ℕ) (old new : Marks) → length old.marked.items ≡ length links → old.waiting.items ≡ [] → ((i : ℕ) → is_marked old.marked.items i ≡ false) → IsGrown old new first → Holds links first new
begun links first old new size empty none grown =
    let long : length new.marked.items ≡ length links = grown.size ∙ size in
    record {
      size = long;
      sound = λ i h. elim (grown.only i h) [ inl before ↦ absurd (false≢true (sym (none i) ∙ before)) | inr is ↦ at_first i is (let low = within new.marked.items i h in omega arith) ];
      waiting = λ i h. elim (grown.held i h) [ inl before ↦ absurd (none_in i (subst (λ l. Contains l i) empty before)) | inr m ↦ m ];
      closed = λ i h. elim (grown.waits i h) [ inl before ↦ absurd (false≢true (sym (none i) ∙ before)) | inr w ↦ inl w ];
      begins = λ i h low. grown.added i h (omega arith);
    }

pub in_range : (links : List (List ℕ)) (first : List ℕ) (m : Marks) (left : List ℕ) (node : ℕ) → Holds links first m → m.waiting.items ≡ left ++ node ∷ [] → node < length links
in_range links first m left node holds popped =
    let size = holds.size in
    let low = within m.marked.items node (holds.waiting node (subst (λ l. Contains l node) (sym popped) (Contains-push left node))) in
    omega arith

pub followed : (links : List (List ℕ)) (first : List ℕ) (m taken new : Marks) (node : ℕ) → Holds links first m → m.waiting.items ≡ taken.waiting.items ++ node ∷ [] → taken.marked.items ≡ m.marked.items → IsGrown taken new (get_or links node []) → Holds links first new
followed links first m taken new node holds popped same grown =
    let left = taken.waiting.items in
    let along : (i : ℕ) → is_marked taken.marked.items i ≡ is_marked m.marked.items i = λ i. ap (λ bs. is_marked bs i) same in
    let this : IsReached links first node = holds.sound node (holds.waiting node (subst (λ l. Contains l node) (sym popped) (Contains-push left node))) in
    let long : length new.marked.items ≡ length links = grown.size ∙ ap length same ∙ holds.size in
    let earlier : length taken.marked.items ≡ length links = ap length same ∙ holds.size in
    record {
      size = long;
      sound = λ i h. elim (grown.only i h) [ inl before ↦ holds.sound i (sym (along i) ∙ before) | inr is ↦ by_link node i this is (let low = within new.marked.items i h in omega arith) ];
      waiting = λ i h. elim (grown.held i h) [ inl before ↦ grown.kept i (along i ∙ holds.waiting i (subst (λ l. Contains l i) (sym popped) (Contains-append_left left (node ∷ []) i before))) | inr n ↦ n ];
      closed = λ i h. elim (grown.waits i h) [
        | inl before ↦ elim (holds.closed i (sym (along i) ∙ before)) [
          | inl w ↦ elim (Contains-push_cases left node i (subst (λ l. Contains l i) popped w)) [
            | inl still ↦ inl (grown.waiting i still)
            | inr here ↦ inr (λ j is low. grown.added j (subst (λ k. Contains (get_or links k []) j) (sym here) is) (omega arith))
          ]
          | inr all ↦ inr (λ j is low. grown.kept j (along j ∙ all j is low))
        ]
        | inr w ↦ inl w
      ];
      begins = λ i h low. grown.kept i (along i ∙ holds.begins i h low);
    }

pub all_marked : (links : List (List ℕ)) (first : List ℕ) (m : Marks) → Holds links first m → m.waiting.items ≡ [] → (i : ℕ) → IsReached links first i → is_marked m.marked.items i ≡ true
all_marked links first m holds empty j (at_first i is low) = holds.begins i is low
all_marked links first m holds empty j (by_link i k reached is low) = elim (holds.closed i (all_marked links first m holds empty i reached)) [ inl w ↦ absurd (none_in i (subst (λ l. Contains l i) empty w)) | inr all ↦ all k is low ]

pub no_marks : (count i : ℕ) → is_marked (replicate count false) i ≡ false
no_marks zero i = refl
no_marks (suc count) zero = refl
no_marks (suc count) (suc i) = no_marks count i

pub link_at : (ls : List (Listed ℕ)) (i : ℕ) (l : Listed ℕ) → i < length ls → l ≡ get_or ls i l → list_items l ≡ get_or (links_in ls) i []
link_at ls i l low is = ap (λ (k : Listed ℕ). list_items k) is ∙ sym (get_or-map (λ (k : Listed ℕ). list_items k) ls i l [] low)

pub marks_count : (count : ℕ) → length (replicate count false) ≡ count
marks_count zero = refl
marks_count (suc count) = ap suc (marks_count count)
