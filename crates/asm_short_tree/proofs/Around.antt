-- The labels of the statements that stand round one.
use Rattle.std.proofs.Common.{◌≡◌, ℕ, suc, ◌+◌, ◌<◌, ◌≤◌, Bool, true, false, List, [], ◌∷◌, ◌++◌, length, map, drop, take, get_or, Option, Some, None, refl, sym, ap, ◌∙◌, arith}
use Rattle.std.proofs.lemmas.Bool.{true≢false}
use Rattle.std.proofs.lemmas.List.{drop_more, take_more, get_or-drop, get_or-map, map-append, length-drop}
use Rattle.std.proofs.Math.ListN.{drop_of_length-le}
use Rattle.std.specs.Borrow.{Bor}
use Rattle.std.specs.Prelude.{if◌then◌else◌, option_map, bytes_eq}
use Rattle.sem_words.specs.Lists.{text_bytes}
use Rattle.asm_short_lang.specs.Sequence.{numbered}
use Rattle.asm_short_lang.specs.Renaming as plain
use Rattle.asm_short_lang.specs.Renaming.{in_place, inside, no_labels}
use Rattle.asm_short_tree.specs.declared.labels.NewLabel.{NewLabel}
use Rattle.asm_short_tree.specs.declared.labels.Labels.{Labels, fold-roll-Labels}
use Rattle.asm_short_tree.specs.declared.labels.Labels.TheVariants as labels
use Rattle.asm_short_tree.specs.declared.labels.Labels.TheOpen as layers
use Rattle.asm_short_tree.specs.Bodies.{old_labels, new_labels, layer, labels_view, place_by}

pub labels_view-Nothing : labels_view labels.Nothing ≡ no_labels
unfolding labels_view
labels_view-Nothing = ap labels_view (sym labels.rolls-Nothing) ∙ fold-roll-Labels plain.Labels layer layers.Nothing

pub labels_view-Inside : (ls : Bor (List NewLabel)) (outer : Bor Labels) → labels_view (labels.Inside ls outer) ≡ inside (old_labels ls.now) (new_labels ls.now) (labels_view outer.now)
unfolding labels_view
labels_view-Inside ls outer = ap labels_view (sym (labels.rolls-Inside ls outer)) ∙ fold-roll-Labels plain.Labels layer (layers.Inside ls outer)

-- the place of a name among labels, and then among others
beside : (ls : List NewLabel) (olds news : List (List ℕ)) (n : List ℕ) → in_place (old_labels ls) (new_labels ls) n ≡ None → in_place (old_labels ls ++ olds) (new_labels ls ++ news) n ≡ in_place olds news n
beside [] olds news n h = refl
beside (l ∷ ls) olds news n h = elim (bytes_eq (text_bytes l.old.now) n) as (λ b. (if b then Some (numbered l.new) else in_place (old_labels ls) (new_labels ls) n) ≡ None → (if b then Some (numbered l.new) else in_place (old_labels ls ++ olds) (new_labels ls ++ news) n) ≡ in_place olds news n) [
  | true ↦ λ k. absurd (let e : Some (numbered l.new) ≡ None = k in cc)
  | false ↦ λ k. beside ls olds news n k
] h

within : (ls : List NewLabel) (olds news : List (List ℕ)) (n w : List ℕ) → in_place (old_labels ls) (new_labels ls) n ≡ Some w → in_place (old_labels ls ++ olds) (new_labels ls ++ news) n ≡ Some w
within [] olds news n w h = absurd (let e : None ≡ Some w = h in cc)
within (l ∷ ls) olds news n w h = elim (bytes_eq (text_bytes l.old.now) n) as (λ b. (if b then Some (numbered l.new) else in_place (old_labels ls) (new_labels ls) n) ≡ Some w → (if b then Some (numbered l.new) else in_place (old_labels ls ++ olds) (new_labels ls ++ news) n) ≡ Some w) [
  | true ↦ λ k. k
  | false ↦ λ k. within ls olds news n w k
] h

pub label_nowhere : (around : Labels) (n : List ℕ) → around ≡ labels.Nothing → place_by around n ≡ None
label_nowhere around n is = ap (λ (v : plain.Labels). in_place v.olds v.news n) (ap labels_view is ∙ labels_view-Nothing)

pub label_here : (around : Labels) (ls : Bor (List NewLabel)) (outer : Bor Labels) (n : List ℕ) (o : Option ℕ) (new : ℕ) → around ≡ labels.Inside ls outer → option_map numbered o ≡ in_place (old_labels ls.now) (new_labels ls.now) n → o ≡ Some new → place_by around n ≡ Some (numbered new)
label_here around ls outer n o new is found this =
    ap (λ (v : plain.Labels). in_place v.olds v.news n) (ap labels_view is ∙ labels_view-Inside ls outer)
    ∙ within ls.now (labels_view outer.now).olds (labels_view outer.now).news n (numbered new) (sym found ∙ ap (option_map numbered) this)

pub label_outside : (around : Labels) (ls : Bor (List NewLabel)) (outer : Bor Labels) (n : List ℕ) (o : Option ℕ) → around ≡ labels.Inside ls outer → option_map numbered o ≡ in_place (old_labels ls.now) (new_labels ls.now) n → o ≡ None → place_by around n ≡ place_by outer.now n
label_outside around ls outer n o is found this =
    ap (λ (v : plain.Labels). in_place v.olds v.news n) (ap labels_view is ∙ labels_view-Inside ls outer)
    ∙ beside ls.now (labels_view outer.now).olds (labels_view outer.now).news n (sym found ∙ ap (option_map numbered) this)

-- ---- the first of these labels that has the name

abbrev pub place_from : List NewLabel → ℕ → List ℕ → Option (List ℕ)
place_from ls i n = in_place (old_labels (drop i ls)) (new_labels (drop i ls)) n

here_is : (ls : List NewLabel) (i : ℕ) (l : NewLabel) (n : List ℕ) → i < length ls → l ≡ get_or ls i l → place_from ls i n ≡ (if bytes_eq (text_bytes l.old.now) n then Some (numbered l.new) else place_from ls (i + 1) n)
here_is ls i l n low is = ap (λ ks. in_place (old_labels ks) (new_labels ks) n) (drop_more ls i l low ∙ ap (λ k. k ∷ drop (i + 1) ls) (sym is))

pub label_met : (ls : List NewLabel) (i : ℕ) (l : NewLabel) (n : List ℕ) (b : Bool) → i < length ls → l ≡ get_or ls i l → b ≡ bytes_eq (text_bytes l.old.now) n → b ≡ true → Some (numbered l.new) ≡ place_from ls i n
label_met ls i l n b low is test e = sym (here_is ls i l n low is ∙ ap (λ c. if c then Some (numbered l.new) else place_from ls (i + 1) n) (sym test ∙ e))

pub label_passed : (ls : List NewLabel) (i : ℕ) (l : NewLabel) (n : List ℕ) (b : Bool) → i < length ls → l ≡ get_or ls i l → b ≡ bytes_eq (text_bytes l.old.now) n → b ≡ false → place_from ls (i + 1) n ≡ place_from ls i n
label_passed ls i l n b low is test e = sym (here_is ls i l n low is ∙ ap (λ c. if c then Some (numbered l.new) else place_from ls (i + 1) n) (sym test ∙ e))

pub label_missing : (ls : List NewLabel) (i : ℕ) (n : List ℕ) → length ls ≤ i → None ≡ place_from ls i n
label_missing ls i n high = sym (ap (λ ks. in_place (old_labels ks) (new_labels ks) n) (drop_of_length-le ls high))

-- ---- labels that get their numbers one by one

pub map_length : (ns : List ℕ) → length (map numbered ns) ≡ length ns
map_length [] = refl
map_length (n ∷ ns) = ap suc (map_length ns)

pub one_numbered : (done more : List NewLabel) (y : NewLabel) (fresh : List ℕ) (before i : ℕ) → before + i < length fresh → more ≡ done ++ y ∷ [] → y.new ≡ get_or fresh (before + i) 0
    → new_labels done ≡ take i (drop before (map numbered fresh)) → new_labels more ≡ take (i + 1) (drop before (map numbered fresh))
one_numbered done more y fresh before i low pushed is had =
    let xs = drop before (map numbered fresh) in
    let inside_xs : i < length xs = let dropped = length-drop before (map numbered fresh) in let mapped = map_length fresh in omega arith in
    let there : get_or xs i [] ≡ numbered y.new = get_or-drop before (map numbered fresh) i [] ∙ get_or-map numbered fresh (before + i) 0 [] low ∙ ap numbered (sym is) in
    ap new_labels pushed ∙ map-append (λ (l : NewLabel). numbered l.new) done (y ∷ []) ∙ ap (λ l. l ++ numbered y.new ∷ []) had
    ∙ ap (λ w. take i xs ++ w ∷ []) (sym there) ∙ sym (take_more xs i [] inside_xs)

pub ruleset around = (labels_view-Nothing, labels_view-Inside)
