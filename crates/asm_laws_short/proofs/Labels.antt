-- Labels that are open at a statement and at its renamed form: each new one stands where its old one does.
use Rattle.std.proofs.Common.{◌≡◌, ℕ, zero, suc, ◌+◌, ◌≤◌, Bool, true, false, not, ◌&&◌, ◌||◌, List, [], ◌∷◌, ◌++◌, length, take, drop, refl, sym, ap, ap₂, ◌∙◌, subst, ◌⊎◌, inl, inr, arith, length-append, append-nil, subst₂, unwrap_or}
use Rattle.std.proofs.lemmas.Bool.{and_parts}
use Rattle.std.specs.Prelude.{map, bytes_eq}
use Rattle.asm_lang_valid.specs.Scope.{is_in}
use Rattle.asm_lang_valid.specs.Typing.{Label, Around, in_a_loop, in_a_switch, has_label, has_loop, labels_in, new_labels}
use Rattle.asm_short_lang.specs.Renaming.{in_place, replaced, Labels, inside}
use Rattle.asm_laws_alike.specs.Places.{place_of, Open, in_part, in_loop, under}
use Rattle.asm_laws_short.proofs.Lists.{same_name, itself, other_name, or_true, or_left, or_right, not_in, either_false, in_left, in_right, in_either, Distinct, Apart, distinct_parts, distinct_both, distinct_take, in_take, front_and_rest, Placed, placed, one_to_one, told_apart, same_place}

-- ---- fronts of lists

pub longer_front : (n : List ℕ) (j k : ℕ) (xs : List (List ℕ)) → j ≤ k → is_in n (take j xs) ≡ true → is_in n (take k xs) ≡ true
longer_front n zero k xs l h = absurd (cc h)
longer_front n (suc j) zero xs l h = absurd (omega (arith, l))
longer_front n (suc j) (suc k) [] l h = h
longer_front n (suc j) (suc k) (x ∷ xs) l h = by (bytes_eq x n) (longer_front n j k xs (omega (arith, l))) h
  where
    by : (b : Bool) → (is_in n (take j xs) ≡ true → is_in n (take k xs) ≡ true) → (b || is_in n (take j xs)) ≡ true → (b || is_in n (take k xs)) ≡ true
    by true rest h = refl
    by false rest h = rest h

-- what stands behind a front of j stands in the front of j and k
pub behind_front : (n : List ℕ) (j k : ℕ) (xs : List (List ℕ)) → is_in n (take k (drop j xs)) ≡ true → is_in n (take (j + k) xs) ≡ true
behind_front n zero k xs h = let e : k ≡ 0 + k = omega arith in subst (λ i. is_in n (take i xs) ≡ true) e h
behind_front n (suc j) k [] h = absurd (by k h)
  where
    by : (k : ℕ) → is_in n (take k []) ≡ true → ⊥
    by zero h = cc h
    by (suc k) h = cc h
behind_front n (suc j) k (x ∷ xs) h =
    let e : suc (j + k) ≡ suc j + k = omega arith in
    subst (λ i. is_in n (take i (x ∷ xs)) ≡ true) e (or_right (bytes_eq x n) (is_in n (take (j + k) xs)) (behind_front n j k xs h))

pub length_part : (j k : ℕ) (xs : List (List ℕ)) → j + k ≤ length xs → length (take k (drop j xs)) ≡ k
length_part zero k xs l = front k xs (omega (arith, l))
  where
    front : (k : ℕ) (xs : List (List ℕ)) → k ≤ length xs → length (take k xs) ≡ k
    front zero xs l = refl
    front (suc k) [] l = absurd (omega (arith, l))
    front (suc k) (x ∷ xs) l = ap suc (front k xs (omega (arith, l)))
length_part (suc j) k [] l = absurd (omega (arith, l))
length_part (suc j) k (x ∷ xs) l = length_part j k xs (omega (arith, l))

-- ---- what stands in place

-- behind names that are others
pub place_behind : (xs ys os ws : List (List ℕ)) (n : List ℕ) → length ys ≡ length xs → is_in n xs ≡ false → in_place (xs ++ os) (ys ++ ws) n ≡ in_place os ws n
place_behind [] [] os ws n l h = refl
place_behind [] (y ∷ ys) os ws n l h = absurd (omega (arith, l))
place_behind (x ∷ xs) [] os ws n l h = absurd (omega (arith, l))
place_behind (x ∷ xs) (y ∷ ys) os ws n l h = let p = either_false (bytes_eq x n) (is_in n xs) h in let e = p.0 in rw e (place_behind xs ys os ws n (omega (arith, l)) p.1)

pub same_map : (f g : List ℕ → List ℕ) (xs : List (List ℕ)) → ((x : List ℕ) → is_in x xs ≡ true → f x ≡ g x) → map f xs ≡ map g xs
same_map f g [] h = refl
same_map f g (x ∷ xs) h = ap₂ (λ y ys. y ∷ ys) (h x (or_left (bytes_eq x x) (is_in x xs) (itself x))) (same_map f g xs (λ y e. h y (or_right (bytes_eq x y) (is_in y xs) e)))

pub map_both : (f : List ℕ → List ℕ) (xs ys : List (List ℕ)) → map f (xs ++ ys) ≡ map f xs ++ map f ys
map_both f [] ys = refl
map_both f (x ∷ xs) ys = ap (λ zs. f x ∷ zs) (map_both f xs ys)

-- distinct names become the new ones in order, whatever stands behind them
pub all_replaced : (xs ys os ws : List (List ℕ)) → length ys ≡ length xs → Distinct xs → map (replaced (xs ++ os) (ys ++ ws)) xs ≡ ys
all_replaced [] [] os ws l d = refl
all_replaced [] (y ∷ ys) os ws l d = absurd (omega (arith, l))
all_replaced (x ∷ xs) [] os ws l d = absurd (omega (arith, l))
all_replaced (x ∷ xs) (y ∷ ys) os ws l d =
    ap₂ (λ z zs. z ∷ zs) (let e = itself x in rw e refl)
    (same_map (replaced (x ∷ xs ++ os) (y ∷ ys ++ ws)) (replaced (xs ++ os) (ys ++ ws)) xs (λ z i. (let e = other_name x z (λ s. let j = subst (λ q. is_in q xs ≡ false) s d.0 in cc) in rw e refl)) ∙ all_replaced xs ys os ws (omega (arith, l)) d.1)

-- ---- labels of typed code

pub label_in : (loop : Bool) (ns : List (List ℕ)) (ls : List Label) (n : List ℕ) → has_label (labels_in loop ns ls) n ≡ true → (is_in n ns ≡ true) ⊎ (has_label ls n ≡ true)
label_in loop [] ls n h = inr h
label_in loop (x ∷ xs) ls n h = by (label_in loop xs (record { text = x; of_loop = loop } ∷ ls) n h)
  where
    later : (bytes_eq x n ≡ true) ⊎ (has_label ls n ≡ true) → (is_in n (x ∷ xs) ≡ true) ⊎ (has_label ls n ≡ true)
    later (inl e) = inl (or_left (bytes_eq x n) (is_in n xs) e)
    later (inr e) = inr e

    by : (is_in n xs ≡ true) ⊎ ((bytes_eq x n || has_label ls n) ≡ true) → (is_in n (x ∷ xs) ≡ true) ⊎ (has_label ls n ≡ true)
    by (inl e) = inl (or_right (bytes_eq x n) (is_in n xs) e)
    by (inr e) = later (or_true (bytes_eq x n) (has_label ls n) e)

pub still_label : (loop : Bool) (ns : List (List ℕ)) (ls : List Label) (n : List ℕ) → has_label ls n ≡ true → has_label (labels_in loop ns ls) n ≡ true
still_label loop [] ls n h = h
still_label loop (x ∷ xs) ls n h = still_label loop xs (record { text = x; of_loop = loop } ∷ ls) n (or_right (bytes_eq x n) (has_label ls n) h)

pub new_label : (loop : Bool) (ns : List (List ℕ)) (ls : List Label) (n : List ℕ) → is_in n ns ≡ true → has_label (labels_in loop ns ls) n ≡ true
new_label loop [] ls n h = absurd (cc h)
new_label loop (x ∷ xs) ls n h = by (or_true (bytes_eq x n) (is_in n xs) h) (new_label loop xs (record { text = x; of_loop = loop } ∷ ls) n)
  where
    by : (bytes_eq x n ≡ true) ⊎ (is_in n xs ≡ true) → (is_in n xs ≡ true → has_label (labels_in loop xs (record { text = x; of_loop = loop } ∷ ls)) n ≡ true) → has_label (labels_in loop xs (record { text = x; of_loop = loop } ∷ ls)) n ≡ true
    by (inl e) rest = still_label loop xs (record { text = x; of_loop = loop } ∷ ls) n (or_left (bytes_eq x n) (has_label ls n) e)
    by (inr e) rest = rest e

-- a label of a loop is one of these, where they are a loop's, or one from before
pub loop_in : (ns : List (List ℕ)) (ls : List Label) (n : List ℕ) → has_loop (labels_in true ns ls) n ≡ true → (is_in n ns ≡ true) ⊎ (has_loop ls n ≡ true)
loop_in [] ls n h = inr h
loop_in (x ∷ xs) ls n h = by (loop_in xs (record { text = x; of_loop = true } ∷ ls) n h)
  where
    first : (b : Bool) → bytes_eq x n ≡ b → ((b && true) || has_loop ls n) ≡ true → (is_in n (x ∷ xs) ≡ true) ⊎ (has_loop ls n ≡ true)
    first true e h = inl (or_left (bytes_eq x n) (is_in n xs) e)
    first false e h = inr h

    by : (is_in n xs ≡ true) ⊎ (((bytes_eq x n && true) || has_loop ls n) ≡ true) → (is_in n (x ∷ xs) ≡ true) ⊎ (has_loop ls n ≡ true)
    by (inl e) = inl (or_right (bytes_eq x n) (is_in n xs) e)
    by (inr e) = first (bytes_eq x n) refl e

pub no_loop_in : (ns : List (List ℕ)) (ls : List Label) (n : List ℕ) → has_loop (labels_in false ns ls) n ≡ true → has_loop ls n ≡ true
no_loop_in [] ls n h = h
no_loop_in (x ∷ xs) ls n h = by (bytes_eq x n) (no_loop_in xs (record { text = x; of_loop = false } ∷ ls) n h)
  where
    by : (b : Bool) → ((b && false) || has_loop ls n) ≡ true → has_loop ls n ≡ true
    by true e = e
    by false e = e

not_true : (b : Bool) → not b ≡ true → b ≡ false
not_true true h = absurd (cc h)
not_true false h = refl

-- new labels are distinct, and none is open
pub labels_new : (ns : List (List ℕ)) (ls : List Label) → new_labels ns ls ≡ true → Distinct ns × ((n : List ℕ) → is_in n ns ≡ true → has_label ls n ≡ false)
labels_new [] ls h = (tt, λ n e. absurd (cc e))
labels_new (x ∷ xs) ls h =
    let p = and_parts _ _ h in
    let r = labels_new xs (record { text = x; of_loop = false } ∷ ls) p.1 in (
      (not_in x xs (λ e. (let q = (either_false (bytes_eq x x) (has_label ls x) (r.1 x e)).0 in let i = itself x in cc)), r.0),
      λ n e. by n (or_true (bytes_eq x n) (is_in n xs) e) (not_true (has_label ls x) p.0) r.1,
    )
  where
    by : (n : List ℕ) → (bytes_eq x n ≡ true) ⊎ (is_in n xs ≡ true) → has_label ls x ≡ false → ((n : List ℕ) → is_in n xs ≡ true → (bytes_eq x n || has_label ls n) ≡ false) → has_label ls n ≡ false
    by n (inl e) k rest = subst (λ z. has_label ls z ≡ false) (same_name x n e) k
    by n (inr e) k rest = (either_false (bytes_eq x n) (has_label ls n) (rest n e)).1

-- ---- what is open at a statement, and at its renamed form

abbrev pub loops_of : Bool → Open → List (List ℕ)
loops_of true a = a.own ++ a.to_continue
loops_of false a = a.to_continue

-- `before` new labels are given before; `loop` says whether the statement is a loop
pub record Linked (fresh : List (List ℕ)) (before : ℕ) (around : Labels) (a a' : Open) (t : Around) (loop : Bool) : Type 0 where
  pub breaks : a.to_break ≡ around.olds
  pub breaks' : a'.to_break ≡ around.news
  pub long : length around.news ≡ length around.olds
  pub distinct : Distinct around.olds
  pub distinct' : Distinct around.news
  pub in_front : (n : List ℕ) → is_in n around.news ≡ true → is_in n (take before fresh) ≡ true
  pub own : (n : List ℕ) → is_in n a.own ≡ true → is_in n around.olds ≡ true
  pub own' : a'.own ≡ map (replaced around.olds around.news) a.own
  pub continues : (n : List ℕ) → is_in n a.to_continue ≡ true → is_in n around.olds ≡ true
  pub continues' : a'.to_continue ≡ map (replaced around.olds around.news) a.to_continue
  pub opened : (n : List ℕ) → has_label t.labels n ≡ true → is_in n around.olds ≡ true
  pub known : (n : List ℕ) → is_in n around.olds ≡ true → has_label t.labels n ≡ true
  pub loops : (n : List ℕ) → has_loop t.labels n ≡ true → is_in n (loops_of loop a) ≡ true

module _ (fresh : List (List ℕ)) (before : ℕ) (around : Labels) (a a' : Open) (t : Around) where
  -- a label that is open goes over to the same place
  pub same_label : {loop : Bool} (xs : List (List ℕ)) (n : List ℕ) → Linked fresh before around a a' t loop → ((x : List ℕ) → is_in x xs ≡ true → is_in x around.olds ≡ true) → is_in n around.olds ≡ true
      → place_of (map (replaced around.olds around.news) xs) (replaced around.olds around.news n) ≡ place_of xs n
  same_label xs n h all i = same_place (replaced around.olds around.news) xs n (replaced around.olds around.news n) (told_apart (replaced around.olds around.news) xs n (replaced around.olds around.news n) (λ x e. by x (placed around.olds around.news x h.long (all x e)) (placed around.olds around.news n h.long i)))
    where
      by : (x : List ℕ) → Placed around.olds around.news x → Placed around.olds around.news n → bytes_eq (replaced around.olds around.news x) (replaced around.olds around.news n) ≡ bytes_eq x n
      by x p q = let e = p.is in let f = q.is in rw (e, f) (one_to_one around.olds around.news x n p.name q.name h.distinct' p.is q.is)

  pub break_place : {loop : Bool} (n : List ℕ) → Linked fresh before around a a' t loop → has_label t.labels n ≡ true → place_of a'.to_break (replaced around.olds around.news n) ≡ place_of a.to_break n
  break_place n h e =
      let r = replaced around.olds around.news in
      let all : map r around.olds ≡ around.news = every h in
      ap (λ l. place_of l (r n)) (h.breaks' ∙ sym all) ∙ (same_label around.olds n h (λ x i. i) (h.opened n e) ∙ ap (λ l. place_of l n) (sym h.breaks))
    where
      every : {loop : Bool} → Linked fresh before around a a' t loop → map (replaced around.olds around.news) around.olds ≡ around.news
      every h = subst₂ (λ os ws. map (replaced os ws) around.olds ≡ around.news) (append-nil around.olds) (append-nil around.news) (all_replaced around.olds around.news [] [] h.long h.distinct)

  pub continue_place : (n : List ℕ) → Linked fresh before around a a' t false → has_loop t.labels n ≡ true → place_of a'.to_continue (replaced around.olds around.news n) ≡ place_of a.to_continue n
  continue_place n h e =
      let i = h.loops n e in
      ap (λ l. place_of l (replaced around.olds around.news n)) h.continues' ∙ same_label a.to_continue n h h.continues (h.continues n i)

  -- a part of a statement that is no loop
  pub linked_part : (loop : Bool) → Linked fresh before around a a' t false → Linked fresh before around (in_part a) (in_part a') t loop
  linked_part loop h = record { breaks = h.breaks; breaks' = h.breaks'; long = h.long; distinct = h.distinct; distinct' = h.distinct'; in_front = h.in_front; own = λ n e. absurd (cc e); own' = refl; continues = h.continues; continues' = h.continues'; opened = h.opened; known = h.known; loops = λ n e. by loop n (h.loops n e) }
    where
      by : (b : Bool) (n : List ℕ) → is_in n a.to_continue ≡ true → is_in n (loops_of b (in_part a)) ≡ true
      by true n e = e
      by false n e = e

  pub linked_switch : (loop : Bool) → Linked fresh before around a a' t loop → Linked fresh before around a a' (in_a_switch t) loop
  linked_switch loop h = record { breaks = h.breaks; breaks' = h.breaks'; long = h.long; distinct = h.distinct; distinct' = h.distinct'; in_front = h.in_front; own = h.own; own' = h.own'; continues = h.continues; continues' = h.continues'; opened = h.opened; known = h.known; loops = h.loops }

  -- the body of a loop
  pub linked_loop : (loop : Bool) → Linked fresh before around a a' t true → Linked fresh before around (in_loop a) (in_loop a') (in_a_loop t) loop
  linked_loop loop h = record { breaks = h.breaks; breaks' = h.breaks'; long = h.long; distinct = h.distinct; distinct' = h.distinct'; in_front = h.in_front; own = λ n e. absurd (cc e); own' = refl; continues = λ n e. either n (in_either n a.own a.to_continue e); continues' = ap₂ (λ x y. x ++ y) h.own' h.continues' ∙ sym (map_both (replaced around.olds around.news) a.own a.to_continue); opened = h.opened; known = h.known; loops = λ n e. by loop n (h.loops n e) }
    where
      either : (n : List ℕ) → (is_in n a.own ≡ true) ⊎ (is_in n a.to_continue ≡ true) → is_in n around.olds ≡ true
      either n (inl e) = h.own n e
      either n (inr e) = h.continues n e

      by : (b : Bool) (n : List ℕ) → is_in n (a.own ++ a.to_continue) ≡ true → is_in n (loops_of b (in_loop a)) ≡ true
      by true n e = e
      by false n e = e

  -- after more labels
  pub linked_later : (later : ℕ) {loop : Bool} → before ≤ later → Linked fresh before around a a' t loop → Linked fresh later around a a' t loop
  linked_later later l h = record { breaks = h.breaks; breaks' = h.breaks'; long = h.long; distinct = h.distinct; distinct' = h.distinct'; in_front = λ n e. longer_front n before later fresh l (h.in_front n e); own = h.own; own' = h.own'; continues = h.continues; continues' = h.continues'; opened = h.opened; known = h.known; loops = h.loops }

  -- under labels
  pub linked_under : (ns : List (List ℕ)) (loop outer : Bool) → Distinct fresh → before + length ns ≤ length fresh → new_labels ns t.labels ≡ true → Linked fresh before around a a' t outer → outer ≡ false
      → Linked fresh (before + length ns) (inside ns (take (length ns) (drop before fresh)) around) (under ns a) (under (take (length ns) (drop before fresh)) a') (record { in_breakable = t.in_breakable; in_loop = t.in_loop; labels = labels_in loop ns t.labels }) loop
  linked_under ns loop outer d room new h o =
      let ys = take (length ns) (drop before fresh) in
      let fronts : Distinct (take before fresh ++ drop before fresh) = subst Distinct (sym (front_and_rest before fresh)) d in
      let parts = distinct_parts (take before fresh) (drop before fresh) fronts in
      let l : length ys ≡ length ns = length_part before (length ns) fresh room in
      let w = labels_new ns t.labels new in
      let all = length-append ns around.olds in
      let all' = length-append ys around.news in
      let k = h.long in
      let apart : Apart ns around.olds = λ n e. not_in n around.olds (λ i. let p = h.known n i in let q = w.1 n e in cc) in
      record {
        breaks = ap (λ x. ns ++ x) h.breaks;
        breaks' = ap (λ x. ys ++ x) h.breaks';
        long = omega arith;
        distinct = distinct_both ns around.olds w.0 h.distinct apart;
        distinct' = distinct_both ys around.news (distinct_take (length ns) (drop before fresh) parts.1) h.distinct' (λ n e. not_in n around.news (λ i. let p = parts.2 n (h.in_front n i) in let q = in_take n (length ns) (drop before fresh) e in cc));
        in_front = λ n e. front n (in_either n ys around.news e);
        own = λ n e. in_left n ns around.olds e;
        own' = sym (all_replaced ns ys around.olds around.news l w.0);
        continues = λ n e. in_right n ns around.olds (h.continues n e);
        continues' = h.continues' ∙ same_map (replaced around.olds around.news) (replaced (ns ++ around.olds) (ys ++ around.news)) a.to_continue (λ x e. ap (λ o. unwrap_or o x) (sym (place_behind ns ys around.olds around.news x l (not_in x ns (λ i. let p = apart x i in let q = h.continues x e in cc)))));
        opened = λ n e. opens n (label_in loop ns t.labels n e);
        known = λ n e. knows n (in_either n ns around.olds e);
        loops = λ n e. turns loop n e;
      }
    where
      front : (n : List ℕ) → (is_in n (take (length ns) (drop before fresh)) ≡ true) ⊎ (is_in n around.news ≡ true) → is_in n (take (before + length ns) fresh) ≡ true
      front n (inl e) = behind_front n before (length ns) fresh e
      front n (inr e) = longer_front n before (before + length ns) fresh (omega arith) (h.in_front n e)

      opens : (n : List ℕ) → (is_in n ns ≡ true) ⊎ (has_label t.labels n ≡ true) → is_in n (ns ++ around.olds) ≡ true
      opens n (inl e) = in_left n ns around.olds e
      opens n (inr e) = in_right n ns around.olds (h.opened n e)

      knows : (n : List ℕ) → (is_in n ns ≡ true) ⊎ (is_in n around.olds ≡ true) → has_label (labels_in loop ns t.labels) n ≡ true
      knows n (inl e) = new_label loop ns t.labels n e
      knows n (inr e) = still_label loop ns t.labels n (h.known n e)

      outside : (n : List ℕ) → has_loop t.labels n ≡ true → is_in n a.to_continue ≡ true
      outside n e = subst (λ b. is_in n (loops_of b a) ≡ true) o (h.loops n e)

      of_loop : (n : List ℕ) → (is_in n ns ≡ true) ⊎ (has_loop t.labels n ≡ true) → is_in n (ns ++ a.to_continue) ≡ true
      of_loop n (inl e) = in_left n ns a.to_continue e
      of_loop n (inr e) = in_right n ns a.to_continue (outside n e)

      turns : (b : Bool) (n : List ℕ) → has_loop (labels_in b ns t.labels) n ≡ true → is_in n (loops_of b (under ns a)) ≡ true
      turns true n e = of_loop n (loop_in ns t.labels n e)
      turns false n e = outside n (no_loop_in ns t.labels n e)
