-- How marks grow, one node after another.
use Rattle.std.proofs.Common.{◌≡◌, ℕ, zero, suc, ◌+◌, ◌<◌, ◌≤◌, ◌⊎◌, inl, inr, Bool, true, false, List, [], ◌∷◌, ◌++◌, length, get_or, set, refl, sym, ap, ◌∙◌, subst, arith}
use Rattle.std.proofs.lemmas.Bool.{false≢true, cases_lt, cases_eq}
use Rattle.std.proofs.lemmas.List.{length-append, get_or-set_same, get_or-set_other, get_or_past, length-set}
use Rattle.std.proofs.lemmas.List.Elements.{Contains-append_left, Contains-append_right, Contains-push, Contains-push_cases}
use Rattle.std.specs.Prelude.{Contains, if◌then◌else◌}
use Rattle.graph_reach.specs.declared.marks.Marks.{Marks}
use Rattle.graph_reach.specs.Marked.{is_marked, unmarked, weight, IsGrown}

-- ---- nodes in lists

pub none_in : (i : ℕ) → Contains {X = ℕ} [] i → ⊥
none_in i h = let low = h.1 in absurd (omega arith)

pub only_one : (x i : ℕ) → Contains (x ∷ []) i → x ≡ i
only_one x i h = elim (Contains-push_cases [] x i h) [ inl n ↦ absurd (none_in i n) | inr e ↦ e ]

-- ---- marks

pub within : (bs : List Bool) (i : ℕ) → is_marked bs i ≡ true → i < length bs
within bs i h = elim (cases_lt i (length bs)) [ inl low ↦ low | inr past ↦ absurd (false≢true (sym (get_or_past bs i false past) ∙ h)) ]

marked_less : (bs : List Bool) (i : ℕ) → i < length bs → is_marked bs i ≡ false → unmarked bs ≡ 2 + unmarked (set bs i true)
marked_less [] i h e = absurd (omega arith)
marked_less (true ∷ bs) zero h e = absurd (false≢true (sym e))
marked_less (false ∷ bs) zero h e = refl
marked_less (true ∷ bs) (suc i) h e = marked_less bs i (omega arith) e
marked_less (false ∷ bs) (suc i) h e = ap (λ n. 2 + n) (marked_less bs i (omega arith) e)

pub nothing_added : (m : Marks) → IsGrown m m []
nothing_added m = record { size = refl; kept = λ i h. h; added = λ i h. absurd (none_in i h); only = λ i h. inl h; waits = λ i h. inl h; held = λ i h. inl h; waiting = λ i h. h; lighter = omega arith }

pub past_added : (m : Marks) (node : ℕ) → length m.marked.items ≤ node → IsGrown m m (node ∷ [])
past_added m node past = record { size = refl; kept = λ i h. h; added = λ i h low. absurd (let same = only_one node i h in omega arith); only = λ i h. inl h; waits = λ i h. inl h; held = λ i h. inl h; waiting = λ i h. h; lighter = omega arith }

pub there_added : (m : Marks) (node : ℕ) → is_marked m.marked.items node ≡ true → IsGrown m m (node ∷ [])
there_added m node there = record { size = refl; kept = λ i h. h; added = λ i h low. ap (is_marked m.marked.items) (sym (only_one node i h)) ∙ there; only = λ i h. inl h; waits = λ i h. inl h; held = λ i h. inl h; waiting = λ i h. h; lighter = omega arith }

pub one_added : (old new : Marks) (node : ℕ) → node < length old.marked.items → is_marked old.marked.items node ≡ false → new.marked.items ≡ set old.marked.items node true → new.waiting.items ≡ old.waiting.items ++ node ∷ [] → IsGrown old new (node ∷ [])
one_added old new node low free marked waiting =
    let here : is_marked new.marked.items node ≡ true = ap (λ bs. is_marked bs node) marked ∙ get_or-set_same old.marked.items node true false low in
    let elsewhere : (i : ℕ) → (i ≡ node → ⊥) → is_marked new.marked.items i ≡ is_marked old.marked.items i = λ i other. ap (λ bs. is_marked bs i) marked ∙ get_or-set_other old.marked.items node i true false other in
    record {
      size = ap length marked ∙ length-set old.marked.items node true;
      kept = λ i h. elim (cases_eq i node) [ inl same ↦ ap (is_marked new.marked.items) same ∙ here | inr other ↦ elsewhere i other ∙ h ];
      added = λ i h k. ap (is_marked new.marked.items) (sym (only_one node i h)) ∙ here;
      only = λ i h. elim (cases_eq i node) [ inl same ↦ inr (subst (λ j. Contains (node ∷ []) j) (sym same) (Contains-push [] node)) | inr other ↦ inl (sym (elsewhere i other) ∙ h) ];
      waits = λ i h. elim (cases_eq i node) [ inl same ↦ inr (subst (λ l. Contains l i) (sym waiting) (subst (λ j. Contains (old.waiting.items ++ node ∷ []) j) (sym same) (Contains-push old.waiting.items node))) | inr other ↦ inl (sym (elsewhere i other) ∙ h) ];
      held = λ i h. elim (Contains-push_cases old.waiting.items node i (subst (λ l. Contains l i) waiting h)) [ inl before ↦ inl before | inr same ↦ inr (ap (is_marked new.marked.items) (sym same) ∙ here) ];
      waiting = λ i h. subst (λ l. Contains l i) (sym waiting) (Contains-append_left old.waiting.items (node ∷ []) i h);
      lighter = (let less = marked_less old.marked.items node low free in let same = ap unmarked marked in let longer = ap length waiting ∙ length-append old.waiting.items (node ∷ []) in omega arith);
    }

pub more_added : (a b c : Marks) (xs : List ℕ) (x : ℕ) → IsGrown a b xs → IsGrown b c (x ∷ []) → IsGrown a c (xs ++ x ∷ [])
more_added a b c xs x first next =
    record {
      size = next.size ∙ first.size;
      kept = λ i h. next.kept i (first.kept i h);
      added = λ i h low. elim (Contains-push_cases xs x i h) [ inl before ↦ next.kept i (first.added i before low) | inr same ↦ next.added i (subst (λ j. Contains (x ∷ []) j) same (Contains-push [] x)) (let size = first.size in omega arith) ];
      only = λ i h. elim (next.only i h) [ inl before ↦ elim (first.only i before) [ inl old ↦ inl old | inr in_xs ↦ inr (Contains-append_left xs (x ∷ []) i in_xs) ] | inr last ↦ inr (Contains-append_right xs (x ∷ []) i last) ];
      waits = λ i h. elim (next.waits i h) [ inl before ↦ elim (first.waits i before) [ inl old ↦ inl old | inr w ↦ inr (next.waiting i w) ] | inr w ↦ inr w ];
      held = λ i h. elim (next.held i h) [ inl before ↦ elim (first.held i before) [ inl old ↦ inl old | inr m ↦ inr (next.kept i m) ] | inr m ↦ inr m ];
      waiting = λ i h. next.waiting i (first.waiting i h);
      lighter = (let p = first.lighter in let q = next.lighter in omega arith);
    }
