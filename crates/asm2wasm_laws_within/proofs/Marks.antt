-- Marks without rows, and the calls among them.
use Rattle.std.proofs.Common.{◌≡◌, ℕ, ◌<◌, ◌≤◌, Bool, true, false, List, [], ◌∷◌, ◌++◌, length, refl, ap, ◌∙◌, arith, length-append}
use Rattle.std.proofs.lemmas.Bool.Decides.{nat_tests}
use Rattle.std.proofs.lemmas.Slice.Eq.{bytes_eq-Decides}
use Rattle.std.specs.Prelude.{nat_lt, bytes_eq, ◌&&◌, ◌||◌, ◌==◌, if◌then◌else◌}
use Rattle.std.specs.List.{AllByRecursion}
use Rattle.asm_lang_valid.specs.declared.rule.Rule.TheVariants.{PastLimit}
use Rattle.asm_lang_valid.specs.declared.rule.Met.{Met}
use Rattle.asm_lang_valid.specs.Rows.{need}
use Rattle.asm_lang_valid.specs.Typing.{same}
use Rattle.asm_lang_valid.specs.LimitRows.{ForeignCall, Mark, a_row, a_use, rows_of, is_same, is_among, distinct_after, rows_after, most_foreign_calls}
use Rattle.asm2wasm_laws_within.specs.Uses.{AllUses, AllListed}

-- ---- no rows

abbrev pub NoRows : List Mark → Type 0
NoRows [] = Unit {0}
NoRows (a_row x ∷ ms) = ⊥
NoRows (a_use f at ∷ ms) = NoRows ms

pub rows_split : (ms ns : List Mark) → NoRows (ms ++ ns) → NoRows ms × NoRows ns
rows_split [] ns h = (tt, h)
rows_split (a_row x ∷ ms) ns h = absurd h
rows_split (a_use f at ∷ ms) ns h = rows_split ms ns h

both_none : (xs ys : List Met) → xs ++ ys ≡ [] → (xs ≡ []) × (ys ≡ [])
both_none [] ys h = (refl, h)
both_none (x ∷ xs) ys h = cc

no_first : (x : Met) (xs : List Met) → x ∷ xs ≡ [] → ⊥
no_first x xs h = cc

needed : (b : Bool) (at : ℕ) → need b PastLimit at ≡ [] → b ≡ true
needed true at h = refl
needed false at h = cc

pub rows_none : (s : List ForeignCall) (ms : List Mark) → rows_after s ms ≡ [] → NoRows ms
rows_none s [] h = tt
rows_none s (a_row x ∷ ms) h = absurd (no_first x (rows_after s ms) h)
rows_none s (a_use f at ∷ ms) h = by (is_among f s) h (rows_none s ms) (rows_none (s ++ f ∷ []) ms)
  where
    by : (b : Bool) → (if b then rows_after s ms else need (nat_lt (length s) most_foreign_calls) PastLimit at ++ rows_after (s ++ f ∷ []) ms) ≡ []
        → (rows_after s ms ≡ [] → NoRows ms) → (rows_after (s ++ f ∷ []) ms ≡ [] → NoRows ms) → NoRows ms
    by true h p q = p h
    by false h p q = q (both_none (need (nat_lt (length s) most_foreign_calls) PastLimit at) (rows_after (s ++ f ∷ []) ms) h).1

pub few_calls : (s : List ForeignCall) (ms : List Mark) → length s ≤ most_foreign_calls → rows_after s ms ≡ [] → length (distinct_after s ms) ≤ most_foreign_calls
few_calls s [] le h = le
few_calls s (a_row x ∷ ms) le h = absurd (no_first x (rows_after s ms) h)
few_calls s (a_use f at ∷ ms) le h = by (is_among f s) h (few_calls s ms le) (few_calls (s ++ f ∷ []) ms)
  where
    by : (b : Bool) → (if b then rows_after s ms else need (nat_lt (length s) most_foreign_calls) PastLimit at ++ rows_after (s ++ f ∷ []) ms) ≡ []
        → (rows_after s ms ≡ [] → length (distinct_after s ms) ≤ most_foreign_calls)
        → (length (s ++ f ∷ []) ≤ most_foreign_calls → rows_after (s ++ f ∷ []) ms ≡ [] → length (distinct_after (s ++ f ∷ []) ms) ≤ most_foreign_calls)
        → length (if b then distinct_after s ms else distinct_after (s ++ f ∷ []) ms) ≤ most_foreign_calls
    by true h p q = p h
    by false h p q =
        let parts = both_none (need (nat_lt (length s) most_foreign_calls) PastLimit at) (rows_after (s ++ f ∷ []) ms) h in
        let room : nat_lt (length s) most_foreign_calls ≡ true = needed (nat_lt (length s) most_foreign_calls) at parts.0 in
        let below : length s < most_foreign_calls = grind (arith, nat_tests) in
        let longer = length-append s (f ∷ []) in
        q (omega arith) parts.1

-- ---- a test that has to hold at a node

pub held : (b : Bool) (at : ℕ) → NoRows (rows_of (need b PastLimit at)) → b ≡ true
held true at h = refl
held false at h = absurd h

-- ---- uses

pub uses_join : (P : ForeignCall → Type 0) (ms ns : List Mark) → AllUses P ms → AllUses P ns → AllUses P (ms ++ ns)
uses_join P [] ns a b = b
uses_join P (a_row x ∷ ms) ns a b = uses_join P ms ns a b
uses_join P (a_use f at ∷ ms) ns a b = (a.0, uses_join P ms ns a.1 b)

pub uses_split : (P : ForeignCall → Type 0) (ms ns : List Mark) → AllUses P (ms ++ ns) → AllUses P ms × AllUses P ns
uses_split P [] ns h = (tt, h)
uses_split P (a_row x ∷ ms) ns h = uses_split P ms ns h
uses_split P (a_use f at ∷ ms) ns h = let s = uses_split P ms ns h.1 in ((h.0, s.0), s.1)

one_more : (P : ForeignCall → Type 0) (s : List ForeignCall) (f : ForeignCall) → AllByRecursion P s → P f → AllByRecursion P (s ++ f ∷ [])
one_more P [] f a p = (p, tt)
one_more P (g ∷ gs) f a p = (a.0, one_more P gs f a.1 p)

-- what holds of each use holds of each distinct one
pub distinct_all : (P : ForeignCall → Type 0) (s : List ForeignCall) (ms : List Mark) → AllByRecursion P s → AllUses P ms → AllByRecursion P (distinct_after s ms)
distinct_all P s [] a u = a
distinct_all P s (a_row x ∷ ms) a u = distinct_all P s ms a u
distinct_all P s (a_use f at ∷ ms) a u = by (is_among f s) (distinct_all P s ms a u.1) (distinct_all P (s ++ f ∷ []) ms (one_more P s f a u.0) u.1)
  where
    by : (b : Bool) → AllByRecursion P (distinct_after s ms) → AllByRecursion P (distinct_after (s ++ f ∷ []) ms) → AllByRecursion P (if b then distinct_after s ms else distinct_after (s ++ f ∷ []) ms)
    by true p q = p
    by false p q = q

-- ---- each use is listed

same_self : (b : Bool) → same b b ≡ true
same_self true = refl
same_self false = refl

equal_self : (n : ℕ) → (n == n) ≡ true
equal_self n = grind (arith, nat_tests)

is_same_self : (f : ForeignCall) → is_same f f ≡ true
is_same_self f = let a = (bytes_eq-Decides f.name f.name).1 refl in let b = equal_self f.params in let c = same_self f.result in rw a (rw b c)

among_more : (f : ForeignCall) (s r : List ForeignCall) → is_among f s ≡ true → is_among f (s ++ r) ≡ true
among_more f [] r h = cc
among_more f (g ∷ gs) r h = by (is_same f g) h (among_more f gs r)
  where
    by : (b : Bool) → (b || is_among f gs) ≡ true → (is_among f gs ≡ true → is_among f (gs ++ r) ≡ true) → (b || is_among f (gs ++ r)) ≡ true
    by true h p = refl
    by false h p = p h

among_end : (f : ForeignCall) (s : List ForeignCall) → is_among f (s ++ f ∷ []) ≡ true
among_end f [] = let e = is_same_self f in rw e refl
among_end f (g ∷ gs) = by (is_same f g) (among_end f gs)
  where
    by : (b : Bool) → is_among f (gs ++ f ∷ []) ≡ true → (b || is_among f (gs ++ f ∷ [])) ≡ true
    by true p = refl
    by false p = p

kept : (f : ForeignCall) (s : List ForeignCall) (ms : List Mark) → is_among f s ≡ true → is_among f (distinct_after s ms) ≡ true
kept f s [] h = h
kept f s (a_row x ∷ ms) h = kept f s ms h
kept f s (a_use g at ∷ ms) h = by (is_among g s) (kept f s ms h) (kept f (s ++ g ∷ []) ms (among_more f s (g ∷ []) h))
  where
    by : (b : Bool) → is_among f (distinct_after s ms) ≡ true → is_among f (distinct_after (s ++ g ∷ []) ms) ≡ true → is_among f (if b then distinct_after s ms else distinct_after (s ++ g ∷ []) ms) ≡ true
    by true p q = p
    by false p q = q

pub all_listed : (s : List ForeignCall) (ms : List Mark) → AllListed (distinct_after s ms) ms
all_listed s [] = tt
all_listed s (a_row x ∷ ms) = all_listed s ms
all_listed s (a_use f at ∷ ms) = by (is_among f s) refl (all_listed s ms) (all_listed (s ++ f ∷ []) ms)
  where
    by : (b : Bool) → is_among f s ≡ b → AllListed (distinct_after s ms) ms → AllListed (distinct_after (s ++ f ∷ []) ms) ms
        → AllListed (if b then distinct_after s ms else distinct_after (s ++ f ∷ []) ms) (a_use f at ∷ ms)
    by true e p q = (kept f s ms e, p)
    by false e p q = (kept f (s ++ f ∷ []) ms (among_end f s), q)

both_true : (a b : Bool) → (a && b) ≡ true → (a ≡ true) × (b ≡ true)
both_true true b h = (refl, h)
both_true false b h = cc

same_is : (a b : Bool) → same a b ≡ true → a ≡ b
same_is true true h = refl
same_is true false h = cc
same_is false true h = cc
same_is false false h = refl

equal_is : (a b : ℕ) → (a == b) ≡ true → a ≡ b
equal_is a b h = grind (arith, nat_tests)

abbrev a_call : List ℕ → ℕ → Bool → ForeignCall
a_call n k r = record { name = n; params = k; result = r }

pub same_calls_are_equal : (f g : ForeignCall) → is_same f g ≡ true → f ≡ g
same_calls_are_equal f g h =
    let p = both_true (bytes_eq f.name g.name) ((f.params == g.params) && same f.result g.result) h in
    let q = both_true (f.params == g.params) (same f.result g.result) p.1 in
    ap (λ n. a_call n f.params f.result) ((bytes_eq-Decides f.name g.name).0 p.0)
    ∙ ap (λ k. a_call g.name k f.result) (equal_is f.params g.params q.0)
    ∙ ap (λ r. a_call g.name g.params r) (same_is f.result g.result q.1)
