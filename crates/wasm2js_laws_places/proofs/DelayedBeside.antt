-- What some operands are to have, where all else is written: their words read none of the variables of the others.
use Rattle.std.proofs.Common.{◌≡◌, ℕ, Bool, true, false, not, List, [], ◌∷◌, Option, Some, None, refl, sym, ap, ◌∙◌, subst}
use Rattle.std.specs.Prelude.{if◌then◌else◌}
use Rattle.wasm2js_translation.specs.Names.{Name, same_name}
use Rattle.wasm2js_translation.specs.Words.{Term}
use Rattle.wasm2js_translation.specs.Delays.{Delayed, is_light, waiting, those, without, word_or, at_hand}
use Rattle.wasm2js_laws_places.specs.Straight.{Words, value}
use Rattle.wasm2js_laws_places.specs.Delaying.{seen, IsUnread, AreWaiting, SomeAreSeen}
use Rattle.wasm2js_laws_places.proofs.SameNames.{same_is, same_itself, same_back}
use Rattle.wasm2js_laws_places.proofs.DelayedLists.{waits_here, waits_further, operand_waits, kept, those_by_name, those_wait, none_left}
use Rattle.wasm2js_laws_places.proofs.DelayedTerms.{seen_at_hand, seen_as, unread_seen, light_unread}

-- ---- words of variables that wait beside one another

-- the newest word, which may be none of the light ones, reads none that waits before it
abbrev IsApart : List Delayed → (n m : Name) → (t u : Term) → Type 0
IsApart ds n m t u = waiting ds n ≡ Some t → is_light t ≡ false → waiting ds m ≡ Some u → same_name m n ≡ false → IsUnread m t

heavy_apart : (ds : List Delayed) (n m : Name) (t u : Term) → AreWaiting ds → IsApart ds n m t u
heavy_apart [] n m t u h e heavy f apart = absurd (cc e)
heavy_apart (d ∷ ds) n m t u h e heavy f apart = by (same_name d.name n) (same_name d.name m) refl refl (heavy_apart ds n m t u h.4)
  where
    -- the last one
    alone : same_name d.name n ≡ true → same_name d.name m ≡ false → ds ≡ [] → IsUnread m t
    alone g k none = let nothing : None ≡ Some u = ap (λ es. waiting es m) (sym none) ∙ sym (waits_further d ds m k) ∙ f in absurd (cc nothing)

    by : (a b : Bool) → same_name d.name n ≡ a → same_name d.name m ≡ b → IsApart ds n m t u → IsUnread m t
    by true true g k more =
        let same : same_name m n ≡ true = subst (λ x. same_name x n ≡ true) (same_is d.name m k) g in
        absurd (cc (same, apart))
    by true false g k more =
        let word : Some d.word ≡ Some t = sym (waits_here d ds n g) ∙ e in
        let same : d.word ≡ t = cc word in
        alone g k (h.2 (ap is_light same ∙ heavy))
    by false true g k more = subst (λ x. IsUnread x t) (same_is d.name m k) (h.3 n t (sym (waits_further d ds n g) ∙ e))
    by false false g k more = more (sym (waits_further d ds n g) ∙ e) heavy (sym (waits_further d ds m k) ∙ f) apart

words_apart : (ds : List Delayed) (n : Name) (t : Term) → AreWaiting ds → waiting ds n ≡ Some t
    → (m : Name) (u : Term) → waiting ds m ≡ Some u → same_name m n ≡ false → IsUnread m t
words_apart ds n t h e m u f apart = by (is_light t) refl
  where
    by : (b : Bool) → is_light t ≡ b → IsUnread m t
    by true light = light_unread m t (operand_waits ds m u h f) light
    by false heavy = heavy_apart ds n m t u h e heavy f apart

-- ---- where some are written, by their variables

module _ (asked : Name → Bool) (ds : List Delayed) (words : Words) (heap : List ℕ) (h : AreWaiting ds) where
  abbrev by_name : Delayed → Bool
  by_name d = asked d.name

  abbrev some : List Delayed
  some = those by_name ds

  still_wait : AreWaiting some
  still_wait = those_wait by_name ds h

  seen_written : (m : Name) → asked m ≡ true → seen some words heap m ≡ seen ds words heap m
  seen_written m e = seen_as some words heap m (waiting ds m) (those_by_name by_name ds m h ∙ by (waiting ds m)) ∙ sym (seen_at_hand ds words heap m)
    where
      by : (o : Option Term) → kept by_name m o ≡ o
      by None = refl
      by (Some t) = rw e refl

  -- what is written is asked for
  waits_there : (m : Name) (u : Term) → waiting some m ≡ Some u → (waiting ds m ≡ Some u) × (asked m ≡ true)
  waits_there m u e = by (waiting ds m) refl (sym (those_by_name by_name ds m h) ∙ e)
    where
      cases : (v : Term) (b : Bool) → waiting ds m ≡ Some v → asked m ≡ b → (if b then Some v else None) ≡ Some u → (waiting ds m ≡ Some u) × (asked m ≡ true)
      cases v true g k f = (g ∙ f, k)
      cases v false g k f = absurd (cc f)

      by : (o : Option Term) → waiting ds m ≡ o → kept by_name m o ≡ Some u → (waiting ds m ≡ Some u) × (asked m ≡ true)
      by None g f = absurd (cc f)
      by (Some v) g f = cases v (asked m) g refl f

  other_name : (n m : Name) → asked n ≡ false → asked m ≡ true → same_name m n ≡ false
  other_name n m e f = by (same_name m n) refl
    where
      by : (b : Bool) → same_name m n ≡ b → same_name m n ≡ false
      by true g = let same = ap asked (same_is m n g) in absurd (cc (e, f, same))
      by false g = g

  seen_where_asked : (n : Name) → asked n ≡ false → value (at_hand ds n) (seen some words heap) heap ≡ seen ds words heap n
  seen_where_asked n apart = by (waiting ds n) refl
    where
      by : (o : Option Term) → waiting ds n ≡ o → value (word_or o n) (seen some words heap) heap ≡ seen ds words heap n
      by None e = seen_as some words heap n None (none_left by_name ds n h e) ∙ sym (seen_as ds words heap n None e)
      by (Some t) e =
          unread_seen some t words heap still_wait (λ m u f. let k = waits_there m u f in words_apart ds n t h e m u k.0 (other_name n m apart k.1))
          ∙ sym (seen_as ds words heap n (Some t) e)

pub some_are_seen : SomeAreSeen
some_are_seen asked ds words heap h = (still_wait asked ds words heap h, seen_written asked ds words heap h, seen_where_asked asked ds words heap h)

-- ---- without what one is to have

pub still_beside : (n : Name) (ds : List Delayed) → AreWaiting ds → AreWaiting (without n ds)
still_beside n ds h = those_wait (λ d. not (same_name d.name n)) ds h

pub elsewhere : (n : Name) (ds : List Delayed) (words : Words) (heap : List ℕ) → AreWaiting ds → (m : Name) → same_name n m ≡ false → seen (without n ds) words heap m ≡ seen ds words heap m
elsewhere n ds words heap h m e = seen_written (λ m. not (same_name m n)) ds words heap h m (let k = same_back n m e in rw k refl)

pub seen_beside : (n : Name) (ds : List Delayed) (words : Words) (heap : List ℕ) → AreWaiting ds → value (at_hand ds n) (seen (without n ds) words heap) heap ≡ seen ds words heap n
seen_beside n ds words heap h = seen_where_asked (λ m. not (same_name m n)) ds words heap h n (let k = same_itself n in rw k refl)
