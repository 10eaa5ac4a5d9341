-- Words that wait, by their names: which of them are left where some are asked for, and that these wait as before.
use Rattle.std.proofs.Common.{◌≡◌, Bool, true, false, not, ◌||◌, List, [], ◌∷◌, ◌++◌, Option, Some, None, refl, sym, ap, ◌∙◌, subst}
use Rattle.std.specs.Prelude.{if◌then◌else◌}
use Rattle.wasm2js_translation.specs.Names.{Name, same_name}
use Rattle.wasm2js_translation.specs.Words.{Term}
use Rattle.wasm2js_translation.specs.Delays.{Delayed, is_operand, is_light, waiting, those, others, without, differ, light, held}
use Rattle.wasm2js_laws_places.specs.Delaying.{IsUnread, AreWaiting}
use Rattle.wasm2js_laws_places.proofs.SameNames.{same_is, same_itself, same_back}

-- ---- one of them

pub waits_here : (d : Delayed) (ds : List Delayed) (n : Name) → same_name d.name n ≡ true → waiting (d ∷ ds) n ≡ Some d.word
waits_here d ds n e = rw e refl

pub waits_further : (d : Delayed) (ds : List Delayed) (n : Name) → same_name d.name n ≡ false → waiting (d ∷ ds) n ≡ waiting ds n
waits_further d ds n e = rw e refl

-- what waits under no name of a list
pub none_waits : (d : Delayed) (ds : List Delayed) (n : Name) → waiting (d ∷ ds) n ≡ None → (same_name d.name n ≡ false) × (waiting ds n ≡ None)
none_waits d ds n h = by (same_name d.name n) refl
  where
    by : (b : Bool) → same_name d.name n ≡ b → (same_name d.name n ≡ false) × (waiting ds n ≡ None)
    by true e = let k = waits_here d ds n e in absurd (cc (k, h))
    by false e = (e, sym (waits_further d ds n e) ∙ h)

pub operand_waits : (ds : List Delayed) (n : Name) (t : Term) → AreWaiting ds → waiting ds n ≡ Some t → is_operand n ≡ true
operand_waits [] n t h e = absurd (cc e)
operand_waits (d ∷ ds) n t h e = by (same_name d.name n) refl (operand_waits ds n t h.4)
  where
    by : (b : Bool) → same_name d.name n ≡ b → (waiting ds n ≡ Some t → is_operand n ≡ true) → is_operand n ≡ true
    by true f again = subst (λ x. is_operand x ≡ true) (same_is d.name n f) h.0
    by false f again = again (sym (waits_further d ds n f) ∙ e)

pub no_operand_waits : (ds : List Delayed) (n : Name) → AreWaiting ds → is_operand n ≡ false → waiting ds n ≡ None
no_operand_waits ds n h apart = by (waiting ds n) refl
  where
    by : (o : Option Term) → waiting ds n ≡ o → waiting ds n ≡ None
    by None e = e
    by (Some t) e = let k = operand_waits ds n t h e in absurd (cc (k, apart))

-- ---- those that are asked for

abbrev pub kept : (Delayed → Bool) → Name → Option Term → Option Term
kept asked n None = None
kept asked n (Some t) = if asked (record { name = n; word = t }) then Some t else None

pub those_by_name : (asked : Delayed → Bool) (ds : List Delayed) (n : Name) → AreWaiting ds → waiting (those asked ds) n ≡ kept asked n (waiting ds n)
those_by_name asked [] n h = refl
those_by_name asked (d ∷ ds) n h = by (same_name d.name n) (asked d) refl refl (those_by_name asked ds n h.4)
  where
    at_name : same_name d.name n ≡ true → asked (record { name = n; word = d.word }) ≡ asked d
    at_name e = ap (λ x. asked (record { name = x; word = d.word })) (sym (same_is d.name n e))

    none_else : same_name d.name n ≡ true → waiting ds n ≡ None
    none_else e = subst (λ x. waiting ds x ≡ None) (same_is d.name n e) h.1

    by : (s a : Bool) → same_name d.name n ≡ s → asked d ≡ a → waiting (those asked ds) n ≡ kept asked n (waiting ds n)
        → waiting (those asked (d ∷ ds)) n ≡ kept asked n (waiting (d ∷ ds) n)
    by true true e f again = let g = at_name e ∙ f in rw (f, e, g) refl
    by true false e f again = let g = at_name e ∙ f in rw (f, e, g) (again ∙ ap (kept asked n) (none_else e))
    by false true e f again = rw (f, e) again
    by false false e f again = rw (f, e) again

pub none_left : (asked : Delayed → Bool) (ds : List Delayed) (n : Name) → AreWaiting ds → waiting ds n ≡ None → waiting (those asked ds) n ≡ None
none_left asked ds n h e = those_by_name asked ds n h ∙ ap (kept asked n) e

pub still_waits : (asked : Delayed → Bool) (ds : List Delayed) (n : Name) (t : Term) → AreWaiting ds → waiting (those asked ds) n ≡ Some t → waiting ds n ≡ Some t
still_waits asked ds n t h e = by (waiting ds n) (sym (those_by_name asked ds n h) ∙ e)
  where
    by : (o : Option Term) → kept asked n o ≡ Some t → o ≡ Some t
    by None f = f
    by (Some u) f = cases (asked (record { name = n; word = u })) f
      where
        cases : (a : Bool) → (if a then Some u else None) ≡ Some t → Some u ≡ Some t
        cases true g = g
        cases false g = absurd (cc g)

pub those_wait : (asked : Delayed → Bool) (ds : List Delayed) → AreWaiting ds → AreWaiting (those asked ds)
those_wait asked [] h = tt
those_wait asked (d ∷ ds) h = by (asked d) refl (those_wait asked ds h.4)
  where
    by : (a : Bool) → asked d ≡ a → AreWaiting (those asked ds) → AreWaiting (those asked (d ∷ ds))
    by true e again = rw e (h.0, none_left asked ds d.name h.4 h.1, (λ f. ap (those asked) (h.2 f)), (λ n t f. h.3 n t (still_waits asked ds n t h.4 f)), again)
    by false e again = rw e again

pub none_without : (n : Name) (ds : List Delayed) → AreWaiting ds → waiting (without n ds) n ≡ None
none_without n ds h = those_by_name (λ d. not (same_name d.name n)) ds n h ∙ by (waiting ds n)
  where
    by : (o : Option Term) → kept (λ d. not (same_name d.name n)) n o ≡ None
    by None = refl
    by (Some t) = let e = same_itself n in rw e refl

-- ---- none of them is asked for

abbrev pub NoneIs : (Delayed → Bool) → List Delayed → Type 0
NoneIs asked [] = Unit {0}
NoneIs asked (d ∷ ds) = (asked d ≡ false) × NoneIs asked ds

pub none_is : (asked : Delayed → Bool) (ds : List Delayed) (n : Name) (t : Term) → NoneIs asked ds → waiting ds n ≡ Some t → asked (record { name = n; word = t }) ≡ false
none_is asked [] n t h e = absurd (cc e)
none_is asked (d ∷ ds) n t h e = by (same_name d.name n) refl (none_is asked ds n t h.1)
  where
    by : (b : Bool) → same_name d.name n ≡ b → (waiting ds n ≡ Some t → asked (record { name = n; word = t }) ≡ false) → asked (record { name = n; word = t }) ≡ false
    by true f again =
        let word : Some d.word ≡ Some t = sym (waits_here d ds n f) ∙ e in
        let same : d.word ≡ t = cc word in
        ap (λ x. asked (record { name = x; word = t })) (sym (same_is d.name n f)) ∙ ap (λ x. asked (record { name = d.name; word = x })) (sym same) ∙ h.0
    by false f again = again (sym (waits_further d ds n f) ∙ e)

pub none_of_others : (asked : Delayed → Bool) (ds : List Delayed) → NoneIs asked (others asked ds)
none_of_others asked [] = tt
none_of_others asked (d ∷ ds) = by (asked d) refl (none_of_others asked ds)
  where
    by : (a : Bool) → asked d ≡ a → NoneIs asked (others asked ds) → NoneIs asked (others asked (d ∷ ds))
    by true e again = rw e again
    by false e again = rw e (e, again)

pub none_of_less : (asked fewer : Delayed → Bool) (ds : List Delayed) → ((d : Delayed) → asked d ≡ false → fewer d ≡ false) → NoneIs asked ds → NoneIs fewer ds
none_of_less asked fewer [] less h = tt
none_of_less asked fewer (d ∷ ds) less h = (less d h.0, none_of_less asked fewer ds less h.1)

pub none_of_those : (asked other : Delayed → Bool) (ds : List Delayed) → NoneIs asked ds → NoneIs asked (those other ds)
none_of_those asked other [] h = tt
none_of_those asked other (d ∷ ds) h = by (other d) refl (none_of_those asked other ds h.1)
  where
    by : (a : Bool) → other d ≡ a → NoneIs asked (those other ds) → NoneIs asked (those other (d ∷ ds))
    by true e again = rw e (h.0, again)
    by false e again = rw e again

-- ---- where only light words wait

abbrev pub AllLight : List Delayed → Type 0
AllLight ds = NoneIs (λ d. not (is_light d.word)) ds

abbrev pub AreWaitingLight : List Delayed → Type 0
AreWaitingLight ds = AreWaiting ds × AllLight ds

-- a word that waits there, and its variable
pub record Waits (n : Name) (t : Term) : Type 0 where
  pub operand : is_operand n ≡ true
  pub light : is_light t ≡ true

not_heavy : (b : Bool) → not b ≡ false → b ≡ true
not_heavy true h = refl
not_heavy false h = absurd (cc h)

pub waits_as : (ds : List Delayed) (n : Name) (t : Term) → AreWaitingLight ds → waiting ds n ≡ Some t → Waits n t
waits_as ds n t h e = record { operand = operand_waits ds n t h.0 e; light = not_heavy (is_light t) (none_is (λ d. not (is_light d.word)) ds n t h.1 e) }

pub those_light : (asked : Delayed → Bool) (ds : List Delayed) → AreWaitingLight ds → AreWaitingLight (those asked ds)
those_light asked ds h = (those_wait asked ds h.0, none_of_those (λ d. not (is_light d.word)) asked ds h.1)

-- ---- others of others

pub all_others : (ds : List Delayed) → others (λ d. false) ds ≡ ds
all_others [] = refl
all_others (d ∷ ds) = ap (λ x. d ∷ x) (all_others ds)

pub others_of_others : (asked other : Delayed → Bool) (ds : List Delayed) → others (λ d. asked d || other d) ds ≡ others other (others asked ds)
others_of_others asked other [] = refl
others_of_others asked other (d ∷ ds) = by (asked d) (other d) refl refl (others_of_others asked other ds)
  where
    by : (a b : Bool) → asked d ≡ a → other d ≡ b → others (λ d. asked d || other d) ds ≡ others other (others asked ds)
        → others (λ d. asked d || other d) (d ∷ ds) ≡ others other (others asked (d ∷ ds))
    by true b e f again = rw e again
    by false true e f again = rw (e, f) again
    by false false e f again = rw (e, f) (ap (λ x. d ∷ x) again)

-- two questions that have the same answers
pub same_others : (asked other : Delayed → Bool) (ds : List Delayed) → NoneIs (λ d. differ (asked d) (other d)) ds → others asked ds ≡ others other ds
same_others asked other [] h = refl
same_others asked other (d ∷ ds) h = by (asked d) (other d) refl refl (same_others asked other ds h.1)
  where
    by : (a b : Bool) → asked d ≡ a → other d ≡ b → others asked ds ≡ others other ds → others asked (d ∷ ds) ≡ others other (d ∷ ds)
    by true true e f again = rw (e, f) again
    by true false e f again = absurd (cc (e, f, h.0))
    by false true e f again = absurd (cc (e, f, h.0))
    by false false e f again = rw (e, f) (ap (λ x. d ∷ x) again)

-- ---- one more

abbrev pub or_else : Option Term → Option Term → Option Term
or_else None o = o
or_else (Some t) o = Some t

pub joined_by_name : (ds es : List Delayed) (n : Name) → waiting (ds ++ es) n ≡ or_else (waiting ds n) (waiting es n)
joined_by_name [] es n = refl
joined_by_name (d ∷ ds) es n = by (same_name d.name n) refl (joined_by_name ds es n)
  where
    by : (b : Bool) → same_name d.name n ≡ b → waiting (ds ++ es) n ≡ or_else (waiting ds n) (waiting es n)
        → waiting ((d ∷ ds) ++ es) n ≡ or_else (waiting (d ∷ ds) n) (waiting es n)
    by true e again = rw e refl
    by false e again = rw e again

pub one_more_waits : (ds : List Delayed) (e : Delayed) → AreWaitingLight ds → is_operand e.name ≡ true → waiting ds e.name ≡ None
    → ((n : Name) (t : Term) → waiting ds n ≡ Some t → IsUnread n e.word) → AreWaiting (ds ++ e ∷ [])
one_more_waits [] e h operand none apart = (operand, refl, (λ f. refl), (λ n t f. absurd (cc f)), tt)
one_more_waits (d ∷ ds) e h operand none apart =
    let parts = none_waits d ds e.name none in
    let last : waiting (e ∷ []) d.name ≡ None = waits_further e [] d.name (same_back d.name e.name parts.0) in
    let new : waiting (ds ++ e ∷ []) d.name ≡ None = joined_by_name ds (e ∷ []) d.name ∙ ap (λ x. or_else x (waiting (e ∷ []) d.name)) h.0.1 ∙ last in
    (h.0.0, new, heavy, further, one_more_waits ds e (h.0.4, h.1.1) operand parts.1 (λ n t f. still n t f (same_name d.name n) refl))
  where
    heavy : is_light d.word ≡ false → ds ++ e ∷ [] ≡ []
    heavy f = let k = not_heavy (is_light d.word) h.1.0 in absurd (cc (k, f))

    still : (n : Name) (t : Term) → waiting ds n ≡ Some t → (b : Bool) → same_name d.name n ≡ b → IsUnread n e.word
    still n t f true g = apart n d.word (waits_here d ds n g)
    still n t f false g = apart n t (waits_further d ds n g ∙ f)

    at_last : (n : Name) (t : Term) → (b : Bool) → same_name e.name n ≡ b → waiting (e ∷ []) n ≡ Some t → IsUnread d.name t
    at_last n t true g f =
        let word : Some e.word ≡ Some t = sym (waits_here e [] n g) ∙ f in
        let same : e.word ≡ t = cc word in
        subst (λ x. IsUnread d.name x) same (apart d.name d.word (waits_here d ds d.name (same_itself d.name)))
    at_last n t false g f = let none : None ≡ Some t = sym (waits_further e [] n g) ∙ f in absurd (cc none)

    further : (n : Name) (t : Term) → waiting (ds ++ e ∷ []) n ≡ Some t → IsUnread d.name t
    further n t f = by (waiting ds n) refl (sym (joined_by_name ds (e ∷ []) n) ∙ f)
      where
        by : (o : Option Term) → waiting ds n ≡ o → or_else o (waiting (e ∷ []) n) ≡ Some t → IsUnread d.name t
        by None g k = at_last n t (same_name e.name n) refl k
        by (Some u) g k = h.0.3 n t (g ∙ k)

-- ---- the light ones, and the one that is held

pub all_light : (ds : List Delayed) → AllLight (light ds)
all_light [] = tt
all_light (d ∷ ds) = by (is_light d.word) refl (all_light ds)
  where
    by : (b : Bool) → is_light d.word ≡ b → AllLight (light ds) → AllLight (light (d ∷ ds))
    by true e again = rw e (ap not e, again)
    by false e again = rw e again

pub light_wait : (ds : List Delayed) → AreWaiting ds → AreWaitingLight (light ds)
light_wait ds h = (those_wait (λ d. is_light d.word) ds h, all_light ds)

pub held_waits : (ds : List Delayed) → AreWaiting ds → AreWaiting (held ds)
held_waits ds h = those_wait (λ d. not (is_light d.word)) ds h

-- it is the last, behind light ones
pub record IsHeld (ds : List Delayed) (ls : List Delayed) (d : Delayed) : Type 0 where
  pub whole : ds ≡ ls ++ d ∷ []
  pub operand : is_operand d.name ≡ true
  pub new : waiting ls d.name ≡ None
  pub apart : (n : Name) (t : Term) → waiting ls n ≡ Some t → IsUnread n d.word

module _ (d : Delayed) where
  waits_last : (ds ls : List Delayed) → IsHeld ds ls d → waiting ds d.name ≡ Some d.word
  waits_last ds ls k =
      ap (λ x. waiting x d.name) k.whole ∙ joined_by_name ls (d ∷ []) d.name ∙ ap (λ x. or_else x (waiting (d ∷ []) d.name)) k.new ∙ waits_here d [] d.name (same_itself d.name)

  held_further : (e : Delayed) (ds : List Delayed) → AreWaiting (e ∷ ds) → (ls : List Delayed) → IsHeld ds ls d → IsHeld (e ∷ ds) (e ∷ ls) d
  held_further e ds h ls k =
      record { whole = ap (λ x. e ∷ x) k.whole; operand = k.operand; new = new (same_name e.name d.name) refl; apart = λ n t f. apart n t f (same_name e.name n) refl }
    where
      new : (b : Bool) → same_name e.name d.name ≡ b → waiting (e ∷ ls) d.name ≡ None
      new true g =
          let none : waiting ds d.name ≡ None = subst (λ x. waiting ds x ≡ None) (same_is e.name d.name g) h.1 in
          let some = waits_last ds ls k in
          absurd (cc (none, some))
      new false g = waits_further e ls d.name g ∙ k.new

      apart : (n : Name) (t : Term) → waiting (e ∷ ls) n ≡ Some t → (b : Bool) → same_name e.name n ≡ b → IsUnread n d.word
      apart n t f true g = subst (λ x. IsUnread x d.word) (same_is e.name n g) (h.3 d.name d.word (waits_last ds ls k))
      apart n t f false g = k.apart n t (sym (waits_further e ls n g) ∙ f)

  held_alone : (e : Delayed) → is_operand e.name ≡ true → e ∷ [] ≡ d ∷ [] → IsHeld (e ∷ []) [] d
  held_alone e h f =
      let same : e ≡ d = cc f in
      record { whole = f; operand = subst (λ x. is_operand x.name ≡ true) same h; new = refl; apart = λ n t g. absurd (cc g) }

  pub held_last : (ds : List Delayed) → AreWaiting ds → held ds ≡ d ∷ [] → IsHeld ds (light ds) d
  held_last [] h f = absurd (cc f)
  held_last (e ∷ ds) h f = by (is_light e.word) refl f (held_last ds h.4)
    where
      by : (b : Bool) → is_light e.word ≡ b → held (e ∷ ds) ≡ d ∷ [] → (held ds ≡ d ∷ [] → IsHeld ds (light ds) d) → IsHeld (e ∷ ds) (light (e ∷ ds)) d
      by true g k again = rw g (held_further e ds h (light ds) (again (rw g at k)))
      by false g k again = let none = h.2 g in rw (g, none) (held_alone e h.0 (rw (g, none) at k))
