-- The words of terms and variables while words wait, and after some of these are written or some variables change.
use Rattle.std.proofs.Common.{◌≡◌, ℕ, Bool, true, false, not, List, [], ◌∷◌, ◌++◌, Option, Some, None, refl, sym, ap, ◌∙◌, subst}
use Rattle.std.proofs.Math.Path.{fun_ext}
use Rattle.wasm2js_translation.specs.Names.{Name, same_name}
use Rattle.wasm2js_translation.specs.Words.{Term, read, number, both, flip, sum, product, zeros, compare, choose, byte, whole, Summands, no_more, further}
use Rattle.wasm2js_translation.specs.Delays.{Delayed, is_operand, is_light, waiting, those, others, word_or, at_hand, replaced, replaced_summands, all_replaced, reads_one, without, light, held}
use Rattle.wasm2js_laws_places.specs.Straight.{Words, with_word, value, summed, values, added}
use Rattle.wasm2js_laws_places.specs.Delaying.{seen, IsUnread, AreWaiting}
use Rattle.wasm2js_laws_places.proofs.SameNames.{same_is, same_itself, same_back}
use Rattle.wasm2js_laws_places.proofs.DelayedLists.{waits_here, waits_further, operand_waits, no_operand_waits, kept, those_by_name, those_wait, NoneIs, none_is, AreWaitingLight, Waits, waits_as, or_else, joined_by_name, held_waits}

-- ---- what a variable's word counts as

pub seen_at_hand : (ds : List Delayed) (words : Words) (heap : List ℕ) (n : Name) → seen ds words heap n ≡ value (at_hand ds n) words heap
seen_at_hand [] words heap n = refl
seen_at_hand (d ∷ ds) words heap n = by (same_name d.name n) refl (seen_at_hand ds words heap n)
  where
    by : (b : Bool) → same_name d.name n ≡ b → seen ds words heap n ≡ value (at_hand ds n) words heap → seen (d ∷ ds) words heap n ≡ value (at_hand (d ∷ ds) n) words heap
    by true e again = rw e refl
    by false e again = rw e again

module _ (ds : List Delayed) (words : Words) (heap : List ℕ) (n : Name) where
  pub seen_as : (o : Option Term) → waiting ds n ≡ o → seen ds words heap n ≡ value (word_or o n) words heap
  seen_as o e = seen_at_hand ds words heap n ∙ ap (λ x. value (word_or x n) words heap) e

-- no other variable's
pub seen_other : (ds : List Delayed) (words : Words) (heap : List ℕ) (n : Name) → AreWaiting ds → is_operand n ≡ false → seen ds words heap n ≡ words n
seen_other ds words heap n h apart = seen_as ds words heap n None (no_operand_waits ds n h apart)

-- ---- terms

module _ (ds : List Delayed) (words : Words) (heap : List ℕ) where
  mutual
    pub replaced_value : (t : Term) → value (replaced ds t) words heap ≡ value t (seen ds words heap) heap
    replaced_value (read n) = sym (seen_at_hand ds words heap n)
    replaced_value (number z) = refl
    replaced_value (both op a b) = let h = replaced_value a in let k = replaced_value b in rw (h, k) refl
    replaced_value (flip a) = let h = replaced_value a in rw h refl
    replaced_value (sum a ts) = replaced_summed ts (value (replaced ds a) words heap) ∙ ap (λ x. summed ts x (seen ds words heap) heap) (replaced_value a)
    replaced_value (product a b) = let h = replaced_value a in let k = replaced_value b in rw (h, k) refl
    replaced_value (zeros a) = let h = replaced_value a in rw h refl
    replaced_value (compare signed r a b) = let h = replaced_value a in let k = replaced_value b in rw (h, k) refl
    replaced_value (choose t a b) = let g = replaced_value t in let h = replaced_value a in let k = replaced_value b in rw (g, h, k) refl
    replaced_value (byte signed at) = let h = replaced_value at in rw h refl
    replaced_value (whole at) = let h = replaced_value at in rw h refl

    replaced_summed : (ts : Summands) (x : ℕ) → summed (replaced_summands ds ts) x words heap ≡ summed ts x (seen ds words heap) heap
    replaced_summed no_more x = refl
    replaced_summed (further minus t ts) x =
        replaced_summed ts (added minus x (value (replaced ds t) words heap)) ∙ ap (λ y. summed ts (added minus x y) (seen ds words heap) heap) (replaced_value t)

  pub replaced_values : (ts : List Term) → values (all_replaced ds ts) words heap ≡ values ts (seen ds words heap) heap
  replaced_values [] = refl
  replaced_values (t ∷ ts) = let h = replaced_value t in let k = replaced_values ts in cc (h, k)

-- ---- a light word

-- it is the same where the variable that it may read has the same word
pub light_same : (t : Term) (words words' : Words) (heap heap' : List ℕ) → is_light t ≡ true → ((r : Name) → t ≡ read r → is_operand r ≡ false → words' r ≡ words r)
    → value t words' heap' ≡ value t words heap
light_same (read n) words words' heap heap' light same = same n refl (by (is_operand n) light)
  where
    by : (b : Bool) → not b ≡ true → b ≡ false
    by true h = absurd (cc h)
    by false h = refl
light_same (number z) words words' heap heap' light same = refl
light_same (both op a b) words words' heap heap' light same = absurd (cc light)
light_same (flip a) words words' heap heap' light same = absurd (cc light)
light_same (sum a ts) words words' heap heap' light same = absurd (cc light)
light_same (product a b) words words' heap heap' light same = absurd (cc light)
light_same (zeros a) words words' heap heap' light same = absurd (cc light)
light_same (compare signed r a b) words words' heap heap' light same = absurd (cc light)
light_same (choose t a b) words words' heap heap' light same = absurd (cc light)
light_same (byte signed at) words words' heap heap' light same = absurd (cc light)
light_same (whole at) words words' heap heap' light same = absurd (cc light)

-- ---- a word that is written

pub written_first : (d : Delayed) (ds : List Delayed) (words : Words) (heap : List ℕ) → AreWaiting (d ∷ ds)
    → seen ds (with_word d.name (value d.word words heap) words) heap ≡ seen (d ∷ ds) words heap
written_first d ds words heap h = fun_ext (λ m. by m (same_name d.name m) (waiting ds m) refl refl)
  where
    now : Words
    now = with_word d.name (value d.word words heap) words

    elsewhere : (m : Name) → same_name d.name m ≡ false → now m ≡ words m
    elsewhere m e = rw e refl

    by : (m : Name) (b : Bool) (o : Option Term) → same_name d.name m ≡ b → waiting ds m ≡ o → seen ds now heap m ≡ seen (d ∷ ds) words heap m
    by m true o e f =
        let none : waiting ds m ≡ None = subst (λ x. waiting ds x ≡ None) (same_is d.name m e) h.1 in
        seen_as ds now heap m None none ∙ rw e refl
    by m false None e f = seen_as ds now heap m None f ∙ elsewhere m e ∙ sym (seen_as ds words heap m None f) ∙ rw e refl
    by m false (Some t) e f = seen_as ds now heap m (Some t) f ∙ h.3 m t f (value d.word words heap) words heap ∙ sym (seen_as ds words heap m (Some t) f) ∙ rw e refl

-- a term that reads none of the variables that are written
pub unread_seen : (ds : List Delayed) (t : Term) (words : Words) (heap : List ℕ) → AreWaiting ds → ((n : Name) (u : Term) → waiting ds n ≡ Some u → IsUnread n t)
    → value t (seen ds words heap) heap ≡ value t words heap
unread_seen [] t words heap h unread = refl
unread_seen (d ∷ ds) t words heap h unread =
    ap (λ w. value t w heap) (sym (written_first d ds words heap h))
    ∙ unread_seen ds t (with_word d.name (value d.word words heap) words) heap h.4 (λ n u e. further n u e (same_name d.name n) refl)
    ∙ unread d.name d.word (waits_here d ds d.name (same_itself d.name)) (value d.word words heap) words heap
  where
    further : (n : Name) (u : Term) → waiting ds n ≡ Some u → (b : Bool) → same_name d.name n ≡ b → IsUnread n t
    further n u e true f = unread n d.word (waits_here d ds n f)
    further n u e false f = unread n u (waits_further d ds n f ∙ e)

-- where some are written, and those that aren't still wait
module _ (fs es ds : List Delayed) (written_too still : Delayed → Bool) (words : Words) (heap : List ℕ) (wait : AreWaiting fs)
    (first : (m : Name) → waiting fs m ≡ kept written_too m (waiting ds m)) (later : (m : Name) → waiting es m ≡ kept still m (waiting ds m))
    (either : (d : Delayed) → still d ≡ false → written_too d ≡ true) (light : (m : Name) (t : Term) → waiting ds m ≡ Some t → is_light t ≡ true) where
  abbrev some_written : Words
  some_written = seen fs words heap

  pub seen_again : seen es some_written heap ≡ seen ds words heap
  seen_again = fun_ext (λ m. by m (waiting ds m) refl)
    where
      by : (m : Name) (o : Option Term) → waiting ds m ≡ o → seen es some_written heap m ≡ seen ds words heap m
      by m None e =
          seen_as es some_written heap m None (later m ∙ ap (kept still m) e) ∙ seen_as fs words heap m None (first m ∙ ap (kept written_too m) e) ∙ sym (seen_as ds words heap m None e)
      by m (Some t) e = cases (still (record { name = m; word = t })) refl ∙ sym (seen_as ds words heap m (Some t) e)
        where
          cases : (b : Bool) → still (record { name = m; word = t }) ≡ b → seen es some_written heap m ≡ value t words heap
          cases true f =
              let there : waiting es m ≡ Some t = later m ∙ ap (kept still m) e ∙ rw f refl in
              seen_as es some_written heap m (Some t) there ∙ light_same t words some_written heap heap (light m t e) (λ r s g. seen_other fs words heap r wait g)
          cases false f =
              let g = either (record { name = m; word = t }) f in
              let gone : waiting es m ≡ None = later m ∙ ap (kept still m) e ∙ rw f refl in
              let there : waiting fs m ≡ Some t = first m ∙ ap (kept written_too m) e ∙ rw g refl in
              seen_as es some_written heap m None gone ∙ seen_as fs words heap m (Some t) there

kept_all : (n : Name) (o : Option Term) → o ≡ kept (λ d. true) n o
kept_all n None = refl
kept_all n (Some t) = refl

not_false : (b : Bool) → not b ≡ false → b ≡ true
not_false true h = refl
not_false false h = absurd (cc h)

module _ (asked : Delayed → Bool) (ds : List Delayed) (words : Words) (heap : List ℕ) (h : AreWaitingLight ds) where
  -- all still count as before after some are written
  pub all_seen_again : seen ds (seen (those asked ds) words heap) heap ≡ seen ds words heap
  all_seen_again =
      seen_again (those asked ds) ds ds asked (λ d. true) words heap (those_wait asked ds h.0) (λ m. those_by_name asked ds m h.0) (λ m. kept_all m (waiting ds m)) (λ d e. absurd (cc e))
      (λ m t e. (waits_as ds m t h e).light)

  -- and so do the others alone
  pub others_seen_again : seen (others asked ds) (seen (those asked ds) words heap) heap ≡ seen ds words heap
  others_seen_again =
      seen_again (those asked ds) (others asked ds) ds asked (λ d. not (asked d)) words heap (those_wait asked ds h.0) (λ m. those_by_name asked ds m h.0)
      (λ m. those_by_name (λ d. not (asked d)) ds m h.0) (λ d e. not_false (asked d) e) (λ m t e. (waits_as ds m t h e).light)

-- ---- variables that change

-- how words change: where none of these is named, nothing; where one of those is, to what doesn't depend on what was there; and what an operand
-- counts as changes only there
pub record Changing (changed over : Name → Bool) (next : Words → Words) : Type 0 where
  pub elsewhere : (words : Words) (n : Name) → changed n ≡ false → next words n ≡ words n
  pub there : (words words' : Words) (n : Name) → over n ≡ true → next words n ≡ next words' n
  pub alike : (words words' : Words) (n : Name) → words n ≡ words' n → next words n ≡ next words' n
  pub operand : (words : Words) (n : Name) → is_operand n ≡ true → over n ≡ false → next words n ≡ words n

module _ (changed over : Name → Bool) (next : Words → Words) (how : Changing changed over next) (ds : List Delayed) (words : Words) (heap heap' : List ℕ)
    (h : AreWaitingLight ds) (none : NoneIs (λ d. reads_one changed d.word) ds) where
  pub seen_next : seen (others (λ d. over d.name) ds) (next words) heap' ≡ next (seen ds words heap)
  seen_next = fun_ext (λ m. by m (waiting ds m) refl)
    where
      es : List Delayed
      es = others (λ d. over d.name) ds

      later : (m : Name) → waiting es m ≡ kept (λ d. not (over d.name)) m (waiting ds m)
      later m = those_by_name (λ d. not (over d.name)) ds m h.0

      by : (m : Name) (o : Option Term) → waiting ds m ≡ o → seen es (next words) heap' m ≡ next (seen ds words heap) m
      by m None e =
          seen_as es (next words) heap' m None (later m ∙ ap (kept (λ d. not (over d.name)) m) e) ∙ how.alike words (seen ds words heap) m (sym (seen_as ds words heap m None e))
      by m (Some t) e = cases (over m) refl
        where
          kind : Waits m t
          kind = waits_as ds m t h e

          unread : (r : Name) → t ≡ read r → is_operand r ≡ false → next words r ≡ words r
          unread r s g = how.elsewhere words r (ap (reads_one changed) (sym s) ∙ none_is (λ d. reads_one changed d.word) ds m t none e)

          cases : (b : Bool) → over m ≡ b → seen es (next words) heap' m ≡ next (seen ds words heap) m
          cases true f =
              let gone : waiting es m ≡ None = later m ∙ ap (kept (λ d. not (over d.name)) m) e ∙ rw f refl in
              seen_as es (next words) heap' m None gone ∙ how.there words (seen ds words heap) m f
          cases false f =
              let stays : waiting es m ≡ Some t = later m ∙ ap (kept (λ d. not (over d.name)) m) e ∙ rw f refl in
              seen_as es (next words) heap' m (Some t) stays ∙ light_same t words (next words) heap heap' kind.light unread ∙ sym (seen_as ds words heap m (Some t) e)
              ∙ sym (how.operand (seen ds words heap) m kind.operand f)

-- a word that begins to wait under a name, with what it counts as now
pub seen_put : (n : Name) (t : Term) (ds : List Delayed) (words : Words) (heap : List ℕ) → AreWaiting ds
    → seen (without n ds ++ record { name = n; word = replaced ds t } ∷ []) words heap ≡ with_word n (value t (seen ds words heap) heap) (seen ds words heap)
seen_put n t ds words heap h = fun_ext (λ m. by m (same_name n m) refl)
  where
    new : Delayed
    new = record { name = n; word = replaced ds t }

    es : List Delayed
    es = without n ds ++ new ∷ []

    later : (m : Name) → waiting es m ≡ or_else (kept (λ d. not (same_name d.name n)) m (waiting ds m)) (waiting (new ∷ []) m)
    later m = joined_by_name (without n ds) (new ∷ []) m ∙ ap (λ x. or_else x (waiting (new ∷ []) m)) (those_by_name (λ d. not (same_name d.name n)) ds m h)

    here : (m : Name) (o : Option Term) → same_name m n ≡ true → kept (λ d. not (same_name d.name n)) m o ≡ None
    here m None e = refl
    here m (Some u) e = rw e refl

    there : (m : Name) (o : Option Term) → same_name m n ≡ false → kept (λ d. not (same_name d.name n)) m o ≡ o
    there m None e = refl
    there m (Some u) e = rw e refl

    nothing : (o : Option Term) → or_else o None ≡ o
    nothing None = refl
    nothing (Some u) = refl

    by : (m : Name) (b : Bool) → same_name n m ≡ b → seen es words heap m ≡ with_word n (value t (seen ds words heap) heap) (seen ds words heap) m
    by m true e =
        let back : same_name m n ≡ true = subst (λ x. same_name x n ≡ true) (same_is n m e) (same_itself n) in
        let is : waiting es m ≡ Some (replaced ds t) = later m ∙ ap (λ x. or_else x (waiting (new ∷ []) m)) (here m (waiting ds m) back) ∙ waits_here new [] m e in
        seen_as es words heap m (Some (replaced ds t)) is ∙ replaced_value ds words heap t ∙ rw e refl
    by m false e =
        let back = same_back n m e in
        let is : waiting es m ≡ waiting ds m =
        later m ∙ ap (λ x. or_else x (waiting (new ∷ []) m)) (there m (waiting ds m) back) ∙ ap (or_else (waiting ds m)) (waits_further new [] m e) ∙ nothing (waiting ds m)
        in
        seen_as es words heap m (waiting ds m) is ∙ sym (seen_at_hand ds words heap m) ∙ rw e refl

-- ---- words behind light ones

-- a light word reads no variable of an operand
pub light_unread : (n : Name) (t : Term) → is_operand n ≡ true → is_light t ≡ true → IsUnread n t
light_unread n t h light x words heap = light_same t words (with_word n x words) heap heap light (λ r e apart. elsewhere r apart (same_name n r) refl)
  where
    elsewhere : (r : Name) → is_operand r ≡ false → (b : Bool) → same_name n r ≡ b → with_word n x words r ≡ words r
    elsewhere r apart true e = let k : is_operand r ≡ true = subst (λ m. is_operand m ≡ true) (same_is n r e) h in absurd (cc (k, apart))
    elsewhere r apart false e = rw e refl

-- nor does a term in which such words stand for their variables read one of these
module _ (ds : List Delayed) (h : AreWaitingLight ds) (n : Name) (u : Term) (there : waiting ds n ≡ Some u) where
  seen_whatever : (x : ℕ) (words : Words) (heap : List ℕ) → seen ds (with_word n x words) heap ≡ seen ds words heap
  seen_whatever x words heap = fun_ext (λ m. by m (waiting ds m) refl)
    where
      elsewhere : (m : Name) → waiting ds m ≡ None → (b : Bool) → same_name n m ≡ b → with_word n x words m ≡ words m
      elsewhere m none true e = let k : waiting ds m ≡ Some u = subst (λ r. waiting ds r ≡ Some u) (same_is n m e) there in absurd (cc (k, none))
      elsewhere m none false e = rw e refl

      by : (m : Name) (o : Option Term) → waiting ds m ≡ o → seen ds (with_word n x words) heap m ≡ seen ds words heap m
      by m None e = seen_as ds (with_word n x words) heap m None e ∙ elsewhere m e (same_name n m) refl ∙ sym (seen_as ds words heap m None e)
      by m (Some t) e =
          seen_as ds (with_word n x words) heap m (Some t) e ∙ light_unread n t (operand_waits ds n u h.0 there) (waits_as ds m t h e).light x words heap
          ∙ sym (seen_as ds words heap m (Some t) e)

  pub replaced_unread : (t : Term) → IsUnread n (replaced ds t)
  replaced_unread t x words heap = replaced_value ds (with_word n x words) heap t ∙ ap (λ w. value t w heap) (seen_whatever x words heap) ∙ sym (replaced_value ds words heap t)

-- the last word of a list
pub seen_last : (ds : List Delayed) (d : Delayed) (words : Words) (heap : List ℕ) → waiting ds d.name ≡ None
    → seen (ds ++ d ∷ []) words heap ≡ with_word d.name (value d.word words heap) (seen ds words heap)
seen_last ds d words heap none = fun_ext (λ m. by m (same_name d.name m) refl)
  where
    nothing : (o : Option Term) → or_else o None ≡ o
    nothing None = refl
    nothing (Some u) = refl

    by : (m : Name) (b : Bool) → same_name d.name m ≡ b → seen (ds ++ d ∷ []) words heap m ≡ with_word d.name (value d.word words heap) (seen ds words heap) m
    by m true e =
        let gone : waiting ds m ≡ None = subst (λ x. waiting ds x ≡ None) (same_is d.name m e) none in
        let is : waiting (ds ++ d ∷ []) m ≡ Some d.word = joined_by_name ds (d ∷ []) m ∙ ap (λ x. or_else x (waiting (d ∷ []) m)) gone ∙ waits_here d [] m e in
        seen_as (ds ++ d ∷ []) words heap m (Some d.word) is ∙ rw e refl
    by m false e =
        let is : waiting (ds ++ d ∷ []) m ≡ waiting ds m = joined_by_name ds (d ∷ []) m ∙ ap (or_else (waiting ds m)) (waits_further d [] m e) ∙ nothing (waiting ds m) in
        seen_as (ds ++ d ∷ []) words heap m (waiting ds m) is ∙ sym (seen_at_hand ds words heap m) ∙ rw e refl

-- where the word that is held is written, the light ones count as before
pub held_first : (ds : List Delayed) (words : Words) (heap : List ℕ) → AreWaiting ds → seen (light ds) (seen (held ds) words heap) heap ≡ seen ds words heap
held_first [] words heap h = refl
held_first (d ∷ ds) words heap h = by (is_light d.word) refl (held_first ds words heap h.4)
  where
    unmoved : is_light d.word ≡ true → value d.word (seen (held ds) words heap) heap ≡ value d.word words heap
    unmoved e = light_same d.word words (seen (held ds) words heap) heap heap e (λ r f apart. seen_other (held ds) words heap r (held_waits ds h.4) apart)

    by : (b : Bool) → is_light d.word ≡ b → seen (light ds) (seen (held ds) words heap) heap ≡ seen ds words heap
        → seen (light (d ∷ ds)) (seen (held (d ∷ ds)) words heap) heap ≡ seen (d ∷ ds) words heap
    by true e again =
        rw e
        (ap (λ (x : ℕ). with_word d.name x (seen (light ds) (seen (held ds) words heap) heap)) (unmoved e) ∙ ap (with_word d.name (value d.word words heap)) again)
    by false e again = let none = h.2 e in rw (e, none) refl
