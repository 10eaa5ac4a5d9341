-- What a statement does in which words that wait stand for variables, and what an arm of such statements does.
use Rattle.std.proofs.Common.{◌≡◌, ℕ, Bool, true, false, not, ◌||◌, List, [], ◌∷◌, Option, Some, None, refl, sym, ap, ◌∙◌, subst}
use Rattle.std.proofs.lemmas.Bool.{or_parts}
use Rattle.std.specs.Prelude.{if◌then◌else◌, nat_lt}
use Rattle.wasm2js_translation.specs.Names.{Name, fixed, spare_high, same_name}
use Rattle.wasm2js_translation.specs.Words.{Term, read, number, both, flip, sum, product, zeros, compare, choose, byte, whole, Simple, put, ask, tell, guard, stop, write_byte, write_whole}
use Rattle.wasm2js_translation.specs.Delays.{Delayed, is_operand, others, replaced, all_replaced, in_place, puts, changes, one_changes, one_puts, reads_one, late_arm}
use Rattle.wasm2js_laws_places.specs.Straight.{Words, with_word, value, values, Answer, gives, traps, Helping, with_high, Outcome, goes, stops, asked, told, then_do, units_after, run_simple, run_simples, simple_units, simples_units}
use Rattle.wasm2js_laws_places.specs.Delaying.{seen, IsSame}
use Rattle.wasm2js_laws_places.proofs.SameNames.{same_is}
use Rattle.wasm2js_laws_places.proofs.DelayedLists.{NoneIs, none_of_less, none_of_those, AreWaitingLight, those_light, all_others, others_of_others}
use Rattle.wasm2js_laws_places.proofs.DelayedTerms.{replaced_value, replaced_values, Changing, seen_next}

-- ---- one after another

pub then_goes : (a : Outcome) → then_do a (λ w h. goes w h) ≡ a
then_goes (goes w h) = refl
then_goes (stops kind h) = refl

pub nothing_after : (a : Outcome) → units_after a (λ w h. 0) ≡ 0
nothing_after (goes w h) = refl
nothing_after (stops kind h) = refl

pub same_then : (es fs : List Delayed) (a b : Outcome) (f g : Words → List ℕ → Outcome) → IsSame es a b
    → ((w : Words) (h : List ℕ) → IsSame fs (f (seen es w h) h) (g w h)) → IsSame fs (then_do a f) (then_do b g)
same_then es fs (goes w h) (goes w' h') f g e next = subst (λ x. IsSame fs (f x h) (g w' h')) e.0 (subst (λ y. IsSame fs (f (seen es w' h') y) (g w' h')) e.1 (next w' h'))
same_then es fs (goes w h) (stops kind' h') f g e next = absurd e
same_then es fs (stops kind h) (goes w' h') f g e next = absurd e
same_then es fs (stops kind h) (stops kind' h') f g e next = e

pub same_after : (es : List Delayed) (a b : Outcome) (f g : Words → List ℕ → ℕ) → IsSame es a b
    → ((w : Words) (h : List ℕ) → g w h ≡ f (seen es w h) h) → units_after b g ≡ units_after a f
same_after es (goes w h) (goes w' h') f g e next = next w' h' ∙ ap (λ x. f x h') e.0 ∙ ap (f w) e.1
same_after es (goes w h) (stops kind' h') f g e next = absurd e
same_after es (stops kind h) (goes w' h') f g e next = absurd e
same_after es (stops kind h) (stops kind' h') f g e next = refl

-- ---- how variables change

abbrev at_spare : Name → Bool
at_spare m = same_name (fixed spare_high) m

no_operand : (m : Name) → is_operand m ≡ true → at_spare m ≡ false
no_operand m h = by (at_spare m) refl
  where
    by : (b : Bool) → at_spare m ≡ b → at_spare m ≡ false
    by true e = let k : is_operand (fixed spare_high) ≡ true = subst (λ x. is_operand x ≡ true) (sym (same_is (fixed spare_high) m e)) h in absurd (cc k)
    by false e = e

nothing_changes : Changing (λ m. false) (λ m. false) (λ w. w)
nothing_changes = record { elsewhere = λ w m e. refl; there = λ w v m e. absurd (cc e); alike = λ w v m e. e; operand = λ w m o e. refl }

one_puts_it : (n : Name) (x : ℕ) → Changing (same_name n) (same_name n) (with_word n x)
one_puts_it n x = record { elsewhere = λ w m e. rw e refl; there = λ w v m e. rw e refl; alike = λ w v m e. ap (λ y. if same_name n m then x else y) e; operand = λ w m o e. rw e refl }

-- a variable of no operand
pub one_puts_beside : (n : Name) (x : ℕ) → is_operand n ≡ false → Changing (same_name n) (λ m. false) (with_word n x)
one_puts_beside n x beside = record {
  elsewhere = λ w m e. rw e refl;
  there = λ w v m e. absurd (cc e);
  alike = λ w v m e. ap (λ y. if same_name n m then x else y) e;
  operand = λ w m o e. apart w m o (same_name n m) refl;
}
  where
    apart : (w : Words) (m : Name) → is_operand m ≡ true → (b : Bool) → same_name n m ≡ b → with_word n x w m ≡ w m
    apart w m o true e = let k : is_operand n ≡ true = subst (λ r. is_operand r ≡ true) (sym (same_is n m e)) o in absurd (cc (k, beside))
    apart w m o false e = rw e refl

one_tells : (high : Option ℕ) → Changing at_spare (λ m. false) (with_high high)
one_tells None = record { elsewhere = λ w m e. refl; there = λ w v m e. absurd (cc e); alike = λ w v m e. e; operand = λ w m o e. refl }
one_tells (Some x) = record {
  elsewhere = λ w m e. rw e refl;
  there = λ w v m e. absurd (cc e);
  alike = λ w v m e. ap (λ y. if at_spare m then x else y) e;
  operand = λ w m o e. let k = no_operand m o in rw k refl;
}

one_asks : (n : Name) (x : ℕ) (high : Option ℕ) → Changing (λ m. same_name n m || at_spare m) (same_name n) (λ w. with_word n x (with_high high w))
one_asks n x high = record {
  elsewhere = λ w m e. let k = or_parts (same_name n m) (at_spare m) e in (one_puts_it n x).elsewhere (with_high high w) m k.0 ∙ (one_tells high).elsewhere w m k.1;
  there = λ w v m e. rw e refl;
  alike = λ w v m e. (one_puts_it n x).alike (with_high high w) (with_high high v) m ((one_tells high).alike w v m e);
  operand = λ w m o e. (one_puts_it n x).operand (with_high high w) m o e ∙ (one_tells high).operand w m o refl;
}

-- ---- one statement

-- these stand for their variables, of which those that still wait read nothing that changes
module _ (helping : Helping) (es ds : List Delayed) (words : Words) (heap : List ℕ) (h : AreWaitingLight ds) (same : seen es words heap ≡ seen ds words heap) where
  abbrev before : Words
  before = seen ds words heap

  term : (t : Term) → value (replaced es t) words heap ≡ value t before heap
  term t = replaced_value es words heap t ∙ ap (λ w. value t w heap) same

  terms : (ts : List Term) → values (all_replaced es ts) words heap ≡ values ts before heap
  terms ts = replaced_values es words heap ts ∙ ap (λ w. values ts w heap) same

  abbrev Unread : Simple → Type 0
  Unread s = NoneIs (λ d. reads_one (changes s) d.word) ds

  abbrev left : Simple → List Delayed
  left s = others (λ d. puts s d.name) ds

  after_asking : (n : Name) (f : _) (ts : List Term) → Unread (ask n f ts) → (a : Answer) → IsSame (left (ask n f ts)) (asked n a before heap) (asked n a words heap)
  after_asking n f ts none (gives x high heap') =
      (seen_next (changes (ask n f ts)) (puts (ask n f ts)) (λ w. with_word n x (with_high high w)) (one_asks n x high) ds words heap heap' h none, refl)
  after_asking n f ts none (traps kind) = (refl, refl)

  after_telling : (f : _) (ts : List Term) → Unread (tell f ts) → (a : Answer) → IsSame (left (tell f ts)) (told a before heap) (told a words heap)
  after_telling f ts none (gives x high heap') = (seen_next (changes (tell f ts)) (puts (tell f ts)) (with_high high) (one_tells high) ds words heap heap' h none, refl)
  after_telling f ts none (traps kind) = (refl, refl)

  after_guarding : (t : Term) (most kind : ℕ) → Unread (guard t most kind) → (b : Bool)
      → IsSame (left (guard t most kind)) (if b then stops kind heap else goes before heap) (if b then stops kind heap else goes words heap)
  after_guarding t most kind none true = (refl, refl)
  after_guarding t most kind none false = (seen_next (changes (guard t most kind)) (puts (guard t most kind)) (λ w. w) nothing_changes ds words heap heap h none, refl)

  pub one_step : (s : Simple) → Unread s → IsSame (left s) (run_simple helping s before heap) (run_simple helping (in_place es s) words heap)
  one_step (put n t) none =
      let x = value t before heap in (
        ap (λ y. seen (left (put n t)) (with_word n y words) heap) (term t)
            ∙ seen_next (changes (put n t)) (puts (put n t)) (with_word n x) (one_puts_it n x) ds words heap heap h none,
        refl,
      )
  one_step (ask n f ts) none =
      subst (λ vs. IsSame (left (ask n f ts)) (asked n (helping.answer f (values ts before heap) heap) before heap) (asked n (helping.answer f vs heap) words heap)) (sym (terms ts))
      (after_asking n f ts none (helping.answer f (values ts before heap) heap))
  one_step (tell f ts) none =
      subst (λ vs. IsSame (left (tell f ts)) (told (helping.answer f (values ts before heap) heap) before heap) (told (helping.answer f vs heap) words heap)) (sym (terms ts))
      (after_telling f ts none (helping.answer f (values ts before heap) heap))
  one_step (guard t most kind) none =
      subst
      (λ x. IsSame (left (guard t most kind)) (if nat_lt most (value t before heap) then stops kind heap else goes before heap) (if nat_lt most x then stops kind heap else goes words heap))
      (sym (term t)) (after_guarding t most kind none (nat_lt most (value t before heap)))
  one_step (stop kind) none = (refl, refl)
  one_step (write_byte at t) none =
      let e = term at in let f = term t in
      (seen_next (changes (write_byte at t)) (puts (write_byte at t)) (λ w. w) nothing_changes ds words heap _ h none, cc (e, f))
  one_step (write_whole at t) none =
      let e = term at in let f = term t in
      (seen_next (changes (write_whole at t)) (puts (write_whole at t)) (λ w. w) nothing_changes ds words heap _ h none, cc (e, f))

  pub units_of_one : (s : Simple) → simple_units helping (in_place es s) words heap ≡ simple_units helping s before heap
  units_of_one (put n t) = refl
  units_of_one (ask n f ts) = ap (helping.cost f) (terms ts)
  units_of_one (tell f ts) = ap (helping.cost f) (terms ts)
  units_of_one (guard t most kind) = refl
  units_of_one (stop kind) = refl
  units_of_one (write_byte at t) = refl
  units_of_one (write_whole at t) = refl

-- ---- an arm

pub reads_neither : (f g : Name → Bool) (t : Term) → reads_one (λ m. f m || g m) t ≡ false → (reads_one f t ≡ false) × (reads_one g t ≡ false)
reads_neither f g (read n) e = or_parts (f n) (g n) e
reads_neither f g (number z) e = (refl, refl)
reads_neither f g (both op a b) e = (refl, refl)
reads_neither f g (flip a) e = (refl, refl)
reads_neither f g (sum a ts) e = (refl, refl)
reads_neither f g (product a b) e = (refl, refl)
reads_neither f g (zeros a) e = (refl, refl)
reads_neither f g (compare signed r a b) e = (refl, refl)
reads_neither f g (choose t a b) e = (refl, refl)
reads_neither f g (byte signed at) e = (refl, refl)
reads_neither f g (whole at) e = (refl, refl)

abbrev pub Untouched : List Simple → List Delayed → Type 0
Untouched ss ds = NoneIs (λ d. reads_one (one_changes ss) d.word) ds

module _ (s : Simple) (ss : List Simple) (ds : List Delayed) (none : Untouched (s ∷ ss) ds) where
  none_first : NoneIs (λ d. reads_one (changes s) d.word) ds
  none_first = none_of_less (λ d. reads_one (one_changes (s ∷ ss)) d.word) (λ d. reads_one (changes s) d.word) ds (λ d e. (reads_neither (changes s) (one_changes ss) d.word e).0) none

  none_later : Untouched ss (others (λ d. puts s d.name) ds)
  none_later =
      none_of_those (λ d. reads_one (one_changes ss) d.word) (λ d. not (puts s d.name)) ds
      (none_of_less (λ d. reads_one (one_changes (s ∷ ss)) d.word) (λ d. reads_one (one_changes ss) d.word) ds (λ d e. (reads_neither (changes s) (one_changes ss) d.word e).1) none)

module _ (helping : Helping) where
  pub arm_same : (ss : List Simple) (ds : List Delayed) (words : Words) (heap : List ℕ) → AreWaitingLight ds → Untouched ss ds
      → IsSame (others (λ d. one_puts ss d.name) ds) (run_simples helping ss (seen ds words heap) heap) (run_simples helping (late_arm ds ss) words heap)
  arm_same [] ds words heap h none = (ap (λ x. seen x words heap) (all_others ds), refl)
  arm_same (s ∷ ss) ds words heap h none =
      let es = others (λ d. puts s d.name) ds in
      subst (λ x. IsSame x (run_simples helping (s ∷ ss) (seen ds words heap) heap) (run_simples helping (late_arm ds (s ∷ ss)) words heap))
      (sym (others_of_others (λ d. puts s d.name) (λ d. one_puts ss d.name) ds))
      (same_then es (others (λ d. one_puts ss d.name) es) (run_simple helping s (seen ds words heap) heap) (run_simple helping (in_place ds s) words heap) (run_simples helping ss)
      (run_simples helping (late_arm es ss)) (one_step helping ds ds words heap h refl s (none_first s ss ds none))
      (λ w k. arm_same ss es w k (those_light (λ d. not (puts s d.name)) ds h) (none_later s ss ds none)))

  pub arm_units : (ss : List Simple) (ds : List Delayed) (words : Words) (heap : List ℕ) → AreWaitingLight ds → Untouched ss ds
      → simples_units helping (late_arm ds ss) words heap ≡ simples_units helping ss (seen ds words heap) heap
  arm_units [] ds words heap h none = refl
  arm_units (s ∷ ss) ds words heap h none =
      let es = others (λ d. puts s d.name) ds in
      let one = units_of_one helping ds ds words heap h refl s in
      let more : units_after (run_simple helping (in_place ds s) words heap) (simples_units helping (late_arm es ss))
      ≡ units_after (run_simple helping s (seen ds words heap) heap) (simples_units helping ss) =
      same_after es (run_simple helping s (seen ds words heap) heap) (run_simple helping (in_place ds s) words heap) (simples_units helping ss) (simples_units helping (late_arm es ss))
      (one_step helping ds ds words heap h refl s (none_first s ss ds none))
      (λ w k. arm_units ss es w k (those_light (λ d. not (puts s d.name)) ds h) (none_later s ss ds none))
      in
      cc (one, more)
