-- What is known of variables after a statement, after statements, and after one of two arms.
use Rattle.std.proofs.Common.{◌≡◌, ℕ, ◌≤◌, Bool, true, false, ◌||◌, List, [], ◌∷◌, ◌++◌, length, drop, Option, Some, None, refl, sym, ◌∙◌, subst, arith}
use Rattle.std.proofs.lemmas.Bool.{or_parts}
use Rattle.std.proofs.lemmas.Bool.Decides.{nat_tests}
use Rattle.std.specs.Prelude.{if◌then◌else◌, nat_lt}
use Rattle.wasm2js_translation.specs.Names.{Name, fixed, spare_high, same_name}
use Rattle.wasm2js_translation.specs.Words.{Term, read, Simple, put, ask, tell, guard, stop, write_byte, write_whole}
use Rattle.wasm2js_translation.specs.Delays.{Delayed, is_operand, changes, one_changes}
use Rattle.wasm2js_translation.specs.Known.{Fact, Known, most_known, fact_of, lesser, term_fact, unchanged, says_something, into_block, noted, learned, all_learned}
use Rattle.wasm2js_laws_places.specs.Straight.{Words, with_word, value, values, Answer, gives, traps, Helping, with_high, Outcome, goes, stops, asked, told, then_do, run_simple, run_simples}
use Rattle.wasm2js_laws_places.specs.Delaying.{seen, AreWaiting}
use Rattle.wasm2js_laws_places.specs.Knowing.{IsFact, AreKnown}
use Rattle.wasm2js_laws_places.proofs.SameNames.{same_itself}
use Rattle.wasm2js_laws_places.proofs.DelayedTerms.{seen_other}
use Rattle.wasm2js_laws_places.proofs.KnownTerms.{lesser_bound, fact_holds, term_holds}

-- ---- where code goes on

-- the words of other variables are as before
abbrev Alike : (Name → Bool) → Words → Words → Type 0
Alike changed words words' = (n : Name) → changed n ≡ false → words' n ≡ words n

abbrev AlikeAfter : (Name → Bool) → Words → Outcome → Type 0
AlikeAfter changed words (goes words' heap) = Alike changed words words'
AlikeAfter changed words (stops kind heap) = Unit {0}

-- and this is known
abbrev pub KnownAfter : List Known → Outcome → Type 0
KnownAfter ks (goes words heap) = AreKnown ks words
KnownAfter ks (stops kind heap) = Unit {0}

pub known_then : (ks ls : List Known) (o : Outcome) (next : Words → List ℕ → Outcome) → KnownAfter ks o
    → ((w : Words) (k : List ℕ) → AreKnown ks w → KnownAfter ls (next w k)) → KnownAfter ls (then_do o next)
known_then ks ls (goes w k) next h further = further w k h
known_then ks ls (stops kind k) next h further = tt

alike_then : (f g : Name → Bool) (words : Words) (o : Outcome) (next : Words → List ℕ → Outcome) → AlikeAfter f words o
    → ((w : Words) (k : List ℕ) → AlikeAfter g w (next w k)) → AlikeAfter (λ n. f n || g n) words (then_do o next)
alike_then f g words (goes w k) next h further = by (next w k) (further w k)
  where
    by : (o : Outcome) → AlikeAfter g w o → AlikeAfter (λ n. f n || g n) words o
    by (goes v l) e = λ n apart. let parts = or_parts (f n) (g n) apart in e n parts.1 ∙ h n parts.0
    by (stops kind l) e = tt
alike_then f g words (stops kind k) next h further = tt

alike_more : (f g : Name → Bool) (words : Words) (o : Outcome) → ((n : Name) → g n ≡ false → f n ≡ false) → AlikeAfter f words o → AlikeAfter g words o
alike_more f g words (goes w k) less h = λ n e. h n (less n e)
alike_more f g words (stops kind k) less h = tt

-- ---- lists of what is known

unchanged_known : (changed : Name → Bool) (ks : List Known) (words words' : Words) → Alike changed words words' → AreKnown ks words → AreKnown (unchanged changed ks) words'
unchanged_known changed [] words words' alike h = tt
unchanged_known changed (k ∷ ks) words words' alike h = by (changed k.name) refl (unchanged_known changed ks words words' alike h.1)
  where
    by : (b : Bool) → changed k.name ≡ b → AreKnown (unchanged changed ks) words' → AreKnown (if b then unchanged changed ks else k ∷ unchanged changed ks) words'
    by true e further = further
    by false e further = (subst (IsFact k.fact) (sym (alike k.name e)) h.0, further)

-- where what waits is written, as it is where a block begins
pub known_inside : (ks : List Known) (ds : List Delayed) (words : Words) (heap : List ℕ) → AreWaiting ds → AreKnown ks words → AreKnown (into_block ks) (seen ds words heap)
known_inside ks ds words heap waiting h = unchanged_known is_operand ks words (seen ds words heap) (λ n apart. seen_other ds words heap n waiting apart) h

unchanged_after : (changed : Name → Bool) (ks : List Known) (words : Words) (o : Outcome) → AlikeAfter changed words o → AreKnown ks words → KnownAfter (unchanged changed ks) o
unchanged_after changed ks words (goes w k) alike h = unchanged_known changed ks words w alike h
unchanged_after changed ks words (stops kind k) alike h = tt

one_more : (k : Known) (ks : List Known) (words : Words) → AreKnown ks words → IsFact k.fact (words k.name) → AreKnown (ks ++ k ∷ []) words
one_more k [] words h f = (f, tt)
one_more k (l ∷ ks) words h f = (h.0, one_more k ks words h.1 f)

without_oldest : (ks : List Known) (words : Words) → AreKnown ks words → AreKnown (drop 1 ks) words
without_oldest [] words h = tt
without_oldest (k ∷ ks) words h = h.1

noted_known : (n : Name) (f : Fact) (ks : List Known) (words : Words) → AreKnown ks words → IsFact f (words n) → AreKnown (noted n f ks) words
noted_known n f ks words h g = by (says_something f) (nat_lt (length ks) most_known)
  where
    new : Known
    new = record { name = n; fact = f }

    by : (a b : Bool) → AreKnown (if a then (if b then ks else drop 1 ks) ++ new ∷ [] else ks) words
    by true true = one_more new ks words h g
    by true false = one_more new (drop 1 ks) words (without_oldest ks words h) g
    by false b = h

-- ---- a statement

put_elsewhere : (n : Name) (x : ℕ) (words : Words) → Alike (same_name n) words (with_word n x words)
put_elsewhere n x words m e = rw e refl

put_there : (n : Name) (x : ℕ) (words : Words) → with_word n x words n ≡ x
put_there n x words = let e = same_itself n in rw e refl

high_elsewhere : (high : Option ℕ) (words : Words) → Alike (λ m. same_name (fixed spare_high) m) words (with_high high words)
high_elsewhere None words m e = refl
high_elsewhere (Some x) words m e = rw e refl

isnt_above : (most w : ℕ) → nat_lt most w ≡ false → w ≤ most
isnt_above most w h = grind (arith, nat_tests)

module _ (helping : Helping) (words : Words) (heap : List ℕ) where
  asked_alike : (n : Name) (f : _) (ts : List Term) (a : Answer) → AlikeAfter (changes (ask n f ts)) words (asked n a words heap)
  asked_alike n f ts (gives x high k) = λ m e.
      let parts = or_parts (same_name n m) (same_name (fixed spare_high) m) e in put_elsewhere n x (with_high high words) m parts.0 ∙ high_elsewhere high words m parts.1
  asked_alike n f ts (traps kind) = tt

  told_alike : (f : _) (ts : List Term) (a : Answer) → AlikeAfter (changes (tell f ts)) words (told a words heap)
  told_alike f ts (gives x high k) = high_elsewhere high words
  told_alike f ts (traps kind) = tt

  guarded_alike : (kind : ℕ) (b : Bool) → AlikeAfter (λ m. false) words (if b then stops kind heap else goes words heap)
  guarded_alike kind true = tt
  guarded_alike kind false = λ m e. refl

  step_alike : (s : Simple) → AlikeAfter (changes s) words (run_simple helping s words heap)
  step_alike (put n t) = put_elsewhere n (value t words heap) words
  step_alike (ask n f ts) = asked_alike n f ts (helping.answer f (values ts words heap) heap)
  step_alike (tell f ts) = told_alike f ts (helping.answer f (values ts words heap) heap)
  step_alike (guard t most kind) = guarded_alike kind (nat_lt most (value t words heap))
  step_alike (stop kind) = tt
  step_alike (write_byte at t) = λ m e. refl
  step_alike (write_whole at t) = λ m e. refl

  module _ (ks : List Known) (h : AreKnown ks words) where
    as_changed : (s : Simple) → KnownAfter (unchanged (changes s) ks) (run_simple helping s words heap)
    as_changed s = unchanged_after (changes s) ks words (run_simple helping s words heap) (step_alike s) h

    guarded_read : (n : Name) (most kind : ℕ) → KnownAfter (learned ks (guard (read n) most kind)) (run_simple helping (guard (read n) most kind) words heap)
    guarded_read n most kind = by (nat_lt most (words n)) refl
      where
        was : IsFact (fact_of ks n) (words n)
        was = fact_holds ks words n h

        by : (b : Bool) → nat_lt most (words n) ≡ b → KnownAfter (learned ks (guard (read n) most kind)) (if b then stops kind heap else goes words heap)
        by true e = tt
        by false e =
            noted_known n (record { most = lesser (fact_of ks n).most (Some most); by_four = (fact_of ks n).by_four }) (unchanged (same_name n) ks) words
            (unchanged_known (same_name n) ks words words (λ m g. refl) h)
            (record { bound = lesser_bound (fact_of ks n).most (Some most) (words n) was.bound (isnt_above most (words n) e); by_four = was.by_four })

    guarded_known : (t : Term) (most kind : ℕ) → KnownAfter (learned ks (guard t most kind)) (run_simple helping (guard t most kind) words heap)
    guarded_known (read n) most kind = guarded_read n most kind
    guarded_known t most kind = as_changed (guard t most kind)

    put_known : (n : Name) (t : Term) → AreKnown (learned ks (put n t)) (with_word n (value t words heap) words)
    put_known n t =
        let x = value t words heap in
        noted_known n (term_fact ks t) (unchanged (same_name n) ks) (with_word n x words)
        (unchanged_known (same_name n) ks words (with_word n x words) (put_elsewhere n x words) h)
        (subst (IsFact (term_fact ks t)) (sym (put_there n x words)) (term_holds ks words heap h t))

    pub step_known : (s : Simple) → KnownAfter (learned ks s) (run_simple helping s words heap)
    step_known (put n t) = put_known n t
    step_known (guard t most kind) = guarded_known t most kind
    step_known s = as_changed s

-- ---- an arm

module _ (helping : Helping) where
  arm_alike : (ss : List Simple) (words : Words) (heap : List ℕ) → AlikeAfter (one_changes ss) words (run_simples helping ss words heap)
  arm_alike [] words heap = λ n e. refl
  arm_alike (s ∷ ss) words heap =
      alike_then (changes s) (one_changes ss) words (run_simple helping s words heap) (run_simples helping ss) (step_alike helping words heap s) (λ w k. arm_alike ss w k)

  pub arm_known : (ss : List Simple) (ks : List Known) (words : Words) (heap : List ℕ) → AreKnown ks words → KnownAfter (all_learned ks ss) (run_simples helping ss words heap)
  arm_known [] ks words heap h = h
  arm_known (s ∷ ss) ks words heap h =
      known_then (learned ks s) (all_learned (learned ks s) ss) (run_simple helping s words heap) (run_simples helping ss) (step_known helping words heap ks h s)
      (λ w k g. arm_known ss (learned ks s) w k g)

  -- whichever of two it is
  pub arms_known : (first second : List Simple) (ks : List Known) (words : Words) (heap : List ℕ) → AreKnown ks words → (b : Bool)
      → KnownAfter (unchanged (λ n. one_changes first n || one_changes second n) ks) (if b then run_simples helping second words heap else run_simples helping first words heap)
  arms_known first second ks words heap h true =
      unchanged_after (λ n. one_changes first n || one_changes second n) ks words (run_simples helping second words heap)
      (alike_more (one_changes second) (λ n. one_changes first n || one_changes second n) words (run_simples helping second words heap)
      (λ n e. (or_parts (one_changes first n) (one_changes second n) e).1) (arm_alike second words heap)) h
  arms_known first second ks words heap h false =
      unchanged_after (λ n. one_changes first n || one_changes second n) ks words (run_simples helping first words heap)
      (alike_more (one_changes first) (λ n. one_changes first n || one_changes second n) words (run_simples helping first words heap)
      (λ n e. (or_parts (one_changes first n) (one_changes second n) e).0) (arm_alike first words heap)) h
