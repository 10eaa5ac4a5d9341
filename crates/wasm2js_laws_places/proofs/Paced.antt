-- The laws of runs that follow a session, by cases on what the run comes to.
use Rattle.std.proofs.Common.{◌≡◌, ℕ, zero, suc, ◌+◌, ◌*◌, ◌<◌, ◌≤◌, List, Some, sym, ap, ◌∙◌, subst, ⊎_elim, arith}
use Rattle.std.specs.Prelude.{◌-◌, IsNone}
use Rattle.std.proofs.lemmas.Bool.{cases_lt}
use Rattle.session_lang.specs.Observation.{EventPlain, EndPlain, ObservationPlain, done, running, ended, IsPrefix}
use Rattle.session_lang.proofs.BelowLaws.{prefix_same, prefix_trans}
use Rattle.session_lang.specs.Simulation.{Session, Comparison, IsSameAs, SourceIsBelow, TargetIsBelow}
use Rattle.session_lang.proofs.Sides.{source_same, target_same}
use Rattle.session_lang.specs.Laws.{KeepsOrder, IsFollowed}
use Rattle.asm_lang_exec.specs.Runs.{Place, goes, stops, spent, wrong}
use Rattle.wasm2js_laws_places.specs.Following.{Rest, Lower, reached, before, Ends, Stands}
use Rattle.wasm2js_laws_places.specs.PaceLaws.{StepsArePaid, StandsStill, SameIsFollowed, FreeUnits, UnpaidStops, FollowedFromTheStart}

-- ---- numbers

one_more : (c k : ℕ) → c * (suc k + 1) ≡ c * (k + 1) + c
one_more zero k = omega arith
one_more (suc c) k = let h = one_more c k in omega (arith, h)

-- ---- the source at its beginning

stands_below : (by : Comparison) (p : Place) (r : Rest) (later : List EventPlain) → Stands by p r → IsPrefix (by.target_events p.events) (by.target_events later) → SourceIsBelow by (r 0) (running later)
stands_below by p r later s h =
    subst (λ x. SourceIsBelow by x (running later)) (sym s.is_running) (subst (λ es. IsPrefix es (by.target_events later)) (sym s.match) h)

-- ---- one reduction

step_lower : (by : Comparison) → KeepsOrder by → (c z u : ℕ) (p q : Place) (r s : Rest) (later : List EventPlain)
    → u ≤ c → p.units ≡ q.units + u → IsPrefix p.events q.events → Stands by p r → ((k : ℕ) → r (suc k) ≡ s k)
    → Lower by c z q.units s q.events later → Lower by c z p.units r p.events later
step_lower by keeps c z u p q r s later le units more st same (reached low below enough) =
    let e = one_more c low in
    reached (suc low) (subst (λ x. SourceIsBelow by x (running later)) (sym (same low)) below) (omega (arith, le, units, enough, e))
step_lower by keeps c z u p q r s later le units more st same (before h few) =
    reached 0 (stands_below by p r later st (prefix_trans _ _ _ (keeps.target p.events q.events more) h)) (omega (arith, le, units, few))

later_end : (by : Comparison) (r s : Rest) (seen : ObservationPlain) → ((k : ℕ) → r (suc k) ≡ s k) → Ends by s seen → Ends by r seen
later_end by r s seen same h = record { cost = suc h.cost; same = subst (λ x. IsSameAs by x seen) (sym (same h.cost)) h.same }

pub steps_are_paid : StepsArePaid
steps_are_paid by keeps c z u p q r s (goes t x) le units more st same h = later_end by r s _ same h
steps_are_paid by keeps c z u p q r s (stops e x) le units more st same h = later_end by r s _ same h
steps_are_paid by keeps c z u p q r s (spent x) le units more st same h = record {
  high = suc h.high;
  no_more = subst (λ y. TargetIsBelow by (running x.events) y) (sym (same h.high)) h.no_more;
  lower = step_lower by keeps c z u p q r s x.events le units more st same h.lower;
}
steps_are_paid by keeps c z u p q r s wrong le units more st same h = tt

-- ---- out of units

pub stands_still : StandsStill
stands_still by c z u p q r le few same st = record {
  high = 0;
  no_more = subst (λ x. TargetIsBelow by (running q.events) x) (sym st.is_running) (prefix_same _ _ (ap by.target_events same ∙ sym st.match));
  lower = reached 0 (stands_below by p r q.events st (prefix_same _ _ (ap by.target_events (sym same)))) (omega (arith, le, few));
}

pub unpaid_stops : UnpaidStops
unpaid_stops by keeps c z high p q r few more below = record { high = high; no_more = below; lower = before (keeps.target p.events q.events more) few }

-- ---- the same, and free units

same_lower : (by : Comparison) (c z n : ℕ) (r s : Rest) (here later : List EventPlain) → ((k : ℕ) → r k ≡ s k) → Lower by c z n s here later → Lower by c z n r here later
same_lower by c z n r s here later same (reached low below enough) = reached low (subst (λ x. SourceIsBelow by x (running later)) (sym (same low)) below) enough
same_lower by c z n r s here later same (before h few) = before h few

same_end : (by : Comparison) (r s : Rest) (seen : ObservationPlain) → ((k : ℕ) → r k ≡ s k) → Ends by s seen → Ends by r seen
same_end by r s seen same h = record { cost = h.cost; same = subst (λ x. IsSameAs by x seen) (sym (same h.cost)) h.same }

pub same_is_followed : SameIsFollowed
same_is_followed by c z p r s (goes t x) same h = same_end by r s _ same h
same_is_followed by c z p r s (stops e x) same h = same_end by r s _ same h
same_is_followed by c z p r s (spent x) same h = record {
  high = h.high;
  no_more = subst (λ y. TargetIsBelow by (running x.events) y) (sym (same h.high)) h.no_more;
  lower = same_lower by c z p.units r s p.events x.events same h.lower;
}
same_is_followed by c z p r s wrong same h = tt

free_lower : (by : Comparison) → KeepsOrder by → (c z u : ℕ) (p q : Place) (r : Rest) (later : List EventPlain)
    → p.units ≡ q.units + u → IsPrefix p.events q.events → Lower by c z q.units r q.events later → Lower by c (z + u) p.units r p.events later
free_lower by keeps c z u p q r later units more (reached low below enough) = reached low below (omega (arith, units, enough))
free_lower by keeps c z u p q r later units more (before h few) = before (prefix_trans _ _ _ (keeps.target p.events q.events more) h) (omega (arith, units, few))

pub free_units : FreeUnits
free_units by keeps c z u p q r (goes t x) units more h = h
free_units by keeps c z u p q r (stops e x) units more h = h
free_units by keeps c z u p q r (spent x) units more h = record { high = h.high; no_more = h.no_more; lower = free_lower by keeps c z u p q r x.events units more h.lower }
free_units by keeps c z u p q r wrong units more h = tt

-- ---- whole sessions

at_least : (c k : ℕ) → 1 ≤ c → k ≤ c * k
at_least zero k h = absurd (omega (arith, h))
at_least (suc c) k h = omega arith

apart : (c a b n : ℕ) → n ≡ a + b → c * n ≡ c * a + c * b
apart zero a b n e = omega arith
apart (suc c) a b n e = let h = apart c a b n e in omega (arith, e, h)

-- with more than `low` reductions before it the target would have had more units
too_many : (c z calls bytes low more n : ℕ) → 1 ≤ c → z ≤ calls + bytes + 1 → n < c * (low + 1) + z → c * ((low + 1 + more) + calls + bytes + 1) ≤ n → ⊥
too_many c z calls bytes low more n one free few many =
    let e : c * ((low + 1 + more) + calls + bytes + 1) ≡ c * (low + 1) + c * (more + calls + bytes + 1) = apart c (low + 1) (more + calls + bytes + 1) _ (omega arith) in
    let l = at_least c (more + calls + bytes + 1) one in
    omega (arith, free, few, many, e, l)

few_reductions : (c z calls bytes low m n : ℕ) → 1 ≤ c → z ≤ calls + bytes + 1 → n < c * (low + 1) + z → c * (m + calls + bytes + 1) ≤ n → m ≤ low
few_reductions c z calls bytes low m n one free few many = ⊎_elim (λ h. absurd (by h)) (λ h. omega (arith, h)) (cases_lt low m)
  where
    by : low < m → ⊥
    by h =
        let e : m ≡ low + 1 + (m - (low + 1)) = omega (arith, h) in
        too_many c z calls bytes low (m - (low + 1)) n one free few (subst (λ k. c * (k + calls + bytes + 1) ≤ n) e many)

none_reached : (c z calls bytes m n : ℕ) → 1 ≤ c → z ≤ calls + bytes + 1 → n < z → c * (m + calls + bytes + 1) ≤ n → ⊥
none_reached c z calls bytes m n one free few many =
    let l = at_least c (m + calls + bytes + 1) one in
    omega (arith, free, few, many, l)

seen_is : (x y : ObservationPlain) → Some x ≡ Some y → x ≡ y
seen_is x y e = cc e

module _ (by : Comparison) (c z calls bytes : ℕ) (p : Place) (source target : Session) where
  abbrev IsDone : Type 0
  IsDone = IsFollowed by source target (λ m. c * (m + calls + bytes + 1)) p.units

  ended_followed : (es : List EventPlain) (x : EndPlain) (heap : List ℕ) → ended es x heap ≡ target p.units → Ends by source (ended es x heap) → IsDone
  ended_followed es x heap is h =
      let same = subst (λ y. IsSameAs by (source h.cost) y) is h.same in
      record {
        low = h.cost;
        high = h.cost;
        no_less = source_same by (source h.cost) (target p.units) same;
        no_more = target_same by (source h.cost) (target p.units) same;
        goes_on = λ none m many. absurd (subst (λ y. IsNone y.end → ⊥) is (λ n. cc n) none);
      }

  spent_followed : (later : List EventPlain) (high : ℕ) → 1 ≤ c → z ≤ calls + bytes + 1 → Stands by p source → running later ≡ target p.units
      → TargetIsBelow by (running later) (source high) → Lower by c z p.units source p.events later → IsDone
  spent_followed later high one free st is no_more (reached low below few) = record {
    low = low;
    high = high;
    no_less = subst (λ y. SourceIsBelow by (source low) y) is below;
    no_more = subst (λ y. TargetIsBelow by y (source high)) is no_more;
    goes_on = λ none m many. few_reductions c z calls bytes low m p.units one free few many;
  }
  spent_followed later high one free st is no_more (before h few) = record {
    low = 0;
    high = high;
    no_less = subst (λ y. SourceIsBelow by (source 0) y) is (stands_below by p source later st h);
    no_more = subst (λ y. TargetIsBelow by y (source high)) is no_more;
    goes_on = λ none m many. absurd (none_reached c z calls bytes m p.units one free few many);
  }

pub followed_from_the_start : FollowedFromTheStart
followed_from_the_start by c z calls bytes p source target (goes t q) one free st is h = ended_followed by c z calls bytes p source target q.events done q.heap (seen_is _ _ is) h
followed_from_the_start by c z calls bytes p source target (stops e q) one free st is h = ended_followed by c z calls bytes p source target q.events e q.heap (seen_is _ _ is) h
followed_from_the_start by c z calls bytes p source target (spent q) one free st is h =
    spent_followed by c z calls bytes p source target q.events h.high one free st (seen_is _ _ is) h.no_more h.lower
followed_from_the_start by c z calls bytes p source target wrong one free st is h = absurd (cc is)
