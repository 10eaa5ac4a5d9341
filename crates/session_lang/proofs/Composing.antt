-- One simulation after another.
use Rattle.std.proofs.Common.{◌≡◌, ℕ, ◌+◌, ◌-◌, ◌<◌, ◌≤◌, List, ◌++◌, length, take, drop, sym, ap, ◌∙◌, subst, ⊎_elim, arith}
use Rattle.std.proofs.lemmas.Bool.{cases_lt}
use Rattle.std.proofs.lemmas.List.{take-take, take-append-drop, drop-append-le, drop_all, length-take, length-drop, length-append}
use Rattle.session_lang.specs.Observation.{EventPlain, ObservationPlain, IsPrefix}
use Rattle.session_lang.specs.Simulation.{Comparison, IsSameAs, SourceIsBelow, TargetIsBelow}
use Rattle.session_lang.specs.Laws.{KeepsOrder, HeapsCompose, composed, SimulationsCompose}
use Rattle.session_lang.proofs.BelowLaws.{prefix_trans, stops_go_over}
use Rattle.session_lang.proofs.Sides.{source_from, source_ended, source_prefix, target_from, target_ended, target_prefix, target_too, source_too}

-- ---- heaps

-- a list whose front is another is that front and what comes past it
split_at_front : (front whole : List ℕ) → take (length front) whole ≡ front → whole ≡ front ++ drop (length front) whole
split_at_front front whole e = sym (take-append-drop (length front) whole) ∙ ap (λ l. l ++ drop (length front) whole) e

front_is_within : (front whole : List ℕ) → take (length front) whole ≡ front → length front ≤ length whole
front_is_within front whole e = let n = ap length e in let m = length-take (length front) whole in omega (arith, n, m)

past_the_source : (n : ℕ) (first_middle middle first_target : List ℕ)
    → take (length first_middle) first_target ≡ first_middle
    → length middle ≡ n + (length first_middle - n)
    → drop n first_middle ++ drop (length middle) first_target ≡ drop n first_target
past_the_source n fm m ft e len = ⊎_elim longer within (cases_lt (length fm) n)
  where
    within : n ≤ length fm → drop n fm ++ drop (length m) ft ≡ drop n ft
    within le =
        let same : length m ≡ length fm = omega arith in
        ap (λ k. drop n fm ++ drop k ft) same
        ∙ sym (drop-append-le n fm (drop (length fm) ft) le)
        ∙ ap (drop n) (sym (split_at_front fm ft e))

    longer : length fm < n → drop n fm ++ drop (length m) ft ≡ drop n ft
    longer lt =
        let same : length m ≡ n = omega arith in
        ap (λ l. l ++ drop (length m) ft) (drop_all n fm (omega arith))
        ∙ ap (λ k. drop k ft) same

pub heaps_compose : HeapsCompose
heaps_compose fm ft s m t e a b =
    let n : length s ≤ length m = front_is_within s m a.same in
    let whole : m ≡ s ++ drop (length s) fm = split_at_front s m a.same ∙ ap (λ l. s ++ l) a.kept in
    let len : length m ≡ length s + (length fm - length s) = ap length whole ∙ length-append s (drop (length s) fm) ∙ ap (λ k. length s + k) (length-drop (length s) fm) in
    let last : t ≡ m ++ drop (length m) ft = split_at_front m t b.same ∙ ap (λ l. m ++ l) b.kept in
    record {
      same = sym (take-take (length s) (length m) t n) ∙ ap (take (length s)) b.same ∙ a.same;
      kept =
          ap (drop (length s)) last
          ∙ drop-append-le (length s) m (drop (length m) ft) n
          ∙ ap (λ l. l ++ drop (length m) ft) a.kept
          ∙ past_the_source (length s) fm m ft e len;
    }

-- ---- simulations

module _ (first second : Comparison) (untouched : (events : List EventPlain) → first.target_events events ≡ events) (keeps : KeepsOrder second) (begins : take (length first.first_heap) second.first_heap ≡ first.first_heap) where
  same_composed : (x y z : ObservationPlain) → IsSameAs first x y → IsSameAs second y z → IsSameAs (composed first second) x z
  same_composed x y z s t = record {
    events = ap second.source_events (s.events ∙ untouched y.events) ∙ t.events;
    end = stops_go_over first.source_end second.source_end keeps.trap x.end y.end s.end ∙ t.end;
    heap = heaps_compose first.first_heap second.first_heap x.heap y.heap z.heap begins s.heap t.heap;
  }

  source_composed : (x y z : ObservationPlain) → SourceIsBelow first x y → SourceIsBelow second y z → SourceIsBelow (composed first second) x z
  source_composed x y z h k =
      source_from (composed first second) x z
      (λ is.
      let p : IsPrefix (first.source_events x.events) y.events = subst (λ events. IsPrefix (first.source_events x.events) events) (untouched y.events) (source_prefix first x y h) in
      prefix_trans (second.source_events (first.source_events x.events)) (second.source_events y.events) (second.target_events z.events) (keeps.source (first.source_events x.events) y.events p) (source_prefix second y z k))
      (λ e is.
      let s = source_ended first x y e h is in
      let there = target_too first x y e s is in
      same_composed x y z s (source_ended second y z there.0 k there.1))

  target_composed : (z y x : ObservationPlain) → TargetIsBelow second z y → TargetIsBelow first y x → TargetIsBelow (composed first second) z x
  target_composed z y x h k =
      target_from (composed first second) z x
      (λ is.
      let p : IsPrefix y.events (first.source_events x.events) = subst (λ events. IsPrefix events (first.source_events x.events)) (untouched y.events) (target_prefix first y x k) in
      prefix_trans (second.target_events z.events) (second.source_events y.events) (second.source_events (first.source_events x.events)) (target_prefix second z y h) (keeps.source y.events (first.source_events x.events) p))
      (λ e is.
      let t = target_ended second z y e h is in
      let there = source_too second y z e t is in
      same_composed x y z (target_ended first y x there.0 k there.1) t)

pub simulations_compose : SimulationsCompose
simulations_compose first second untouched keeps begins source middle target there back = record {
  nothing_lost = λ n.
      let m = there.nothing_lost n in
      let k = back.nothing_lost m.0 in
      (k.0, source_composed first second untouched keeps begins (source n) (middle m.0) (target k.0) m.1 k.1);
  nothing_new = λ k.
      let m = back.nothing_new k in
      let n = there.nothing_new m.0 in
      (n.0, target_composed first second untouched keeps begins (target k) (middle m.0) (source n.0) m.1 n.1);
}
