-- The two sides of a comparison, and both halves of a simulation from one of the two runs.
use Rattle.std.proofs.Common.{◌≡◌, Option, Some, None, refl, sym, ap, ◌∙◌, subst}
use Rattle.session_lang.specs.Observation.{EndPlain, ObservationPlain, as_stop, IsPrefix, IsSame, IsBelow}
use Rattle.session_lang.specs.Simulation.{HeapsAgree, Comparison, IsSameAs, SourceBelowFrom, SourceIsBelow, TargetBelowFrom, TargetIsBelow}
use Rattle.session_lang.specs.Laws.{KeepsOrder, ComparisonsGoWithBelow}
use Rattle.session_lang.proofs.BelowLaws.{prefix_same, prefix_trans, ended_too, stops_go_over, below_ended, below_prefix}

module _ (by : Comparison) where
  -- ---- the source below the target

  pub source_from : (x y : ObservationPlain) → (x.end ≡ None → IsPrefix (by.source_events x.events) (by.target_events y.events)) → ((e : EndPlain) → x.end ≡ Some e → IsSameAs by x y) → SourceIsBelow by x y
  source_from x y runs ends = go x.end refl
    where
      go : (o : Option EndPlain) → x.end ≡ o → SourceBelowFrom o by x y
      go None is = runs is
      go (Some e) is = ends e is

  pub source_ended : (x y : ObservationPlain) (e : EndPlain) → SourceIsBelow by x y → x.end ≡ Some e → IsSameAs by x y
  source_ended x y e h is = subst (λ o. SourceBelowFrom o by x y) is h

  pub source_prefix : (x y : ObservationPlain) → SourceIsBelow by x y → IsPrefix (by.source_events x.events) (by.target_events y.events)
  source_prefix x y = go x.end
    where
      go : (o : Option EndPlain) → SourceBelowFrom o by x y → IsPrefix (by.source_events x.events) (by.target_events y.events)
      go None p = p
      go (Some e) s = prefix_same (by.source_events x.events) (by.target_events y.events) s.events

  -- ---- the target below the source

  pub target_from : (y x : ObservationPlain) → (y.end ≡ None → IsPrefix (by.target_events y.events) (by.source_events x.events)) → ((e : EndPlain) → y.end ≡ Some e → IsSameAs by x y) → TargetIsBelow by y x
  target_from y x runs ends = go y.end refl
    where
      go : (o : Option EndPlain) → y.end ≡ o → TargetBelowFrom o by y x
      go None is = runs is
      go (Some e) is = ends e is

  pub target_ended : (y x : ObservationPlain) (e : EndPlain) → TargetIsBelow by y x → y.end ≡ Some e → IsSameAs by x y
  target_ended y x e h is = subst (λ o. TargetBelowFrom o by y x) is h

  pub target_prefix : (y x : ObservationPlain) → TargetIsBelow by y x → IsPrefix (by.target_events y.events) (by.source_events x.events)
  target_prefix y x = go y.end
    where
      go : (o : Option EndPlain) → TargetBelowFrom o by y x → IsPrefix (by.target_events y.events) (by.source_events x.events)
      go None p = p
      go (Some e) s = prefix_same (by.target_events y.events) (by.source_events x.events) (sym s.events)

  -- what is the same is below on both sides
  pub source_same : (x y : ObservationPlain) → IsSameAs by x y → SourceIsBelow by x y
  source_same x y s = source_from x y (λ is. prefix_same (by.source_events x.events) (by.target_events y.events) s.events) (λ e is. s)

  pub target_same : (x y : ObservationPlain) → IsSameAs by x y → TargetIsBelow by y x
  target_same x y s = target_from y x (λ is. prefix_same (by.target_events y.events) (by.source_events x.events) (sym s.events)) (λ e is. s)

  -- where one has ended, so has what is the same
  pub target_too : (x y : ObservationPlain) (e : EndPlain) → IsSameAs by x y → x.end ≡ Some e → (e' : EndPlain) × (y.end ≡ Some e')
  target_too x y e s is = ended_too (λ e. as_stop (by.source_end e)) as_stop x.end y.end e s.end is

  pub source_too : (x y : ObservationPlain) (e : EndPlain) → IsSameAs by x y → y.end ≡ Some e → (e' : EndPlain) × (x.end ≡ Some e')
  source_too x y e s is = ended_too as_stop (λ e. as_stop (by.source_end e)) y.end x.end e (sym s.end) is

  module _ (keeps : KeepsOrder by) where
    -- an observation of the same in place of the source's, and of the target's
    same_source : (x more y : ObservationPlain) → IsSame x more → IsSameAs by more y → IsSameAs by x y
    same_source x more y s t = record {
      events = ap by.source_events s.events ∙ t.events;
      end = stops_go_over (λ e. e) by.source_end keeps.trap x.end more.end s.end ∙ t.end;
      heap = subst (λ heap. HeapsAgree by.first_heap heap y.heap) (sym s.heap) t.heap;
    }

    same_target : (x y more : ObservationPlain) → IsSameAs by x y → IsSame y more → IsSameAs by x more
    same_target x y more t s = record {
      events = t.events ∙ ap by.target_events s.events;
      end = t.end ∙ s.end;
      heap = subst (λ heap. HeapsAgree by.first_heap x.heap heap) s.heap t.heap;
    }

    same_sym : (x y : ObservationPlain) → IsSame x y → IsSame y x
    same_sym x y s = record { events = sym s.events; end = sym s.end; heap = sym s.heap }

    less_of_source : (x more y : ObservationPlain) → IsBelow x more → SourceIsBelow by more y → SourceIsBelow by x y
    less_of_source x more y h k =
        source_from x y
        (λ is. prefix_trans (by.source_events x.events) (by.source_events more.events) (by.target_events y.events) (keeps.source x.events more.events (below_prefix x more h)) (source_prefix more y k))
        (λ e is.
        let s = below_ended x more e h is in
        let there = ended_too as_stop as_stop x.end more.end e s.end is in
        same_source x more y s (source_ended more y there.0 k there.1))

    more_of_target : (x y more : ObservationPlain) → SourceIsBelow by x y → IsBelow y more → SourceIsBelow by x more
    more_of_target x y more h k =
        source_from x more
        (λ is. prefix_trans (by.source_events x.events) (by.target_events y.events) (by.target_events more.events) (source_prefix x y h) (keeps.target y.events more.events (below_prefix y more k)))
        (λ e is.
        let s = source_ended x y e h is in
        let there = target_too x y e s is in
        same_target x y more s (below_ended y more there.0 k there.1))

    less_of_target : (y more x : ObservationPlain) → IsBelow y more → TargetIsBelow by more x → TargetIsBelow by y x
    less_of_target y more x h k =
        target_from y x
        (λ is. prefix_trans (by.target_events y.events) (by.target_events more.events) (by.source_events x.events) (keeps.target y.events more.events (below_prefix y more h)) (target_prefix more x k))
        (λ e is.
        let s = below_ended y more e h is in
        let there = ended_too as_stop as_stop y.end more.end e s.end is in
        same_target x more y (target_ended more x there.0 k there.1) (same_sym y more s))

    more_of_source : (y x more : ObservationPlain) → TargetIsBelow by y x → IsBelow x more → TargetIsBelow by y more
    more_of_source y x more h k =
        target_from y more
        (λ is. prefix_trans (by.target_events y.events) (by.source_events x.events) (by.source_events more.events) (target_prefix y x h) (keeps.source x.events more.events (below_prefix x more k)))
        (λ e is.
        let s = target_ended y x e h is in
        let there = source_too x y e s is in
        same_source more x y (same_sym x more (below_ended x more there.0 k there.1)) s)

pub comparisons_go_with_below : ComparisonsGoWithBelow
comparisons_go_with_below by keeps = record {
  less_of_source = less_of_source by keeps;
  more_of_target = more_of_target by keeps;
  less_of_target = less_of_target by keeps;
  more_of_source = more_of_source by keeps;
}
