-- When two sessions show the same. A session is a function from a budget, of units or of reductions, to what is seen by then.
use Rattle.std.specs.Prelude.{◌≡◌, ℕ, suc, List, Option, Some, None, length, take, drop, option_map}
use Rattle.session_lang.specs.Observation.{EventPlain, EndPlain, ObservationPlain, as_stop, IsPrefix, IsBelow}

abbrev pub Session : Type 0
Session = ℕ → ObservationPlain

-- a larger budget only adds to what is seen
abbrev pub IsMonotone : Session → Type 0
IsMonotone session = (n : ℕ) → IsBelow (session n) (session (suc n))

-- the target's heap begins with the source's heap, in full, and past it each byte has the value that it had as the target's session began
pub record HeapsAgree (first source target : List ℕ) : Type 0 where
  pub same : take (length source) target ≡ source
  pub kept : drop (length source) target ≡ drop (length source) first

-- how a source session is compared with a target session
pub record Comparison : Type 0 where
  -- the source's events in the target's terms
  pub source_events : List EventPlain → List EventPlain
  -- the target's events that count
  pub target_events : List EventPlain → List EventPlain
  -- the source's end in the target's terms
  pub source_end : EndPlain → EndPlain
  -- the target's heap as its session began
  pub first_heap : List ℕ

-- both sessions show the same events and the same end, and their heaps agree
pub record IsSameAs (by : Comparison) (source target : ObservationPlain) : Type 0 where
  pub events : by.source_events source.events ≡ by.target_events target.events
  pub end : option_map (λ e. as_stop (by.source_end e)) source.end ≡ option_map as_stop target.end
  pub heap : HeapsAgree by.first_heap source.heap target.heap

abbrev pub SourceBelowFrom : Option EndPlain → Comparison → ObservationPlain → ObservationPlain → Type 0
SourceBelowFrom None by source target = IsPrefix (by.source_events source.events) (by.target_events target.events)
SourceBelowFrom (Some e) by source target = IsSameAs by source target

-- the source has ended and the target shows the same; or it hasn't ended and the target goes on from its events
abbrev pub SourceIsBelow : Comparison → ObservationPlain → ObservationPlain → Type 0
SourceIsBelow by source target = SourceBelowFrom source.end by source target

abbrev pub TargetBelowFrom : Option EndPlain → Comparison → ObservationPlain → ObservationPlain → Type 0
TargetBelowFrom None by target source = IsPrefix (by.target_events target.events) (by.source_events source.events)
TargetBelowFrom (Some e) by target source = IsSameAs by source target

-- the target has ended and the source shows the same; or it hasn't ended and the source goes on from its events
abbrev pub TargetIsBelow : Comparison → ObservationPlain → ObservationPlain → Type 0
TargetIsBelow by target source = TargetBelowFrom target.end by target source

-- the two sessions simulate each other: what the source shows the target comes to show, and the target shows nothing else
pub record Sim (by : Comparison) (source target : Session) : Type 0 where
  pub nothing_lost : (n : ℕ) → (m : ℕ) × SourceIsBelow by (source n) (target m)
  pub nothing_new : (m : ℕ) → (n : ℕ) × TargetIsBelow by (target m) (source n)
