-- What holds of observations, of simulation and of names.
use Rattle.std.specs.Prelude.{◌≡◌, ◌≢◌, ℕ, ◌≤◌, true, Option, Some, None, List, length, take, IsNone, codes, map}
use Rattle.std.specs.List.{AllByRecursion}
use Rattle.hex.specs.Hex.{IsBytes}
use Rattle.sem_words.specs.declared.word.Word.{Word}
use Rattle.sem_words.specs.declared.word.Word.TheVariants.{W32, W64}
use Rattle.session_lang.specs.Observation.{EventPlain, import_called, call_gave, call_returned, EndPlain, done, stopped, no_reply, trapped, ObservationPlain, as_stop, trap_name, IsPrefix, IsBelow}
use Rattle.session_lang.specs.Imports.{high_name}
use Rattle.session_lang.specs.Names.{is_plain_name, import_name, export_name}
use Rattle.session_lang.specs.Simulation.{Session, IsMonotone, HeapsAgree, Comparison, SourceIsBelow, TargetIsBelow, Sim}
use Rattle.session_lang.specs.CallingForms.{event_to_wasm, end_to_wasm, comparison_to_wasm, without_init, comparison_to_asm}

-- ---- below

abbrev pub BelowIsReflexive : Type 0
BelowIsReflexive = (x : ObservationPlain) → IsBelow x x

abbrev pub BelowIsTransitive : Type 0
BelowIsTransitive = (x y z : ObservationPlain) → IsBelow x y → IsBelow y z → IsBelow x z

abbrev pub MonotoneSessionsGrow : Type 0
MonotoneSessionsGrow = (session : Session) → IsMonotone session → (n m : ℕ) → n ≤ m → IsBelow (session n) (session m)

-- ---- comparisons and below

abbrev pub KeepsPrefixes : (List EventPlain → List EventPlain) → Type 0
KeepsPrefixes f = (front whole : List EventPlain) → IsPrefix front whole → IsPrefix (f front) (f whole)

pub record KeepsOrder (by : Comparison) : Type 0 where
  pub source : KeepsPrefixes by.source_events
  pub target : KeepsPrefixes by.target_events
  -- a trap goes over as the call of the trap import does
  pub trap : (end : EndPlain) → as_stop (by.source_end (as_stop end)) ≡ as_stop (by.source_end end)

-- both calling forms keep the order, whatever heap the target begins with
abbrev pub CallingFormsKeepOrder : Type 0
CallingFormsKeepOrder = (first_heap : List ℕ) → KeepsOrder (comparison_to_wasm first_heap) × KeepsOrder (comparison_to_asm first_heap)

-- what is below stays below, where less is seen of the one session or more of the other
pub record GoesWithBelow (by : Comparison) : Type 0 where
  pub less_of_source : (x more y : ObservationPlain) → IsBelow x more → SourceIsBelow by more y → SourceIsBelow by x y
  pub more_of_target : (x y more : ObservationPlain) → SourceIsBelow by x y → IsBelow y more → SourceIsBelow by x more
  pub less_of_target : (y more x : ObservationPlain) → IsBelow y more → TargetIsBelow by more x → TargetIsBelow by y x
  pub more_of_source : (y x more : ObservationPlain) → TargetIsBelow by y x → IsBelow x more → TargetIsBelow by y more

abbrev pub ComparisonsGoWithBelow : Type 0
ComparisonsGoWithBelow = (by : Comparison) → KeepsOrder by → GoesWithBelow by

-- ---- both halves of a simulation from one of the two runs

-- each budget n of the source has a budget of the target, within a bound, at which the two show the same; it is n or more where the source still runs
pub record IsMatched (by : Comparison) (source target : Session) (bound : ℕ → ℕ) (n : ℕ) : Type 0 where
  pub budget : ℕ
  pub within : budget ≤ bound n
  pub no_less : SourceIsBelow by (source n) (target budget)
  pub no_more : TargetIsBelow by (target budget) (source n)
  pub goes_on : IsNone (source n).end → n ≤ budget

abbrev pub MatchedSessionsSimulate : Type 0
MatchedSessionsSimulate =
    (by : Comparison)
    → KeepsOrder by
    → (source target : Session)
    → IsMonotone target
    → (bound : ℕ → ℕ)
    → ((n : ℕ) → IsMatched by source target bound n)
    → Sim by source target × ((n : ℕ) → SourceIsBelow by (source n) (target (bound n))) × ((n : ℕ) → TargetIsBelow by (target n) (source n))

-- what the target shows at a budget n lies between what the source shows at two of its own; where the target still runs with what m of the source's budget is worth, the lower of them is m or more
pub record IsFollowed (by : Comparison) (source target : Session) (worth : ℕ → ℕ) (n : ℕ) : Type 0 where
  pub low : ℕ
  pub high : ℕ
  pub no_less : SourceIsBelow by (source low) (target n)
  pub no_more : TargetIsBelow by (target n) (source high)
  pub goes_on : IsNone (target n).end → (m : ℕ) → worth m ≤ n → m ≤ low

abbrev pub FollowedSessionsSimulate : Type 0
FollowedSessionsSimulate =
    (by : Comparison)
    → KeepsOrder by
    → (source target : Session)
    → IsMonotone source
    → (worth : ℕ → ℕ)
    → ((n : ℕ) → IsFollowed by source target worth n)
    → Sim by source target × ((m : ℕ) → SourceIsBelow by (source m) (target (worth m)))

-- ---- one translation after the other

abbrev pub HeapsCompose : Type 0
HeapsCompose =
    (first_middle first_target source middle target : List ℕ)
    → take (length first_middle) first_target ≡ first_middle
    → HeapsAgree first_middle source middle
    → HeapsAgree first_target middle target
    → HeapsAgree first_target source target

-- the source's events and end go over twice, and the last session's events and first heap count
abbrev pub composed : Comparison → Comparison → Comparison
composed first second = record {
  source_events = λ events. second.source_events (first.source_events events);
  target_events = second.target_events;
  source_end = λ end. second.source_end (first.source_end end);
  first_heap = second.first_heap;
}

-- where the middle session's events count as they are, and the last session's heap begins as the middle one's
abbrev pub SimulationsCompose : Type 0
SimulationsCompose =
    (first second : Comparison)
    → ((events : List EventPlain) → first.target_events events ≡ events)
    → KeepsOrder second
    → take (length first.first_heap) second.first_heap ≡ first.first_heap
    → (source middle target : Session)
    → Sim first source middle
    → Sim second middle target
    → Sim (composed first second) source target

-- a word of 32 bits, and a session that shows no others
abbrev pub IsNarrow : Word → Type 0
IsNarrow (W32 word) = Unit {0}
IsNarrow (W64 word) = ⊥

abbrev pub HasNarrowWords : EventPlain → Type 0
HasNarrowWords (import_called name args) = AllByRecursion IsNarrow args
HasNarrowWords (call_gave word) = IsNarrow word
HasNarrowWords call_returned = Unit {0}

abbrev pub EndsNarrow : Option EndPlain → Type 0
EndsNarrow (Some (stopped name args)) = AllByRecursion IsNarrow args
EndsNarrow (Some (no_reply name args)) = AllByRecursion IsNarrow args
EndsNarrow (Some done) = Unit {0}
EndsNarrow (Some (trapped kind)) = Unit {0}
EndsNarrow None = Unit {0}

pub record IsNarrowSession (session : Session) : Type 0 where
  pub events : (n : ℕ) → AllByRecursion HasNarrowWords (session n).events
  pub end : (n : ℕ) → EndsNarrow (session n).end

-- from asm.js to WebAssembly and back: foreign names are compared as imports, and the Returned of `$init` is taken away
abbrev pub comparison_there_and_back : List ℕ → Comparison
comparison_there_and_back first_heap = record {
  source_events = map event_to_wasm;
  target_events = without_init;
  source_end = end_to_wasm;
  first_heap = first_heap;
}

-- where the source shows words of 32 bits alone, as asm.js does, and the last session's heap begins as the middle one's
abbrev pub RoundTripSimulates : Type 0
RoundTripSimulates =
    (first_middle first_target : List ℕ)
    → take (length first_middle) first_target ≡ first_middle
    → (source middle target : Session)
    → IsNarrowSession source
    → Sim (comparison_to_wasm first_middle) source middle
    → Sim (comparison_to_asm first_target) middle target
    → Sim (comparison_there_and_back first_target) source target

-- ---- names

abbrev pub DifferentImportsHaveDifferentNames : Type 0
DifferentImportsHaveDifferentNames =
    (module_name field other_module other_field : List ℕ)
    → IsBytes module_name
    → IsBytes field
    → IsBytes other_module
    → IsBytes other_field
    → import_name module_name field ≡ import_name other_module other_field
    → (module_name ≡ other_module) × (field ≡ other_field)

abbrev pub DifferentExportsHaveDifferentNames : Type 0
DifferentExportsHaveDifferentNames =
    (name other : List ℕ) → IsBytes name → IsBytes other → export_name name ≡ export_name other → name ≡ other

-- every name that is made is a plain name
pub record NamesArePlain : Type 0 where
  pub imports : (module_name field : List ℕ) → IsBytes module_name → IsBytes field → is_plain_name (import_name module_name field) ≡ true
  pub exports : (name : List ℕ) → IsBytes name → is_plain_name (export_name name) ≡ true

-- the translation's own exports, and the two fixed imports, have names that no other has
pub record FixedNamesAreKept : Type 0 where
  pub init : (name : List ℕ) → export_name name ≢ codes "$init"
  pub hi : (name : List ℕ) → export_name name ≢ codes "$hi"
  pub trap : (module_name field : List ℕ) → import_name module_name field ≡ trap_name → (module_name ≡ codes "env") × (field ≡ trap_name)
  pub high : (module_name field : List ℕ) → import_name module_name field ≡ high_name → (module_name ≡ codes "env") × (field ≡ high_name)
