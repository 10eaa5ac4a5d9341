-- What the host sees of a session, and when one sight of it is below a later one.
use Rattle.std.specs.Prelude.{◌≡◌, ℕ, List, [], ◌∷◌, ◌++◌, Option, Some, None, codes, option_map}
use Rattle.sem_words.specs.declared.word.Word.{Word}
use Rattle.sem_words.specs.declared.word.Word.TheVariants.{W32}
use Rattle.sem_words.specs.declared.word.TrapKind.{TrapKind}
use Rattle.sem_words.specs.Words.{trap_code}

pub data EventPlain : Type 0 where
  -- an import was called with these words
  import_called : (name : List ℕ) → (args : List Word) → EventPlain
  -- a call of the script came back with a word, or without a result
  call_gave : (word : Word) → EventPlain
  call_returned : EventPlain

pub data EndPlain : Type 0 where
  -- all calls of the script came back
  done : EndPlain
  -- an import threw, or `$trap` was called
  stopped : (name : List ℕ) → (args : List Word) → EndPlain
  -- an import was called and no reply was left
  no_reply : (name : List ℕ) → (args : List Word) → EndPlain
  -- WebAssembly trapped
  trapped : (kind : TrapKind) → EndPlain

-- the events so far, then perhaps an end and the heap's bytes at it; with no end the session is still running
pub record ObservationPlain : Type 0 where
  pub events : List EventPlain
  pub end : Option EndPlain
  pub heap : List ℕ

-- what is seen of a session that is still running, and of one that has ended
abbrev pub running : List EventPlain → ObservationPlain
running events = record { events = events; end = None; heap = [] }

abbrev pub ended : List EventPlain → EndPlain → List ℕ → ObservationPlain
ended events end heap = record { events = events; end = Some end; heap = heap }

-- the import whose call stands for a trap
abbrev pub trap_name : List ℕ
trap_name = codes "$trap"

-- an end, with a trap as the stop by the trap import that is called with the trap's number
abbrev pub as_stop : EndPlain → EndPlain
as_stop done = done
as_stop (stopped name args) = stopped name args
as_stop (no_reply name args) = no_reply name args
as_stop (trapped kind) = stopped trap_name (W32 (trap_code kind) ∷ [])

-- the second list begins with the first
abbrev pub IsPrefix : List EventPlain → List EventPlain → Type 0
IsPrefix front whole = (more : List EventPlain) × (whole ≡ front ++ more)

-- both show the same events, end and heap, where a trap and the trap import are equal
pub record IsSame (x y : ObservationPlain) : Type 0 where
  pub events : x.events ≡ y.events
  pub end : option_map as_stop x.end ≡ option_map as_stop y.end
  pub heap : x.heap ≡ y.heap

abbrev pub BelowFrom : Option EndPlain → ObservationPlain → ObservationPlain → Type 0
BelowFrom None x y = IsPrefix x.events y.events
BelowFrom (Some e) x y = IsSame x y

-- x has ended and y is the same; or x hasn't ended and y goes on from its events
abbrev pub IsBelow : ObservationPlain → ObservationPlain → Type 0
IsBelow x y = BelowFrom x.end x y
