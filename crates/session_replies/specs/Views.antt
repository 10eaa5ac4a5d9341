-- What clauses see of a session, with its heap as it stands.
use Rattle.std.specs.Prelude.{ℕ, List, [], Option, Some, None, map, option_map}
use Rattle.sem_words.specs.Lists.{list_items}
use Rattle.session_lang.specs.declared.observation.End.{End}
use Rattle.session_lang.specs.Observation.{ObservationPlain}
use Rattle.session_lang.specs.Views.{event_of, end_of}
use Rattle.session_replies.specs.declared.seen.Seen.{Seen}

-- the heap's bytes count at an end alone
abbrev pub heap_at : Option End → List ℕ → List ℕ
heap_at None heap = []
heap_at (Some e) heap = heap

abbrev pub seen_of : Seen → ObservationPlain
seen_of s = record {
  events = map event_of (list_items s.events);
  end = option_map end_of s.end;
  heap = heap_at s.end s.heap;
}
