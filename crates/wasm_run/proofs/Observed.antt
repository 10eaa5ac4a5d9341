-- What is seen of a session with an end, or without one.
use Rattle.std.proofs.Common.{◌≡◌, Option, Some, None, refl}
use Rattle.std.specs.Prelude.{option_map}
use Rattle.session_lang.specs.declared.observation.End.{End}
use Rattle.session_lang.specs.Observation.{ObservationPlain}
use Rattle.session_lang.specs.Views.{end_of}
use Rattle.session_replies.specs.Views.{heap_at}
use Rattle.wasm_lang_exec.specs.Store.{Store}
use Rattle.wasm_run.specs.Runs.{seen_as}

abbrev at_end : Option End → Store → ObservationPlain
at_end end s = record { events = s.events; end = option_map end_of end; heap = heap_at end s.memory }

pub seen_at : (end : Option End) (s : Store) → at_end end s ≡ seen_as end s
seen_at None s = refl
seen_at (Some e) s = refl
