use Rattle.std.proofs.Common.{◌≡◌, ◌++◌, take, map}
use Rattle.session_lang.specs.Views.{event_of}
use Rattle.script_lang.specs.Texts.{event_lines}
use Rattle.session_print.proofs.lines.push_events.Given as goal

abbrev pub invariant-loop-event : goal.invariant-loop-event
invariant-loop-event l = l.out.items ≡ l.initial.out.items ++ event_lines (map event_of (take l.event-index l.events))
