-- What clauses see of scripts and observations: plain values.
use Rattle.std.specs.Prelude.{option_map, map}
use Rattle.sem_words.specs.Lists.{text_bytes, list_items}
use Rattle.session_lang.specs.declared.script.Script.{Script}
use Rattle.session_lang.specs.declared.script.GlobalLine.{GlobalLine}
use Rattle.session_lang.specs.declared.script.WriteLine.{WriteLine}
use Rattle.session_lang.specs.declared.script.CallLine.{CallLine}
use Rattle.session_lang.specs.declared.script.ReplyLine.{ReplyLine}
use Rattle.session_lang.specs.declared.script.Reply.{Reply}
use Rattle.session_lang.specs.declared.script.Reply.TheVariants.{Give, Throw}
use Rattle.session_lang.specs.declared.script.CallShape.{CallShape}
use Rattle.session_lang.specs.declared.observation.Event.{Event}
use Rattle.session_lang.specs.declared.observation.Event.TheVariants.{Import, Result, Returned}
use Rattle.session_lang.specs.declared.observation.End.{End}
use Rattle.session_lang.specs.declared.observation.End.TheVariants.{Done, Stopped, NoReply, Trap}
use Rattle.session_lang.specs.declared.observation.Observation.{Observation}
use Rattle.session_lang.specs.CallingForms.{ShapePlain}
use Rattle.session_lang.specs.Script.{GlobalPlain, WritePlain, CallPlain, ReplyPlain, give, throw, ReplyLinePlain, ScriptPlain}
use Rattle.session_lang.specs.Observation.{EventPlain, import_called, call_gave, call_returned, EndPlain, done, stopped, no_reply, trapped, ObservationPlain}

-- ---- scripts

abbrev pub global_of : GlobalLine → GlobalPlain
global_of g = record { name = text_bytes g.name; value = g.value; line = g.line }

abbrev pub write_of : WriteLine → WritePlain
write_of w = record { at = w.at; bytes = text_bytes w.bytes; line = w.line }

abbrev pub call_of : CallLine → CallPlain
call_of c = record { name = text_bytes c.name; args = list_items c.args; line = c.line }

abbrev pub reply_of : Reply → ReplyPlain
reply_of (Give word writes) = give word (map write_of (list_items writes))
reply_of Throw = throw

abbrev pub reply_line_of : ReplyLine → ReplyLinePlain
reply_line_of r = record { reply = reply_of r.reply; line = r.line }

abbrev pub script_of : Script → ScriptPlain
script_of s = record {
  globals = map global_of (list_items s.globals);
  writes = map write_of (list_items s.writes);
  calls = map call_of (list_items s.calls);
  replies = map reply_line_of (list_items s.replies);
}

abbrev pub shape_of : CallShape → ShapePlain
shape_of s = record { key = text_bytes s.key; wide = list_items s.wide; wide_result = s.wide_result }

-- ---- observations

abbrev pub event_of : Event → EventPlain
event_of (Import name args) = import_called (text_bytes name) (list_items args)
event_of (Result word) = call_gave word
event_of Returned = call_returned

abbrev pub end_of : End → EndPlain
end_of Done = done
end_of (Stopped name args) = stopped (text_bytes name) (list_items args)
end_of (NoReply name args) = no_reply (text_bytes name) (list_items args)
end_of (Trap kind) = trapped kind

abbrev pub observation_of : Observation → ObservationPlain
observation_of o = record {
  events = map event_of (list_items o.events);
  end = option_map end_of o.end;
  heap = text_bytes o.heap;
}
