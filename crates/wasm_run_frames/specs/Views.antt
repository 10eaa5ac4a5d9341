-- What the machine stands for as plain values.
use Rattle.std.specs.Prelude.{List, map, reverse}
use Rattle.sem_words.specs.Lists.{list_items}
use Rattle.session_lang.specs.Views.{event_of}
use Rattle.session_replies.specs.Answers.{replies_of}
use Rattle.wasm_run_operands.specs.Effects.{store_of}
use Rattle.wasm_laws_machine.specs.Machine.{LabelPlain, FramePlain, EnclosingPlain, of_label, of_frame, MachinePlain}
use Rattle.wasm_run_frames.specs.declared.machine.Label.{Label}
use Rattle.wasm_run_frames.specs.declared.machine.Frame.{Frame}
use Rattle.wasm_run_frames.specs.declared.machine.Enclosing.{Enclosing}
use Rattle.wasm_run_frames.specs.declared.machine.Enclosing.TheVariants as enclosing
use Rattle.wasm_run_frames.specs.declared.machine.Machine.{Machine}

abbrev pub label_of : Label → LabelPlain
label_of l = record { target = l.target; arity = l.arity; floor = l.floor }

abbrev pub frame_of : Frame → FramePlain
frame_of f = record { function = f.function; at = f.at; locals = f.locals.items; arity = f.arity; floor = f.floor }

abbrev pub enclosing_of : Enclosing → EnclosingPlain
enclosing_of (enclosing.Label l) = of_label (label_of l)
enclosing_of (enclosing.Frame f) = of_frame (frame_of f)

abbrev pub all_enclosing : List Enclosing → List EnclosingPlain
all_enclosing es = reverse (map enclosing_of es)

abbrev pub machine_of : Machine → MachinePlain
machine_of v = record {
  values = v.operands.values;
  below = v.operands.below;
  locals = v.locals.items;
  function = v.function;
  at = v.at;
  enclosing = all_enclosing v.enclosing.items;
  store = store_of v.state (map event_of (list_items v.events)) (replies_of v.replies);
}
