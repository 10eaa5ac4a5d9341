-- What a session changes beside the words of functions, as plain values.
use Rattle.std.specs.Prelude.{ℕ, List, ◌++◌, map, Option, Some, None}
use Rattle.sem_words.specs.Lists.{list_items}
use Rattle.session_lang.specs.Imports.{Replies, ImportAnswer, goes_on, ends, low_word}
use Rattle.session_lang.specs.Observation.{EventPlain, EndPlain}
use Rattle.session_lang.specs.Views.{event_of, end_of}
use Rattle.session_replies.specs.Answers.{replies_of}
use Rattle.asm_lang_exec.specs.Values.{with_writes}
use Rattle.asm_run_steps.specs.declared.world.World.{World}

pub record WorldPlain : Type 0 where
  pub globals : List ℕ
  pub heap : List ℕ
  pub replies : Replies
  pub events : List EventPlain
  pub units : ℕ

abbrev pub world_of : World → WorldPlain
world_of w = record {
  globals = w.globals.items;
  heap = w.heap;
  replies = replies_of w.replies;
  events = map event_of (list_items w.events);
  units = w.units;
}

-- what a call of an import comes to: the session goes on with a word, or it is over
pub data Asked : Type 0 where
  goes : ℕ → WorldPlain → Asked
  stops : EndPlain → WorldPlain → Asked

abbrev pub asked_of : Option ℕ → World → Asked
asked_of None w = stops (end_of w.ending) (world_of w)
asked_of (Some word) w = goes word (world_of w)

abbrev pub answered : ImportAnswer → WorldPlain → Asked
answered (ends e) w = stops e w
answered (goes_on g) w = goes (low_word g.word) (record w { heap = with_writes g.writes w.heap; replies = g.replies; events = w.events ++ g.events })
