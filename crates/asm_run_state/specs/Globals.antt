-- The module's variables as a session begins.
use Rattle.std.specs.Prelude.{ℕ, List, [], Option, option_map}
use Rattle.sem_words.specs.JsValues.{to_uint32_of}
use Rattle.session_lang.specs.Script.{GlobalPlain, ScriptPlain}
use Rattle.session_lang.specs.Imports.{first_replies}
use Rattle.asm_lang.specs.Trees.{Init}
use Rattle.asm_lang.specs.Modules.{Module}
use Rattle.asm_lang_exec.specs.Session as session
use Rattle.asm_lang_exec.specs.Session.{first_heap}
use Rattle.asm_run_code.specs.Sessions.{words_of}
use Rattle.asm_run_steps.specs.Worlds.{WorldPlain}

-- the script that has these lines of globals and nothing else
abbrev pub only_globals : List GlobalPlain → ScriptPlain
only_globals gs = record { globals = gs; writes = []; calls = []; replies = [] }

-- the word of the first value of a variable, if the declaration is of one
abbrev pub global_word : List GlobalPlain → Init → Option ℕ
global_word gs i = option_map to_uint32_of (session.global_value (only_globals gs) i)

-- where a session begins
abbrev pub first_world : Module → (heap_length : ℕ) → ScriptPlain → (units : ℕ) → WorldPlain
first_world m length script units = record {
  globals = words_of (session.first_globals script m.globals);
  heap = first_heap m length script;
  replies = first_replies script;
  events = [];
  units = units;
}
