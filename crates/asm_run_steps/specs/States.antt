-- Where a machine stands, as a state of the definitions.
use Rattle.std.specs.Prelude.{ℕ, List, map, reverse}
use Rattle.asm_run_code.specs.Machine as code
use Rattle.asm_run_code.specs.Machine.{State}
use Rattle.asm_run_steps.specs.Plain.{WordsPlain}
use Rattle.asm_run_steps.specs.Worlds.{WorldPlain, world_of}
use Rattle.asm_run_steps.specs.declared.machine.Caller.{Caller}
use Rattle.asm_run_steps.specs.declared.machine.Machine.{Machine}

abbrev pub Callers : Type 0
Callers = List code.Caller

abbrev pub state_in : (function at : ℕ) → Callers → WordsPlain → WorldPlain → State
state_in function at callers w v = record {
  function = function;
  at = at;
  base = w.base;
  words = w.all;
  callers = callers;
  globals = v.globals;
  heap = v.heap;
  replies = v.replies;
  events = v.events;
  units = v.units;
}

abbrev pub caller_of : Caller → code.Caller
caller_of c = record { function = c.function; at = c.at; base = c.base }

-- the innermost first
abbrev pub callers_of : List Caller → Callers
callers_of cs = map caller_of (reverse cs)

abbrev pub state_of : Machine → State
state_of m = state_in m.function m.at (callers_of m.callers.items) m.words (world_of m.world)
