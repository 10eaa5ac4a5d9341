-- The state of the machine at a place of a function's run: its variables stand in the slots from the frame's base on, and all else that a
-- place has the state has too.
use Rattle.std.specs.Prelude.{◌≡◌, ℕ, suc, ◌+◌, ◌<◌, ◌≤◌, List, [], ◌∷◌, ◌++◌, length, reverse, Option, Some, None, slice_get}
use Rattle.sem_words.specs.declared.js_value.JsValue.{JsValue}
use Rattle.sem_words.specs.JsValues.{to_uint32_of}
use Rattle.session_lang.specs.Observation.{EndPlain}
use Rattle.asm_lang.specs.Modules.{Function, Module}
use Rattle.asm_lang_exec.specs.Runs.{Place, Run, goes, stops, spent, wrong, Part}
use Rattle.asm_lang_exec.specs.Values.{Calls}
use Rattle.asm_run_laws.specs.Places.{Holds}
use Rattle.asm_run_code.specs.declared.op.Op.{Op}
use Rattle.asm_run_code.specs.Slots.{get, put}
use Rattle.asm_run_code.specs.Values.{Before}
use Rattle.asm_run_code.specs.Machine.{Flat, Codes, Caller, State, going, halts, unpaid, step, calls, Leads}
use Rattle.asm_run_code.specs.Names.{first_free}
use Rattle.asm_run_code.specs.Sessions.{words_of}

-- a module with its code and the length of its heap
pub record Setting : Type 0 where
  pub codes : Codes
  pub home : Module
  pub heap : ℕ

-- a function that runs: its number, its code in the order in which it runs, where its slots begin, and who waits for it
pub record Frame : Type 0 where
  pub within : Function
  pub number : ℕ
  pub whole : List Op
  pub base : ℕ
  pub callers : List Caller

-- the code is that of the function
pub record IsFrame (s : Setting) (x : Frame) : Type 0 where
  pub flat : Flat
  pub found : slice_get s.codes.functions x.number ≡ Some flat
  pub stored : flat.code ≡ reverse x.whole

-- the rest of a function's code
abbrev pub Ends : List Op → List Op → Type 0
Ends whole code = (front : List Op) × (front ++ code ≡ whole)

abbrev pub state : Frame → (at : ℕ) → (words : List ℕ) → Place → State
state x at ws p = record {
  function = x.number;
  at = at;
  base = x.base;
  words = ws;
  callers = x.callers;
  globals = words_of p.globals;
  heap = p.heap;
  replies = p.replies;
  events = p.events;
  units = p.units;
}

-- each variable of the function stands in its slot
abbrev pub Locals : Frame → List ℕ → Place → Type 0
Locals x ws p = (i : ℕ) → i < first_free x.within → get ws (x.base + i) ≡ get (words_of p.locals) i

pub record Standing (s : Setting) (x : Frame) (ws : List ℕ) (p : Place) : Type 0 where
  pub holds : Holds s.home s.heap x.within p
  pub locals : Locals x ws p

-- what stood below the frame, and from its first free slot up to slot d, stands there still
pub record Kept (x : Frame) (d : ℕ) (old new : List ℕ) : Type 0 where
  pub below : (i : ℕ) → i < x.base → get new i ≡ get old i
  pub between : (i : ℕ) → first_free x.within ≤ i → i < d → get new (x.base + i) ≡ get old (x.base + i)

-- ---- what comes of a state

-- what is known of a result, of the place, and of the address and the words with which the frame goes on
abbrev pub Shows : Type 0 → Type 1
Shows A = A → Place → (at : ℕ) → (words : List ℕ) → Type 0

pub record Goes (s : Setting) (x : Frame) {A : Type 0} (shows : Shows A) (n : ℕ) (t : State) (a : A) (q : Place) : Type 0 where
  pub at : ℕ
  pub words : List ℕ
  pub leads : Leads s.codes t (going (state x at words q))
  pub shown : shows a q at words
  pub few : q.units ≤ n

pub record Halts (s : Setting) (t : State) (e : EndPlain) (q : Place) : Type 0 where
  pub last : State
  pub leads : Leads s.codes t (halts e last)
  pub events : last.events ≡ q.events
  pub heap : last.heap ≡ q.heap

pub record Spends (s : Setting) (t : State) (q : Place) : Type 0 where
  pub last : State
  pub leads : Leads s.codes t (unpaid last)
  pub events : last.events ≡ q.events

-- the state does what a run says, which leaves at most n units; where the run is wrong nothing is asked
abbrev pub Does : (s : Setting) → (x : Frame) → {A : Type 0} → Shows A → (n : ℕ) → State → Run A → Type 0
Does s x shows n t (goes a q) = Goes s x shows n t a q
Does s x shows n t (stops e q) = Halts s t e q
Does s x shows n t (spent q) = Spends s t q
Does s x shows n t wrong = Unit {0}

-- ---- values

abbrev pub word : JsValue → ℕ
word v = to_uint32_of v

abbrev pub with_wanted : Frame → Option ℕ → List ℕ → (word : ℕ) → List ℕ
with_wanted x None ws w = ws
with_wanted x (Some to) ws w = put ws (x.base + to) w

-- the frame goes on at an address with the value where it is wanted; before the last write what is kept was kept
pub record Shown (s : Setting) (x : Frame) (d : ℕ) (wanted : Option ℕ) (at : ℕ) (old : List ℕ) (v : JsValue) (q : Place) (here : ℕ) (new : List ℕ) : Type 0 where
  pub words : List ℕ
  pub standing : Standing s x words q
  pub kept : Kept x d old words
  pub there : here ≡ at
  pub then_words : (i : ℕ) → get new i ≡ get (with_wanted x wanted words (word v)) i

-- .. with the value in a slot
pub record Seated (s : Setting) (x : Frame) (d slot : ℕ) (at : ℕ) (old : List ℕ) (v : JsValue) (q : Place) (here : ℕ) (new : List ℕ) : Type 0 where
  pub standing : Standing s x new q
  pub kept : Kept x d old new
  pub there : here ≡ at
  pub value : get new (x.base + slot) ≡ word v

-- ---- parts of a function's code

-- code does what a part says, and puts its value where it is wanted, where no more units are left than the limit
pub record Done (s : Setting) (x : Frame) (limit d : ℕ) (wanted : Option ℕ) (code : Before) (part : Part JsValue) : Type 0 where
  pub by : (rest : List Op) (ws : List ℕ) (p : Place) → Ends x.whole (code rest) → Standing s x ws p → p.units ≤ limit
      → Does s x (Shown s x d wanted (length rest) ws) p.units (state x (length (code rest)) ws p) (part p)

-- ---- calls

-- the arguments stand in slots from d on
abbrev pub Args : Frame → List ℕ → (d : ℕ) → List JsValue → Type 0
Args x ws d [] = Unit {0}
Args x ws d (v ∷ vs) = (get ws (x.base + d) ≡ word v) × Args x ws (suc d) vs

-- a call of a function of the module, by its number: the value comes into slot d
abbrev pub OwnDone : (s : Setting) (limit : ℕ) (own : Calls) → Type 0
OwnDone s limit own =
    (x : Frame) (g : Function) (n d at : ℕ) (vs : List JsValue) (t : State) (ws : List ℕ) (p : Place) → slice_get s.home.functions n ≡ Some g → first_free x.within ≤ d → length vs ≡ length g.params
    → Standing s x ws p → Args x ws d vs → p.units ≤ limit → step s.codes t ≡ calls s.codes n d (state x at ws p)
    → Does s x (Seated s x d d at ws) p.units t (own g vs p)
