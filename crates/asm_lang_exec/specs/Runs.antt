-- Where a session of asm.js stands, and what a part of a program makes of it.
use Rattle.std.specs.Prelude.{ℕ, zero, suc, List, [], ◌∷◌, ◌++◌, Option, Some, None, bytes_eq, if◌then◌else◌}
use Rattle.sem_words.specs.declared.js_value.JsValue.{JsValue}
use Rattle.session_lang.specs.Imports.{Replies}
use Rattle.session_lang.specs.Observation.{EventPlain, EndPlain}

-- a variable and its value
pub record Binding : Type 0 where
  pub name : List ℕ
  pub value : JsValue

abbrev pub binding : List ℕ → JsValue → Binding
binding n v = record { name = n; value = v }

-- the variables of the function that runs and of the module, the heap's bytes, the replies that are left, the events so far
-- and the units that are left
pub record Place : Type 0 where
  pub locals : List Binding
  pub globals : List Binding
  pub heap : List ℕ
  pub replies : Replies
  pub events : List EventPlain
  pub units : ℕ

-- what a part comes to: it goes on with a value, the session stops, a unit is due and none is left, or an operand is of no kind
-- that the part is for
pub data Run (A : Type 0) : Type 0 where
  goes : A → Place → Run A
  stops : EndPlain → Place → Run A
  spent : Place → Run A
  wrong : Run A

-- a part: what it comes to where the session stands at a place
abbrev pub Part : Type 0 → Type 0
Part A = Place → Run A

abbrev pub after : {A B : Type 0} → Run A → (A → Part B) → Run B
after (goes a p) next = next a p
after (stops e p) next = stops e p
after (spent p) next = spent p
after wrong next = wrong

-- one part, and then another with its value
abbrev pub and_then : {A B : Type 0} → Part A → (A → Part B) → Part B
and_then f next p = after (f p) next

abbrev pub gives : {A : Type 0} → A → Part A
gives a p = goes a p

abbrev pub goes_wrong : {A : Type 0} → Part A
goes_wrong p = wrong

-- the value of an operation, where it has one
abbrev pub defined : {A : Type 0} → Option A → Part A
defined None p = wrong
defined (Some a) p = goes a p

-- ---- units

-- no unit is left
abbrev pub out_of_units : {A : Type 0} → Part A
out_of_units p = spent p

abbrev pub paid : ℕ → Part (Unit {0})
paid zero p = spent p
paid (suc n) p = goes tt (record p { units = n })

-- takes a unit
abbrev pub pay : Part (Unit {0})
pay p = paid p.units p

-- ---- variables

abbrev pub value_in : List Binding → List ℕ → Option JsValue
value_in [] n = None
value_in (b ∷ bs) n = if bytes_eq b.name n then Some b.value else value_in bs n

abbrev pub with_value : List ℕ → JsValue → List Binding → List Binding
with_value n v [] = []
with_value n v (b ∷ bs) = if bytes_eq b.name n then binding b.name v ∷ bs else b ∷ with_value n v bs

-- a local variable hides one of the module
abbrev pub either_value : Option JsValue → Option JsValue → Option JsValue
either_value (Some v) global = Some v
either_value None global = global

abbrev pub read : List ℕ → Part JsValue
read n p = defined (either_value (value_in p.locals n) (value_in p.globals n)) p

abbrev pub written : Option JsValue → Option JsValue → List ℕ → JsValue → Part JsValue
written (Some old) global n v p = goes v (record p { locals = with_value n v p.locals })
written None (Some old) n v p = goes v (record p { globals = with_value n v p.globals })
written None None n v p = wrong

-- writes a variable, and gives its new value
abbrev pub write : List ℕ → JsValue → Part JsValue
write n v p = written (value_in p.locals n) (value_in p.globals n) n v p

abbrev pub back_to : {A : Type 0} → List Binding → A → Part A
back_to locals a p = goes a (record p { locals = locals })

-- a part with local variables of its own; afterwards those from before are back
abbrev pub with_locals : {A : Type 0} → List Binding → Part A → Part A
with_locals locals f p = after (f (record p { locals = locals })) (back_to p.locals)

-- ---- events

abbrev pub add_event : EventPlain → Part (Unit {0})
add_event e p = goes tt (record p { events = p.events ++ e ∷ [] })
