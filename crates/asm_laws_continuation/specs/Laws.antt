-- A construct that is given what comes after it does what the construct does, and then that.
use Rattle.std.specs.Prelude.{◌≡◌, ℕ, ◌≤◌, Bool, List, [], Option, false}
use Rattle.sem_words.specs.declared.js_value.JsValue.{JsValue}
use Rattle.session_lang.specs.Script.{CallPlain}
use Rattle.asm_lang.specs.Modules.{Expr, Stmt, Function, Module}
use Rattle.asm_lang_valid.specs.Typing.{Scope}
use Rattle.asm_lang_exec.specs.Runs.{Place, Part, and_then}
use Rattle.asm_lang_exec.specs.Values.{Calls}
use Rattle.asm_lang_exec.specs.Meaning.{eval, turns, do_turns, exec_test, exec_part, exec, call_at}
use Rattle.asm_lang_exec.specs.Session.{host_calls}
use Rattle.asm_laws_continuation.specs.Following.{Before, CallsBefore, eval_to, exec_to, call_at_to, host_calls_to}

-- the second is the first with what comes after it, whatever that is; a whole session has no value
abbrev pub Follows : {A : Type 0} → Part A → Before (Unit {0}) A → Type 0
Follows {A} f g = (next : A → Part (Unit {0})) (p : Place) → g next p ≡ and_then f next p

abbrev pub AllFollow : Calls → CallsBefore (Unit {0}) → Type 0
AllFollow calls calls_to = (f : Function) (vs : List JsValue) → Follows (calls f vs) (calls_to f vs)

abbrev pub ExpressionsFollow : Type 0
ExpressionsFollow = (calls : Calls) (calls_to : CallsBefore (Unit {0})) (c : Scope) (e : Expr) → AllFollow calls calls_to → Follows (eval false calls c e) (eval_to calls_to c e)

abbrev pub StatementsFollow : Type 0
StatementsFollow =
    (calls : Calls) (calls_to : CallsBefore (Unit {0})) (c : Scope) (bound : ℕ) (own : List (List ℕ)) (s : Stmt) → AllFollow calls calls_to
    → Follows (exec false calls c bound own s) (exec_to calls_to c bound own s)

abbrev pub CallsFollow : Type 0
CallsFollow = (m : Module) (bound : ℕ) → AllFollow (call_at false m bound) (call_at_to m bound)

abbrev pub SessionsFollow : Type 0
SessionsFollow = (m : Module) (bound : ℕ) (cs : List CallPlain) → Follows (host_calls (call_at false m bound) m cs) (host_calls_to (call_at_to m bound) m cs)

-- ---- bounds: from a place with no more units, a larger one gives the same

abbrev pub CallsAreBounded : Type 0
CallsAreBounded =
    (checks : Bool) (m : Module) (n bound : ℕ) (f : Function) (vs : List JsValue) (p : Place) → p.units ≤ n → n ≤ bound
    → call_at checks m bound f vs p ≡ call_at checks m n f vs p

-- of `while` and `for`
abbrev pub TurnsAreBounded : Type 0
TurnsAreBounded =
    (checks : Bool) (m : Module) (c : Scope) (n bound : ℕ) (own : List (List ℕ)) (y z : Option Expr) (s : Stmt) (p : Place) → p.units ≤ n → n ≤ bound
    → turns own bound (exec_test checks (call_at checks m bound) c bound y) (exec checks (call_at checks m bound) c bound [] s) (exec_part checks (call_at checks m bound) c bound z) p
    ≡ turns own n (exec_test checks (call_at checks m bound) c bound y) (exec checks (call_at checks m bound) c bound [] s) (exec_part checks (call_at checks m bound) c bound z) p

abbrev pub DoTurnsAreBounded : Type 0
DoTurnsAreBounded =
    (checks : Bool) (m : Module) (c : Scope) (n bound : ℕ) (own : List (List ℕ)) (y : Option Expr) (s : Stmt) (p : Place) → p.units ≤ n → n ≤ bound
    → do_turns own bound (exec checks (call_at checks m bound) c bound [] s) (exec_test checks (call_at checks m bound) c bound y) p
    ≡ do_turns own n (exec checks (call_at checks m bound) c bound [] s) (exec_test checks (call_at checks m bound) c bound y) p
