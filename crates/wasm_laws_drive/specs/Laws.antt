-- What holds of `drive`, for every module and state: its equation at each construct.
use Rattle.std.specs.Prelude.{◌≡◌, ℕ, ◌+◌, ◌<◌, ◌≤◌, false, List, [], ◌∷◌, Option, Some, reverse, slice_get}
use Rattle.sem_words.specs.declared.word.Word.{Word}
use Rattle.sem_words.specs.declared.word.Word.TheVariants.{W32, W64}
use Rattle.sem_words.specs.declared.word.TrapKind.TheVariants as kinds
use Rattle.session_lang.specs.Script.{ScriptPlain}
use Rattle.session_lang.specs.Observation.{EventPlain, EndPlain, trapped, IsPrefix, IsBelow}
use Rattle.session_lang.specs.Simulation.{IsMonotone}
use Rattle.wasm_lang.specs.declared.types.ValType.{ValType}
use Rattle.wasm_lang.specs.Instructions.{Plain, const32, const64}
use Rattle.wasm_lang.specs.Modules.{WasmModule}
use Rattle.wasm_lang_exec.specs.Code.{unreachable, block, loop, if_block, br, br_if, br_table, return, call, call_indirect, plain, Trees, ε, ◌▹◌, ◌⊕◌}
use Rattle.wasm_lang_exec.specs.Store.{Store}
use Rattle.wasm_lang_exec.specs.Plain.{do_plain}
use Rattle.wasm_lang_exec.specs.Reductions.{callee_at, Config, Label, Frame, arity_of, choose, default_to}
use Rattle.wasm_lang_exec.specs.Session.{Run, finished, spent, over as ended_by, run, run_call, wasm}
use Rattle.wasm_laws_drive.specs.Drive.{State, Outcome, Next, Branch, Leave, Ended, Stuck, Spent, at, drive, onward}
use Rattle.wasm_laws_drive.specs.Equations.{pay, then_on, take_number, is_constant, after, at_label, at_frame, called, called_by}

-- ---- code

-- no instruction: the values are what the state has
abbrev pub NoCode : Type 0
NoCode = (m : WasmModule) (t : State) → onward m ε t ≡ Next t

-- a constant is no reduction
abbrev pub NarrowConstant : Type 0
NarrowConstant = (m : WasmModule) (n : ℕ) (code : Trees) (t : State) → onward m (plain (const32 n) ▹ code) t ≡ onward m code (record t { values = W32 n ∷ t.values })

abbrev pub WideConstant : Type 0
WideConstant = (m : WasmModule) (n : ℕ) (code : Trees) (t : State) → onward m (plain (const64 n) ▹ code) t ≡ onward m code (record t { values = W64 n ∷ t.values })

abbrev pub PlainInstruction : Type 0
PlainInstruction =
    (m : WasmModule) (p : Plain) (code : Trees) (t : State)
    → is_constant p ≡ false
    → onward m (plain p ▹ code) t ≡ pay t (λ t. after (do_plain p t.values t.locals t.store) t (onward m code))

-- code and then more code
abbrev pub Sequence : Type 0
Sequence = (m : WasmModule) (code more : Trees) (t : State) → onward m (code ⊕ more) t ≡ then_on (onward m code t) (onward m more)

-- ---- control instructions

abbrev pub Unreachable : Type 0
Unreachable = (m : WasmModule) (code : Trees) (t : State) → onward m (unreachable ▹ code) t ≡ pay t (λ t. Ended (trapped kinds.Unreachable) t.store)

abbrev pub Block : Type 0
Block =
    (m : WasmModule) (r : Option ValType) (body code : Trees) (t : State)
    → onward m (block r body ▹ code) t ≡ pay t (λ t. at_label m t.values (arity_of r) ε code (onward m body (record t { values = [] })))

abbrev pub Loop : Type 0
Loop =
    (m : WasmModule) (r : Option ValType) (body code : Trees) (t : State)
    → onward m (loop r body ▹ code) t ≡ pay t (λ t. at_label m t.values 0 (loop r body ▹ ε) code (onward m body (record t { values = [] })))

-- a branch to a loop's label goes to its start, and the loop is executed again
abbrev pub LoopTurn : Type 0
LoopTurn =
    (m : WasmModule) (r : Option ValType) (values : List Word) (body code : Trees) (t : State)
    → at_label m values 0 (loop r body ▹ ε) code (Branch 0 t) ≡ onward m (loop r body ▹ code) (record t { values = values })

abbrev pub If : Type 0
If =
    (m : WasmModule) (r : Option ValType) (first second code : Trees) (t : State)
    → onward m (if_block r first second ▹ code) t
    ≡ pay t (λ t. take_number t.values t (λ c t. at_label m t.values (arity_of r) ε code (onward m (choose c first second) (record t { values = [] }))))

abbrev pub Br : Type 0
Br = (m : WasmModule) (l : ℕ) (code : Trees) (t : State) → onward m (br l ▹ code) t ≡ pay t (λ t. Branch l t)

abbrev pub BrIf : Type 0
BrIf =
    (m : WasmModule) (l : ℕ) (code : Trees) (t : State)
    → onward m (br_if l ▹ code) t ≡ pay t (λ t. take_number t.values t (λ c t. choose c (Branch l t) (onward m code t)))

abbrev pub BrTable : Type 0
BrTable =
    (m : WasmModule) (ls : List ℕ) (d : ℕ) (code : Trees) (t : State)
    → onward m (br_table ls d ▹ code) t ≡ pay t (λ t. take_number t.values t (λ i t. Branch (default_to d (slice_get ls i)) t))

abbrev pub Return : Type 0
Return = (m : WasmModule) (code : Trees) (t : State) → onward m (return ▹ code) t ≡ pay t (λ t. Leave t)

-- a call and the entry of its function are one reduction, and so is the call of an import
abbrev pub Call : Type 0
Call = (m : WasmModule) (f : ℕ) (code : Trees) (t : State) → onward m (call f ▹ code) t ≡ pay t (λ t. called m (callee_at m f) code t)

abbrev pub CallIndirect : Type 0
CallIndirect =
    (m : WasmModule) (type : ℕ) (code : Trees) (t : State)
    → onward m (call_indirect type ▹ code) t ≡ pay t (λ t. take_number t.values t (λ i t. called_by m type (slice_get t.store.table i) code t))

-- ---- configurations

abbrev pub ThroughLabel : Type 0
ThroughLabel =
    (m : WasmModule) (n : ℕ) (values : List Word) (arity : ℕ) (continuation : Trees) (inside : Config) (code : Trees) (locals : List Word) (s : Store)
    → drive m n (Label values arity continuation inside code) locals s ≡ at_label m values arity continuation code (drive m n inside locals s)

abbrev pub ThroughFrame : Type 0
ThroughFrame =
    (m : WasmModule) (n : ℕ) (values : List Word) (arity : ℕ) (inner : List Word) (inside : Config) (code : Trees) (locals : List Word) (s : Store)
    → drive m n (Frame values arity inner inside code) locals s ≡ at_frame m values arity code locals (drive m n inside inner s)

-- ---- how many reductions

-- those that are left are at most n, and fewer where a branch or a return is paid
abbrev pub Within : ℕ → Outcome → Type 0
Within n (Next t) = t.left ≤ n
Within n (Branch k t) = t.left < n
Within n (Leave t) = t.left < n
Within n (Ended e s) = Unit {0}
Within n (Stuck s) = Unit {0}
Within n (Spent s) = Unit {0}

abbrev pub NoMoreAreLeft : Type 0
NoMoreAreLeft = (m : WasmModule) (n : ℕ) (c : Config) (locals : List Word) (s : Store) → Within n (drive m n c locals s)

abbrev pub events_of : Outcome → List EventPlain
events_of (Next t) = t.store.events
events_of (Branch k t) = t.store.events
events_of (Leave t) = t.store.events
events_of (Ended e s) = s.events
events_of (Stuck s) = s.events
events_of (Spent s) = s.events

-- k further reductions are left where some are, and change nothing else; where they were used up, the events stay
abbrev pub Adds : ℕ → Outcome → Outcome → Type 0
Adds k (Next t) later = later ≡ Next (record t { left = t.left + k })
Adds k (Branch l t) later = later ≡ Branch l (record t { left = t.left + k })
Adds k (Leave t) later = later ≡ Leave (record t { left = t.left + k })
Adds k (Ended e s) later = later ≡ Ended e s
Adds k (Stuck s) later = later ≡ Stuck s
Adds k (Spent s) later = IsPrefix s.events (events_of later)

abbrev pub MoreOnlyAdd : Type 0
MoreOnlyAdd = (m : WasmModule) (n k : ℕ) (c : Config) (locals : List Word) (s : Store) → Adds k (drive m n c locals s) (drive m (n + k) c locals s)

-- the events that were there stay
abbrev pub EventsStay : Type 0
EventsStay = (m : WasmModule) (n : ℕ) (c : Config) (locals : List Word) (s : Store) → IsPrefix s.events (events_of (drive m n c locals s))

-- ---- sessions

-- what a call of the host comes to
abbrev pub run_of : Outcome → Run
run_of (Next t) = finished t.values t.store t.left
run_of (Branch k t) = spent t.store
run_of (Leave t) = spent t.store
run_of (Ended e s) = ended_by e s
run_of (Stuck s) = spent s
run_of (Spent s) = spent s

abbrev pub RunIsDriven : Type 0
RunIsDriven = (m : WasmModule) (n : ℕ) (c : Config) (locals : List Word) (s : Store) → run m n c locals s ≡ run_of (drive m n c locals s)

-- a call of the host enters its function, or calls its import, with one reduction
abbrev pub HostCall : Type 0
HostCall =
    (m : WasmModule) (n f : ℕ) (arguments : List Word) (s : Store)
    → run_call m n f arguments s ≡ run_of (pay (at (reverse arguments) [] s n) (λ t. called m (callee_at m f) ε t))

abbrev pub SessionsAreMonotone : Type 0
SessionsAreMonotone = (m : WasmModule) (script : ScriptPlain) → IsMonotone (wasm m script)

-- more reductions only add to what is seen of a session
abbrev pub SessionsGrow : Type 0
SessionsGrow = (m : WasmModule) (script : ScriptPlain) (few many : ℕ) → few ≤ many → IsBelow (wasm m script few) (wasm m script many)

-- once a session has ended, more reductions change nothing
abbrev pub EndedSessionsStay : Type 0
EndedSessionsStay = (m : WasmModule) (script : ScriptPlain) (n k : ℕ) (e : EndPlain) → (wasm m script n).end ≡ Some e → wasm m script (n + k) ≡ wasm m script n
