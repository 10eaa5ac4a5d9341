-- What one instruction does in its surroundings: an equation for each, as an interpreter with a stack of labels and frames steps.
use Rattle.std.specs.Prelude.{◌≡◌, ℕ, suc, false, List, [], ◌∷◌, ◌++◌, length, Option, Some, reverse, slice_get, if◌then◌else◌}
use Rattle.sem_words.specs.declared.word.Word.{Word}
use Rattle.sem_words.specs.declared.word.TrapKind.TheVariants as kinds
use Rattle.session_lang.specs.Observation.{trapped}
use Rattle.session_lang.specs.Imports.{ImportAnswer, goes_on, ends, answer_import}
use Rattle.wasm_lang.specs.declared.types.ValType.{ValType}
use Rattle.wasm_lang.specs.Instructions.{Plain}
use Rattle.wasm_lang.specs.Modules.{WasmModule}
use Rattle.wasm_lang_exec.specs.Code.{unreachable, block, loop, if_block, br, br_if, br_table, return, call, call_indirect, plain, Trees, ε, ◌▹◌, ◌⊕◌}
use Rattle.wasm_lang_exec.specs.Store.{zeros_of}
use Rattle.wasm_lang_exec.specs.Plain.{do_plain}
use Rattle.wasm_lang_exec.specs.Reductions.{Callee, an_import, a_function, callee_at, params_of, top_of, below_top, result_word, of_type, arity_of, choose, default_to}
use Rattle.wasm_laws_drive.specs.Drive.{State, Outcome, Branch, Leave, Ended, Stuck, onward}
use Rattle.wasm_laws_drive.specs.Equations.{pay, take_number, take_values, over, is_constant, after, answered}
use Rattle.wasm_laws_drive.specs.Contexts.{Surrounding, in_label, in_frame, closed}

module _ (m : WasmModule) (around : List Surrounding) where
  -- on with this code
  abbrev pub goes_with : Trees → State → Outcome
  goes_with code t = closed m around (onward m code t)

  -- inside a block that is entered: its values begin anew
  abbrev pub in_block : ℕ → Trees → Trees → Trees → State → Outcome
  in_block n continuation body code t = closed m (in_label t.values n continuation code ∷ around) (onward m body (record t { values = [] }))

  abbrev pub after_answer : ImportAnswer → List ValType → Trees → State → Outcome
  after_answer (ends e) results code t = Ended e t.store
  after_answer (goes_on g) results code t = goes_with code (record t { values = result_word results g.word ++ t.values; store = answered g t.store })

  -- a call with its arguments, the last first; the values are those below them
  abbrev pub in_function : Option Callee → Option (List Word) → Trees → State → Outcome
  in_function (Some (an_import name f)) (Some arguments) code t = after_answer (answer_import name (reverse arguments) t.store.replies) f.results code t
  in_function (Some (a_function f more body)) (Some arguments) code t =
      closed m (in_frame t.values (length f.results) code t.locals ∷ around) (onward m body (record t { values = []; locals = reverse arguments ++ zeros_of more }))
  in_function _ arguments code t = Stuck t.store

  abbrev pub in_call : Option Callee → Trees → State → Outcome
  in_call c code t = in_function c (top_of (params_of c) t.values) code (record t { values = below_top (params_of c) t.values })

  abbrev pub in_entry : ℕ → Option (Option ℕ) → Trees → State → Outcome
  in_entry type (Some (Some f)) code t =
      if of_type (slice_get m.types type) (callee_at m f) then in_call (callee_at m f) code t else Ended (trapped kinds.OtherType) t.store
  in_entry type _ code t = Ended (trapped kinds.TableEntry) t.store

  -- the values that leave a frame, in the caller's code
  abbrev pub to_caller : List Word → Trees → List Word → List Word → State → Outcome
  to_caller values code locals top t = goes_with code (record (over values top t) { locals = locals })

-- ---- instructions

abbrev pub PlainStep : Type 0
PlainStep =
    (m : WasmModule) (around : List Surrounding) (p : Plain) (code : Trees) (t : State)
    → is_constant p ≡ false
    → goes_with m around (plain p ▹ code) t ≡ pay t (λ t. after (do_plain p t.values t.locals t.store) t (goes_with m around code))

abbrev pub UnreachableStep : Type 0
UnreachableStep = (m : WasmModule) (around : List Surrounding) (code : Trees) (t : State) → goes_with m around (unreachable ▹ code) t ≡ pay t (λ t. Ended (trapped kinds.Unreachable) t.store)

abbrev pub BlockStep : Type 0
BlockStep =
    (m : WasmModule) (around : List Surrounding) (r : Option ValType) (body code : Trees) (t : State)
    → goes_with m around (block r body ▹ code) t ≡ pay t (in_block m around (arity_of r) ε body code)

abbrev pub LoopStep : Type 0
LoopStep =
    (m : WasmModule) (around : List Surrounding) (r : Option ValType) (body code : Trees) (t : State)
    → goes_with m around (loop r body ▹ code) t ≡ pay t (in_block m around 0 (loop r body ▹ ε) body code)

abbrev pub IfStep : Type 0
IfStep =
    (m : WasmModule) (around : List Surrounding) (r : Option ValType) (first second code : Trees) (t : State)
    → goes_with m around (if_block r first second ▹ code) t ≡ pay t (λ t. take_number t.values t (λ c. in_block m around (arity_of r) ε (choose c first second) code))

abbrev pub BrStep : Type 0
BrStep = (m : WasmModule) (around : List Surrounding) (l : ℕ) (code : Trees) (t : State) → goes_with m around (br l ▹ code) t ≡ pay t (λ t. closed m around (Branch l t))

abbrev pub BrIfStep : Type 0
BrIfStep =
    (m : WasmModule) (around : List Surrounding) (l : ℕ) (code : Trees) (t : State)
    → goes_with m around (br_if l ▹ code) t ≡ pay t (λ t. take_number t.values t (λ c t. choose c (closed m around (Branch l t)) (goes_with m around code t)))

abbrev pub BrTableStep : Type 0
BrTableStep =
    (m : WasmModule) (around : List Surrounding) (ls : List ℕ) (d : ℕ) (code : Trees) (t : State)
    → goes_with m around (br_table ls d ▹ code) t ≡ pay t (λ t. take_number t.values t (λ i t. closed m around (Branch (default_to d (slice_get ls i)) t)))

abbrev pub ReturnStep : Type 0
ReturnStep = (m : WasmModule) (around : List Surrounding) (code : Trees) (t : State) → goes_with m around (return ▹ code) t ≡ pay t (λ t. closed m around (Leave t))

abbrev pub CallStep : Type 0
CallStep = (m : WasmModule) (around : List Surrounding) (f : ℕ) (code : Trees) (t : State) → goes_with m around (call f ▹ code) t ≡ pay t (in_call m around (callee_at m f) code)

abbrev pub CallIndirectStep : Type 0
CallIndirectStep =
    (m : WasmModule) (around : List Surrounding) (type : ℕ) (code : Trees) (t : State)
    → goes_with m around (call_indirect type ▹ code) t ≡ pay t (λ t. take_number t.values t (λ i t. in_entry m around type (slice_get t.store.table i) code t))

-- ---- ends, branches and returns

abbrev pub EndOfLabel : Type 0
EndOfLabel =
    (m : WasmModule) (around : List Surrounding) (values : List Word) (n : ℕ) (continuation code : Trees) (t : State)
    → closed m (in_label values n continuation code ∷ around) (onward m ε t) ≡ pay t (λ t. goes_with m around code (over values t.values t))

abbrev pub EndOfFrame : Type 0
EndOfFrame =
    (m : WasmModule) (around : List Surrounding) (values : List Word) (n : ℕ) (code : Trees) (locals : List Word) (t : State)
    → closed m (in_frame values n code locals ∷ around) (onward m ε t) ≡ pay t (λ t. to_caller m around values code locals t.values t)

abbrev pub BranchPastLabel : Type 0
BranchPastLabel =
    (m : WasmModule) (around : List Surrounding) (values : List Word) (n : ℕ) (continuation code : Trees) (k : ℕ) (t : State)
    → closed m (in_label values n continuation code ∷ around) (Branch (suc k) t) ≡ closed m around (Branch k t)

abbrev pub BranchToLabel : Type 0
BranchToLabel =
    (m : WasmModule) (around : List Surrounding) (values : List Word) (n : ℕ) (continuation code : Trees) (t : State)
    → closed m (in_label values n continuation code ∷ around) (Branch 0 t) ≡ take_values (top_of n t.values) t (λ top. goes_with m around (continuation ⊕ code) (over values top t))

abbrev pub BranchOutOfFrame : Type 0
BranchOutOfFrame =
    (m : WasmModule) (around : List Surrounding) (values : List Word) (n : ℕ) (code : Trees) (locals : List Word) (t : State)
    → closed m (in_frame values n code locals ∷ around) (Branch 0 t) ≡ take_values (top_of n t.values) t (λ top. to_caller m around values code locals top t)

abbrev pub ReturnPastLabel : Type 0
ReturnPastLabel =
    (m : WasmModule) (around : List Surrounding) (values : List Word) (n : ℕ) (continuation code : Trees) (t : State)
    → closed m (in_label values n continuation code ∷ around) (Leave t) ≡ closed m around (Leave t)

abbrev pub ReturnOutOfFrame : Type 0
ReturnOutOfFrame =
    (m : WasmModule) (around : List Surrounding) (values : List Word) (n : ℕ) (code : Trees) (locals : List Word) (t : State)
    → closed m (in_frame values n code locals ∷ around) (Leave t) ≡ take_values (top_of n t.values) t (λ top. to_caller m around values code locals top t)
