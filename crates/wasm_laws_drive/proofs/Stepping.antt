-- Each equation of `drive`, inside surroundings.
use Rattle.std.proofs.Common.{◌≡◌, ℕ, zero, suc, Bool, true, false, List, [], ◌∷◌, Option, Some, None, refl, ap, ◌∙◌}
use Rattle.std.specs.Prelude.{reverse, slice_get, if◌then◌else◌}
use Rattle.sem_words.specs.declared.word.Word.{Word}
use Rattle.sem_words.specs.declared.word.Word.TheVariants.{W32, W64}
use Rattle.sem_words.specs.declared.word.TrapKind.TheVariants as kinds
use Rattle.session_lang.specs.Observation.{trapped}
use Rattle.session_lang.specs.Imports.{ImportAnswer, goes_on, ends, answer_import}
use Rattle.wasm_lang.specs.declared.types.ValType.{ValType}
use Rattle.wasm_lang.specs.Modules.{WasmModule}
use Rattle.wasm_lang_exec.specs.Code.{loop, Trees, ε, ◌▹◌, ◌⊕◌}
use Rattle.wasm_lang_exec.specs.Plain.{do_plain}
use Rattle.wasm_lang_exec.specs.Reductions.{Callee, an_import, a_function, callee_at, params_of, top_of, below_top, of_type, arity_of, choose, default_to}
use Rattle.wasm_laws_drive.specs.Drive.{State, Outcome, Branch, Leave, Ended, onward}
use Rattle.wasm_laws_drive.specs.Equations.{pay_from, pay, take_number, over, after, at_label, back, after_import, entered, called, called_by}
use Rattle.wasm_laws_drive.proofs.Instructions.{no_code, plain_instruction, unreachable_traps, block_enters, loop_enters, if_chooses, br_branches, br_if_chooses, br_table_chooses, return_leaves, call_enters, call_indirect_enters}
use Rattle.wasm_laws_drive.specs.Contexts.{Surrounding, in_label, in_frame, closed}
use Rattle.wasm_laws_drive.specs.Steps.{goes_with, in_block, after_answer, in_function, in_call, in_entry, PlainStep, UnreachableStep, BlockStep, LoopStep, IfStep, BrStep, BrIfStep, BrTableStep, ReturnStep, CallStep, CallIndirectStep, EndOfLabel, EndOfFrame, BranchPastLabel, BranchToLabel, BranchOutOfFrame, ReturnPastLabel, ReturnOutOfFrame}
use Rattle.wasm_laws_drive.proofs.Closing.{ends_stay, stuck_stays, paid_inside, number_inside, values_inside, effect_inside, choice_inside}

-- ---- what comes after a reduction or a number

same_from : (n : ℕ) (t : State) (f g : State → Outcome) → ((u : State) → f u ≡ g u) → pay_from n t f ≡ pay_from n t g
same_from zero t f g h = refl
same_from (suc n) t f g h = h (record t { left = n })

pay_same : (t : State) (f g : State → Outcome) → ((u : State) → f u ≡ g u) → pay t f ≡ pay t g
pay_same t f g h = same_from t.left t f g h

number_same : (values : List Word) (t : State) (f g : ℕ → State → Outcome) → ((n : ℕ) (u : State) → f n u ≡ g n u) → take_number values t f ≡ take_number values t g
number_same [] t f g h = refl
number_same (W32 n ∷ values) t f g h = h n (record t { values = values })
number_same (W64 n ∷ values) t f g h = refl

-- after a reduction, inside
paid_step : (m : WasmModule) (around : List Surrounding) (t : State) (f g : State → Outcome) → ((u : State) → closed m around (f u) ≡ g u) → closed m around (pay t f) ≡ pay t g
paid_step m around t f g h = paid_inside m around t f ∙ pay_same t (λ u. closed m around (f u)) g h

-- .. and a number
numbered_step : (m : WasmModule) (around : List Surrounding) (t : State) (f g : ℕ → State → Outcome) → ((n : ℕ) (u : State) → closed m around (f n u) ≡ g n u)
    → closed m around (pay t (λ t. take_number t.values t f)) ≡ pay t (λ t. take_number t.values t g)
numbered_step m around t f g h =
    paid_step m around t (λ t. take_number t.values t f) (λ t. take_number t.values t g)
    (λ u. number_inside m around u.values u f ∙ number_same u.values u (λ n t. closed m around (f n t)) g h)

-- ---- instructions

pub plain_step : PlainStep
plain_step m around p code t is =
    ap (closed m around) (plain_instruction m p code t is)
    ∙ paid_step m around t (λ t. after (do_plain p t.values t.locals t.store) t (onward m code)) (λ t. after (do_plain p t.values t.locals t.store) t (goes_with m around code))
    (λ u. effect_inside m around (do_plain p u.values u.locals u.store) u (onward m code))

pub unreachable_step : UnreachableStep
unreachable_step m around code t =
    ap (closed m around) (unreachable_traps m code t)
    ∙ paid_step m around t (λ t. Ended (trapped kinds.Unreachable) t.store) (λ t. Ended (trapped kinds.Unreachable) t.store) (λ u. ends_stay m around (trapped kinds.Unreachable) u.store)

pub block_step : BlockStep
block_step m around r body code t =
    ap (closed m around) (block_enters m r body code t)
    ∙ paid_inside m around t (λ t. at_label m t.values (arity_of r) ε code (onward m body (record t { values = [] })))

pub loop_step : LoopStep
loop_step m around r body code t =
    ap (closed m around) (loop_enters m r body code t)
    ∙ paid_inside m around t (λ t. at_label m t.values 0 (loop r body ▹ ε) code (onward m body (record t { values = [] })))

pub if_step : IfStep
if_step m around r first second code t =
    ap (closed m around) (if_chooses m r first second code t)
    ∙ numbered_step m around t (λ c t. at_label m t.values (arity_of r) ε code (onward m (choose c first second) (record t { values = [] }))) (λ c. in_block m around (arity_of r) ε (choose c first second) code) (λ c u. refl)

pub br_step : BrStep
br_step m around l code t = ap (closed m around) (br_branches m l code t) ∙ paid_inside m around t (λ t. Branch l t)

pub br_if_step : BrIfStep
br_if_step m around l code t =
    ap (closed m around) (br_if_chooses m l code t)
    ∙ numbered_step m around t (λ c t. choose c (Branch l t) (onward m code t)) (λ c t. choose c (closed m around (Branch l t)) (goes_with m around code t))
    (λ c u. choice_inside m around c (Branch l u) (onward m code u))

pub br_table_step : BrTableStep
br_table_step m around ls d code t =
    ap (closed m around) (br_table_chooses m ls d code t)
    ∙ numbered_step m around t (λ i t. Branch (default_to d (slice_get ls i)) t) (λ i t. closed m around (Branch (default_to d (slice_get ls i)) t)) (λ i u. refl)

pub return_step : ReturnStep
return_step m around code t = ap (closed m around) (return_leaves m code t) ∙ paid_inside m around t (λ t. Leave t)

-- ---- calls

module _ (m : WasmModule) (around : List Surrounding) where
  answer_step : (a : ImportAnswer) (results : List ValType) (code : Trees) (t : State) → closed m around (after_import m a results code t) ≡ after_answer m around a results code t
  answer_step (ends e) results code t = ends_stay m around e t.store
  answer_step (goes_on g) results code t = refl

  enter_step : (c : Option Callee) (arguments : Option (List Word)) (code : Trees) (t : State) → closed m around (entered m c arguments code t) ≡ in_function m around c arguments code t
  enter_step (Some (an_import name f)) (Some arguments) code t = answer_step (answer_import name (reverse arguments) t.store.replies) f.results code t
  enter_step (Some (a_function f more body)) (Some arguments) code t = refl
  enter_step c arguments code t = stuck_stays m around t.store

  called_step : (c : Option Callee) (code : Trees) (t : State) → closed m around (called m c code t) ≡ in_call m around c code t
  called_step c code t = enter_step c (top_of (params_of c) t.values) code (record t { values = below_top (params_of c) t.values })

  typed_step : (is : Bool) (c : Option Callee) (code : Trees) (t : State)
      → closed m around (if is then called m c code t else Ended (trapped kinds.OtherType) t.store) ≡ (if is then in_call m around c code t else Ended (trapped kinds.OtherType) t.store)
  typed_step true c code t = called_step c code t
  typed_step false c code t = ends_stay m around (trapped kinds.OtherType) t.store

  entry_step : (type : ℕ) (e : Option (Option ℕ)) (code : Trees) (t : State) → closed m around (called_by m type e code t) ≡ in_entry m around type e code t
  entry_step type (Some (Some f)) code t = typed_step (of_type (slice_get m.types type) (callee_at m f)) (callee_at m f) code t
  entry_step type (Some None) code t = ends_stay m around (trapped kinds.TableEntry) t.store
  entry_step type None code t = ends_stay m around (trapped kinds.TableEntry) t.store

pub call_step : CallStep
call_step m around f code t =
    ap (closed m around) (call_enters m f code t) ∙ paid_step m around t (called m (callee_at m f) code) (in_call m around (callee_at m f) code) (called_step m around (callee_at m f) code)

pub call_indirect_step : CallIndirectStep
call_indirect_step m around type code t =
    ap (closed m around) (call_indirect_enters m type code t)
    ∙ numbered_step m around t (λ i t. called_by m type (slice_get t.store.table i) code t) (λ i t. in_entry m around type (slice_get t.store.table i) code t)
    (λ i u. entry_step m around type (slice_get u.store.table i) code u)

-- ---- ends, branches and returns

pub end_of_label : EndOfLabel
end_of_label m around values n continuation code t =
    ap (closed m (in_label values n continuation code ∷ around)) (no_code m t) ∙ paid_inside m around t (λ t. onward m code (over values t.values t))

pub end_of_frame : EndOfFrame
end_of_frame m around values n code locals t =
    ap (closed m (in_frame values n code locals ∷ around)) (no_code m t) ∙ paid_inside m around t (λ t. back m values code locals t.values t)

pub branch_past_label : BranchPastLabel
branch_past_label m around values n continuation code k t = refl

pub branch_to_label : BranchToLabel
branch_to_label m around values n continuation code t = values_inside m around (top_of n t.values) t (λ top. onward m (continuation ⊕ code) (over values top t))

pub branch_out_of_frame : BranchOutOfFrame
branch_out_of_frame m around values n code locals t = values_inside m around (top_of n t.values) t (λ top. back m values code locals top t)

pub return_past_label : ReturnPastLabel
return_past_label m around values n continuation code t = refl

pub return_out_of_frame : ReturnOutOfFrame
return_out_of_frame m around values n code locals t = values_inside m around (top_of n t.values) t (λ top. back m values code locals top t)
