-- What each instruction comes to.
use Rattle.std.proofs.Common.{◌≡◌, ℕ, zero, suc, List, [], ◌∷◌, ◌++◌, Option, Some, None, Bool, true, false, refl, ap, ◌∙◌}
use Rattle.std.specs.Prelude.{length, reverse, slice_get, if◌then◌else◌}
use Rattle.sem_words.specs.declared.word.Word.{Word}
use Rattle.sem_words.specs.declared.word.Word.TheVariants.{W32, W64}
use Rattle.sem_words.specs.declared.word.TrapKind.TheVariants as kinds
use Rattle.session_lang.specs.Observation.{trapped}
use Rattle.session_lang.specs.Imports.{ImportAnswer, goes_on, ends, answer_import}
use Rattle.wasm_lang.specs.declared.types.ValType.{ValType}
use Rattle.wasm_lang.specs.Instructions.{Plain, const32, const64}
use Rattle.wasm_lang.specs.Modules.{WasmModule}
use Rattle.wasm_lang_exec.specs.Code.{unreachable, block, loop, if_block, br, br_if, br_table, return, call, call_indirect, plain, Trees, ε, ◌▹◌}
use Rattle.wasm_lang_exec.specs.Store.{Store, zeros_of}
use Rattle.wasm_lang_exec.specs.Plain.{Effect, goes, traps, sticks, do_plain}
use Rattle.wasm_lang_exec.specs.Reductions.{Callee, an_import, a_function, callee_at, params_of, top_of, below_top, of_type, Code, to, branches, stops, after_answer, enter, do_call, call_entry, after_effect, reduce_code, arity_of, choose, default_to}
use Rattle.wasm_laws_drive.specs.Drive.{Next, Branch, Leave, Ended, Spent, at, halted, driven, drive, onward}
use Rattle.wasm_laws_drive.specs.Equations.{pay_from, take_number, is_constant, after, at_label, after_import, entered, called, called_by}
use Rattle.wasm_laws_drive.specs.Laws.{NoCode, NarrowConstant, WideConstant, PlainInstruction, Unreachable, Block, Loop, LoopTurn, If, Br, BrIf, BrTable, Return, Call, CallIndirect}
use Rattle.wasm_laws_drive.proofs.Driving.{drive_label, drive_frame}

module _ (m : WasmModule) where
  values_only : (n : ℕ) (values locals : List Word) (s : Store) → drive m n (Code values ε) locals s ≡ Next (at values locals s n)
  values_only zero values locals s = refl
  values_only (suc n) values locals s = refl

  constant32 : (n x : ℕ) (code : Trees) (values locals : List Word) (s : Store)
      → drive m n (Code values (plain (const32 x) ▹ code)) locals s ≡ drive m n (Code (W32 x ∷ values) code) locals s
  constant32 zero x code values locals s = refl
  constant32 (suc n) x code values locals s = refl

  constant64 : (n x : ℕ) (code : Trees) (values locals : List Word) (s : Store)
      → drive m n (Code values (plain (const64 x) ▹ code)) locals s ≡ drive m n (Code (W64 x ∷ values) code) locals s
  constant64 zero x code values locals s = refl
  constant64 (suc n) x code values locals s = refl

  -- ---- plain instructions

  reduces_plain : (p : Plain) (code : Trees) (values locals : List Word) (s : Store)
      → is_constant p ≡ false → reduce_code m (plain p ▹ code) values locals s ≡ after_effect (do_plain p values locals s) code s
  reduces_plain (const32 x) code values locals s is = cc is
  reduces_plain (const64 x) code values locals s is = cc is
  reduces_plain p code values locals s is = refl

  effect_none : (e : Effect) (code : Trees) (locals : List Word) (s : Store) → halted (after_effect e code s) locals s ≡ Spent s
  effect_none (goes values l s') code locals s = refl
  effect_none (traps kind) code locals s = refl
  effect_none sticks code locals s = refl

  effect_some : (n : ℕ) (e : Effect) (code : Trees) (values locals : List Word) (s : Store)
      → driven (drive m n) n (after_effect e code s) locals s ≡ after e (at values locals s n) (onward m code)
  effect_some n (goes values' l s') code values locals s = refl
  effect_some n (traps kind) code values locals s = refl
  effect_some n sticks code values locals s = refl

  drives_plain : (n : ℕ) (p : Plain) (code : Trees) (values locals : List Word) (s : Store)
      → is_constant p ≡ false
      → drive m n (Code values (plain p ▹ code)) locals s ≡ pay_from n (at values locals s n) (λ t. after (do_plain p t.values t.locals t.store) t (onward m code))
  drives_plain zero p code values locals s is =
      ap (λ r. halted r locals s) (reduces_plain p code values locals s is) ∙ effect_none (do_plain p values locals s) code locals s
  drives_plain (suc n) p code values locals s is =
      ap (λ r. driven (drive m n) n r locals s) (reduces_plain p code values locals s is) ∙ effect_some n (do_plain p values locals s) code values locals s

  -- ---- blocks and branches

  drives_unreachable : (n : ℕ) (code : Trees) (values locals : List Word) (s : Store)
      → drive m n (Code values (unreachable ▹ code)) locals s ≡ pay_from n (at values locals s n) (λ t. Ended (trapped kinds.Unreachable) t.store)
  drives_unreachable zero code values locals s = refl
  drives_unreachable (suc n) code values locals s = refl

  drives_block : (n : ℕ) (r : Option ValType) (body code : Trees) (values locals : List Word) (s : Store)
      → drive m n (Code values (block r body ▹ code)) locals s
      ≡ pay_from n (at values locals s n) (λ t. at_label m t.values (arity_of r) ε code (onward m body (record t { values = [] })))
  drives_block zero r body code values locals s = refl
  drives_block (suc n) r body code values locals s = drive_label m values (arity_of r) ε code n (Code [] body) locals s

  drives_loop : (n : ℕ) (r : Option ValType) (body code : Trees) (values locals : List Word) (s : Store)
      → drive m n (Code values (loop r body ▹ code)) locals s
      ≡ pay_from n (at values locals s n) (λ t. at_label m t.values 0 (loop r body ▹ ε) code (onward m body (record t { values = [] })))
  drives_loop zero r body code values locals s = refl
  drives_loop (suc n) r body code values locals s = drive_label m values 0 (loop r body ▹ ε) code n (Code [] body) locals s

  drives_if : (n : ℕ) (r : Option ValType) (first second code : Trees) (values locals : List Word) (s : Store)
      → drive m n (Code values (if_block r first second ▹ code)) locals s
      ≡ pay_from n (at values locals s n) (λ t. take_number t.values t (λ c t. at_label m t.values (arity_of r) ε code (onward m (choose c first second) (record t { values = [] }))))
  drives_if zero r first second code [] locals s = refl
  drives_if zero r first second code (W32 c ∷ values) locals s = refl
  drives_if zero r first second code (W64 c ∷ values) locals s = refl
  drives_if (suc n) r first second code [] locals s = refl
  drives_if (suc n) r first second code (W32 c ∷ values) locals s = drive_label m values (arity_of r) ε code n (Code [] (choose c first second)) locals s
  drives_if (suc n) r first second code (W64 c ∷ values) locals s = refl

  drives_br : (n l : ℕ) (code : Trees) (values locals : List Word) (s : Store)
      → drive m n (Code values (br l ▹ code)) locals s ≡ pay_from n (at values locals s n) (λ t. Branch l t)
  drives_br zero l code values locals s = refl
  drives_br (suc n) l code values locals s = refl

  chosen_none : (c l : ℕ) (code : Trees) (values locals : List Word) (s : Store)
      → halted (choose c (branches l values) (to (Code values code) locals s)) locals s ≡ Spent s
  chosen_none zero l code values locals s = refl
  chosen_none (suc c) l code values locals s = refl

  chosen_some : (n c l : ℕ) (code : Trees) (values locals : List Word) (s : Store)
      → driven (drive m n) n (choose c (branches l values) (to (Code values code) locals s)) locals s
      ≡ choose c (Branch l (at values locals s n)) (onward m code (at values locals s n))
  chosen_some n zero l code values locals s = refl
  chosen_some n (suc c) l code values locals s = refl

  drives_br_if : (n l : ℕ) (code : Trees) (values locals : List Word) (s : Store)
      → drive m n (Code values (br_if l ▹ code)) locals s
      ≡ pay_from n (at values locals s n) (λ t. take_number t.values t (λ c t. choose c (Branch l t) (onward m code t)))
  drives_br_if zero l code [] locals s = refl
  drives_br_if zero l code (W32 c ∷ values) locals s = chosen_none c l code values locals s
  drives_br_if zero l code (W64 c ∷ values) locals s = refl
  drives_br_if (suc n) l code [] locals s = refl
  drives_br_if (suc n) l code (W32 c ∷ values) locals s = chosen_some n c l code values locals s
  drives_br_if (suc n) l code (W64 c ∷ values) locals s = refl

  drives_br_table : (n : ℕ) (ls : List ℕ) (d : ℕ) (code : Trees) (values locals : List Word) (s : Store)
      → drive m n (Code values (br_table ls d ▹ code)) locals s
      ≡ pay_from n (at values locals s n) (λ t. take_number t.values t (λ i t. Branch (default_to d (slice_get ls i)) t))
  drives_br_table zero ls d code [] locals s = refl
  drives_br_table zero ls d code (W32 i ∷ values) locals s = refl
  drives_br_table zero ls d code (W64 i ∷ values) locals s = refl
  drives_br_table (suc n) ls d code [] locals s = refl
  drives_br_table (suc n) ls d code (W32 i ∷ values) locals s = refl
  drives_br_table (suc n) ls d code (W64 i ∷ values) locals s = refl

  drives_return : (n : ℕ) (code : Trees) (values locals : List Word) (s : Store)
      → drive m n (Code values (return ▹ code)) locals s ≡ pay_from n (at values locals s n) (λ t. Leave t)
  drives_return zero code values locals s = refl
  drives_return (suc n) code values locals s = refl

  -- ---- calls

  answer_none : (a : ImportAnswer) (results : List ValType) (code : Trees) (values locals : List Word) (s : Store)
      → halted (after_answer a results values code locals s) locals s ≡ Spent s
  answer_none (ends e) results code values locals s = refl
  answer_none (goes_on g) results code values locals s = refl

  answer_some : (n : ℕ) (a : ImportAnswer) (results : List ValType) (code : Trees) (values locals : List Word) (s : Store)
      → driven (drive m n) n (after_answer a results values code locals s) locals s ≡ after_import m a results code (at values locals s n)
  answer_some n (ends e) results code values locals s = refl
  answer_some n (goes_on g) results code values locals s = refl

  enter_none : (c : Option Callee) (arguments : Option (List Word)) (code : Trees) (values locals : List Word) (s : Store)
      → halted (enter c arguments values code locals s) locals s ≡ Spent s
  enter_none (Some (an_import name f)) (Some arguments) code values locals s = answer_none (answer_import name (reverse arguments) s.replies) f.results code values locals s
  enter_none (Some (a_function f more body)) (Some arguments) code values locals s = refl
  enter_none c arguments code values locals s = refl

  enter_some : (n : ℕ) (c : Option Callee) (arguments : Option (List Word)) (code : Trees) (values locals : List Word) (s : Store)
      → driven (drive m n) n (enter c arguments values code locals s) locals s ≡ entered m c arguments code (at values locals s n)
  enter_some n (Some (an_import name f)) (Some arguments) code values locals s = answer_some n (answer_import name (reverse arguments) s.replies) f.results code values locals s
  enter_some n (Some (a_function f more body)) (Some arguments) code values locals s =
      drive_frame m values (length f.results) code locals n (Code [] body) (reverse arguments ++ zeros_of more) s
  enter_some n c arguments code values locals s = refl

  call_none : (c : Option Callee) (code : Trees) (values locals : List Word) (s : Store) → halted (do_call c values code locals s) locals s ≡ Spent s
  call_none c code values locals s = enter_none c (top_of (params_of c) values) code (below_top (params_of c) values) locals s

  call_some : (n : ℕ) (c : Option Callee) (code : Trees) (values locals : List Word) (s : Store)
      → driven (drive m n) n (do_call c values code locals s) locals s ≡ called m c code (at values locals s n)
  call_some n c code values locals s = enter_some n c (top_of (params_of c) values) code (below_top (params_of c) values) locals s

  drives_call : (n f : ℕ) (code : Trees) (values locals : List Word) (s : Store)
      → drive m n (Code values (call f ▹ code)) locals s ≡ pay_from n (at values locals s n) (λ t. called m (callee_at m f) code t)
  drives_call zero f code values locals s = call_none (callee_at m f) code values locals s
  drives_call (suc n) f code values locals s = call_some n (callee_at m f) code values locals s

  typed_none : (is : Bool) (c : Option Callee) (code : Trees) (values locals : List Word) (s : Store)
      → halted (if is then do_call c values code locals s else stops (trapped kinds.OtherType) s) locals s ≡ Spent s
  typed_none true c code values locals s = call_none c code values locals s
  typed_none false c code values locals s = refl

  typed_some : (n : ℕ) (is : Bool) (c : Option Callee) (code : Trees) (values locals : List Word) (s : Store)
      → driven (drive m n) n (if is then do_call c values code locals s else stops (trapped kinds.OtherType) s) locals s
      ≡ (if is then called m c code (at values locals s n) else Ended (trapped kinds.OtherType) s)
  typed_some n true c code values locals s = call_some n c code values locals s
  typed_some n false c code values locals s = refl

  entry_none : (type : ℕ) (e : Option (Option ℕ)) (code : Trees) (values locals : List Word) (s : Store)
      → halted (call_entry m type e values code locals s) locals s ≡ Spent s
  entry_none type (Some (Some f)) code values locals s = typed_none (of_type (slice_get m.types type) (callee_at m f)) (callee_at m f) code values locals s
  entry_none type (Some None) code values locals s = refl
  entry_none type None code values locals s = refl

  entry_some : (n type : ℕ) (e : Option (Option ℕ)) (code : Trees) (values locals : List Word) (s : Store)
      → driven (drive m n) n (call_entry m type e values code locals s) locals s ≡ called_by m type e code (at values locals s n)
  entry_some n type (Some (Some f)) code values locals s = typed_some n (of_type (slice_get m.types type) (callee_at m f)) (callee_at m f) code values locals s
  entry_some n type (Some None) code values locals s = refl
  entry_some n type None code values locals s = refl

  drives_indirect : (n type : ℕ) (code : Trees) (values locals : List Word) (s : Store)
      → drive m n (Code values (call_indirect type ▹ code)) locals s
      ≡ pay_from n (at values locals s n) (λ t. take_number t.values t (λ i t. called_by m type (slice_get t.store.table i) code t))
  drives_indirect zero type code [] locals s = refl
  drives_indirect zero type code (W32 i ∷ values) locals s = entry_none type (slice_get s.table i) code values locals s
  drives_indirect zero type code (W64 i ∷ values) locals s = refl
  drives_indirect (suc n) type code [] locals s = refl
  drives_indirect (suc n) type code (W32 i ∷ values) locals s = entry_some n type (slice_get s.table i) code values locals s
  drives_indirect (suc n) type code (W64 i ∷ values) locals s = refl

-- ---- the laws

pub no_code : NoCode
no_code m t = values_only m t.left t.values t.locals t.store

pub narrow_constant : NarrowConstant
narrow_constant m n code t = constant32 m t.left n code t.values t.locals t.store

pub wide_constant : WideConstant
wide_constant m n code t = constant64 m t.left n code t.values t.locals t.store

pub plain_instruction : PlainInstruction
plain_instruction m p code t is = drives_plain m t.left p code t.values t.locals t.store is

pub unreachable_traps : Unreachable
unreachable_traps m code t = drives_unreachable m t.left code t.values t.locals t.store

pub block_enters : Block
block_enters m r body code t = drives_block m t.left r body code t.values t.locals t.store

pub loop_enters : Loop
loop_enters m r body code t = drives_loop m t.left r body code t.values t.locals t.store

pub loop_turns : LoopTurn
loop_turns m r values body code t = refl

pub if_chooses : If
if_chooses m r first second code t = drives_if m t.left r first second code t.values t.locals t.store

pub br_branches : Br
br_branches m l code t = drives_br m t.left l code t.values t.locals t.store

pub br_if_chooses : BrIf
br_if_chooses m l code t = drives_br_if m t.left l code t.values t.locals t.store

pub br_table_chooses : BrTable
br_table_chooses m ls d code t = drives_br_table m t.left ls d code t.values t.locals t.store

pub return_leaves : Return
return_leaves m code t = drives_return m t.left code t.values t.locals t.store

pub call_enters : Call
call_enters m f code t = drives_call m t.left f code t.values t.locals t.store

pub call_indirect_enters : CallIndirect
call_indirect_enters m type code t = drives_indirect m t.left type code t.values t.locals t.store
