-- Instructions that open and close nothing, of a machine that stands at them.
use Rattle.std.proofs.Common.{◌≡◌, ◌≢◌, ℕ, zero, suc, ◌+◌, true, false, List, ◌∷◌, Option, Some, None, length, refl, sym, ap, subst}
use Rattle.std.specs.Prelude.{slice_get}
use Rattle.sem_words.specs.declared.word.Word.{Word}
use Rattle.sem_words.specs.declared.word.Word.TheVariants.{W32, W64}
use Rattle.sem_words.specs.declared.word.TrapKind.{TrapKind}
use Rattle.sem_words.specs.declared.word.TrapKind.TheVariants as kinds
use Rattle.session_lang.specs.Observation.{trapped}
use Rattle.wasm_lang.specs.Instructions as flat
use Rattle.wasm_lang.specs.Instructions.{Instruction, Plain, const32, const64}
use Rattle.wasm_lang.specs.Modules.{WasmModule}
use Rattle.wasm_lang_exec.specs.Code.{unreachable, br, br_if, br_table, return, call, call_indirect, plain, Tree}
use Rattle.wasm_lang_exec.specs.Store.{Store}
use Rattle.wasm_lang_exec.specs.Plain.{goes, traps, sticks, do_plain}
use Rattle.wasm_lang_exec.specs.Reductions.{callee_at, of_type, default_to}
use Rattle.wasm_laws_drive.specs.Drive.{Outcome, Ended, Stuck}
use Rattle.wasm_laws_drive.specs.Equations.{is_constant}
use Rattle.wasm_run_operands.specs.Tops.{top32}
use Rattle.wasm_run_flat.specs.Reading.{single}
use Rattle.wasm_run_flat.specs.Laws.{IsNext}
use Rattle.wasm_run_flat.proofs.Standing.{single_goes_on}
use Rattle.wasm_laws_machine.specs.Machine.{MachinePlain, targets_of}
use Rattle.wasm_laws_machine.specs.Meaning.{Shows, Runs, Calls, Branches, Returns}
use Rattle.wasm_laws_machine.proofs.Plainly.{narrow_shows, wide_shows, plain_shows, plain_traps, plain_sticks, unreachable_traps}
use Rattle.wasm_laws_machine.proofs.Branching.{return_begins}
use Rattle.wasm_laws_machine.proofs.Entering.{br_branches, br_if_branches, br_if_goes_on, br_if_sticks, br_table_branches, br_table_sticks, call_calls, indirect_sticks, indirect_is_outside, indirect_is_empty, indirect_is_other, indirect_calls}
use Rattle.wasm_run_machine.specs.Kinds.{found_entry}
use Rattle.wasm_run_machine.proofs.Spending.{stands_there}
use Rattle.wasm_run_machine.proofs.Opened.{no_number}

module _ (bodies : ℕ → List Instruction) (m : WasmModule) where
  next_is : (v : MachinePlain) (n : ℕ) (r : Outcome) (body : List Instruction) (i : Instruction) (x : Tree) → single i ≡ Some x
      → bodies v.function ≡ body → slice_get body v.at ≡ Some i → Runs bodies m v n r → IsNext (bodies v.function) v.at (v.at + 1) (targets_of v.enclosing) x
  next_is v n r body i x is same got s =
      single_goes_on (bodies v.function) v.at (targets_of v.enclosing) i x (stands_there bodies m v n r s) (subst (λ b. slice_get b v.at ≡ Some i) (sym same) got) is

  -- ---- constants and other plain instructions

  pub narrow_does : (v : MachinePlain) (n c : ℕ) (r : Outcome) (body : List Instruction) (values below : List Word)
      → values ≡ W32 c ∷ v.values → below ≡ v.below → bodies v.function ≡ body → slice_get body v.at ≡ Some (flat.plain (const32 c))
      → Runs bodies m v n r → Runs bodies m (record v { values = values; below = below; at = v.at + 1 }) n r
  narrow_does v n c r body values below vs bs same got s =
      (s.0, narrow_shows bodies m v n c r values below vs bs s (next_is v n r body (flat.plain (const32 c)) (plain (const32 c)) refl same got s))

  pub wide_does : (v : MachinePlain) (n c : ℕ) (r : Outcome) (body : List Instruction) (values below : List Word)
      → values ≡ W64 c ∷ v.values → below ≡ v.below → bodies v.function ≡ body → slice_get body v.at ≡ Some (flat.plain (const64 c))
      → Runs bodies m v n r → Runs bodies m (record v { values = values; below = below; at = v.at + 1 }) n r
  wide_does v n c r body values below vs bs same got s =
      (s.0, wide_shows bodies m v n c r values below vs bs s (next_is v n r body (flat.plain (const64 c)) (plain (const64 c)) refl same got s))

  pub plain_does : (v : MachinePlain) (n : ℕ) (r : Outcome) (body : List Instruction) (p : Plain) (values below locals : List Word) (store : Store)
      → is_constant p ≡ false → do_plain p v.values v.locals v.store ≡ goes values locals store → below ≡ v.below
      → bodies v.function ≡ body → slice_get body v.at ≡ Some (flat.plain p) → Runs bodies m v (suc n) r
      → Shows bodies m (record v { values = values; below = below; locals = locals; at = v.at + 1; store = store }) n r
  plain_does v n r body p values below locals store is does bs same got s =
      plain_shows bodies m v n r p values below locals store is does bs s (next_is v (suc n) r body (flat.plain p) (plain p) refl same got s)

  pub plain_is_trap : (v : MachinePlain) (n : ℕ) (r : Outcome) (body : List Instruction) (p : Plain) (kind : TrapKind)
      → is_constant p ≡ false → do_plain p v.values v.locals v.store ≡ traps kind
      → bodies v.function ≡ body → slice_get body v.at ≡ Some (flat.plain p) → Runs bodies m v (suc n) r → r ≡ Ended (trapped kind) v.store
  plain_is_trap v n r body p kind is does same got s = plain_traps bodies m v n r p kind is does s (next_is v (suc n) r body (flat.plain p) (plain p) refl same got s)

  pub plain_is_stuck : (v : MachinePlain) (n : ℕ) (r : Outcome) (body : List Instruction) (p : Plain)
      → is_constant p ≡ false → do_plain p v.values v.locals v.store ≡ sticks
      → bodies v.function ≡ body → slice_get body v.at ≡ Some (flat.plain p) → Runs bodies m v (suc n) r → r ≡ Stuck v.store
  plain_is_stuck v n r body p is does same got s = plain_sticks bodies m v n r p is does s (next_is v (suc n) r body (flat.plain p) (plain p) refl same got s)

  pub unreachable_does : (v : MachinePlain) (n : ℕ) (r : Outcome) (body : List Instruction)
      → bodies v.function ≡ body → slice_get body v.at ≡ Some flat.unreachable → Runs bodies m v (suc n) r → r ≡ Ended (trapped kinds.Unreachable) v.store
  unreachable_does v n r body same got s = unreachable_traps bodies m v n r s (next_is v (suc n) r body flat.unreachable unreachable refl same got s)

  -- ---- branches

  pub br_does : (v : MachinePlain) (n l : ℕ) (r : Outcome) (body : List Instruction)
      → bodies v.function ≡ body → slice_get body v.at ≡ Some (flat.br l) → Runs bodies m v (suc n) r → Branches bodies m v (length v.below) l n r
  br_does v n l r body same got s = br_branches bodies m v n l r s (next_is v (suc n) r body (flat.br l) (br l) refl same got s)

  pub br_if_does : (v : MachinePlain) (n l c : ℕ) (r : Outcome) (body : List Instruction) (values below : List Word)
      → v.values ≡ W32 (suc c) ∷ values → below ≡ v.below
      → bodies v.function ≡ body → slice_get body v.at ≡ Some (flat.br_if l) → Runs bodies m v (suc n) r
      → Branches bodies m (record v { values = values; below = below }) (length below) l n r
  br_if_does v n l c r body values below top bs same got s = br_if_branches bodies m v n l c r values below top bs s (next_is v (suc n) r body (flat.br_if l) (br_if l) refl same got s)

  pub br_if_taken : (v : MachinePlain) (n l c : ℕ) (r : Outcome) (body : List Instruction) (values below : List Word)
      → c ≢ 0 → v.values ≡ W32 c ∷ values → below ≡ v.below
      → bodies v.function ≡ body → slice_get body v.at ≡ Some (flat.br_if l) → Runs bodies m v (suc n) r
      → Branches bodies m (record v { values = values; below = below }) (length below) l n r
  br_if_taken v n l zero r body values below not top bs same got s = absurd (not refl)
  br_if_taken v n l (suc c) r body values below not top bs same got s = br_if_does v n l c r body values below top bs same got s

  pub br_if_passes : (v : MachinePlain) (n l : ℕ) (r : Outcome) (body : List Instruction) (values below : List Word)
      → v.values ≡ W32 0 ∷ values → below ≡ v.below
      → bodies v.function ≡ body → slice_get body v.at ≡ Some (flat.br_if l) → Runs bodies m v (suc n) r
      → Shows bodies m (record v { values = values; below = below; at = v.at + 1 }) n r
  br_if_passes v n l r body values below top bs same got s = br_if_goes_on bodies m v n l r values below top bs s (next_is v (suc n) r body (flat.br_if l) (br_if l) refl same got s)

  pub br_if_is_stuck : (v : MachinePlain) (n l : ℕ) (r : Outcome) (body : List Instruction) → top32 v.values ≡ None
      → bodies v.function ≡ body → slice_get body v.at ≡ Some (flat.br_if l) → Runs bodies m v (suc n) r → r ≡ Stuck v.store
  br_if_is_stuck v n l r body none same got s = br_if_sticks bodies m v n l r (no_number v.values none) s (next_is v (suc n) r body (flat.br_if l) (br_if l) refl same got s)

  pub br_table_does : (v : MachinePlain) (n d i l : ℕ) (ls : List ℕ) (r : Outcome) (body : List Instruction) (values below : List Word)
      → v.values ≡ W32 i ∷ values → below ≡ v.below → l ≡ default_to d (slice_get ls i)
      → bodies v.function ≡ body → slice_get body v.at ≡ Some (flat.br_table ls d) → Runs bodies m v (suc n) r
      → Branches bodies m (record v { values = values; below = below }) (length below) l n r
  br_table_does v n d i l ls r body values below top bs chosen same got s =
      br_table_branches bodies m v n d i l ls r values below top bs (sym chosen) s (next_is v (suc n) r body (flat.br_table ls d) (br_table ls d) refl same got s)

  pub br_table_is_stuck : (v : MachinePlain) (n d : ℕ) (ls : List ℕ) (r : Outcome) (body : List Instruction) → top32 v.values ≡ None
      → bodies v.function ≡ body → slice_get body v.at ≡ Some (flat.br_table ls d) → Runs bodies m v (suc n) r → r ≡ Stuck v.store
  br_table_is_stuck v n d ls r body none same got s =
      br_table_sticks bodies m v n d ls r (no_number v.values none) s (next_is v (suc n) r body (flat.br_table ls d) (br_table ls d) refl same got s)

  pub return_does : (v : MachinePlain) (n : ℕ) (r : Outcome) (body : List Instruction)
      → bodies v.function ≡ body → slice_get body v.at ≡ Some flat.return → Runs bodies m v (suc n) r → Returns bodies m v (length v.below) n r
  return_does v n r body same got s = return_begins bodies m v n r s (next_is v (suc n) r body flat.return return refl same got s)

  -- ---- calls

  pub call_does : (v : MachinePlain) (n f : ℕ) (r : Outcome) (body : List Instruction)
      → bodies v.function ≡ body → slice_get body v.at ≡ Some (flat.call f) → Runs bodies m v (suc n) r → Calls bodies m (record v { at = v.at + 1 }) (callee_at m f) n r
  call_does v n f r body same got s = call_calls bodies m v n f r s (next_is v (suc n) r body (flat.call f) (call f) refl same got s)

  pub indirect_is_stuck : (v : MachinePlain) (n type : ℕ) (r : Outcome) (body : List Instruction) → top32 v.values ≡ None
      → bodies v.function ≡ body → slice_get body v.at ≡ Some (flat.call_indirect type) → Runs bodies m v (suc n) r → r ≡ Stuck v.store
  indirect_is_stuck v n type r body none same got s =
      indirect_sticks bodies m v n type r (no_number v.values none) s (next_is v (suc n) r body (flat.call_indirect type) (call_indirect type) refl same got s)

  no_entry_of : (v : MachinePlain) (n type i : ℕ) (r : Outcome) (body : List Instruction) (values : List Word) (e : Option (Option ℕ))
      → v.values ≡ W32 i ∷ values → slice_get v.store.table i ≡ e → found_entry e ≡ None
      → bodies v.function ≡ body → slice_get body v.at ≡ Some (flat.call_indirect type) → Runs bodies m v (suc n) r → r ≡ Ended (trapped kinds.TableEntry) v.store
  no_entry_of v n type i r body values None top found none same got s =
      indirect_is_outside bodies m v n type i r values top found s (next_is v (suc n) r body (flat.call_indirect type) (call_indirect type) refl same got s)
  no_entry_of v n type i r body values (Some None) top found none same got s =
      indirect_is_empty bodies m v n type i r values top found s (next_is v (suc n) r body (flat.call_indirect type) (call_indirect type) refl same got s)
  no_entry_of v n type i r body values (Some (Some f)) top found none same got s = cc none

  pub no_entry_does : (v : MachinePlain) (n type i : ℕ) (r : Outcome) (body : List Instruction) (values : List Word)
      → v.values ≡ W32 i ∷ values → found_entry (slice_get v.store.table i) ≡ None
      → bodies v.function ≡ body → slice_get body v.at ≡ Some (flat.call_indirect type) → Runs bodies m v (suc n) r → r ≡ Ended (trapped kinds.TableEntry) v.store
  no_entry_does v n type i r body values top none same got s = no_entry_of v n type i r body values (slice_get v.store.table i) top refl none same got s

  pub entry_is : (e : Option (Option ℕ)) (f : ℕ) → found_entry e ≡ Some f → e ≡ Some (Some f)
  entry_is None f h = cc h
  entry_is (Some e) f h = ap Some h

  pub other_entry_does : (v : MachinePlain) (n type i f : ℕ) (r : Outcome) (body : List Instruction) (values : List Word)
      → v.values ≡ W32 i ∷ values → slice_get v.store.table i ≡ Some (Some f) → of_type (slice_get m.types type) (callee_at m f) ≡ false
      → bodies v.function ≡ body → slice_get body v.at ≡ Some (flat.call_indirect type) → Runs bodies m v (suc n) r → r ≡ Ended (trapped kinds.OtherType) v.store
  other_entry_does v n type i f r body values top found other same got s =
      indirect_is_other bodies m v n type i f r values top found other s (next_is v (suc n) r body (flat.call_indirect type) (call_indirect type) refl same got s)

  pub entry_calls : (v : MachinePlain) (n type i f : ℕ) (r : Outcome) (body : List Instruction) (values below : List Word)
      → v.values ≡ W32 i ∷ values → below ≡ v.below → slice_get v.store.table i ≡ Some (Some f) → of_type (slice_get m.types type) (callee_at m f) ≡ true
      → bodies v.function ≡ body → slice_get body v.at ≡ Some (flat.call_indirect type) → Runs bodies m v (suc n) r
      → Calls bodies m (record v { values = values; below = below; at = v.at + 1 }) (callee_at m f) n r
  entry_calls v n type i f r body values below top bs found is same got s =
      indirect_calls bodies m v n type i f r values below top bs found is s (next_is v (suc n) r body (flat.call_indirect type) (call_indirect type) refl same got s)
