-- Blocks that are left, of the machine's own values.
use Rattle.std.proofs.Common.{◌≡◌, ℕ, zero, suc, ◌-◌, ◌<◌, List, ◌∷◌, sym, subst, arith}
use Rattle.sem_words.specs.declared.word.Word.{Word}
use Rattle.wasm_lang.specs.Instructions.{Instruction}
use Rattle.wasm_lang.specs.Modules.{WasmModule}
use Rattle.wasm_laws_drive.specs.Drive.{Outcome, Stuck}
use Rattle.wasm_run_flat.specs.Places.{place_of}
use Rattle.wasm_run_flat.proofs.Standing.{branch_goes_on}
use Rattle.wasm_laws_machine.specs.Machine.{LabelPlain, FramePlain, EnclosingPlain, of_label, of_frame, MachinePlain}
use Rattle.wasm_laws_machine.specs.Meaning.{Shows, Branches, Returns}
use Rattle.wasm_laws_machine.specs.Carrying.{Carries}
use Rattle.wasm_laws_machine.proofs.Branching.{branch_passes, branch_lands, branch_is_lost, branch_is_return}

module _ (bodies : ℕ → List Instruction) (m : WasmModule) where
  pub branches_in : (v : MachinePlain) (es : List EnclosingPlain) (floor k n : ℕ) (r : Outcome) → v.enclosing ≡ es → Branches bodies m v floor k n r → Branches bodies m (record v { enclosing = es }) floor k n r
  branches_in v es floor k n r h s = subst (λ es. Branches bodies m (record v { enclosing = es }) floor k n r) h s

  pub returns_in : (v : MachinePlain) (es : List EnclosingPlain) (floor n : ℕ) (r : Outcome) → v.enclosing ≡ es → Returns bodies m v floor n r → Returns bodies m (record v { enclosing = es }) floor n r
  returns_in v es floor n r h s = subst (λ es. Returns bodies m (record v { enclosing = es }) floor n r) h s

  pub branch_goes_deeper : (v : MachinePlain) (b : LabelPlain) (es : List EnclosingPlain) (floor k n : ℕ) (r : Outcome)
      → v.enclosing ≡ of_label b ∷ es → 0 < k → Branches bodies m v floor k n r → Branches bodies m (record v { enclosing = es }) b.floor (k - 1) n r
  branch_goes_deeper v b es floor zero n r h lt s = absurd (omega arith)
  branch_goes_deeper v b es floor (suc k) n r h lt s =
      let e : k ≡ suc k - 1 = omega arith in
      subst (λ k. Branches bodies m (record v { enclosing = es }) b.floor k n r) e (branch_passes bodies m v b es floor k n r h s)

  pub branch_finds_none : (v : MachinePlain) (f : FramePlain) (es : List EnclosingPlain) (floor k n : ℕ) (r : Outcome)
      → v.enclosing ≡ of_frame f ∷ es → 0 < k → Branches bodies m v floor k n r → r ≡ Stuck v.store
  branch_finds_none v f es floor zero n r h lt s = absurd (omega arith)
  branch_finds_none v f es floor (suc k) n r h lt s = branch_is_lost bodies m v f es floor k n r h s

  pub branch_now : (v : MachinePlain) (es : List EnclosingPlain) (floor k n : ℕ) (r : Outcome) → v.enclosing ≡ es → k ≡ 0 → Branches bodies m v floor k n r → Branches bodies m (record v { enclosing = es }) floor 0 n r
  branch_now v es floor k n r h e s = subst (λ k. Branches bodies m (record v { enclosing = es }) floor k n r) e (branches_in v es floor k n r h s)

  pub branch_returns : (v : MachinePlain) (f : FramePlain) (es : List EnclosingPlain) (floor k n : ℕ) (r : Outcome)
      → v.enclosing ≡ of_frame f ∷ es → k ≡ 0 → Branches bodies m v floor k n r → Returns bodies m (record v { enclosing = of_frame f ∷ es }) floor n r
  branch_returns v f es floor k n r h e s =
      returns_in v (of_frame f ∷ es) floor n r h (branch_is_return bodies m v f es floor n r h (subst (λ k. Branches bodies m v floor k n r) e s))

  pub lands : (v : MachinePlain) (b : LabelPlain) (es : List EnclosingPlain) (floor n at : ℕ) (r : Outcome) (values below : List Word)
      → at ≡ place_of b.target → v.enclosing ≡ of_label b ∷ es → Carries b.arity floor b.floor v.values v.below values below
      → Branches bodies m v floor 0 n r → Shows bodies m (record v { values = values; below = below; at = at; enclosing = es }) n r
  lands v b es floor n at r values below e h carries s =
      subst (λ a. Shows bodies m (record v { values = values; below = below; at = a; enclosing = es }) n r) (sym e) (branch_lands bodies m branch_goes_on v b es floor n r values below h carries s)

  -- the start of a way out, whatever the count of the operands below is called
  pub from_floor : (v : MachinePlain) (floor other k n : ℕ) (r : Outcome) → floor ≡ other → Branches bodies m v floor k n r → Branches bodies m v other k n r
  from_floor v floor other k n r h s = subst (λ f. Branches bodies m v f k n r) h s

  pub return_from_floor : (v : MachinePlain) (floor other n : ℕ) (r : Outcome) → floor ≡ other → Returns bodies m v floor n r → Returns bodies m v other n r
  return_from_floor v floor other n r h s = subst (λ f. Returns bodies m v f n r) h s
