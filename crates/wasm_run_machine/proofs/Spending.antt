-- With no reduction left, nothing but a constant is done.
use Rattle.std.proofs.Common.{◌≡◌, ℕ, ◌+◌, false, List, [], ◌∷◌, Some, refl, ap, subst, ◌∙◌}
use Rattle.std.specs.Prelude.{slice_get}
use Rattle.wasm_lang.specs.Instructions as flat
use Rattle.wasm_lang.specs.Instructions.{Instruction}
use Rattle.wasm_lang.specs.Modules.{WasmModule}
use Rattle.wasm_lang_exec.specs.Code.{unreachable, block, loop, if_block, br, br_if, br_table, return, call, call_indirect, plain, Tree, ε, ◌▹◌}
use Rattle.wasm_laws_drive.specs.Drive.{Outcome, Spent}
use Rattle.wasm_laws_drive.specs.Steps.{goes_with}
use Rattle.wasm_laws_drive.proofs.Stepping.{plain_step, unreachable_step, block_step, loop_step, if_step, br_step, br_if_step, br_table_step, return_step, call_step, call_indirect_step, end_of_label, end_of_frame}
use Rattle.wasm_run_flat.specs.declared.target.Target.{Target}
use Rattle.wasm_run_flat.specs.Jumps.{past_end}
use Rattle.wasm_run_flat.specs.Reading.{single}
use Rattle.wasm_run_flat.specs.Places.{code_at, after_at, continuation, Stands}
use Rattle.wasm_run_flat.specs.Laws.{IsNext, IsOpened, IsLeft, IsDone}
use Rattle.wasm_run_flat.proofs.Standing.{single_goes_on, block_opens, loop_opens, first_arm_opens, end_leaves, else_leaves, last_ends, else_stands_inside}
use Rattle.wasm_laws_machine.specs.Machine.{LabelPlain, FramePlain, EnclosingPlain, of_label, of_frame, MachinePlain, state_of, targets_of}
use Rattle.wasm_laws_machine.specs.Meaning.{IsEnclosed, IsLabel, IsFrame, code_in, codes_in, IsPlace, Encloses, Shows, Runs}
use Rattle.wasm_laws_machine.proofs.Plainly.{place_stands, code_is, comes_of}
use Rattle.wasm_laws_machine.proofs.Branching.{shows_with}
use Rattle.wasm_run_machine.specs.Kinds.{is_free}

module _ (bodies : ℕ → List Instruction) (m : WasmModule) where
  pub stands_there : (v : MachinePlain) (n : ℕ) (r : Outcome) → Runs bodies m v n r → Stands (bodies v.function) v.at (targets_of v.enclosing)
  stands_there v n r (inside, s) = place_stands bodies v.enclosing v.function v.at inside s.is_place

  pub tree_shows : (v : MachinePlain) (n : ℕ) (r : Outcome) (at : ℕ) (target : Target) (tree : Tree) (s : Runs bodies m v n r)
      → (o : IsOpened (bodies v.function) v.at at (targets_of v.enclosing) target tree) → r ≡ goes_with m s.1.around (tree ▹ o.next) (state_of v n)
  tree_shows v n r at target tree (inside, s) o = s.holds ∙ ap (λ code. goes_with m s.around code (state_of v n)) (code_is bodies v.enclosing v.function v.at inside ∙ o.code)

  label_spends : (v : MachinePlain) (b : LabelPlain) (es : List EnclosingPlain) (r : Outcome) (place : ℕ)
      → v.enclosing ≡ of_label b ∷ es → IsLeft (bodies v.function) v.at place (targets_of es) → Shows bodies m v 0 r → r ≡ Spent v.store
  label_spends v b es r place h left shown =
      let s : Shows bodies m (record v { enclosing = of_label b ∷ es }) 0 r = shows_with bodies m v (of_label b ∷ es) 0 r h shown in
      let l : IsLabel b (bodies v.function) (code_at (bodies v.function) place) v.below s.around es (Encloses bodies es v.function (after_at (bodies v.function) place)) =
      subst (λ cs. Encloses bodies (of_label b ∷ es) v.function cs v.below s.around) left.after s.round in
      s.holds ∙ ap (λ code. goes_with m s.around code (state_of v 0)) left.code ∙ ap (λ around. goes_with m around ε (state_of v 0)) l.stands_for
      ∙ end_of_label m l.outer l.values b.arity (continuation (bodies v.function) b.target) (code_at (bodies v.function) place) (state_of v 0)

  frame_spends : (v : MachinePlain) (f : FramePlain) (es : List EnclosingPlain) (r : Outcome)
      → v.enclosing ≡ of_frame f ∷ es → IsDone (bodies v.function) v.at → Shows bodies m v 0 r → r ≡ Spent v.store
  frame_spends v f es r h done shown =
      let s : Shows bodies m (record v { enclosing = of_frame f ∷ es }) 0 r = shows_with bodies m v (of_frame f ∷ es) 0 r h shown in
      let l : IsFrame f (code_in bodies es f.function f.at) v.below s.around (IsPlace bodies es f.function f.at) (Encloses bodies es f.function (codes_in bodies es f.function f.at)) =
      subst (λ cs. Encloses bodies (of_frame f ∷ es) v.function cs v.below s.around) done.after s.round in
      s.holds ∙ ap (λ code. goes_with m s.around code (state_of v 0)) done.code ∙ ap (λ around. goes_with m around ε (state_of v 0)) l.stands_for
      ∙ end_of_frame m l.outer l.values f.arity (code_in bodies es f.function f.at) f.locals (state_of v 0)

  end_spends : (v : MachinePlain) (r : Outcome) (es : List EnclosingPlain) → v.enclosing ≡ es → Stands (bodies v.function) v.at (targets_of es)
      → slice_get (bodies v.function) v.at ≡ Some flat.end_mark → Runs bodies m v 0 r → r ≡ Spent v.store
  end_spends v r [] h p got s = absurd (subst IsEnclosed h s.0)
  end_spends v r (of_label b ∷ es) h p got s = label_spends v b es r (v.at + 1) h (end_leaves (bodies v.function) v.at b.target (targets_of es) p got) s.1
  end_spends v r (of_frame f ∷ es) h p got s = frame_spends v f es r h (last_ends (bodies v.function) v.at p got) s.1

  else_spends : (v : MachinePlain) (r : Outcome) (es : List EnclosingPlain) → v.enclosing ≡ es → Stands (bodies v.function) v.at (targets_of es)
      → slice_get (bodies v.function) v.at ≡ Some flat.else_mark → Runs bodies m v 0 r → r ≡ Spent v.store
  else_spends v r [] h p got s = absurd (subst IsEnclosed h s.0)
  else_spends v r (of_label b ∷ es) h p got s = label_spends v b es r (past_end (bodies v.function) v.at) h (else_leaves (bodies v.function) v.at b.target (targets_of es) p got) s.1
  else_spends v r (of_frame f ∷ es) h p got s = absurd (else_stands_inside (bodies v.function) v.at p got)

  next_of : (v : MachinePlain) (n : ℕ) (r : Outcome) (i : Instruction) (x : Tree) → slice_get (bodies v.function) v.at ≡ Some i → single i ≡ Some x → Runs bodies m v n r
      → IsNext (bodies v.function) v.at (v.at + 1) (targets_of v.enclosing) x
  next_of v n r i x got is s = single_goes_on (bodies v.function) v.at (targets_of v.enclosing) i x (stands_there v n r s) got is

  pub spends : (v : MachinePlain) (r : Outcome) (i : Instruction) → slice_get (bodies v.function) v.at ≡ Some i → is_free i ≡ false → Runs bodies m v 0 r → r ≡ Spent v.store
  spends v r flat.unreachable got free s =
      comes_of bodies m v 0 r unreachable s (next_of v 0 r flat.unreachable unreachable got refl s) ∙ unreachable_step m s.1.around (code_at (bodies v.function) (v.at + 1)) (state_of v 0)
  spends v r (flat.block result) got free s =
      let o = block_opens (bodies v.function) v.at (targets_of v.enclosing) result (stands_there v 0 r s) got in
      let body = code_at (bodies v.function) (v.at + 1) in
      tree_shows v 0 r (v.at + 1) _ (block result body) s o ∙ block_step m s.1.around result body o.next (state_of v 0)
  spends v r (flat.loop result) got free s =
      let o = loop_opens (bodies v.function) v.at (targets_of v.enclosing) result (stands_there v 0 r s) got in
      let body = code_at (bodies v.function) (v.at + 1) in
      tree_shows v 0 r (v.at + 1) _ (loop result body) s o ∙ loop_step m s.1.around result body o.next (state_of v 0)
  spends v r (flat.if_block result) got free s =
      let o = first_arm_opens (bodies v.function) v.at (targets_of v.enclosing) result (stands_there v 0 r s) got in
      tree_shows v 0 r (v.at + 1) _ _ s o ∙ if_step m s.1.around result _ _ o.next (state_of v 0)
  spends v r flat.else_mark got free s = else_spends v r v.enclosing refl (stands_there v 0 r s) got s
  spends v r flat.end_mark got free s = end_spends v r v.enclosing refl (stands_there v 0 r s) got s
  spends v r (flat.br l) got free s =
      comes_of bodies m v 0 r (br l) s (next_of v 0 r (flat.br l) (br l) got refl s) ∙ br_step m s.1.around l (code_at (bodies v.function) (v.at + 1)) (state_of v 0)
  spends v r (flat.br_if l) got free s =
      comes_of bodies m v 0 r (br_if l) s (next_of v 0 r (flat.br_if l) (br_if l) got refl s) ∙ br_if_step m s.1.around l (code_at (bodies v.function) (v.at + 1)) (state_of v 0)
  spends v r (flat.br_table ls d) got free s =
      comes_of bodies m v 0 r (br_table ls d) s (next_of v 0 r (flat.br_table ls d) (br_table ls d) got refl s) ∙ br_table_step m s.1.around ls d (code_at (bodies v.function) (v.at + 1)) (state_of v 0)
  spends v r flat.return got free s =
      comes_of bodies m v 0 r return s (next_of v 0 r flat.return return got refl s) ∙ return_step m s.1.around (code_at (bodies v.function) (v.at + 1)) (state_of v 0)
  spends v r (flat.call f) got free s =
      comes_of bodies m v 0 r (call f) s (next_of v 0 r (flat.call f) (call f) got refl s) ∙ call_step m s.1.around f (code_at (bodies v.function) (v.at + 1)) (state_of v 0)
  spends v r (flat.call_indirect t) got free s =
      comes_of bodies m v 0 r (call_indirect t) s (next_of v 0 r (flat.call_indirect t) (call_indirect t) got refl s) ∙ call_indirect_step m s.1.around t (code_at (bodies v.function) (v.at + 1)) (state_of v 0)
  spends v r (flat.plain p) got free s =
      comes_of bodies m v 0 r (plain p) s (next_of v 0 r (flat.plain p) (plain p) got refl s) ∙ plain_step m s.1.around p (code_at (bodies v.function) (v.at + 1)) (state_of v 0) free
