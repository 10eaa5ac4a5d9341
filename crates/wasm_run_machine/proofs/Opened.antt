-- Blocks, loops and ifs that a machine enters, and ends.
use Rattle.std.proofs.Common.{◌≡◌, ℕ, zero, suc, ◌+◌, List, [], ◌∷◌, ◌++◌, Option, Some, None, length, refl, sym, ap, subst, ◌∙◌}
use Rattle.std.specs.Prelude.{slice_get}
use Rattle.sem_words.specs.declared.word.Word.{Word}
use Rattle.sem_words.specs.declared.word.Word.TheVariants.{W32}
use Rattle.wasm_lang.specs.declared.types.ValType.{ValType}
use Rattle.wasm_lang.specs.Instructions as flat
use Rattle.wasm_lang.specs.Instructions.{Instruction}
use Rattle.wasm_lang.specs.Modules.{WasmModule}
use Rattle.wasm_lang_exec.specs.Reductions.{arity_of, choose}
use Rattle.wasm_laws_drive.specs.Drive.{Outcome, Stuck}
use Rattle.wasm_run_operands.specs.Tops.{top32}
use Rattle.wasm_run_flat.specs.declared.target.Target.TheVariants.{Past, Again}
use Rattle.wasm_run_flat.specs.Jumps.{past_end, other_arm}
use Rattle.wasm_run_flat.specs.Places.{code_at}
use Rattle.wasm_run_flat.proofs.Standing.{block_opens, loop_opens, first_arm_opens, second_arm_opens, block_goes_on, loop_goes_on, end_leaves, else_leaves, last_ends, else_stands_inside}
use Rattle.wasm_run_flat.specs.Places.{Stands}
use Rattle.wasm_run_flat.specs.Laws.{IsLeft}
use Rattle.wasm_laws_machine.specs.Machine.{MachinePlain, targets_of}
use Rattle.wasm_laws_machine.specs.Meaning.{Shows, Runs}
use Rattle.wasm_laws_machine.proofs.Blocks.{in_a_block, enters_block, enters_loop, enters_arm, if_sticks}
use Rattle.wasm_run_frames.specs.Flows.{IsEndAt}
use Rattle.wasm_run_machine.proofs.Spending.{stands_there}

-- a machine whose topmost operand isn't a number of 32 bits
pub no_number : (values : List Word) → top32 values ≡ None → (c : ℕ) (rest : List Word) → values ≡ W32 c ∷ rest → ⊥
no_number values h c rest is = let e : Some c ≡ None = sym (ap top32 is) ∙ h in cc e

module _ (bodies : ℕ → List Instruction) (m : WasmModule) where
  there : (v : MachinePlain) (body : List Instruction) (i : Instruction) → bodies v.function ≡ body → slice_get body v.at ≡ Some i → slice_get (bodies v.function) v.at ≡ Some i
  there v body i same got = subst (λ b. slice_get b v.at ≡ Some i) (sym same) got

  pub block_does : (v w : MachinePlain) (n : ℕ) (r : Outcome) (body : List Instruction) (kind : Option ValType) (past arity : ℕ)
      → w ≡ in_a_block v [] (v.values ++ v.below) (Past past) arity (length v.below) (v.at + 1)
      → past ≡ past_end body v.at → arity ≡ arity_of kind
      → bodies v.function ≡ body → slice_get body v.at ≡ Some (flat.block kind) → Runs bodies m v (suc n) r → Shows bodies m w n r
  block_does v w n r body kind past arity is p a same got s =
      let under = v.values ++ v.below in
      let o = block_opens (bodies v.function) v.at (targets_of v.enclosing) kind (stands_there bodies m v (suc n) r s) (there v body (flat.block kind) same got) in
      let to : past ≡ past_end (bodies v.function) v.at = p ∙ ap (λ b. past_end b v.at) (sym same) in
      let all : w ≡ in_a_block v [] under (Past (past_end (bodies v.function) v.at)) (arity_of kind) (length v.below) (v.at + 1) =
      is ∙ ap (λ p. in_a_block v [] under (Past p) arity (length v.below) (v.at + 1)) to ∙ ap (λ a. in_a_block v [] under (Past (past_end (bodies v.function) v.at)) a (length v.below) (v.at + 1)) a in
      subst (λ w. Shows bodies m w n r) (sym all)
      (enters_block bodies m v n r [] under (past_end (bodies v.function) v.at) (length v.below) kind refl refl refl (block_goes_on (bodies v.function) (past_end (bodies v.function) v.at)) s o)

  pub loop_does : (v w : MachinePlain) (n : ℕ) (r : Outcome) (body : List Instruction) (kind : Option ValType)
      → w ≡ in_a_block v [] (v.values ++ v.below) (Again v.at) 0 (length v.below) (v.at + 1)
      → bodies v.function ≡ body → slice_get body v.at ≡ Some (flat.loop kind) → Runs bodies m v (suc n) r → Shows bodies m w n r
  loop_does v w n r body kind is same got s =
      let stands = stands_there bodies m v (suc n) r s in
      let here = there v body (flat.loop kind) same got in
      let o = loop_opens (bodies v.function) v.at (targets_of v.enclosing) kind stands here in
      subst (λ w. Shows bodies m w n r) (sym is)
      (enters_loop bodies m v n r [] (v.values ++ v.below) (length v.below) kind refl refl refl (loop_goes_on (bodies v.function) v.at (targets_of v.enclosing) kind stands here) s o)

  -- the first arm, where the number isn't 0
  pub first_arm_does : (v w : MachinePlain) (n c : ℕ) (r : Outcome) (body : List Instruction) (values below : List Word) (kind : Option ValType) (past arity : ℕ)
      → v.values ≡ W32 (suc c) ∷ values → below ≡ v.below
      → w ≡ in_a_block (record v { values = values; below = below }) [] (values ++ below) (Past past) arity (length below) (v.at + 1)
      → past ≡ past_end body v.at → arity ≡ arity_of kind
      → bodies v.function ≡ body → slice_get body v.at ≡ Some (flat.if_block kind)
      → Runs bodies m v (suc n) r → Shows bodies m w n r
  first_arm_does v w n c r body values below kind past arity top bs is p a same got s =
      let B = bodies v.function in
      let o = first_arm_opens B v.at (targets_of v.enclosing) kind (stands_there bodies m v (suc n) r s) (there v body (flat.if_block kind) same got) in
      let to : past ≡ past_end B v.at = p ∙ ap (λ b. past_end b v.at) (sym same) in
      let u : MachinePlain = record v { values = values; below = below } in
      let all : w ≡ in_a_block u [] (values ++ below) (Past (past_end B v.at)) (arity_of kind) (length below) (v.at + 1) =
      is ∙ ap (λ p. in_a_block u [] (values ++ below) (Past p) arity (length below) (v.at + 1)) to ∙ ap (λ a. in_a_block u [] (values ++ below) (Past (past_end B v.at)) a (length below) (v.at + 1)) a in
      subst (λ w. Shows bodies m w n r) (sym all)
      (enters_arm bodies m v n (suc c) r values [] (values ++ below) below (past_end B v.at) (length below) (v.at + 1) kind
      (code_at B (v.at + 1)) (code_at B (other_arm B v.at)) (code_at B (v.at + 1)) top refl refl bs refl (block_goes_on B (past_end B v.at)) refl s o)

  pub second_arm_does : (v w : MachinePlain) (n : ℕ) (r : Outcome) (body : List Instruction) (values below : List Word) (kind : Option ValType) (past other arity : ℕ)
      → v.values ≡ W32 0 ∷ values → below ≡ v.below
      → w ≡ in_a_block (record v { values = values; below = below }) [] (values ++ below) (Past past) arity (length below) other
      → past ≡ past_end body v.at → other ≡ other_arm body v.at → arity ≡ arity_of kind
      → bodies v.function ≡ body → slice_get body v.at ≡ Some (flat.if_block kind)
      → Runs bodies m v (suc n) r → Shows bodies m w n r
  second_arm_does v w n r body values below kind past other arity top bs is p q a same got s =
      let B = bodies v.function in
      let o = second_arm_opens B v.at (targets_of v.enclosing) kind (stands_there bodies m v (suc n) r s) (there v body (flat.if_block kind) same got) in
      let to : past ≡ past_end B v.at = p ∙ ap (λ b. past_end b v.at) (sym same) in
      let on : other ≡ other_arm B v.at = q ∙ ap (λ b. other_arm b v.at) (sym same) in
      let u : MachinePlain = record v { values = values; below = below } in
      let all : w ≡ in_a_block u [] (values ++ below) (Past (past_end B v.at)) (arity_of kind) (length below) (other_arm B v.at) =
      is ∙ ap (λ p. in_a_block u [] (values ++ below) (Past p) arity (length below) other) to ∙ ap (λ a. in_a_block u [] (values ++ below) (Past (past_end B v.at)) a (length below) other) a
      ∙ ap (λ q. in_a_block u [] (values ++ below) (Past (past_end B v.at)) (arity_of kind) (length below) q) on in
      subst (λ w. Shows bodies m w n r) (sym all)
      (enters_arm bodies m v n 0 r values [] (values ++ below) below (past_end B v.at) (length below) (other_arm B v.at) kind
      (code_at B (v.at + 1)) (code_at B (other_arm B v.at)) (code_at B (other_arm B v.at)) top refl refl bs refl (block_goes_on B (past_end B v.at)) refl s o)

  -- either arm
  pub if_does : (v w : MachinePlain) (n c : ℕ) (r : Outcome) (body : List Instruction) (values below : List Word) (kind : Option ValType) (past inside arity : ℕ)
      → v.values ≡ W32 c ∷ values → below ≡ v.below
      → w ≡ in_a_block (record v { values = values; below = below }) [] (values ++ below) (Past past) arity (length below) inside
      → past ≡ past_end body v.at → inside ≡ choose c (v.at + 1) (other_arm body v.at) → arity ≡ arity_of kind
      → bodies v.function ≡ body → slice_get body v.at ≡ Some (flat.if_block kind)
      → Runs bodies m v (suc n) r → Shows bodies m w n r
  if_does v w n zero r body values below kind past inside arity top bs is p q a same got s = second_arm_does v w n r body values below kind past inside arity top bs is p q a same got s
  if_does v w n (suc c) r body values below kind past inside arity top bs is p q a same got s =
      first_arm_does v w n c r body values below kind past arity top bs
      (is ∙ ap (λ at. in_a_block (record v { values = values; below = below }) [] (values ++ below) (Past past) arity (length below) at) q) p a same got s

  pub if_is_stuck : (v : MachinePlain) (n : ℕ) (r : Outcome) (body : List Instruction) (kind : Option ValType) → top32 v.values ≡ None
      → bodies v.function ≡ body → slice_get body v.at ≡ Some (flat.if_block kind) → Runs bodies m v (suc n) r → r ≡ Stuck v.store
  if_is_stuck v n r body kind none same got s =
      let o = first_arm_opens (bodies v.function) v.at (targets_of v.enclosing) kind (stands_there bodies m v (suc n) r s) (there v body (flat.if_block kind) same got) in
      if_sticks bodies m v n r (v.at + 1) (Past (past_end (bodies v.function) v.at)) kind (code_at (bodies v.function) (v.at + 1)) (code_at (bodies v.function) (other_arm (bodies v.function) v.at))
      (no_number v.values none) s o

  -- ---- ends

  pub end_is_at : (v : MachinePlain) (n place : ℕ) (r : Outcome) (body : List Instruction) → place ≡ v.at + 1
      → bodies v.function ≡ body → slice_get body v.at ≡ Some flat.end_mark → Runs bodies m v (suc n) r → IsEndAt (bodies v.function) v place
  end_is_at v n place r body h same got s =
      let B = bodies v.function in
      let stands = stands_there bodies m v (suc n) r s in
      let here = there v body flat.end_mark same got in
      record {
        in_label = λ t ts is. subst (λ p. IsLeft B v.at p ts) (sym h) (end_leaves B v.at t ts (subst (Stands B v.at) is stands) here);
        in_function = λ is. last_ends B v.at (subst (Stands B v.at) is stands) here;
      }

  pub else_is_at : (v : MachinePlain) (n place : ℕ) (r : Outcome) (body : List Instruction) → place ≡ past_end body v.at
      → bodies v.function ≡ body → slice_get body v.at ≡ Some flat.else_mark → Runs bodies m v (suc n) r → IsEndAt (bodies v.function) v place
  else_is_at v n place r body h same got s =
      let B = bodies v.function in
      let stands = stands_there bodies m v (suc n) r s in
      let here = there v body flat.else_mark same got in
      let to : place ≡ past_end B v.at = h ∙ ap (λ b. past_end b v.at) (sym same) in
      record {
        in_label = λ t ts is. subst (λ p. IsLeft B v.at p ts) (sym to) (else_leaves B v.at t ts (subst (Stands B v.at) is stands) here);
        in_function = λ is. absurd (else_stands_inside B v.at (subst (Stands B v.at) is stands) here);
      }
