-- Blocks, loops and ifs, and the walk past their ends.
use Rattle.std.proofs.Common.{◌≡◌, ℕ, ◌+◌, ◌<◌, Bool, List, [], ◌∷◌, ◌++◌, drop, Option, Some, None, refl, sym, ap, subst, ◌∙◌, arith}
use Rattle.std.specs.Prelude.{slice_get, if◌then◌else◌}
use Rattle.wasm_lang.specs.declared.types.ValType.{ValType}
use Rattle.wasm_lang.specs.Instructions as flat
use Rattle.wasm_lang.specs.Instructions.{Instruction}
use Rattle.wasm_lang_valid.specs.Typing.{Context, listed}
use Rattle.wasm_lang_exec.specs.Code.{block, loop, if_block, Trees, ◌▹◌}
use Rattle.wasm_run_flat.specs.Jumps.{past_end, other_arm}
use Rattle.wasm_run_flat.specs.Places.{code_at}
use Rattle.wasm_run_flat.specs.declared.target.Target.TheVariants.{Past, Again}
use Rattle.wasm_run_flat.proofs.Standing.{block_opens, loop_opens, first_arm_opens, second_arm_opens}
use Rattle.wasm_run_flat.proofs.Past.{past_block, past_loop, past_if}
use Rattle.asm_lang.specs.Modules.{Stmt, breaks}
use Rattle.wasm2js_translation.specs.Helpers.{block_of}
use Rattle.wasm2js_translation.specs.Actions.{under, low}
use Rattle.wasm2js_translation.specs.Bodies.{Aim, past, again, comes_to_end, labels_round, under_label, endless, chosen, written_but, asked}
use Rattle.wasm2js_build.specs.Growing.{Held, nothing_held}
use Rattle.wasm2js_bodies.specs.Walks.{IsInside, size, stmts_after, GoesOn, IsOver}
use Rattle.wasm2js_bodies.proofs.Steps.{all_written, begun, written_goes_on}

-- ---- inside

module _ (body : List Instruction) (at : ℕ) (r : Option ValType) (s : IsInside body at) where
  pub inside_block : slice_get body at ≡ Some (flat.block r) → IsInside body (at + 1)
  inside_block here = record { targets = Past (past_end body at) ∷ s.targets; stands = (block_opens body at s.targets r s.stands here).stands; translated = s.translated }

  pub inside_loop : slice_get body at ≡ Some (flat.loop r) → IsInside body (at + 1)
  inside_loop here = record { targets = Again at ∷ s.targets; stands = (loop_opens body at s.targets r s.stands here).stands; translated = s.translated }

  pub inside_first : slice_get body at ≡ Some (flat.if_block r) → IsInside body (at + 1)
  inside_first here = record { targets = Past (past_end body at) ∷ s.targets; stands = (first_arm_opens body at s.targets r s.stands here).stands; translated = s.translated }

  pub inside_second : slice_get body at ≡ Some (flat.if_block r) → IsInside body (other_arm body at)
  inside_second here = record { targets = Past (past_end body at) ∷ s.targets; stands = (second_arm_opens body at s.targets r s.stands here).stands; translated = s.translated }

  pub block_smaller : slice_get body at ≡ Some (flat.block r) → size (code_at body (at + 1)) < size (code_at body at)
  block_smaller here =
      let n = past_block body at s.targets r s.stands here in
      let less : size (code_at body (at + 1)) < size (block r (code_at body (at + 1)) ▹ code_at body (past_end body at)) = omega arith in
      subst (λ (is : Trees). size (code_at body (at + 1)) < size is) (sym n.code) less

  pub loop_smaller : slice_get body at ≡ Some (flat.loop r) → size (code_at body (at + 1)) < size (code_at body at)
  loop_smaller here =
      let n = past_loop body at s.targets r s.stands here in
      let less : size (code_at body (at + 1)) < size (loop r (code_at body (at + 1)) ▹ code_at body (past_end body at)) = omega arith in
      subst (λ (is : Trees). size (code_at body (at + 1)) < size is) (sym n.code) less

  pub first_smaller : slice_get body at ≡ Some (flat.if_block r) → size (code_at body (at + 1)) < size (code_at body at)
  first_smaller here =
      let n = past_if body at s.targets r s.stands here in
      let less : size (code_at body (at + 1)) < size (if_block r (code_at body (at + 1)) (code_at body (other_arm body at)) ▹ code_at body (past_end body at)) = omega arith in
      subst (λ (is : Trees). size (code_at body (at + 1)) < size is) (sym n.code) less

  pub second_smaller : slice_get body at ≡ Some (flat.if_block r) → size (code_at body (other_arm body at)) < size (code_at body at)
  second_smaller here =
      let n = past_if body at s.targets r s.stands here in
      let less : size (code_at body (other_arm body at)) < size (if_block r (code_at body (at + 1)) (code_at body (other_arm body at)) ▹ code_at body (past_end body at)) = omega arith in
      subst (λ (is : Trees). size (code_at body (other_arm body at)) < size is) (sym n.code) less

-- ---- past the end

module _ (bytes cells : ℕ) (c : Context) (body : List Instruction) (at : ℕ) (ls : List Aim) (b n : ℕ) (r : Option ValType) (ts us : List ValType) (ds es : Held) (before mid after inner : List Stmt) (s : IsInside body at) (w : mid ≡ before ++ all_written ds) (waits : es ≡ nothing_held) where
  pub block_step : slice_get body at ≡ Some (flat.block r) → n ≡ under 0 b ts → us ≡ listed r ++ ts
      → (reached : Bool) → IsOver bytes cells c body (at + 1) reached (past n r ∷ ls) n [] (begun ds) [] inner
      → after ≡ mid ++ under_label (labels_round ls) (block_of inner) ∷ []
      → GoesOn bytes cells c body at (past_end body at) ls b ts us ds es before after
  block_step here base gives reached o made =
      let code = code_at body (at + 1) in
      let d = under 0 b ts in
      let is : inner ≡ stmts_after bytes cells c code (past d r ∷ ls) d [] (begun ds) = o.statements ∙ ap (λ (m : ℕ). stmts_after bytes cells c code (past m r ∷ ls) m [] (begun ds)) base in
      subst (λ (vs : List ValType). GoesOn bytes cells c body at (past_end body at) ls b ts vs ds es before after) (sym gives)
      (written_goes_on bytes cells c body at ls b ts ds before mid after (all_written ds) (under_label (labels_round ls) (block_of (stmts_after bytes cells c code (past d r ∷ ls) d [] (begun ds))) ∷ [])
      w (listed r ++ ts) es waits (past_end body at) s.targets (block r code) (past_block body at s.targets r s.stands here) s.translated
      (made ∙ ap (λ (ss : List Stmt). mid ++ under_label (labels_round ls) (block_of ss) ∷ []) is)
      (λ is. refl) (λ is. refl))

  pub loop_step : slice_get body at ≡ Some (flat.loop r) → n ≡ under 0 b ts → us ≡ listed r ++ ts
      → (reached : Bool) → IsOver bytes cells c body (at + 1) reached (again n ∷ ls) n [] nothing_held [] inner
      → after ≡ mid ++ under_label (labels_round ls) (endless (inner ++ (if reached then breaks None ∷ [] else []))) ∷ []
      → GoesOn bytes cells c body at (past_end body at) ls b ts us ds es before after
  loop_step here base gives reached o made =
      let code = code_at body (at + 1) in
      let d = under 0 b ts in
      let is : inner ≡ stmts_after bytes cells c code (again d ∷ ls) d [] nothing_held = o.statements ∙ ap (λ (m : ℕ). stmts_after bytes cells c code (again m ∷ ls) m [] nothing_held) base in
      subst (λ (vs : List ValType). GoesOn bytes cells c body at (past_end body at) ls b ts vs ds es before after) (sym gives)
      (written_goes_on bytes cells c body at ls b ts ds before mid after (all_written ds)
      (under_label (labels_round ls) (endless (stmts_after bytes cells c code (again d ∷ ls) d [] nothing_held ++ (if comes_to_end code then breaks None ∷ [] else []))) ∷ [])
      w (listed r ++ ts) es waits (past_end body at) s.targets (loop r code) (past_loop body at s.targets r s.stands here) s.translated
      (made ∙ ap (λ (ss : List Stmt). mid ++ under_label (labels_round ls) (endless (ss ++ (if reached then breaks None ∷ [] else []))) ∷ []) is
      ∙ ap (λ (e : Bool). mid ++ under_label (labels_round ls) (endless (stmts_after bytes cells c code (again d ∷ ls) d [] nothing_held ++ (if e then breaks None ∷ [] else []))) ∷ []) o.ending)
      (λ is. refl) (λ is. refl))

module _ (bytes cells : ℕ) (c : Context) (body : List Instruction) (at : ℕ) (ls : List Aim) (b n : ℕ) (r : Option ValType) (ts us : List ValType) (ds es : Held) (before mid after inner other : List Stmt) (s : IsInside body at) (w : mid ≡ before ++ written_but (low (under 1 b ts)) ds.waits) (waits : es ≡ nothing_held) where
  pub if_step : slice_get body at ≡ Some (flat.if_block r) → n ≡ under 1 b ts → us ≡ listed r ++ drop 1 ts
      → (first second : Bool) → IsOver bytes cells c body (at + 1) first (past n r ∷ ls) n [] (begun ds) [] inner
      → IsOver bytes cells c body (other_arm body at) second (past n r ∷ ls) n [] nothing_held [] other
      → after ≡ mid ++ under_label (labels_round ls) (chosen (asked (under 1 b ts) ds.waits) inner other) ∷ []
      → GoesOn bytes cells c body at (past_end body at) ls b ts us ds es before after
  if_step here base gives first second o p made =
      let code = code_at body (at + 1) in
      let more = code_at body (other_arm body at) in
      let d = under 1 b ts in
      let test = asked d ds.waits in
      let is : inner ≡ stmts_after bytes cells c code (past d r ∷ ls) d [] (begun ds) = o.statements ∙ ap (λ (m : ℕ). stmts_after bytes cells c code (past m r ∷ ls) m [] (begun ds)) base in
      let are : other ≡ stmts_after bytes cells c more (past d r ∷ ls) d [] nothing_held = p.statements ∙ ap (λ (m : ℕ). stmts_after bytes cells c more (past m r ∷ ls) m [] nothing_held) base in
      subst (λ (vs : List ValType). GoesOn bytes cells c body at (past_end body at) ls b ts vs ds es before after) (sym gives)
      (written_goes_on bytes cells c body at ls b ts ds before mid after (written_but (low d) ds.waits)
      (under_label (labels_round ls) (chosen test (stmts_after bytes cells c code (past d r ∷ ls) d [] (begun ds)) (stmts_after bytes cells c more (past d r ∷ ls) d [] nothing_held)) ∷ [])
      w (listed r ++ drop 1 ts) es waits (past_end body at) s.targets (if_block r code more) (past_if body at s.targets r s.stands here) s.translated
      (made ∙ ap (λ (ss : List Stmt). mid ++ under_label (labels_round ls) (chosen test ss other) ∷ []) is
      ∙ ap (λ (ss : List Stmt). mid ++ under_label (labels_round ls) (chosen test (stmts_after bytes cells c code (past d r ∷ ls) d [] (begun ds)) ss) ∷ []) are)
      (λ is. refl) (λ is. refl))
