-- Blocks that are entered, and ends.
use Rattle.std.proofs.Common.{◌≡◌, ℕ, suc, ◌+◌, List, [], ◌∷◌, ◌++◌, Option, length, refl, sym, ap, subst, ◌∙◌}
use Rattle.sem_words.specs.declared.word.Word.{Word}
use Rattle.sem_words.specs.declared.word.Word.TheVariants.{W32, W64}
use Rattle.wasm_lang.specs.declared.types.ValType.{ValType}
use Rattle.wasm_lang.specs.Instructions.{Instruction}
use Rattle.wasm_lang.specs.Modules.{WasmModule}
use Rattle.wasm_lang_exec.specs.Code.{block, loop, if_block, Tree, Trees, ε, ◌▹◌, one}
use Rattle.wasm_lang_exec.specs.Reductions.{arity_of, choose}
use Rattle.wasm_laws_drive.specs.Drive.{State, Outcome, Stuck}
use Rattle.wasm_laws_drive.specs.Equations.{take_number}
use Rattle.wasm_laws_drive.specs.Contexts.{Surrounding, in_label}
use Rattle.wasm_laws_drive.specs.Steps.{goes_with, in_block}
use Rattle.wasm_laws_drive.proofs.Stepping.{block_step, loop_step, if_step}
use Rattle.wasm_run_flat.specs.declared.target.Target.{Target}
use Rattle.wasm_run_flat.specs.declared.target.Target.TheVariants.{Past, Again}
use Rattle.wasm_run_flat.specs.Places.{code_at, after_at, continuation}
use Rattle.wasm_run_flat.specs.Laws.{IsOpened}
use Rattle.wasm_laws_machine.specs.Machine.{LabelPlain, of_label, MachinePlain, state_of, targets_of}
use Rattle.wasm_laws_machine.specs.Meaning.{codes_in, Encloses, Shows, Runs}
use Rattle.wasm_laws_machine.proofs.Plainly.{is_place, code_is, codes_are}

-- the machine inside a block that is entered
abbrev pub in_a_block : MachinePlain → List Word → List Word → Target → ℕ → ℕ → ℕ → MachinePlain
in_a_block v values below target arity floor at =
    record v { values = values; below = below; at = at; enclosing = of_label (record { target = target; arity = arity; floor = floor }) ∷ v.enclosing }

module _ (bodies : ℕ → List Instruction) (m : WasmModule) where
  -- ---- blocks

  -- a tree stands at the machine's place, and the inside of a block of it at `at`
  pub block_shows : (v : MachinePlain) (n k : ℕ) (r : Outcome) (operands values below : List Word) (target : Target) (arity floor at : ℕ) (tree : Tree)
      → values ≡ [] → below ≡ operands ++ v.below → floor ≡ length v.below
      → (s : Runs bodies m v k r) → (o : IsOpened (bodies v.function) v.at at (targets_of v.enclosing) target tree)
      → r ≡ in_block m s.1.around arity (continuation (bodies v.function) target) (code_at (bodies v.function) at) o.next (record { values = operands; locals = v.locals; store = v.store; left = n })
      → Shows bodies m (in_a_block v values below target arity floor at) n r
  block_shows v n k r operands values below target arity floor at tree vs bs fs (inside, s) o comes =
      let b : LabelPlain = record { target = target; arity = arity; floor = floor } in
      let around : List Surrounding = in_label operands arity (continuation (bodies v.function) target) o.next ∷ s.around in
      let codes : after_at (bodies v.function) at ≡ o.next ∷ codes_in bodies v.enclosing v.function v.at =
      o.after ∙ ap (λ cs. o.next ∷ cs) (sym (codes_are bodies v.enclosing v.function v.at inside)) in
      let round : Encloses bodies (of_label b ∷ v.enclosing) v.function (o.next ∷ codes_in bodies v.enclosing v.function v.at) below around =
      record { values = operands; rest = v.below; outer = s.around; operands = record { parts = bs; count = sym fs }; stands_for = refl; is_inside = inside; round = s.round } in
      record {
        around = around;
        is_place = o.stands;
        round = subst (λ cs. Encloses bodies (of_label b ∷ v.enclosing) v.function cs below around) (sym codes) round;
        holds = comes ∙ ap (λ vs. goes_with m around (code_at (bodies v.function) at) (record { values = vs; locals = v.locals; store = v.store; left = n })) (sym vs);
      }

  tree_comes : (v : MachinePlain) (n : ℕ) (r : Outcome) (at : ℕ) (target : Target) (tree : Tree) (s : Runs bodies m v n r)
      → (o : IsOpened (bodies v.function) v.at at (targets_of v.enclosing) target tree) → r ≡ goes_with m s.1.around (tree ▹ o.next) (state_of v n)
  tree_comes v n r at target tree (inside, s) o = s.holds ∙ ap (λ code. goes_with m s.around code (state_of v n)) (code_is bodies v.enclosing v.function v.at inside ∙ o.code)

  pub enters_block : (v : MachinePlain) (n : ℕ) (r : Outcome) (values below : List Word) (place floor : ℕ) (result : Option ValType)
      → values ≡ [] → below ≡ v.values ++ v.below → floor ≡ length v.below
      → continuation (bodies v.function) (Past place) ≡ ε
      → Runs bodies m v (suc n) r → IsOpened (bodies v.function) v.at (v.at + 1) (targets_of v.enclosing) (Past place) (block result (code_at (bodies v.function) (v.at + 1)))
      → Shows bodies m (in_a_block v values below (Past place) (arity_of result) floor (v.at + 1)) n r
  enters_block v n r values below place floor result vs bs fs none s o =
      let body = code_at (bodies v.function) (v.at + 1) in
      block_shows v n (suc n) r v.values values below (Past place) (arity_of result) floor (v.at + 1) (block result body) vs bs fs s o
      (tree_comes v (suc n) r (v.at + 1) (Past place) (block result body) s o ∙ block_step m s.1.around result body o.next (state_of v (suc n))
      ∙ ap (λ c. in_block m s.1.around (arity_of result) c body o.next (state_of v n)) (sym none))

  pub enters_loop : (v : MachinePlain) (n : ℕ) (r : Outcome) (values below : List Word) (floor : ℕ) (result : Option ValType)
      → values ≡ [] → below ≡ v.values ++ v.below → floor ≡ length v.below
      → continuation (bodies v.function) (Again v.at) ≡ one (loop result (code_at (bodies v.function) (v.at + 1)))
      → Runs bodies m v (suc n) r → IsOpened (bodies v.function) v.at (v.at + 1) (targets_of v.enclosing) (Again v.at) (loop result (code_at (bodies v.function) (v.at + 1)))
      → Shows bodies m (in_a_block v values below (Again v.at) 0 floor (v.at + 1)) n r
  enters_loop v n r values below floor result vs bs fs again s o =
      let body = code_at (bodies v.function) (v.at + 1) in
      block_shows v n (suc n) r v.values values below (Again v.at) 0 floor (v.at + 1) (loop result body) vs bs fs s o
      (tree_comes v (suc n) r (v.at + 1) (Again v.at) (loop result body) s o ∙ loop_step m s.1.around result body o.next (state_of v (suc n))
      ∙ ap (λ c. in_block m s.1.around 0 c body o.next (state_of v n)) (sym again))

  -- an arm of an if, at `at`; the topmost operand was taken
  pub enters_arm : (v : MachinePlain) (n c : ℕ) (r : Outcome) (operands values below middle : List Word) (place floor at : ℕ) (result : Option ValType) (first second arm : Trees)
      → v.values ≡ W32 c ∷ operands → values ≡ [] → below ≡ operands ++ middle → middle ≡ v.below → floor ≡ length middle
      → continuation (bodies v.function) (Past place) ≡ ε → choose c first second ≡ code_at (bodies v.function) at
      → Runs bodies m v (suc n) r → IsOpened (bodies v.function) v.at at (targets_of v.enclosing) (Past place) (if_block result first second)
      → Shows bodies m (in_a_block v values below (Past place) (arity_of result) floor at) n r
  enters_arm v n c r operands values below middle place floor at result first second arm top vs bs ms fs none chosen s o =
      block_shows v n (suc n) r operands values below (Past place) (arity_of result) floor at (if_block result first second) vs (bs ∙ ap (λ b. operands ++ b) ms) (fs ∙ ap length ms) s o
      (tree_comes v (suc n) r at (Past place) (if_block result first second) s o ∙ if_step m s.1.around result first second o.next (state_of v (suc n))
      ∙ ap (λ vs. take_number vs (state_of v n) (λ c. in_block m s.1.around (arity_of result) ε (choose c first second) o.next)) top
      ∙ ap (λ body. in_block m s.1.around (arity_of result) ε body o.next (record { values = operands; locals = v.locals; store = v.store; left = n })) chosen
      ∙ ap (λ c. in_block m s.1.around (arity_of result) c (code_at (bodies v.function) at) o.next (record { values = operands; locals = v.locals; store = v.store; left = n })) (sym none))

  no_number : (values : List Word) (t : State) (go : ℕ → State → Outcome) → ((c : ℕ) (rest : List Word) → values ≡ W32 c ∷ rest → ⊥) → take_number values t go ≡ Stuck t.store
  no_number [] t go h = refl
  no_number (W32 c ∷ rest) t go h = absurd (h c rest refl)
  no_number (W64 c ∷ rest) t go h = refl

  pub if_sticks : (v : MachinePlain) (n : ℕ) (r : Outcome) (at : ℕ) (target : Target) (result : Option ValType) (first second : Trees)
      → ((c : ℕ) (rest : List Word) → v.values ≡ W32 c ∷ rest → ⊥)
      → Runs bodies m v (suc n) r → IsOpened (bodies v.function) v.at at (targets_of v.enclosing) target (if_block result first second)
      → r ≡ Stuck v.store
  if_sticks v n r at target result first second none s o =
      tree_comes v (suc n) r at target (if_block result first second) s o ∙ if_step m s.1.around result first second o.next (state_of v (suc n))
      ∙ no_number v.values (state_of v n) (λ c. in_block m s.1.around (arity_of result) ε (choose c first second) o.next) none
