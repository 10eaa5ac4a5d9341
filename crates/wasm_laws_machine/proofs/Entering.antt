-- Calls, and branches that depend on an operand.
use Rattle.std.proofs.Common.{◌≡◌, ℕ, suc, ◌+◌, true, false, List, [], ◌∷◌, ◌++◌, Option, Some, None, length, refl, sym, ap, subst, ◌∙◌}
use Rattle.std.specs.Prelude.{slice_get, reverse, if◌then◌else◌}
use Rattle.std.proofs.lemmas.List.{reverse-reverse}
use Rattle.sem_words.specs.declared.word.Word.{Word}
use Rattle.sem_words.specs.declared.word.Word.TheVariants.{W32, W64}
use Rattle.sem_words.specs.declared.word.TrapKind.TheVariants as kinds
use Rattle.session_lang.specs.Observation.{EndPlain, trapped}
use Rattle.session_lang.specs.Imports.{Given, ImportAnswer, goes_on, ends, answer_import}
use Rattle.wasm_lang.specs.declared.types.ValType.{ValType}
use Rattle.wasm_lang.specs.Instructions.{Instruction}
use Rattle.wasm_lang.specs.Modules.{FunctionType, WasmModule}
use Rattle.wasm_lang_exec.specs.Code.{br, br_if, br_table, call, call_indirect, Tree, Trees}
use Rattle.wasm_lang_exec.specs.Store.{zeros_of}
use Rattle.wasm_lang_exec.specs.Reductions.{Callee, an_import, a_function, callee_at, params_of, top_of, below_top, result_word, of_type, choose, default_to}
use Rattle.wasm_laws_drive.specs.Drive.{State, Outcome, Branch, Ended, Stuck, onward}
use Rattle.wasm_laws_drive.specs.Equations.{take_number, answered}
use Rattle.wasm_laws_drive.specs.Contexts.{Surrounding, in_frame, closed}
use Rattle.wasm_laws_drive.specs.Steps.{goes_with, after_answer, in_function, in_call, in_entry}
use Rattle.wasm_laws_drive.proofs.Stepping.{br_step, br_if_step, br_table_step, call_step, call_indirect_step}
use Rattle.wasm_run_flat.specs.Places.{code_at}
use Rattle.wasm_run_flat.specs.Laws.{IsNext, Begins}
use Rattle.wasm_laws_machine.specs.Machine.{FramePlain, of_frame, MachinePlain, state_of, targets_of}
use Rattle.wasm_laws_machine.specs.Meaning.{code_in, codes_in, Encloses, Shows, Runs, Calls, Branches}
use Rattle.wasm_laws_machine.proofs.Plainly.{is_place, code_is, codes_are, comes_of, next_shows}
use Rattle.wasm_laws_machine.proofs.Branching.{branch_begins}

module _ (bodies : ℕ → List Instruction) (m : WasmModule) where
  -- ---- branches

  pub br_branches : (v : MachinePlain) (n l : ℕ) (r : Outcome) → Runs bodies m v (suc n) r → IsNext (bodies v.function) v.at (v.at + 1) (targets_of v.enclosing) (br l)
      → Branches bodies m v (length v.below) l n r
  br_branches v n l r s next =
      branch_begins bodies m v n l r v.values v.below s.0 refl (record {
        around = s.1.around;
        is_place = s.1.is_place;
        round = s.1.round;
        holds = comes_of bodies m v (suc n) r (br l) s next ∙ br_step m s.1.around l (code_at (bodies v.function) (v.at + 1)) (state_of v (suc n));
      })

  if_comes : (v : MachinePlain) (n l c : ℕ) (r : Outcome) (values : List Word) → v.values ≡ W32 c ∷ values
      → (s : Runs bodies m v (suc n) r) → IsNext (bodies v.function) v.at (v.at + 1) (targets_of v.enclosing) (br_if l)
      → let t = record (state_of v n) { values = values } in
      r ≡ choose c (closed m s.1.around (Branch l t)) (goes_with m s.1.around (code_at (bodies v.function) (v.at + 1)) t)
  if_comes v n l c r values top s next =
      comes_of bodies m v (suc n) r (br_if l) s next ∙ br_if_step m s.1.around l (code_at (bodies v.function) (v.at + 1)) (state_of v (suc n))
      ∙ ap (λ vs. take_number vs (state_of v n) (λ c t. choose c (closed m s.1.around (Branch l t)) (goes_with m s.1.around (code_at (bodies v.function) (v.at + 1)) t))) top

  -- the number isn't 0
  pub br_if_branches : (v : MachinePlain) (n l c : ℕ) (r : Outcome) (values below : List Word) → v.values ≡ W32 (suc c) ∷ values → below ≡ v.below
      → Runs bodies m v (suc n) r → IsNext (bodies v.function) v.at (v.at + 1) (targets_of v.enclosing) (br_if l)
      → Branches bodies m (record v { values = values; below = below }) (length below) l n r
  br_if_branches v n l c r values below top bs s next =
      branch_begins bodies m v n l r values below s.0 bs (record { around = s.1.around; is_place = s.1.is_place; round = s.1.round; holds = if_comes v n l (suc c) r values top s next })

  pub br_if_goes_on : (v : MachinePlain) (n l : ℕ) (r : Outcome) (values below : List Word) → v.values ≡ W32 0 ∷ values → below ≡ v.below
      → Runs bodies m v (suc n) r → IsNext (bodies v.function) v.at (v.at + 1) (targets_of v.enclosing) (br_if l)
      → Shows bodies m (record v { values = values; below = below; at = v.at + 1 }) n r
  br_if_goes_on v n l r values below top bs s next =
      next_shows bodies m v (suc n) n r (br_if l) values below v.locals v.store bs s next (if_comes v n l 0 r values top s next)

  pub no_number : (values : List Word) (t : State) (go : ℕ → State → Outcome) → ((c : ℕ) (rest : List Word) → values ≡ W32 c ∷ rest → ⊥) → take_number values t go ≡ Stuck t.store
  no_number [] t go h = refl
  no_number (W32 c ∷ rest) t go h = absurd (h c rest refl)
  no_number (W64 c ∷ rest) t go h = refl

  pub br_if_sticks : (v : MachinePlain) (n l : ℕ) (r : Outcome) → ((c : ℕ) (rest : List Word) → v.values ≡ W32 c ∷ rest → ⊥)
      → Runs bodies m v (suc n) r → IsNext (bodies v.function) v.at (v.at + 1) (targets_of v.enclosing) (br_if l) → r ≡ Stuck v.store
  br_if_sticks v n l r none s next =
      comes_of bodies m v (suc n) r (br_if l) s next ∙ br_if_step m s.1.around l (code_at (bodies v.function) (v.at + 1)) (state_of v (suc n))
      ∙ no_number v.values (state_of v n) (λ c t. choose c (closed m s.1.around (Branch l t)) (goes_with m s.1.around (code_at (bodies v.function) (v.at + 1)) t)) none

  pub br_table_branches : (v : MachinePlain) (n d i l : ℕ) (ls : List ℕ) (r : Outcome) (values below : List Word) → v.values ≡ W32 i ∷ values → below ≡ v.below
      → default_to d (slice_get ls i) ≡ l
      → Runs bodies m v (suc n) r → IsNext (bodies v.function) v.at (v.at + 1) (targets_of v.enclosing) (br_table ls d)
      → Branches bodies m (record v { values = values; below = below }) (length below) l n r
  br_table_branches v n d i l ls r values below top bs chosen s next =
      branch_begins bodies m v n l r values below s.0 bs (record {
        around = s.1.around;
        is_place = s.1.is_place;
        round = s.1.round;
        holds = comes_of bodies m v (suc n) r (br_table ls d) s next ∙ br_table_step m s.1.around ls d (code_at (bodies v.function) (v.at + 1)) (state_of v (suc n))
            ∙ ap (λ vs. take_number vs (state_of v n) (λ i t. closed m s.1.around (Branch (default_to d (slice_get ls i)) t))) top
            ∙ ap (λ l. closed m s.1.around (Branch l (record { values = values; locals = v.locals; store = v.store; left = n }))) chosen;
      })

  pub br_table_sticks : (v : MachinePlain) (n d : ℕ) (ls : List ℕ) (r : Outcome) → ((c : ℕ) (rest : List Word) → v.values ≡ W32 c ∷ rest → ⊥)
      → Runs bodies m v (suc n) r → IsNext (bodies v.function) v.at (v.at + 1) (targets_of v.enclosing) (br_table ls d) → r ≡ Stuck v.store
  br_table_sticks v n d ls r none s next =
      comes_of bodies m v (suc n) r (br_table ls d) s next ∙ br_table_step m s.1.around ls d (code_at (bodies v.function) (v.at + 1)) (state_of v (suc n))
      ∙ no_number v.values (state_of v n) (λ i t. closed m s.1.around (Branch (default_to d (slice_get ls i)) t)) none

  -- ---- calls

  -- the place after a call, of which this holds
  after_call : (v : MachinePlain) (n k : ℕ) (r : Outcome) (x : Tree) (values below : List Word) (c : Option Callee) → below ≡ v.below
      → (s : Runs bodies m v n r) → IsNext (bodies v.function) v.at (v.at + 1) (targets_of v.enclosing) x
      → r ≡ in_call m s.1.around c (code_at (bodies v.function) (v.at + 1)) (record { values = values; locals = v.locals; store = v.store; left = k })
      → Calls bodies m (record v { values = values; below = below; at = v.at + 1 }) c k r
  after_call v n k r x values below c same (inside, s) next comes =
      let codes : codes_in bodies v.enclosing v.function v.at ≡ codes_in bodies v.enclosing v.function (v.at + 1) =
      codes_are bodies v.enclosing v.function v.at inside ∙ next.after ∙ sym (codes_are bodies v.enclosing v.function (v.at + 1) inside) in
      record {
        around = s.around;
        is_place = is_place bodies v.enclosing v.function (v.at + 1) next.stands;
        round = subst (λ b. Encloses bodies v.enclosing v.function (codes_in bodies v.enclosing v.function (v.at + 1)) b s.around) (sym same)
            (subst (λ cs. Encloses bodies v.enclosing v.function cs v.below s.around) codes s.round);
        holds = comes ∙ ap (λ code. in_call m s.around c code (record { values = values; locals = v.locals; store = v.store; left = k })) (sym (code_is bodies v.enclosing v.function (v.at + 1) inside));
      }

  pub call_calls : (v : MachinePlain) (n f : ℕ) (r : Outcome) → Runs bodies m v (suc n) r → IsNext (bodies v.function) v.at (v.at + 1) (targets_of v.enclosing) (call f)
      → Calls bodies m (record v { at = v.at + 1 }) (callee_at m f) n r
  call_calls v n f r s next =
      after_call v (suc n) n r (call f) v.values v.below (callee_at m f) refl s next
      (comes_of bodies m v (suc n) r (call f) s next ∙ call_step m s.1.around f (code_at (bodies v.function) (v.at + 1)) (state_of v (suc n)))

  entry_comes : (v : MachinePlain) (n type i : ℕ) (r : Outcome) (values : List Word) (e : Option (Option ℕ)) → v.values ≡ W32 i ∷ values → slice_get v.store.table i ≡ e
      → (s : Runs bodies m v (suc n) r) → IsNext (bodies v.function) v.at (v.at + 1) (targets_of v.enclosing) (call_indirect type)
      → r ≡ in_entry m s.1.around type e (code_at (bodies v.function) (v.at + 1)) (record { values = values; locals = v.locals; store = v.store; left = n })
  entry_comes v n type i r values e top found s next =
      comes_of bodies m v (suc n) r (call_indirect type) s next ∙ call_indirect_step m s.1.around type (code_at (bodies v.function) (v.at + 1)) (state_of v (suc n))
      ∙ ap (λ vs. take_number vs (state_of v n) (λ i t. in_entry m s.1.around type (slice_get t.store.table i) (code_at (bodies v.function) (v.at + 1)) t)) top
      ∙ ap (λ e. in_entry m s.1.around type e (code_at (bodies v.function) (v.at + 1)) (record { values = values; locals = v.locals; store = v.store; left = n })) found

  pub indirect_sticks : (v : MachinePlain) (n type : ℕ) (r : Outcome) → ((c : ℕ) (rest : List Word) → v.values ≡ W32 c ∷ rest → ⊥)
      → Runs bodies m v (suc n) r → IsNext (bodies v.function) v.at (v.at + 1) (targets_of v.enclosing) (call_indirect type) → r ≡ Stuck v.store
  indirect_sticks v n type r none s next =
      comes_of bodies m v (suc n) r (call_indirect type) s next ∙ call_indirect_step m s.1.around type (code_at (bodies v.function) (v.at + 1)) (state_of v (suc n))
      ∙ no_number v.values (state_of v n) (λ i t. in_entry m s.1.around type (slice_get t.store.table i) (code_at (bodies v.function) (v.at + 1)) t) none

  pub indirect_is_outside : (v : MachinePlain) (n type i : ℕ) (r : Outcome) (values : List Word) → v.values ≡ W32 i ∷ values → slice_get v.store.table i ≡ None
      → Runs bodies m v (suc n) r → IsNext (bodies v.function) v.at (v.at + 1) (targets_of v.enclosing) (call_indirect type) → r ≡ Ended (trapped kinds.TableEntry) v.store
  indirect_is_outside v n type i r values top found s next = entry_comes v n type i r values None top found s next

  pub indirect_is_empty : (v : MachinePlain) (n type i : ℕ) (r : Outcome) (values : List Word) → v.values ≡ W32 i ∷ values → slice_get v.store.table i ≡ Some None
      → Runs bodies m v (suc n) r → IsNext (bodies v.function) v.at (v.at + 1) (targets_of v.enclosing) (call_indirect type) → r ≡ Ended (trapped kinds.TableEntry) v.store
  indirect_is_empty v n type i r values top found s next = entry_comes v n type i r values (Some None) top found s next

  pub indirect_is_other : (v : MachinePlain) (n type i f : ℕ) (r : Outcome) (values : List Word) → v.values ≡ W32 i ∷ values → slice_get v.store.table i ≡ Some (Some f)
      → of_type (slice_get m.types type) (callee_at m f) ≡ false
      → Runs bodies m v (suc n) r → IsNext (bodies v.function) v.at (v.at + 1) (targets_of v.enclosing) (call_indirect type) → r ≡ Ended (trapped kinds.OtherType) v.store
  indirect_is_other v n type i f r values top found other s next =
      entry_comes v n type i r values (Some (Some f)) top found s next
      ∙ ap (λ b. if b then in_call m s.1.around (callee_at m f) (code_at (bodies v.function) (v.at + 1)) (record { values = values; locals = v.locals; store = v.store; left = n }) else Ended (trapped kinds.OtherType) v.store) other

  pub indirect_calls : (v : MachinePlain) (n type i f : ℕ) (r : Outcome) (values below : List Word) → v.values ≡ W32 i ∷ values → below ≡ v.below → slice_get v.store.table i ≡ Some (Some f)
      → of_type (slice_get m.types type) (callee_at m f) ≡ true
      → Runs bodies m v (suc n) r → IsNext (bodies v.function) v.at (v.at + 1) (targets_of v.enclosing) (call_indirect type)
      → Calls bodies m (record v { values = values; below = below; at = v.at + 1 }) (callee_at m f) n r
  indirect_calls v n type i f r values below top bs found same s next =
      after_call v (suc n) n r (call_indirect type) values below (callee_at m f) bs s next
      (entry_comes v n type i r values (Some (Some f)) top found s next
      ∙ ap (λ b. if b then in_call m s.1.around (callee_at m f) (code_at (bodies v.function) (v.at + 1)) (record { values = values; locals = v.locals; store = v.store; left = n }) else Ended (trapped kinds.OtherType) v.store) same)

  -- ---- a function is entered

  none_enters : (c : Option Callee) (around : List Surrounding) (code : Trees) (t : State) → in_function m around c None code t ≡ Stuck t.store
  none_enters None around code t = refl
  none_enters (Some (an_import name f)) around code t = refl
  none_enters (Some (a_function f more body)) around code t = refl

  -- an argument is missing
  pub call_sticks : (v : MachinePlain) (c : Option Callee) (n : ℕ) (r : Outcome) → top_of (params_of c) v.values ≡ None → Calls bodies m v c n r → r ≡ Stuck v.store
  call_sticks v c n r none s =
      let code = code_in bodies v.enclosing v.function v.at in
      let t : State = record { values = below_top (params_of c) v.values; locals = v.locals; store = v.store; left = n } in
      s.holds ∙ ap (λ o. in_function m s.around c o code t) none ∙ none_enters c s.around code t

  -- there is no such function
  pub call_is_lost : (v : MachinePlain) (n : ℕ) (r : Outcome) → Calls bodies m v None n r → r ≡ Stuck v.store
  call_is_lost v n r s = s.holds

  pub function_shows : (v : MachinePlain) (g n : ℕ) (r : Outcome) (f : FunctionType) (more : List ValType) (body : Trees) (arguments locals middle values under below : List Word) (floor : ℕ)
      → top_of (length f.params) v.values ≡ Some (reverse arguments) → middle ≡ below_top (length f.params) v.values
      → under ≡ v.below → floor ≡ length under → below ≡ middle ++ under → values ≡ [] → locals ≡ arguments ++ zeros_of more
      → Begins (bodies g) body
      → Calls bodies m v (Some (a_function f more body)) n r
      → Shows bodies m (record v {
        values = values;
        below = below;
        locals = locals;
        function = g;
        at = 0;
        enclosing = of_frame (record { function = v.function; at = v.at; locals = v.locals; arity = length f.results; floor = floor }) ∷ v.enclosing;
      }) n r
  function_shows v g n r f more body arguments locals middle values under below floor top mid un fl bs vs ls begins s =
      let code = code_in bodies v.enclosing v.function v.at in
      let F : FramePlain = record { function = v.function; at = v.at; locals = v.locals; arity = length f.results; floor = floor } in
      let around : List Surrounding = in_frame middle (length f.results) code v.locals ∷ s.around in
      let round : Encloses bodies (of_frame F ∷ v.enclosing) g [] below around = record {
        values = middle;
        rest = v.below;
        outer = s.around;
        operands = record { parts = bs ∙ ap (λ u. middle ++ u) un; count = sym (fl ∙ ap length un) };
        stands_for = refl;
        is_place = s.is_place;
        round = s.round;
      } in
      let t : State = record { values = below_top (length f.params) v.values; locals = v.locals; store = v.store; left = n } in
      record {
        around = around;
        is_place = begins.stands;
        round = subst (λ cs. Encloses bodies (of_frame F ∷ v.enclosing) g cs below around) (sym begins.after) round;
        holds = s.holds ∙ ap (λ o. in_function m s.around (Some (a_function f more body)) o code t) top
            ∙ ap (λ vs. closed m (in_frame vs (length f.results) code v.locals ∷ s.around) (onward m body (record { values = []; locals = reverse (reverse arguments) ++ zeros_of more; store = v.store; left = n }))) (sym mid)
            ∙ ap (λ ls. closed m around (onward m body (record { values = []; locals = ls; store = v.store; left = n }))) (ap (λ a. a ++ zeros_of more) (reverse-reverse arguments) ∙ sym ls)
            ∙ ap (λ vs. closed m around (onward m body (record { values = vs; locals = locals; store = v.store; left = n }))) (sym vs)
            ∙ ap (λ b. closed m around (onward m b (record { values = values; locals = locals; store = v.store; left = n }))) (sym begins.code);
      }

  -- ---- an import is called

  import_comes : (v : MachinePlain) (n : ℕ) (r : Outcome) (name : List ℕ) (f : FunctionType) (arguments middle : List Word) (a : ImportAnswer)
      → top_of (length f.params) v.values ≡ Some (reverse arguments) → middle ≡ below_top (length f.params) v.values → answer_import name arguments v.store.replies ≡ a
      → (s : Calls bodies m v (Some (an_import name f)) n r)
      → r ≡ after_answer m s.around a f.results (code_in bodies v.enclosing v.function v.at) (record { values = middle; locals = v.locals; store = v.store; left = n })
  import_comes v n r name f arguments middle a top mid is s =
      let code = code_in bodies v.enclosing v.function v.at in
      let t : State = record { values = below_top (length f.params) v.values; locals = v.locals; store = v.store; left = n } in
      s.holds ∙ ap (λ o. in_function m s.around (Some (an_import name f)) o code t) top
      ∙ ap (λ args. after_answer m s.around (answer_import name args v.store.replies) f.results code t) (reverse-reverse arguments)
      ∙ ap (λ a. after_answer m s.around a f.results code t) is
      ∙ ap (λ vs. after_answer m s.around a f.results code (record { values = vs; locals = v.locals; store = v.store; left = n })) (sym mid)

  pub import_ends : (v : MachinePlain) (n : ℕ) (r : Outcome) (name : List ℕ) (f : FunctionType) (arguments middle : List Word) (e : EndPlain)
      → top_of (length f.params) v.values ≡ Some (reverse arguments) → middle ≡ below_top (length f.params) v.values → answer_import name arguments v.store.replies ≡ ends e
      → Calls bodies m v (Some (an_import name f)) n r → r ≡ Ended e v.store
  import_ends v n r name f arguments middle e top mid is s = import_comes v n r name f arguments middle (ends e) top mid is s

  pub import_shows : (v : MachinePlain) (n : ℕ) (r : Outcome) (name : List ℕ) (f : FunctionType) (arguments middle values below : List Word) (g : Given)
      → top_of (length f.params) v.values ≡ Some (reverse arguments) → middle ≡ below_top (length f.params) v.values → answer_import name arguments v.store.replies ≡ goes_on g
      → values ≡ result_word f.results g.word ++ middle → below ≡ v.below
      → Calls bodies m v (Some (an_import name f)) n r → Shows bodies m (record v { values = values; below = below; store = answered g v.store }) n r
  import_shows v n r name f arguments middle values below g top mid is vs bs s =
      let code = code_in bodies v.enclosing v.function v.at in
      record {
        around = s.around;
        is_place = s.is_place;
        round = subst (λ b. Encloses bodies v.enclosing v.function (codes_in bodies v.enclosing v.function v.at) b s.around) (sym bs) s.round;
        holds = import_comes v n r name f arguments middle (goes_on g) top mid is s
            ∙ ap (λ vs. goes_with m s.around code (record { values = vs; locals = v.locals; store = answered g v.store; left = n })) (sym vs);
      }
