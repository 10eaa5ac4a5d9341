-- Calls of entries of the table, in their code.
use Rattle.std.proofs.Common.{◌≡◌, ℕ, zero, suc, ◌+◌, ◌<◌, ◌≤◌, Bool, true, false, nat_lt, List, [], ◌∷◌, ◌++◌, length, Option, Some, None, Ok, pos, refl, sym, ap, ◌∙◌, subst, arith}
use Rattle.std.specs.Prelude.{◌-◌, reverse, slice_get, option_map, option_and_then, if◌then◌else◌}
use Rattle.std.specs.Int.Bits.{bit_and}
use Rattle.std.proofs.lemmas.Option.{slice_get-map}
use Rattle.sem_words.specs.declared.word.Word.{Word}
use Rattle.sem_words.specs.declared.word.Word.TheVariants.{W32}
use Rattle.sem_words.specs.declared.word.TrapKind.{TrapKind}
use Rattle.sem_words.specs.declared.word.TrapKind.TheVariants as kinds
use Rattle.sem_words.specs.declared.js_value.JsValue.{JsValue}
use Rattle.sem_words.specs.declared.js_value.JsValue.TheVariants.{Whole}
use Rattle.sem_words.specs.declared.js_value.JsOp.TheVariants.{And}
use Rattle.sem_words.specs.JsValues.{to_uint32_of}
use Rattle.sem_words.specs.JsOperators.{js_binary_of, signed_value}
use Rattle.session_lang.specs.Observation.{EventPlain, trapped}
use Rattle.wasm_lang.specs.declared.types.ValType.{ValType}
use Rattle.wasm_lang.specs.declared.types.ValType.TheVariants.{I32}
use Rattle.wasm_lang.specs.Modules.{FunctionType}
use Rattle.wasm_lang.specs.Shape.{IsShaped}
use Rattle.wasm_lang_valid.specs.ModuleRules.{type_of_function}
use Rattle.wasm_lang_valid.specs.Profile.{IsInProfile}
use Rattle.wasm_lang_valid.specs.declared.rule.Rule.TheVariants.{NoType, NoTable}
use Rattle.wasm_lang_valid.specs.Typing.{Shape, found, onward as onward_rules, unless, listed, result_of, call_shape}
use Rattle.wasm_lang_exec.specs.Code.{call_indirect, Trees, ◌▹◌}
use Rattle.wasm_lang_exec.specs.Reductions.{callee_at, of_type}
use Rattle.wasm_laws_sound.specs.Trees.{IsTyped}
use Rattle.wasm_laws_drive.specs.Drive.{Ended}
use Rattle.wasm_laws_drive.specs.Equations.{pay, take_number, called, called_by}
use Rattle.wasm_laws_drive.specs.Contexts.{Surrounding, closed}
use Rattle.wasm_laws_drive.proofs.Instructions.{call_indirect_enters}
use Rattle.wasm_laws_drive.proofs.Closing.{ends_stay, spent_stays}
use Rattle.asm_lang.specs.Modules as text
use Rattle.asm_lang.specs.Modules.{binary}
use Rattle.asm_lang_valid.specs.Scope.{Meaning, a_function, a_table, module_meaning}
use Rattle.asm_lang_valid.specs.Typing.{named}
use Rattle.asm_lang_exec.specs.Runs.{Place, Part, and_then, defined, read}
use Rattle.asm_lang_exec.specs.Values.{function_of, entry_of}
use Rattle.asm_lang_exec.specs.Meaning.{Completion, normal}
use Rattle.asm_laws_continuation.specs.Following.{eval_all_to, exec_to, exec_all_to, unless_left_to}
use Rattle.wasm2js_translation.specs.Names as names
use Rattle.wasm2js_translation.specs.Names.{numbered, operand_low, spelled}
use Rattle.wasm2js_translation.specs.Words as words
use Rattle.wasm2js_translation.specs.Words.{natural, guard, simple_statement, trap_call, stmts_in}
use Rattle.wasm2js_lang.specs.Tables as tables
use Rattle.wasm2js_lang.specs.Tables.{Cell, empty, other, cells_of, entries_of, has_form, masked}
use Rattle.wasm2js_lang.specs.Laws.{HasTable}
use Rattle.wasm2js_lang.proofs.Masked.{called_types_have_tables}
use Rattle.wasm2js_translation.specs.Actions.{low}
use Rattle.wasm2js_translation.specs.Bodies.{Aim, word_in, answered, words_from, arguments_from, form_number, table_call_of, indirect_stmts, types_after_call, stmts_of}
use Rattle.wasm2js_translation.specs.Modules.{translated}
use Rattle.wasm2js_translation.specs.Rooms.{here, room_of}
use Rattle.wasm2js_translation.specs.Tables.{cell_count, stub_number, stub_of, cell_name, table_for}
use Rattle.wasm2js_laws_acceptance.proofs.ProvidedEntries.{In, in_map}
use Rattle.wasm2js_laws_acceptance.proofs.ProvidedFound.{table_found}
use Rattle.wasm2js_laws_acceptance.proofs.ProvidedSizes.{some_cells}
use Rattle.wasm2js_laws_acceptance.proofs.ProvidedTables.{type_is, least_is, masked_as}
use Rattle.wasm2js_laws_terms.specs.Sound.{AllSound}
use Rattle.wasm2js_laws_scopes.specs.Provided.{HasRoom}
use Rattle.wasm2js_laws_places.specs.Following.{Rest}
use Rattle.wasm2js_laws_places.specs.Straight.{Words}
use Rattle.wasm2js_laws_places.specs.Places.{word_at, operands, locals_of, store_of, Stays}
use Rattle.wasm2js_laws_actions.proofs.Reading.{read_then}
use Rattle.wasm2js_laws_actions.proofs.Variables.{variable_read}
use Rattle.wasm2js_laws_preservation.specs.ControlControl.{Function, IsFair, Inside, state_at, code_sight, IsFollowed, statements_to, MayStand, under_aims, IsKept}
use Rattle.wasm2js_laws_typed.proofs.RoomParts.{right_room, room_here}
use Rattle.wasm2js_laws_typed.proofs.FineCalls.{words_sound}
use Rattle.wasm2js_laws_preservation.proofs.ControlStepping.{appended, no_step}
use Rattle.wasm2js_laws_simulation.specs.CallsCalled.{Passes, seen_with, call_then, CallsFollow}
use Rattle.wasm2js_laws_simulation.specs.CallsLaws.{IsWithin, IndirectCallsAreKept}
use Rattle.wasm2js_laws_simulation.proofs.CallsArguments.{passed_from, operands_taken, stay_below, arguments_then}
use Rattle.wasm2js_laws_simulation.proofs.CallsReturned.{given_to, answered_is, call_given}
use Rattle.wasm2js_laws_simulation.proofs.CallsCalling.{is_taken}
use Rattle.wasm2js_laws_simulation.proofs.CallsCallees.{of_type_is}
use Rattle.wasm2js_laws_simulation.proofs.CallsGuards.{trap_kept, guard_then}
use Rattle.wasm2js_laws_simulation.proofs.CallsStubs.{in_place, empty_found, other_found, stub_followed}
use Rattle.wasm2js_laws_simulation.proofs.CallsCells.{index_masked, cell_for, cell_there, none_past, is_less, is_no_less}

-- ---- a reduction that traps, in its surroundings

module _ (f : Function) (around : List Surrounding) (values : List Word) (p : Place) (w : List EventPlain) (kind : TrapKind) where
  trap_seen : (n : ℕ) → f.watch (closed f.home around (pay (state_at f values p w n) (λ t. Ended (trapped kind) t.store))) ≡ f.watch (pay (state_at f values p w n) (λ t. Ended (trapped kind) t.store))
  trap_seen zero = ap f.watch (spent_stays f.home around (store_of f.setting p w))
  trap_seen (suc n) = ap f.watch (ends_stay f.home around (trapped kind) (store_of f.setting p w))

module _ (f : Function) (fair : IsFair f) (profile : IsInProfile f.home) (shaped : IsShaped f.home) (within : IsWithin f) (follow : CallsFollow f) (n : ℕ) (t : FunctionType)
    (is_type : slice_get f.context.types n ≡ Some t) (is_called : f.called.types t ≡ true)
    (most : ℕ) (code : Trees) (ls : List Aim) (b : ℕ) (below : List ValType) (around : List Surrounding) (before : Words) (next : Completion → Part (Unit {0}))
    (le : most ≤ f.bound) (rest : IsKept f most code ls b (listed (result_of t) ++ below) around before next)
    (sound : AllSound f.scope (words_from [] (b + length below) t.params)) (p : Place) (w : List EventPlain) (i : Inside f most w p) (stays : Stays b before (word_at p)) where
  abbrev taken : List ValType
  taken = reverse t.params ++ below

  abbrev d : ℕ
  d = b + length below

  abbrev us : List ValType
  us = listed (result_of t) ++ below

  -- the index
  abbrev index : ℕ
  index = b + length taken

  abbrev x : ℕ
  x = word_at p (numbered operand_low index)

  abbrev then_rest : Completion → Part (Unit {0})
  then_rest c = unless_left_to c (statements_to f code ls b us [] []) next

  abbrev given : JsValue → Part (Unit {0})
  given = given_to f (result_of t) d then_rest

  abbrev name : List ℕ
  name = spelled (numbered names.table (form_number f.context.types t))

  abbrev the_call : text.Expr
  the_call = text.table_call name (binary And (word_in (low index)) (natural (f.cells - 1))) (arguments_from [] d t.params)

  abbrev after_guard : Completion → Part (Unit {0})
  after_guard c = unless_left_to c (exec_all_to f.calls f.scope f.bound (stmts_in (answered (result_of t) d the_call))) then_rest

  run_is : statements_to f (call_indirect n ▹ code) ls b (I32 ∷ taken) [] [] next p ≡ exec_to f.calls f.scope f.bound [] (simple_statement (guard (words.read (low index)) (f.cells - 1) 5)) after_guard p
  run_is =
      ap (λ o. exec_all_to f.calls f.scope f.bound (stmts_in (indirect_stmts f.cells f.context.types b (I32 ∷ taken) o ++ stmts_of f.setting.bytes f.cells f.context code ls b (types_after_call o taken) [] [])) next p) is_type
      ∙ ap (λ (xs : List ValType).
      exec_all_to f.calls f.scope f.bound
      (stmts_in (table_call_of f.cells (form_number f.context.types t) index (b + length xs) t ++ stmts_of f.setting.bytes f.cells f.context code ls b (listed (result_of t) ++ xs) [] [])) next p)
      (stay_below t.params below)
      ∙ ap (λ (part : Part (Unit {0})). part p)
      (appended f.calls f.scope f.bound (table_call_of f.cells (form_number f.context.types t) index d t) (stmts_of f.setting.bytes f.cells f.context code ls b us [] []) next)

  -- ---- the reduction

  abbrev start : Rest
  start = code_sight f around (call_indirect n ▹ code) b (I32 ∷ taken) p w

  abbrev locals : List Word
  locals = locals_of f.context.locals (word_at p)

  abbrev values : List Word
  values = operands b taken (word_at p)

  index_taken : (j : ℕ)
      → pay (state_at f (W32 x ∷ values) p w j) (λ s. take_number s.values s (λ i s. called_by f.home n (slice_get s.store.table i) code s))
      ≡ pay (state_at f values p w j) (called_by f.home n (slice_get f.setting.table x) code)
  index_taken zero = refl
  index_taken (suc j) = refl

  starts : (e : Option (Option ℕ)) → slice_get (entries_of f.home) x ≡ e → (j : ℕ) → start j ≡ f.watch (closed f.home around (pay (state_at f values p w j) (called_by f.home n e code)))
  starts e is j =
      ap (λ o. f.watch (closed f.home around o)) (call_indirect_enters f.home n code (state_at f (operands b (I32 ∷ taken) (word_at p)) p w j))
      ∙ ap (λ o. f.watch (closed f.home around o)) (index_taken j)
      ∙ ap (λ e. f.watch (closed f.home around (pay (state_at f values p w j) (called_by f.home n e code)))) (ap (λ es. slice_get es x) within.table ∙ is)

  -- ---- its table

  home_type : slice_get f.home.types n ≡ Some t
  home_type = ap (λ ts. slice_get ts n) (sym within.types) ∙ is_type

  has_table : HasTable f.home t
  has_table = called_types_have_tables f.home n t home_type (within.called t is_called)

  there : In (masked_as f.home has_table.number t) (masked f.home)
  there = in_place (masked f.home) has_table.place (masked_as f.home has_table.number t) has_table.is_there

  abbrev stub : ℕ
  stub = stub_number (Some t)

  named_is : named f.scope name ≡ a_table (table_for f.home (masked_as f.home has_table.number t))
  named_is =
      let number : form_number f.context.types t ≡ has_table.number = ap (λ ts. form_number ts t) within.types ∙ least_is f.home.types t has_table.number has_table.is_number has_table.is_least in
      ap (λ k. named f.scope (spelled (numbered names.table k))) number
      ∙ within.seen (numbered names.table has_table.number) refl
      ∙ ap (λ m. module_meaning m (spelled (numbered names.table has_table.number))) within.home
      ∙ table_found f.home (table_for f.home (masked_as f.home has_table.number t)) (numbered names.table has_table.number) (in_map (table_for f.home) (masked_as f.home has_table.number t) (masked f.home) there) refl

  abbrev member : ℕ → Cell → List ℕ
  member k c = spelled (cell_name k c)

  entry_is : (c : Cell) → slice_get (cells_of f.home t) x ≡ Some c → entry_of f.scope.home (named f.scope name) (Whole (pos x)) ≡ function_of (module_meaning (translated f.home) (member stub c))
  entry_is c is =
      ap (λ m. entry_of f.scope.home m (Whole (pos x))) named_is
      ∙ ap (λ m. entry_of m (a_table (table_for f.home (masked_as f.home has_table.number t))) (Whole (pos x))) within.home
      ∙ ap (λ o. option_and_then (λ k. function_of (module_meaning (translated f.home) k)) o) (slice_get-map (member (stub_of f.home (masked_as f.home has_table.number t))) (cells_of f.home t) x)
      ∙ ap (λ o. option_and_then (λ k. function_of (module_meaning (translated f.home) k)) (option_map (member (stub_of f.home (masked_as f.home has_table.number t))) o)) is
      ∙ ap (λ o. function_of (module_meaning (translated f.home) (member (stub_number o) c))) has_table.is_number

  -- ---- a call of what stands there

  module _ (low_index : x < cell_count f.home) (vs : List JsValue) (passes : Passes t.params vs (passed_from d t.params (word_at p))) where
    abbrev calls_found : Option text.Function → Part (Unit {0})
    calls_found o = and_then (defined o) (λ g. f.calls g vs given)

    abbrev IsCalled : Cell → Type 0
    IsCalled c = IsFollowed f p start (calls_found (function_of (module_meaning (translated f.home) (member stub c))) p)

    is_empty : In empty (cells_of f.home t) → ((j : ℕ) → start j ≡ f.watch (closed f.home around (pay (state_at f values p w j) (λ s. Ended (trapped kinds.TableEntry) s.store)))) → IsCalled empty
    is_empty within_cells begins =
        subst (λ m. IsFollowed f p start (calls_found (function_of m) p)) (sym (empty_found f.home profile has_table.number t has_table.is_number there within_cells))
        (stub_followed f fair within most w p i le names.no_entry 5 stub kinds.TableEntry refl refl values start (λ j. begins j ∙ trap_seen f around values p w kinds.TableEntry j) vs given)

    is_other : In other (cells_of f.home t) → ((j : ℕ) → start j ≡ f.watch (closed f.home around (pay (state_at f values p w j) (λ s. Ended (trapped kinds.OtherType) s.store)))) → IsCalled other
    is_other within_cells begins =
        subst (λ m. IsFollowed f p start (calls_found (function_of m) p)) (sym (other_found f.home profile has_table.number t has_table.is_number there within_cells))
        (stub_followed f fair within most w p i le names.other_entry 6 stub kinds.OtherType refl refl values start (λ j. begins j ∙ trap_seen f around values p w kinds.OtherType j) vs given)

    is_function : (k : ℕ) → type_of_function f.home k ≡ Some t → ((j : ℕ) → start j ≡ seen_with f around (call_then f k code) values locals p w j) → IsCalled (tables.a_function k)
    is_function k is begins = by (module_meaning (translated f.home) (spelled (numbered names.function k))) refl
      where
        by : (m : Meaning) → module_meaning (translated f.home) (spelled (numbered names.function k)) ≡ m → IsFollowed f p start (calls_found (function_of m) p)
        by (a_function g) e =
            no_step f fair p start (seen_with f around (call_then f k code) (reverse (passed_from d t.params (word_at p)) ++ operands b below (word_at p)) locals p w) (f.calls g vs given p)
            (λ j. begins j ∙ ap (λ vs. seen_with f around (call_then f k code) vs locals p w j) (operands_taken b t.params below (word_at p)))
            (follow k t g is (ap (λ m. module_meaning m (spelled (numbered names.function k))) within.home ∙ e) most around code (operands b below (word_at p)) locals given p w vs
            (passed_from d t.params (word_at p)) le i.units i.world passes
            (λ q w' v few same world. call_given f fair most ls b below code around before next p w i stays q w' few same world (result_of t) v rest))
        by m e = tt

    -- an entry of the table
    abbrev typed_seen : ℕ → Bool → Rest
    typed_seen k c j =
        f.watch (closed f.home around (pay (state_at f values p w j) (λ s. if c then called f.home (callee_at f.home k) code s else Ended (trapped kinds.OtherType) s.store)))

    formed : (k : ℕ) → has_form t (type_of_function f.home k) ≡ true → type_of_function f.home k ≡ Some t
    formed k e = has (type_of_function f.home k) e
      where
        has : (o : Option FunctionType) → has_form t o ≡ true → o ≡ Some t
        has None h = absurd (cc h)
        has (Some u) h = ap Some (sym (type_is t u h))

    abbrev cell_if : ℕ → Bool → Cell
    cell_if k c = if c then tables.a_function k else other

    at_entry : (k : ℕ) (c : Bool) → has_form t (type_of_function f.home k) ≡ c → In (cell_if k c) (cells_of f.home t) → ((j : ℕ) → start j ≡ typed_seen k c j) → IsCalled (cell_if k c)
    at_entry k true e within_cells begins = is_function k (formed k e) begins
    at_entry k false e within_cells begins = is_other within_cells begins

    at_cell : (e : Option (Option ℕ)) → slice_get (entries_of f.home) x ≡ e → In (cell_for f.home profile t e) (cells_of f.home t) → IsCalled (cell_for f.home profile t e)
    at_cell None is within_cells = is_empty within_cells (starts None is)
    at_cell (Some None) is within_cells = is_empty within_cells (starts (Some None) is)
    at_cell (Some (Some k)) is within_cells =
        at_entry k (has_form t (type_of_function f.home k)) refl within_cells
        (λ j.
        starts (Some (Some k)) is j
        ∙ ap (λ o. typed_seen k (of_type o (callee_at f.home k)) j) home_type
        ∙ ap (λ c. typed_seen k c j) (of_type_is f.home profile.valid shaped.bodies_match t k))

    entry_followed : IsFollowed f p start (calls_found (entry_of f.scope.home (named f.scope name) (Whole (pos x))) p)
    entry_followed =
        let e = slice_get (entries_of f.home) x in
        let is = cell_there f.home profile t x low_index in
        subst (λ o. IsFollowed f p start (calls_found o p)) (sym (entry_is (cell_for f.home profile t e) is)) (at_cell e refl (in_place (cells_of f.home t) x (cell_for f.home profile t e) is))

  -- ---- after the guard

  abbrev then_call : JsValue → Part (Unit {0})
  then_call y = eval_all_to f.calls f.scope (arguments_from [] d t.params) (λ vs. and_then (defined (entry_of f.scope.home (named f.scope name) y)) (λ g. f.calls g vs given))

  within_table : x < cell_count f.home → IsFollowed f p start (after_guard normal p)
  within_table low_index =
      subst (λ run. IsFollowed f p start run) (sym (answered_is f (result_of t) d the_call then_rest p))
      (read_then (IsFollowed f p start) x p (read (spelled (low index)) p) (λ v. and_then (defined (js_binary_of And v (Whole (pos (f.cells - 1))))) then_call) tt (variable_read (numbered operand_low index) p i.apart)
      (λ v a.
      subst (λ y. IsFollowed f p start (then_call y p))
      (sym (ap (λ m. signed_value (bit_and m (to_uint32_of (Whole (pos (f.cells - 1)))))) a
      ∙ ap (λ c. signed_value (bit_and x (to_uint32_of (Whole (pos (c - 1)))))) within.cells
      ∙ index_masked f.home profile x low_index))
      (arguments_then f start p i.apart [] (word_at p) d t.params (λ vs. and_then (defined (entry_of f.scope.home (named f.scope name) (Whole (pos x)))) (λ g. f.calls g vs given)) sound (λ k le. (refl, refl))
      (λ vs passes. entry_followed low_index vs passes))))

  past_table : cell_count f.home ≤ x → IsFollowed f p start (exec_to f.calls f.scope f.bound [] (trap_call 5) after_guard p)
  past_table high =
      trap_kept f fair most w p i start kinds.TableEntry 5 refl refl fair.provides.fixed.traps
      (starts None (none_past f.home profile t x high) 1 ∙ trap_seen f around values p w kinds.TableEntry 1) after_guard

  pub one_entry_kept : IsFollowed f p start (statements_to f (call_indirect n ▹ code) ls b (I32 ∷ taken) [] [] next p)
  one_entry_kept =
      subst (λ run. IsFollowed f p start run) (sym run_is)
      (guard_then f start p i.apart (low index) (f.cells - 1) 5 after_guard by)
    where
      cells_are : f.cells ≡ cell_count f.home
      cells_are = within.cells

      by : (c : Bool) → nat_lt (f.cells - 1) x ≡ c → IsFollowed f p start ((if c then exec_to f.calls f.scope f.bound [] (trap_call 5) after_guard else after_guard normal) p)
      by true e = let some = some_cells f.home in let high = is_less (f.cells - 1) x e in past_table (omega (arith, some, high, cells_are))
      by false e = let some = some_cells f.home in let short = is_no_less (f.cells - 1) x e in within_table (omega (arith, some, short, cells_are))

-- ---- in its code

after_entry_room : (f : Function) (n : ℕ) (t : FunctionType) (code : Trees) (b : ℕ) (below : List ValType) → slice_get f.context.types n ≡ Some t
    → MayStand f (call_indirect n ▹ code) b (I32 ∷ (reverse t.params ++ below)) → MayStand f code b (listed (result_of t) ++ below)
after_entry_room f n t code b below is h =
    subst (λ (xs : List ValType). MayStand f code b (listed (result_of t) ++ xs)) (stay_below t.params below)
    (subst (λ o. MayStand f code b (types_after_call o (reverse t.params ++ below))) is
    (record {
      room = right_room f.scope f.context (here b (I32 ∷ (reverse t.params ++ below)) []) (room_of f.context code b (types_after_call (slice_get f.context.types n) (reverse t.params ++ below))) h.room;
      formed = h.formed.1;
    }))

-- the form of what is called, where there is a table
has_form_of : (o : Option FunctionType) (table : Bool) (form : Shape) → onward_rules (found NoType o (call_shape (I32 ∷ []))) (unless table NoTable) ≡ Ok form → found NoType o (call_shape (I32 ∷ [])) ≡ Ok form
has_form_of None table form h = absurd (cc h)
has_form_of (Some t) true form h = h
has_form_of (Some t) false form h = absurd (cc h)

pub indirect_calls_are_kept : IndirectCallsAreKept
indirect_calls_are_kept f fair profile shaped within follow n most code ls b ts after around before next le typed standing nested ex rest =
    let formed = has_form_of (slice_get f.context.types n) f.context.table typed.form typed.has_form in
    let it = is_taken NoType (slice_get f.context.types n) (I32 ∷ []) typed.takes typed.gives typed.form formed typed.acts in
    let t = it.type in
    let is : ts ≡ I32 ∷ (reverse t.params ++ typed.below) = typed.operands ∙ ap (λ xs. xs ++ typed.below) it.takes_are in
    let further = subst (λ xs. IsTyped (under_aims f.context ls) code (xs ++ typed.below) after) it.gives_are typed.goes_on in
    let stands = subst (λ ts. MayStand f (call_indirect n ▹ code) b ts) is standing in
    let on = after_entry_room f n t code b typed.below it.there stands in
    let kept = rest (listed (result_of t) ++ typed.below) further on ex in
    let here_is = room_here f.scope f.context (call_indirect n ▹ code) b (I32 ∷ (reverse t.params ++ typed.below)) stands.room in
    let room : HasRoom f.scope f.context (here b (reverse t.params ++ typed.below) []) =
    record { operands = λ d lt. here_is.operands d (omega (arith, lt)); high_words = here_is.high_words; locals = here_is.locals } in
    let sound = words_sound f.scope f.context b [] tt t.params typed.below [] room in
    subst (λ ts. IsKept f most (call_indirect n ▹ code) ls b ts around before next) (sym is)
    (λ p w i stays.
    one_entry_kept f fair profile shaped within follow n t it.there (standing.formed.0 t it.there) most code ls b typed.below around before next le kept sound p w i stays)
