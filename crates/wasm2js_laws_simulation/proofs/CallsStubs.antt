-- What stands in a table for entries that are missing, and for such of another type: functions that trap.
use Rattle.std.proofs.Common.{◌≡◌, ℕ, zero, suc, ◌+◌, ◌*◌, ◌<◌, ◌≤◌, Bool, true, false, ◌&&◌, ◌||◌, List, [], ◌∷◌, ◌++◌, map, length, Option, Some, None, inl, inr, pos, refl, sym, ap, ◌∙◌, subst, arith}
use Rattle.std.specs.Prelude.{slice_get, if◌then◌else◌, ◌==◌, ◌/◌, ◌%◌}
use Rattle.std.specs.List.{list_any, list_all, flat_map, range_with_len}
use Rattle.std.proofs.lemmas.Bool.{and_from}
use Rattle.std.proofs.lemmas.Bool.Decides.{nat_tests}
use Rattle.sem_words.specs.declared.word.Word.{Word}
use Rattle.sem_words.specs.declared.word.Word.TheVariants.{W32}
use Rattle.sem_words.specs.declared.word.TrapKind.{TrapKind}
use Rattle.sem_words.specs.declared.js_value.JsValue.{JsValue}
use Rattle.sem_words.specs.declared.js_value.JsValue.TheVariants.{Whole}
use Rattle.sem_words.specs.JsValues.{to_uint32_of}
use Rattle.sem_words.specs.Words.{trap_code}
use Rattle.session_lang.specs.Observation.{EventPlain, trapped, stopped, trap_name, ended}
use Rattle.session_lang.specs.Simulation.{IsSameAs}
use Rattle.wasm_lang.specs.declared.types.ValType.{ValType}
use Rattle.wasm_lang.specs.declared.types.ValType.TheVariants.{I32, I64}
use Rattle.wasm_lang.specs.Modules.{FunctionType, WasmModule}
use Rattle.wasm_lang_valid.specs.Profile.{IsInProfile}
use Rattle.wasm_lang_exec.specs.Reductions.{callees}
use Rattle.wasm_laws_drive.specs.Drive.{Ended}
use Rattle.wasm_laws_drive.specs.Equations as drive
use Rattle.asm_lang.specs.Modules.{Stmt, returns, Function as TextFunction}
use Rattle.asm_lang_valid.specs.Scope.{a_function, module_meaning}
use Rattle.asm_lang_valid.specs.Typed.{scope_of}
use Rattle.asm_lang_exec.specs.Runs.{Binding, Place, spent, Part, and_then, defined, paid, back_to}
use Rattle.asm_lang_exec.specs.Meaning.{first_locals, function_end}
use Rattle.asm_laws_continuation.specs.Following.{call_named_to, call_at_to, exec_all_to, with_locals_to}
use Rattle.wasm2js_translation.specs.Names as names
use Rattle.wasm2js_translation.specs.Names.{Numbered, numbered, spelled}
use Rattle.wasm2js_translation.specs.Words.{natural, trap_call, stmts_in}
use Rattle.wasm2js_lang.specs.Tables.{Cell, empty, other, cells_of, masked}
use Rattle.wasm2js_translation.specs.Helpers.{argument}
use Rattle.wasm2js_translation.specs.Modules.{functions_from, init_function, high_function, helpers, functions_of, translated}
use Rattle.wasm2js_translation.specs.Tables.{words_of, result_mark, stub_number, stub_of, cell_name, stub_function, is_empty, is_other, is_needed, stubs_for, stubs}
use Rattle.wasm2js_laws_scopes.specs.Laws.{is_own}
use Rattle.wasm2js_laws_scopes.proofs.HeadNames.{heads_are_provided}
use Rattle.wasm2js_laws_acceptance.proofs.ProvidedEntries.{In, in_left, in_right}
use Rattle.wasm2js_laws_acceptance.proofs.ProvidedFound.{function_found}
use Rattle.wasm2js_laws_acceptance.proofs.ProvidedTables.{masked_as}
use Rattle.wasm2js_laws_acceptance.proofs.ProvidedWithin.{rows_are_within, few_params}
use Rattle.wasm2js_laws_places.specs.Following.{Rest}
use Rattle.wasm2js_laws_places.proofs.Paced.{stands_still}
use Rattle.wasm2js_laws_places.specs.Places.{store_of}
use Rattle.wasm2js_laws_preservation.specs.ControlControl.{Function, IsFair, Inside, state_at, IsFollowed}
use Rattle.wasm2js_laws_preservation.proofs.ControlStepping.{stands}
use Rattle.wasm2js_laws_preservation.proofs.InstructionsEnding.{trap_same}
use Rattle.wasm2js_laws_simulation.specs.CallsLaws.{IsWithin}

-- ---- they are functions of the module

few_words : (ts : List ValType) → words_of ts ≤ 2 * length ts
few_words [] = omega arith
few_words (I32 ∷ ts) = let h = few_words ts in omega (arith, h)
few_words (I64 ∷ ts) = let h = few_words ts in omega (arith, h)

few_marks : (ts : List ValType) → result_mark ts ≤ 1
few_marks [] = omega arith
few_marks (t ∷ ts) = omega arith

in_range : {A : Type 0} → (f : ℕ → List A) (x : A) (a count n : ℕ) → a ≤ n → n < a + count → In x (f n) → In x (flat_map f (range_with_len a count))
in_range f x a zero n low high h = absurd (omega (arith, low, high))
in_range f x a (suc count) n low high h = by (a == n) refl (λ e. in_range f x (a + 1) count n (later e) (omega (arith, high)) h)
  where
    alike : (a == n) ≡ true → a ≡ n
    alike e = grind (arith, nat_tests)

    later : (a == n) ≡ false → a + 1 ≤ n
    later e = grind (arith, nat_tests)

    by : (b : Bool) → (a == n) ≡ b → ((a == n) ≡ false → In x (flat_map f (range_with_len (a + 1) count))) → In x (flat_map f (range_with_len a (suc count)))
    by true e more = in_left x (f a) (flat_map f (range_with_len (a + 1) count)) (subst (λ k. In x (f k)) (sym (alike e)) h)
    by false e more = in_right x (f a) (flat_map f (range_with_len (a + 1) count)) (more e)

any_in : {A : Type 0} → (test : A → Bool) (x : A) (xs : List A) → In x xs → test x ≡ true → list_any test xs ≡ true
any_in test x [] h e = absurd h
any_in test x (y ∷ xs) (inl k) e = let f : test y ≡ true = ap test k ∙ e in rw f refl
any_in test x (y ∷ xs) (inr h) e = let k = any_in test x xs h e in rw k (either (test y))
  where
    either : (b : Bool) → (b || true) ≡ true
    either true = refl
    either false = refl

pub in_place : {A : Type 0} → (xs : List A) (i : ℕ) (x : A) → slice_get xs i ≡ Some x → In x xs
in_place [] i x h = cc h
in_place (y ∷ xs) zero x h = inl (cc h)
in_place (y ∷ xs) (suc i) x h = inr (in_place xs i x h)

module _ (w : WasmModule) (h : IsInProfile w) (number : ℕ) (t : FunctionType) (is_number : slice_get w.types number ≡ Some t) (there : In (masked_as w number t) (masked w)) where
  abbrev stub : ℕ
  stub = stub_number (Some t)

  few : stub < 4002
  few =
      let a = few_params w (rows_are_within w h.within) number t is_number in
      let b = few_words t.params in
      let c = few_marks t.results in
      omega (arith, a, b, c)

  needed : (test : Cell → Bool) (x : Cell) → In x (cells_of w t) → test x ≡ true → is_needed w (masked w) test stub ≡ true
  needed test x k e =
      any_in (λ u. (stub_of w u == stub) && list_any test u.cells) (masked_as w number t) (masked w) there
      (and_from (stub_of w (masked_as w number t) == stub) (list_any test (cells_of w t)) (same_number (stub_of w (masked_as w number t)) stub (ap stub_number is_number)) (any_in test x (cells_of w t) k e))
    where
      same_number : (a b : ℕ) → a ≡ b → (a == b) ≡ true
      same_number a b e = grind (arith, nat_tests)

  stub_there : (f : TextFunction) → In f (stubs_for w (masked w) stub) → In f (functions_of w)
  stub_there f k =
      in_left f ((helpers w ++ functions_from w 0 (callees w)) ++ stubs w) (init_function w ∷ high_function ∷ [])
      (in_right f (helpers w ++ functions_from w 0 (callees w)) (stubs w) (in_range (stubs_for w (masked w)) f 0 4002 stub (omega arith) few k))

  only_one : (b : Bool) (f : TextFunction) → b ≡ true → In f (if b then f ∷ [] else [])
  only_one true f e = inl refl
  only_one false f e = cc e

  pub empty_found : In empty (cells_of w t) → module_meaning (translated w) (spelled (cell_name stub empty)) ≡ a_function (stub_function names.no_entry 5 stub)
  empty_found k =
      let f = stub_function names.no_entry 5 stub in
      function_found w f (numbered names.no_entry stub)
      (stub_there f (in_left f (if is_needed w (masked w) is_empty stub then f ∷ [] else []) _ (only_one (is_needed w (masked w) is_empty stub) f (needed is_empty empty k refl)))) refl

  pub other_found : In other (cells_of w t) → module_meaning (translated w) (spelled (cell_name stub other)) ≡ a_function (stub_function names.other_entry 6 stub)
  other_found k =
      let f = stub_function names.other_entry 6 stub in
      function_found w f (numbered names.other_entry stub)
      (stub_there f (in_right f _ (if is_needed w (masked w) is_other stub then f ∷ [] else []) (only_one (is_needed w (masked w) is_other stub) f (needed is_other other k refl)))) refl

-- ---- a call of one

own_arguments : (xs : List ℕ) → list_all is_own (map argument xs) ≡ true
own_arguments [] = refl
own_arguments (x ∷ xs) = own_arguments xs

module _ (f : Function) (fair : IsFair f) (within : IsWithin f) (most : ℕ) (w : List EventPlain) (p : Place) (i : Inside f most w p) (le : most ≤ f.bound)
    (name : Numbered) (code stub : ℕ) (kind : TrapKind) (code_is : code ≡ trap_code kind) (word_is : to_uint32_of (Whole (pos code)) ≡ code)
    (values : List Word) (r : Rest) (starts : (n : ℕ) → r n ≡ f.watch (drive.pay (state_at f values p w n) (λ t. Ended (trapped kind) t.store)))
    (vs : List JsValue) (next : JsValue → Part (Unit {0})) where
  abbrev it : TextFunction
  it = stub_function name code stub

  no_unit : p.units ≡ 0 → IsFollowed f p r (spent p)
  no_unit e = stands_still f.by f.pace f.unpaid 1 p p r fair.some (omega (arith, e)) refl (stands f fair most w p values (λ t. Ended (trapped kind) t.store) r i starts)

  abbrev after_trap : List Stmt
  after_trap = if stub % 2 == 1 then returns (Some (natural 0)) ∷ [] else []

  abbrev trapped_then : ℕ → Part (Unit {0})
  trapped_then bound =
      exec_all_to (call_at_to (translated f.home) bound) (scope_of (translated f.home) it) bound (stmts_in after_trap) (λ d. and_then (function_end d) (λ a. and_then (back_to p.locals a) next))

  -- in it
  ends : (bound n : ℕ) (locals : List Binding)
      → IsFollowed f p r (exec_all_to (call_at_to (translated f.home) bound) (scope_of (translated f.home) it) bound it.body (λ d. and_then (function_end d) (λ a. and_then (back_to p.locals a) next)) (record p { units = n; locals = locals }))
  ends bound n locals =
      let has = (heads_are_provided f.home (numbered name stub) (map argument (range_with_len 0 (stub / 2))) [] (trap_call code ∷ after_trap) (own_arguments (range_with_len 0 (stub / 2))) refl).traps in
      subst (λ m. IsFollowed f p r (call_named_to (call_at_to (translated f.home) bound) m (Whole (pos code) ∷ []) (λ v. trapped_then bound) (record p { units = n; locals = locals }))) (sym has)
      (record {
        cost = 1;
        same = subst (λ o. IsSameAs f.by o (ended p.events (stopped trap_name (W32 (to_uint32_of (Whole (pos code))) ∷ [])) p.heap)) (sym (starts 1 ∙ fair.ended (trapped kind) (store_of f.setting p w)))
            (trap_same f fair most w p i kind code _ (record p { units = n; locals = locals }) code_is (record { end = ap (λ n. stopped trap_name (W32 n ∷ [])) word_is; has_heap = refl; events = refl }));
      })

  by_locals : (bound n : ℕ) (o : Option (List Binding))
      → IsFollowed f p r (and_then (defined o) (λ locals. with_locals_to locals (λ next. exec_all_to (call_at_to (translated f.home) bound) (scope_of (translated f.home) it) bound it.body (λ d. and_then (function_end d) next)) next) (record p { units = n }))
  by_locals bound n None = tt
  by_locals bound n (Some locals) = ends bound n locals

  by_units : (bound n : ℕ) → p.units ≡ n
      → IsFollowed f p r (and_then (paid n) (λ _. and_then (defined (first_locals it vs)) (λ locals. with_locals_to locals (λ next. exec_all_to (call_at_to (translated f.home) bound) (scope_of (translated f.home) it) bound it.body (λ d. and_then (function_end d) next)) next)) p)
  by_units bound zero e = no_unit e
  by_units bound (suc n) e = by_locals bound n (first_locals it vs)

  by_bound : (bound : ℕ) → p.units ≤ bound → IsFollowed f p r (call_at_to (translated f.home) bound it vs next p)
  by_bound zero few = no_unit (omega (arith, few))
  by_bound (suc bound) few = by_units bound p.units refl

  pub stub_followed : IsFollowed f p r (f.calls it vs next p)
  stub_followed =
      let few = i.units in
      subst (λ calls. IsFollowed f p r (calls it vs next p)) (sym (within.calls ∙ ap (λ m. call_at_to m f.bound) within.home)) (by_bound f.bound (omega (arith, few, le)))
