-- What each fixed name of a translated module means.
use Rattle.std.proofs.Common.{◌≡◌, ℕ, suc, Bool, true, false, List, [], ◌∷◌, ◌++◌, Option, Some, None, inl, inr, refl, sym, ap, ◌∙◌, subst}
use Rattle.std.specs.Prelude.{◌&&◌, if◌then◌else◌}
use Rattle.std.specs.List.{AllByRecursion, list_all, flat_map}
use Rattle.std.proofs.lemmas.Bool.{and_parts}
use Rattle.std.proofs.lemmas.List.{append_assoc}
use Rattle.wasm_lang.specs.Modules.{WasmModule}
use Rattle.wasm_lang_valid.specs.ModuleRules.{has_memory}
use Rattle.wasm_lang_valid.specs.Profile.{memory_bytes}
use Rattle.wasm_lang_exec.specs.Reductions.{Callee, callees}
use Rattle.asm_lang.specs.Modules.{Variable, Function, Table}
use Rattle.asm_lang_valid.specs.Scope.{Meaning, nothing, a_parameter, a_function, a_table, init_meaning, among_globals, among_functions, among_tables, module_meaning}
use Rattle.wasm2js_lang.specs.Parts.Functions.{is_asked}
use Rattle.wasm2js_translation.specs.Names as names
use Rattle.wasm2js_translation.specs.Names.{Name, Fixed, numbered, fixed, word, spelled}
use Rattle.wasm2js_translation.proofs.Spelling.{spellings_differ}
use Rattle.wasm2js_translation.specs.Words.{name_of}
use Rattle.wasm2js_lang.specs.Tables.{MaskedTable, masked}
use Rattle.wasm2js_translation.specs.Helpers.{wide_helpers, division_helpers, memory_helpers, shift_left_function, shift_right_signed_function, shift_right_function, rotate_left_function, leading_zeros_function, trailing_zeros_function, set_bits_function, copy_function, fill_function}
use Rattle.wasm2js_translation.specs.Modules.{functions_from, init_function, high_function, all_helpers, helpers, functions_of, view_variables, fixed_variables, foreign_variables, global_variables, variables_of, translated}
use Rattle.wasm2js_translation.specs.Tables.{is_empty, is_other, is_needed, stub_numbers, stubs, tables_for}
use Rattle.wasm2js_laws_helpers.specs.Laws.{divide_signed_function, divide_function, remainder_signed_function, remainder_function}
use Rattle.wasm2js_laws_helpers.specs.Access.Laws.{load_32_function, load_64_function}
use Rattle.wasm2js_laws_acceptance.proofs.ProvidedEntries.{In, in_left, in_right, are_apart}
use Rattle.wasm2js_laws_acceptance.proofs.ProvidedDeclared.{texts_of, table_texts, spellings, offered_names, kept_names, helper_names, callee_names, callees_names, only, stub_names, last_names, table_names, function_names, functions_are_named, tables_are_named}
use Rattle.wasm2js_laws_acceptance.proofs.ProvidedFound.{no_parameter, variable_found, function_found}
use Rattle.wasm2js_laws_acceptance.proofs.ProvidedHelpers.{word_helper_in, memory_helper_in, helper_found}
use Rattle.wasm2js_laws_scopes.proofs.HeadNames.{missed, numbered_others}
use Rattle.wasm2js_laws_preservation.specs.StoresLaws.{store_32_function, store_64_function}
use Rattle.wasm2js_laws_simulation.specs.HelpingHelping.{is_there, if_there, fixed_meaning}
use Rattle.wasm2js_laws_simulation.specs.HelpingLaws.{FixedNamesMean}

-- ---- names that are declared only where there is a memory, or where they are asked for

module _ (w : WasmModule) where
  abbrev is_declared : Name → Bool
  is_declared (numbered k n) = true
  is_declared (fixed f) = is_there w f

  all_of_both : (xs ys : List Name) → list_all is_declared xs ≡ true → list_all is_declared ys ≡ true → list_all is_declared (xs ++ ys) ≡ true
  all_of_both [] ys h k = k
  all_of_both (x ∷ xs) ys h k =
      let a = and_parts (is_declared x) (list_all is_declared xs) h in
      let e = a.0 in
      rw e (all_of_both xs ys a.1 k)

  callee_declared : (k : ℕ) (c : Option Callee) → list_all is_declared (callee_names k c) ≡ true
  callee_declared k None = refl
  callee_declared k (Some c) = refl

  callees_declared : (k : ℕ) (cs : List (Option Callee)) → list_all is_declared (callees_names k cs) ≡ true
  callees_declared k [] = refl
  callees_declared k (c ∷ cs) = all_of_both (callee_names k c) (callees_names (suc k) cs) (callee_declared k c) (callees_declared (suc k) cs)

  only_declared : (b : Bool) (k : names.Numbered) (n : ℕ) → list_all is_declared (only b (numbered k n)) ≡ true
  only_declared true k n = refl
  only_declared false k n = refl

  stubs_declared : (ts : List MaskedTable) (ns : List ℕ) → list_all is_declared (flat_map (stub_names w ts) ns) ≡ true
  stubs_declared ts [] = refl
  stubs_declared ts (n ∷ ns) =
      all_of_both (stub_names w ts n) (flat_map (stub_names w ts) ns)
      (all_of_both (only (is_needed w ts is_empty n) (numbered names.no_entry n)) (only (is_needed w ts is_other n) (numbered names.other_entry n))
      (only_declared (is_needed w ts is_empty n) names.no_entry n) (only_declared (is_needed w ts is_other n) names.other_entry n))
      (stubs_declared ts ns)

  -- those of helpers, where they are asked for
  abbrev AreOffered : List Name → Type 0
  AreOffered ns = AllByRecursion (λ n. is_asked w (spelled n) ≡ true → is_declared n ≡ true) ns

  kept_declared : (ns : List Name) → AreOffered ns → list_all is_declared (kept_names (is_asked w) ns) ≡ true
  kept_declared [] h = refl
  kept_declared (n ∷ ns) h = by (is_asked w (spelled n)) refl (kept_declared ns h.1)
    where
      by : (b : Bool) → is_asked w (spelled n) ≡ b → list_all is_declared (kept_names (is_asked w) ns) ≡ true → list_all is_declared (only b n ++ kept_names (is_asked w) ns) ≡ true
      by true e rest = let first = h.0 e in rw first rest
      by false e rest = rest

  both_true : (a b : Bool) → a ≡ true → b ≡ true → (a && b) ≡ true
  both_true true b h k = k
  both_true false b h k = absurd (cc h)

  offered_declared : (b : Bool) → has_memory w ≡ b → AreOffered (offered_names b)
  offered_declared true e = (λ h. h, (λ h. h, (λ h. h, (λ h. h, (λ h. h, (λ h. h, (λ h. h, (λ h. h, (λ h. h, (λ h. h, (λ h. h, (λ h. both_true (has_memory w) _ e h, (λ h. both_true (has_memory w) _ e h, (λ h. both_true (has_memory w) _ e h, (λ h. both_true (has_memory w) _ e h, (λ h. both_true (has_memory w) _ e h, (λ h. both_true (has_memory w) _ e h, (λ h. refl, (λ h. refl, tt)))))))))))))))))))
  offered_declared false e = (λ h. h, (λ h. h, (λ h. h, (λ h. h, (λ h. h, (λ h. h, (λ h. h, (λ h. h, (λ h. h, (λ h. h, (λ h. h, tt)))))))))))

  functions_declared : list_all is_declared (function_names w) ≡ true
  functions_declared =
      let cs = callees_names 0 (callees w) in
      let ss = flat_map (stub_names w (masked w)) stub_numbers in
      all_of_both (helper_names w) (cs ++ (ss ++ last_names)) (kept_declared (offered_names (has_memory w)) (offered_declared (has_memory w) refl))
      (all_of_both cs (ss ++ last_names) (callees_declared 0 (callees w)) (all_of_both ss last_names (stubs_declared (masked w) stub_numbers) refl))

  tables_declared : (ts : List MaskedTable) → list_all is_declared (table_names ts) ≡ true
  tables_declared [] = refl
  tables_declared (t ∷ ts) = tables_declared ts

-- ---- mean nothing else

module _ (w : WasmModule) (f : Fixed) (h : is_there w f ≡ false) where
  other_text : (s : List ℕ) (n : Name) → s ≡ spelled n → is_declared w n ≡ true → s ≡ word f → ⊥
  other_text s n e k is =
      let same : n ≡ fixed f = spellings_differ n (fixed f) (sym e ∙ is) in
      let both : true ≡ false = sym k ∙ ap (is_declared w) same ∙ h in
      cc both

  no_function : (fs : List Function) (ns : List Name) (o : Meaning) → texts_of fs ≡ spellings ns → list_all (is_declared w) ns ≡ true → among_functions fs (word f) o ≡ o
  no_function [] ns o e k = refl
  no_function (g ∷ fs) [] o e k = cc e
  no_function (g ∷ fs) (n ∷ ns) o e k =
      let a = and_parts (is_declared w n) (list_all (is_declared w) ns) k in
      let text : g.name ≡ spelled n = cc e in
      let rest : texts_of fs ≡ spellings ns = cc e in
      let apart = are_apart g.name (word f) (other_text g.name n text a.0) in
      ap (λ b. if b then a_function g else among_functions fs (word f) o) apart ∙ no_function fs ns o rest a.1

  no_table : (ts : List Table) (ns : List Name) → table_texts ts ≡ spellings ns → list_all (is_declared w) ns ≡ true → among_tables ts (word f) ≡ nothing
  no_table [] ns e k = refl
  no_table (t ∷ ts) [] e k = cc e
  no_table (t ∷ ts) (n ∷ ns) e k =
      let a = and_parts (is_declared w n) (list_all (is_declared w) ns) k in
      let text : t.name ≡ spelled n = cc e in
      let rest : table_texts ts ≡ spellings ns = cc e in
      let apart = are_apart t.name (word f) (other_text t.name n text a.0) in
      ap (λ b. if b then a_table t else among_tables ts (word f)) apart ∙ no_table ts ns rest a.1

-- no variable of the head has the name of a helper, and none that of a view where there is no memory

abbrev is_offered : Fixed → Bool
is_offered names.shift_left = true
is_offered names.shift_right_signed = true
is_offered names.shift_right = true
is_offered names.rotate_left = true
is_offered names.leading_zeros = true
is_offered names.trailing_zeros = true
is_offered names.set_bits = true
is_offered names.divide_signed = true
is_offered names.divide = true
is_offered names.remainder_signed = true
is_offered names.remainder = true
is_offered names.load_32 = true
is_offered names.load_64 = true
is_offered names.store_32 = true
is_offered names.store_64 = true
is_offered names.copy = true
is_offered names.fill = true
is_offered f = false

abbrev is_view : Fixed → Bool
is_view names.view_of_bytes = true
is_view names.view_of_signed_bytes = true
is_view names.view_of_words = true
is_view f = false

module _ (w : WasmModule) (rest : List Variable) (o : Meaning) where
  abbrev Past : Bool → Fixed → Type 0
  Past b f = among_globals (translated w) ((if b then view_variables else []) ++ (fixed_variables ++ rest)) (word f) o ≡ among_globals (translated w) rest (word f) o

  no_head : (f : Fixed) (b : Bool) → is_offered f ≡ true → Past b f
  no_head names.shift_left true h = refl
  no_head names.shift_left false h = refl
  no_head names.shift_right_signed true h = refl
  no_head names.shift_right_signed false h = refl
  no_head names.shift_right true h = refl
  no_head names.shift_right false h = refl
  no_head names.rotate_left true h = refl
  no_head names.rotate_left false h = refl
  no_head names.leading_zeros true h = refl
  no_head names.leading_zeros false h = refl
  no_head names.trailing_zeros true h = refl
  no_head names.trailing_zeros false h = refl
  no_head names.set_bits true h = refl
  no_head names.set_bits false h = refl
  no_head names.divide_signed true h = refl
  no_head names.divide_signed false h = refl
  no_head names.divide true h = refl
  no_head names.divide false h = refl
  no_head names.remainder_signed true h = refl
  no_head names.remainder_signed false h = refl
  no_head names.remainder true h = refl
  no_head names.remainder false h = refl
  no_head names.load_32 true h = refl
  no_head names.load_32 false h = refl
  no_head names.load_64 true h = refl
  no_head names.load_64 false h = refl
  no_head names.store_32 true h = refl
  no_head names.store_32 false h = refl
  no_head names.store_64 true h = refl
  no_head names.store_64 false h = refl
  no_head names.copy true h = refl
  no_head names.copy false h = refl
  no_head names.fill true h = refl
  no_head names.fill false h = refl
  no_head f b h = absurd (cc h)

  no_view : (f : Fixed) → is_view f ≡ true → Past false f
  no_view names.view_of_bytes h = refl
  no_view names.view_of_signed_bytes h = refl
  no_view names.view_of_words h = refl
  no_view f h = absurd (cc h)

module _ (w : WasmModule) where
  abbrev further : List Variable
  further = foreign_variables 0 (callees w) ++ global_variables w

  abbrev later : Fixed → Meaning
  later f = among_functions (functions_of w) (word f) (among_tables (tables_for w) (word f))

  in_order : variables_of w ≡ (if has_memory w then view_variables else []) ++ (fixed_variables ++ further)
  in_order =
      append_assoc ((if has_memory w then view_variables else []) ++ fixed_variables) (foreign_variables 0 (callees w)) (global_variables w)
      ∙ append_assoc (if has_memory w then view_variables else []) fixed_variables further

  undeclared : (f : Fixed) → Past w further (later f) (has_memory w) f → is_there w f ≡ false → module_meaning (translated w) (word f) ≡ nothing
  undeclared f past h =
      let m = translated w in
      ap (λ b. if b then a_parameter else among_globals m (variables_of w) (word f) (later f)) (no_parameter (fixed f))
      ∙ ap (λ vs. among_globals m vs (word f) (later f)) in_order
      ∙ past
      ∙ missed m further (word f) (later f) (numbered_others f w)
      ∙ no_function w f h (functions_of w) (function_names w) (among_tables (tables_for w) (word f)) (functions_are_named w) (functions_declared w)
      ∙ no_table w f h (tables_for w) (table_names (masked w)) (tables_are_named w) (tables_declared w (masked w))

  -- ---- and else what is declared

  abbrev views : List Variable
  views = if has_memory w then view_variables else []

  head_found : (v : Variable) (f : Fixed) → In v fixed_variables → v.name ≡ word f → module_meaning (translated w) (word f) ≡ init_meaning (translated w) v.init
  head_found v f h is =
      variable_found w v (fixed f)
      (in_left v ((views ++ fixed_variables) ++ foreign_variables 0 (callees w)) (global_variables w)
      (in_left v (views ++ fixed_variables) (foreign_variables 0 (callees w)) (in_right v views fixed_variables h)))
      is

  view_found : (v : Variable) (f : Fixed) → has_memory w ≡ true → In v view_variables → v.name ≡ word f → module_meaning (translated w) (word f) ≡ init_meaning (translated w) v.init
  view_found v f e h is =
      variable_found w v (fixed f)
      (in_left v ((views ++ fixed_variables) ++ foreign_variables 0 (callees w)) (global_variables w)
      (in_left v (views ++ fixed_variables) (foreign_variables 0 (callees w))
      (in_left v views fixed_variables (subst (λ b. In v (if b then view_variables else [])) (sym e) h))))
      is

  last_found : (g : Function) (f : Fixed) → In g (init_function w ∷ high_function ∷ []) → g.name ≡ word f → module_meaning (translated w) (word f) ≡ a_function g
  last_found g f h is = function_found w g (fixed f) (in_right g ((helpers w ++ functions_from w 0 (callees w)) ++ stubs w) (init_function w ∷ high_function ∷ []) h) is

  -- where it is declared, and where it isn't
  by_there : (f : Fixed) (o : Meaning) (b : Bool) → is_there w f ≡ b → (b ≡ true → module_meaning (translated w) (word f) ≡ o) → (b ≡ false → module_meaning (translated w) (word f) ≡ nothing)
      → module_meaning (translated w) (word f) ≡ if_there (is_there w f) o
  by_there f o true e k n = k refl ∙ sym (ap (λ b. if_there b o) e)
  by_there f o false e k n = n refl ∙ sym (ap (λ b. if_there b o) e)

  view_means : (f : Fixed) (v : Variable) → is_view f ≡ true → is_there w f ≡ has_memory w → In v view_variables → v.name ≡ word f
      → module_meaning (translated w) (word f) ≡ if_there (is_there w f) (init_meaning (translated w) v.init)
  view_means f v h e i is = by_there f _ (has_memory w) e (λ b. view_found v f b i is) (λ b. undeclared f (past b) (e ∙ b))
    where
      past : has_memory w ≡ false → Past w further (later f) (has_memory w) f
      past b = subst (λ b. Past w further (later f) b f) (sym b) (no_view w further (later f) f h)

  helper_means : (f : Fixed) (g : Function) → is_offered f ≡ true → (is_there w f ≡ true → In g (all_helpers w) × (is_asked w (word f) ≡ true)) → g.name ≡ word f
      → module_meaning (translated w) (word f) ≡ if_there (is_there w f) (a_function g)
  helper_means f g h k is = by_there f _ (is_there w f) refl (λ b. let a = k b in helper_found w g f a.0 is a.1) (λ b. undeclared f (no_head w further (later f) f (has_memory w) h) b)

  on_words : (g : Function) (f : Fixed) → In g (wide_helpers ++ division_helpers) → is_asked w (word f) ≡ true → In g (all_helpers w) × (is_asked w (word f) ≡ true)
  on_words g f i b = (word_helper_in w g i, b)

  on_memory : (g : Function) (f : Fixed) → In g (memory_helpers (memory_bytes w)) → (has_memory w && is_asked w (word f)) ≡ true → In g (all_helpers w) × (is_asked w (word f) ≡ true)
  on_memory g f i b = let a = and_parts (has_memory w) (is_asked w (word f)) b in (memory_helper_in w g a.0 i, a.1)

  name_means : (f : Fixed) → module_meaning (translated w) (name_of f) ≡ fixed_meaning w f
  name_means names.view_of_bytes = view_means names.view_of_bytes _ refl refl (inl refl) refl
  name_means names.view_of_signed_bytes = view_means names.view_of_signed_bytes _ refl refl (inr (inl refl)) refl
  name_means names.view_of_words = view_means names.view_of_words _ refl refl (inr (inr (inl refl))) refl
  name_means names.imul = head_found _ names.imul (inl refl) refl
  name_means names.clz32 = head_found _ names.clz32 (inr (inl refl)) refl
  name_means names.trap = head_found _ names.trap (inr (inr (inl refl))) refl
  name_means names.high = head_found _ names.high (inr (inr (inr (inl refl)))) refl
  name_means names.spare_high = head_found _ names.spare_high (inr (inr (inr (inr (inl refl))))) refl
  name_means names.result_high = head_found _ names.result_high (inr (inr (inr (inr (inr (inl refl)))))) refl
  name_means names.shift_left = helper_means names.shift_left shift_left_function refl (on_words shift_left_function names.shift_left (inl refl)) refl
  name_means names.shift_right_signed = helper_means names.shift_right_signed shift_right_signed_function refl (on_words shift_right_signed_function names.shift_right_signed (inr (inl refl))) refl
  name_means names.shift_right = helper_means names.shift_right shift_right_function refl (on_words shift_right_function names.shift_right (inr (inr (inl refl)))) refl
  name_means names.rotate_left = helper_means names.rotate_left rotate_left_function refl (on_words rotate_left_function names.rotate_left (inr (inr (inr (inl refl))))) refl
  name_means names.leading_zeros = helper_means names.leading_zeros leading_zeros_function refl (on_words leading_zeros_function names.leading_zeros (inr (inr (inr (inr (inl refl)))))) refl
  name_means names.trailing_zeros = helper_means names.trailing_zeros trailing_zeros_function refl (on_words trailing_zeros_function names.trailing_zeros (inr (inr (inr (inr (inr (inl refl))))))) refl
  name_means names.set_bits = helper_means names.set_bits set_bits_function refl (on_words set_bits_function names.set_bits (inr (inr (inr (inr (inr (inr (inl refl)))))))) refl
  name_means names.divide_signed = helper_means names.divide_signed divide_signed_function refl (on_words divide_signed_function names.divide_signed (inr (inr (inr (inr (inr (inr (inr (inl refl))))))))) refl
  name_means names.divide = helper_means names.divide divide_function refl (on_words divide_function names.divide (inr (inr (inr (inr (inr (inr (inr (inr (inl refl)))))))))) refl
  name_means names.remainder_signed = helper_means names.remainder_signed remainder_signed_function refl (on_words remainder_signed_function names.remainder_signed (inr (inr (inr (inr (inr (inr (inr (inr (inr (inl refl))))))))))) refl
  name_means names.remainder = helper_means names.remainder remainder_function refl (on_words remainder_function names.remainder (inr (inr (inr (inr (inr (inr (inr (inr (inr (inr (inl refl)))))))))))) refl
  name_means names.load_32 = helper_means names.load_32 load_32_function refl (on_memory load_32_function names.load_32 (inl refl)) refl
  name_means names.load_64 = helper_means names.load_64 load_64_function refl (on_memory load_64_function names.load_64 (inr (inl refl))) refl
  name_means names.store_32 = helper_means names.store_32 store_32_function refl (on_memory store_32_function names.store_32 (inr (inr (inl refl)))) refl
  name_means names.store_64 = helper_means names.store_64 store_64_function refl (on_memory store_64_function names.store_64 (inr (inr (inr (inl refl))))) refl
  name_means names.copy = helper_means names.copy (copy_function (memory_bytes w)) refl (on_memory (copy_function (memory_bytes w)) names.copy (inr (inr (inr (inr (inl refl)))))) refl
  name_means names.fill = helper_means names.fill (fill_function (memory_bytes w)) refl (on_memory (fill_function (memory_bytes w)) names.fill (inr (inr (inr (inr (inr (inl refl))))))) refl
  name_means names.data_words = refl
  name_means names.data_zeros = refl
  name_means names.init = last_found (init_function w) names.init (inl refl) refl
  name_means names.last_high = last_found high_function names.last_high (inr (inl refl)) refl

pub fixed_names_mean : FixedNamesMean
fixed_names_mean w f = name_means w f
