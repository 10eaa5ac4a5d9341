-- How many variables, functions and foreign calls a translated module has.
use Rattle.std.proofs.Common.{◌≡◌, ℕ, zero, suc, ◌+◌, ◌*◌, ◌≤◌, Bool, true, false, List, [], ◌∷◌, ◌++◌, length, map, Option, Some, None, refl, ap, arith, length-append}
use Rattle.std.specs.Prelude.{if◌then◌else◌}
use Rattle.std.specs.List.{flat_map, range_with_len}
use Rattle.std.proofs.lemmas.List.{length-map}
use Rattle.wasm_lang.specs.declared.types.ImportKind.{ImportKind}
use Rattle.wasm_lang.specs.declared.types.ImportKind.TheVariants as imports
use Rattle.wasm_lang.specs.Instructions.{Instruction, plain, const32, const64, global_get}
use Rattle.wasm_lang.specs.Modules.{Imported, GlobalEntry, FunctionBody, WasmModule}
use Rattle.wasm_lang_valid.specs.ModuleRules.{imported_functions, imported_globals, has_memory}
use Rattle.wasm_lang_valid.specs.Profile.{memory_bytes}
use Rattle.wasm_lang_exec.specs.Fits.{GlobalImport, global_imports}
use Rattle.wasm_lang_exec.specs.Reductions.{Callee, an_import, a_function, if_function, imported_callee, imported_callees, own_callees, callees}
use Rattle.asm_lang.specs.Modules.{Function}
use Rattle.wasm2js_lang.specs.Parts.Functions.{is_asked}
use Rattle.wasm2js_translation.specs.Helpers.{wide_helpers, division_helpers, memory_helpers, kept}
use Rattle.wasm2js_translation.specs.Modules.{function_for, functions_from, init_function, high_function, all_helpers, helpers, functions_of, view_variables, fixed_variables, foreign_variables, imported_variables, first_values, own_variables, global_variables, variables_of}
use Rattle.wasm2js_translation.specs.Tables.{MaskedTable, masked, is_needed, is_empty, is_other, stub_function, stubs_for, stubs}
use Rattle.wasm2js_translation.specs.Names.{no_entry, other_entry}
use Rattle.wasm2js_laws_acceptance.specs.FunctionsFunctions.{import_uses, uses_of}
use Rattle.wasm2js_laws_acceptance.proofs.FunctionsLimited.{IsLimited}

-- ---- functions of the source

module _ (w : WasmModule) where
  pub imports_long : (is : List Imported) → length (imported_callees w is) ≡ length (imported_functions is)
  imports_long [] = refl
  imports_long (x ∷ is) = by x.kind (imports_long is)
    where
      by : (kind : ImportKind) → length (imported_callees w is) ≡ length (imported_functions is)
          → length (if_function kind (λ t. imported_callee w x t ∷ imported_callees w is) (imported_callees w is)) ≡ length (imported_functions (record x { kind = kind } ∷ is))
      by (imports.Func n) e = ap suc e
      by (imports.Table l) e = e
      by (imports.Memory l) e = e
      by (imports.Global g) e = e

  own_few : (ts : List ℕ) (bs : List FunctionBody) → length (own_callees w ts bs) ≤ length ts
  own_few [] [] = omega arith
  own_few [] (b ∷ bs) = omega arith
  own_few (t ∷ ts) [] = omega arith
  own_few (t ∷ ts) (b ∷ bs) = let h = own_few ts bs in omega (arith, h)

  pub callees_few : IsLimited w → length (callees w) ≤ 20000
  callees_few limits =
      let a = imports_long w.imports in
      let b = own_few w.functions w.bodies in
      let c = length-append (imported_callees w w.imports) (own_callees w w.functions w.bodies) in
      let d = length-append (imported_functions w.imports) w.functions in
      few _ _ _ _ _ _ a b c d limits.functions
    where
      few : (i j o f all types : ℕ) → i ≡ j → o ≤ f → all ≡ i + o → types ≡ j + f → types ≤ 20000 → all ≤ 20000
      few i j o f all types a b c d e = omega (arith, a, b, c, d, e)

  -- ---- functions of the result

  one_function : (k : ℕ) (c : Option Callee) → length (function_for w k c) ≤ 1
  one_function k None = omega arith
  one_function k (Some (an_import name t)) = omega arith
  one_function k (Some (a_function t more code)) = omega arith

  functions_few : (k : ℕ) (cs : List (Option Callee)) → length (functions_from w k cs) ≤ length cs
  functions_few k [] = omega arith
  functions_few k (c ∷ cs) =
      let a = length-append (function_for w k c) (functions_from w (suc k) cs) in
      let b = one_function k c in
      let d = functions_few (suc k) cs in
      omega (arith, a, b, d)

  one_if : (b : Bool) (f : Function) → length (if b then f ∷ [] else []) ≤ 1
  one_if true f = omega arith
  one_if false f = omega arith

  two_stubs : (ts : List MaskedTable) (stub : ℕ) → length (stubs_for w ts stub) ≤ 2
  two_stubs ts stub =
      let a = length-append (if is_needed w ts is_empty stub then stub_function no_entry 5 stub ∷ [] else []) (if is_needed w ts is_other stub then stub_function other_entry 6 stub ∷ [] else []) in
      let b = one_if (is_needed w ts is_empty stub) (stub_function no_entry 5 stub) in
      let c = one_if (is_needed w ts is_other stub) (stub_function other_entry 6 stub) in
      omega (arith, a, b, c)

  stubs_few : (ts : List MaskedTable) (a n : ℕ) → length (flat_map (stubs_for w ts) (range_with_len a n)) ≤ 2 * n
  stubs_few ts a zero = omega arith
  stubs_few ts a (suc n) =
      let e = length-append (stubs_for w ts a) (flat_map (stubs_for w ts) (range_with_len (a + 1) n)) in
      let b = two_stubs ts a in
      let c = stubs_few ts (a + 1) n in
      omega (arith, e, b, c)

  kept_few : (fs : List Function) → length (kept (is_asked w) fs) ≤ length fs
  kept_few [] = omega arith
  kept_few (f ∷ fs) =
      let a = length-append (if is_asked w f.name then f ∷ [] else []) (kept (is_asked w) fs) in
      let b = one_if (is_asked w f.name) f in
      let c = kept_few fs in
      omega (arith, a, b, c)

  helpers_few : length (helpers w) ≤ 19
  helpers_few =
      let a = length-append (wide_helpers ++ division_helpers) (if has_memory w then memory_helpers (memory_bytes w) else []) in
      let b = by (has_memory w) in
      let c = kept_few (all_helpers w) in
      omega (arith, a, b, c)
    where
      by : (b : Bool) → length (if b then memory_helpers (memory_bytes w) else []) ≤ 8
      by true = omega arith
      by false = omega arith

  pub all_functions_few : IsLimited w → length (functions_of w) ≤ 50000
  all_functions_few limits =
      let a = length-append (helpers w ++ functions_from w 0 (callees w) ++ stubs w) (init_function w ∷ high_function ∷ []) in
      let b = length-append (helpers w ++ functions_from w 0 (callees w)) (stubs w) in
      let c = length-append (helpers w) (functions_from w 0 (callees w)) in
      few _ _ _ _ _ _ _ a b c helpers_few (functions_few 0 (callees w)) (callees_few limits) (stubs_few (masked w) 0 4002)
    where
      few : (all front source h f s cs : ℕ) → all ≡ front + 2 → front ≡ source + s → source ≡ h + f → h ≤ 19 → f ≤ cs → cs ≤ 20000 → s ≤ 2 * 4002 → all ≤ 50000
      few all front source h f s cs a b c d e g i = omega (arith, a, b, c, d, e, g, i)

  -- ---- foreign calls

  uses_few : (cs : List (Option Callee)) → length (import_uses cs) ≤ length cs
  uses_few [] = omega arith
  uses_few (None ∷ cs) = let h = uses_few cs in omega (arith, h)
  uses_few (Some (a_function t more code) ∷ cs) = let h = uses_few cs in omega (arith, h)
  uses_few (Some (an_import name t) ∷ cs) = let h = uses_few cs in omega (arith, h)

  pub all_uses_few : IsLimited w → length (uses_of w) ≤ 20002
  all_uses_few limits = let a = uses_few (callees w) in let b = callees_few limits in omega (arith, a, b)

  -- ---- variables

  foreign_few : (k : ℕ) (cs : List (Option Callee)) → length (foreign_variables k cs) ≤ length cs
  foreign_few k [] = omega arith
  foreign_few k (None ∷ cs) = omega arith
  foreign_few k (Some (a_function t more code) ∷ cs) = omega arith
  foreign_few k (Some (an_import name t) ∷ cs) = let h = foreign_few (suc k) cs in omega (arith, h)

  imported_few : (k : ℕ) (gs : List GlobalImport) → length (imported_variables k gs) ≡ length gs
  imported_few k [] = refl
  imported_few k (g ∷ gs) = ap suc (imported_few (suc k) gs)

  first_few : (given : List GlobalImport) (k : ℕ) (is : List Instruction) → length (first_values given k is) ≤ 2
  first_few given k (plain (const32 n) ∷ is) = omega arith
  first_few given k (plain (const64 n) ∷ is) = omega arith
  first_few given k (plain (global_get x) ∷ is) = omega arith
  first_few given k is = omega arith

  own_variables_few : (given : List GlobalImport) (k : ℕ) (gs : List GlobalEntry) → length (own_variables given k gs) ≤ 2 * length gs
  own_variables_few given k [] = omega arith
  own_variables_few given k (g ∷ gs) =
      let a = length-append (first_values given k g.init) (own_variables given (suc k) gs) in
      let b = first_few given k g.init in
      let c = own_variables_few given (suc k) gs in
      omega (arith, a, b, c)

  given_long : (is : List Imported) → length (global_imports is) ≡ length (imported_globals is)
  given_long [] = refl
  given_long (x ∷ is) = by x.kind (given_long is)
    where
      by : (kind : ImportKind) → length (global_imports is) ≡ length (imported_globals is) → length (global_imports (record x { kind = kind } ∷ is)) ≡ length (imported_globals (record x { kind = kind } ∷ is))
      by (imports.Global g) e = ap suc e
      by (imports.Func n) e = e
      by (imports.Table l) e = e
      by (imports.Memory l) e = e

  views_few : (b : Bool) → length (if b then view_variables else []) ≤ 3
  views_few true = omega arith
  views_few false = omega arith

  pub variables_few : IsLimited w → length (variables_of w) ≤ 100000
  variables_few limits =
      let given = global_imports w.imports in
      let a = length-append ((if has_memory w then view_variables else []) ++ fixed_variables ++ foreign_variables 0 (callees w)) (global_variables w) in
      let b = length-append ((if has_memory w then view_variables else []) ++ fixed_variables) (foreign_variables 0 (callees w)) in
      let c = length-append (if has_memory w then view_variables else []) fixed_variables in
      let d = length-append (imported_variables 0 given) (own_variables given (length given) w.globals) in
      let e = length-append (imported_globals w.imports) (map (λ (g : GlobalEntry). g.kind) w.globals) in
      few _ _ _ _ _ _ _ _ _ _ _ _ _ _ a b c d (views_few (has_memory w)) (foreign_few 0 (callees w)) (callees_few limits) (imported_few 0 given) (given_long w.imports)
      (own_variables_few given (length given) w.globals) e (length-map w.globals (λ (g : GlobalEntry). g.kind)) limits.globals
    where
      few : (all front head views foreign globals cs imported own g ig kinds entries types : ℕ) → all ≡ front + globals → front ≡ head + foreign → head ≡ views + 6 → globals ≡ imported + own → views ≤ 3 → foreign ≤ cs → cs ≤ 20000
          → imported ≡ g → g ≡ ig → own ≤ 2 * entries → types ≡ ig + kinds → kinds ≡ entries → types ≤ 10000 → all ≤ 100000
      few all front head views foreign globals cs imported own g ig kinds entries types a b c d e f h i j k l m n = omega (arith, a, b, c, d, e, f, h, i, j, k, l, m, n)
