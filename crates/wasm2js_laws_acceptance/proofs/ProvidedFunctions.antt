-- The functions of a module, by their numbers, and their signatures.
use Rattle.std.proofs.Common.{◌≡◌, ℕ, zero, suc, ◌+◌, Bool, List, [], ◌∷◌, ◌++◌, map, length, Option, Some, None, is_some, inl, refl, ap, ◌∙◌, subst, arith}
use Rattle.std.specs.Prelude.{slice_get}
use Rattle.wasm_lang.specs.declared.types.ValType.{ValType}
use Rattle.wasm_lang.specs.declared.types.ValType.TheVariants.{I32, I64}
use Rattle.wasm_lang.specs.Modules.{FunctionType, WasmModule}
use Rattle.wasm_lang.specs.Shape.{IsShaped}
use Rattle.wasm_lang_valid.specs.ModuleRules.{type_of_function}
use Rattle.wasm_lang_valid.specs.Profile.{memory_bytes, IsInProfile}
use Rattle.wasm_lang_valid.specs.Typing.{result_of}
use Rattle.wasm_lang_exec.specs.Reductions as machine
use Rattle.wasm_lang_exec.specs.Reductions.{Callee, an_import, a_function, callees, callee_at, found}
use Rattle.wasm_laws_sound.proofs.Functions.{typed_functions}
use Rattle.asm_lang.specs.Modules.{Expr, Function}
use Rattle.asm_lang_valid.specs.Scope as scopes
use Rattle.asm_lang_valid.specs.Scope.{gives_value, last_gives_value, signature_of}
use Rattle.wasm2js_translation.specs.Names as names
use Rattle.wasm2js_translation.specs.Names.{numbered, spelled}
use Rattle.wasm2js_translation.specs.Words.{stmts_in}
use Rattle.wasm2js_translation.specs.Helpers.{int_param}
use Rattle.wasm2js_translation.specs.Modules.{param_names, context_of, own_function, wrapper_body, wrapper, function_for, functions_from, init_function, high_function, helpers, functions_of, translated}
use Rattle.wasm2js_translation.specs.Tables.{words_of, cell_count, stubs}
use Rattle.wasm2js_laws_scopes.specs.Provided.{signature, signature_for}
use Rattle.wasm2js_laws_acceptance.specs.ProvidedLaws.{FunctionsAreProvided}
use Rattle.wasm2js_laws_acceptance.proofs.FunctionsSigned.{body_gives}
use Rattle.wasm2js_laws_acceptance.proofs.ProvidedEntries.{In, in_left, in_right}
use Rattle.wasm2js_laws_acceptance.proofs.ProvidedFound.{function_found, is_seen}

-- ---- what a wrapper gives

wrapper_gives : (r : Option ValType) (e : Expr) → last_gives_value (stmts_in (wrapper_body r e)) ≡ is_some r
wrapper_gives None e = refl
wrapper_gives (Some I32) e = refl
wrapper_gives (Some I64) e = refl

-- ---- parameters

pub words_counted : (x : ℕ) (ts : List ValType) → length (map int_param (param_names x ts)) ≡ words_of ts
words_counted x [] = refl
words_counted x (I32 ∷ ts) = let h = words_counted (suc x) ts in omega (arith, h)
words_counted x (I64 ∷ ts) = let h = words_counted (suc x) ts in omega (arith, h)

both_parts : (m n : ℕ) (a b : Bool) → m ≡ n → a ≡ b → signature m a ≡ signature n b
both_parts m n a b h k = cc (h, k)

module _ (w : WasmModule) where
  abbrev pub function_at : ℕ → Callee → Function
  function_at k (an_import name t) = wrapper k t
  function_at k (a_function t more code) = own_function w k t more code

  pub function_signed : (k : ℕ) (c : Callee) → signature_of (function_at k c) ≡ signature_for (machine.type_of c)
  function_signed k (an_import name t) = both_parts _ _ _ _ (words_counted 0 t.params) (wrapper_gives (result_of t) _)
  function_signed k (a_function t more code) = both_parts _ _ _ _ (words_counted 0 t.params) (body_gives (memory_bytes w) (cell_count w) (context_of w t more) code (result_of t) refl)

  pub function_named : (k : ℕ) (c : Callee) → (function_at k c).name ≡ spelled (numbered names.function k)
  function_named k (an_import name t) = refl
  function_named k (a_function t more code) = refl

  for_callee : (k : ℕ) (c : Callee) → In (function_at k c) (function_for w k (Some c))
  for_callee k (an_import name t) = inl refl
  for_callee k (a_function t more code) = inl refl

  from_there : (k i : ℕ) (cs : List (Option Callee)) (c : Callee) → slice_get cs i ≡ Some (Some c) → In (function_at (k + i) c) (functions_from w k cs)
  from_there k i [] c e = cc e
  from_there k zero (d ∷ cs) c e =
      let same : Some c ≡ d = cc e in
      let none : k ≡ k + 0 = omega arith in
      in_left (function_at (k + 0) c) (function_for w k d) (functions_from w (suc k) cs)
      (subst (λ d. In (function_at (k + 0) c) (function_for w k d)) same (subst (λ n. In (function_at n c) (function_for w k (Some c))) none (for_callee k c)))
  from_there k (suc i) (d ∷ cs) c e =
      let next : suc k + i ≡ k + suc i = omega arith in
      in_right (function_at (k + suc i) c) (function_for w k d) (functions_from w (suc k) cs) (subst (λ n. In (function_at n c) (functions_from w (suc k) cs)) next (from_there (suc k) i cs c e))

  pub found_some : (o : Option (Option Callee)) (c : Callee) → found o ≡ Some c → o ≡ Some (Some c)
  found_some None c e = cc e
  found_some (Some d) c e = ap Some e

  pub function_there : (f : ℕ) (c : Callee) → callee_at w f ≡ Some c → In (function_at f c) (functions_of w)
  function_there f c e =
      let it = function_at f c in
      let none : 0 + f ≡ f = omega arith in
      in_left it ((helpers w ++ functions_from w 0 (callees w)) ++ stubs w) (init_function w ∷ high_function ∷ [])
      (in_left it (helpers w ++ functions_from w 0 (callees w)) (stubs w)
      (in_right it (helpers w) (functions_from w 0 (callees w)) (subst (λ n. In (function_at n c) (functions_from w 0 (callees w))) none (from_there 0 f (callees w) c (found_some (slice_get (callees w) f) c e)))))

  -- what a function of this type means, and its signature
  pub record IsDeclared (f : ℕ) (t : FunctionType) : Type 0 where
    pub function : Function
    pub meaning : scopes.module_meaning (translated w) (spelled (numbered names.function f)) ≡ scopes.a_function function
    pub signed : signature_of function ≡ signature_for t

  pub function_declared : IsInProfile w → IsShaped w → (f : ℕ) (t : FunctionType) → type_of_function w f ≡ Some t → IsDeclared f t
  function_declared h shaped f t e =
      let it = (typed_functions w h.valid shaped.bodies_match).are_there f t e in
      record {
        function = function_at f it.0;
        meaning = function_found w (function_at f it.0) (numbered names.function f) (function_there f it.0 it.1) (function_named f it.0);
        signed = function_signed f it.0 ∙ ap signature_for it.2;
      }

pub functions_are_provided : FunctionsAreProvided
functions_are_provided w h shaped name ps ls ss p l f t e =
    let it = function_declared w h shaped f t e in
    record { function = it.function; is_this = is_seen w name ps ls ss p l (numbered names.function f) (scopes.a_function it.function) refl it.meaning; signature = it.signed }
