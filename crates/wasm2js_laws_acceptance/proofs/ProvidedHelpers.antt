-- The helpers that code asks for are there, and the functions of a module see them.
use Rattle.std.proofs.Common.{◌≡◌, ℕ, Bool, true, false, List, [], ◌∷◌, ◌++◌, Some, inl, inr, refl, sym, subst}
use Rattle.std.specs.Prelude.{if◌then◌else◌}
use Rattle.std.specs.List.{AllByRecursion, list_all}
use Rattle.sem_words.specs.declared.js_value.JsOp.TheVariants.{Div, Rem}
use Rattle.wasm_lang.specs.Modules.{WasmModule}
use Rattle.wasm_lang_valid.specs.ModuleRules.{has_memory}
use Rattle.wasm_lang_valid.specs.Profile.{memory_bytes}
use Rattle.wasm_lang_exec.specs.Reductions.{callees}
use Rattle.asm_lang.specs.Modules.{Stmt, Function}
use Rattle.asm_lang_valid.specs.Scope.{a_function, module_meaning, Signature, signature_of}
use Rattle.asm_lang_valid.specs.Typed.{scope_of}
use Rattle.wasm2js_lang.specs.Parts.Functions.{is_asked}
use Rattle.wasm2js_translation.specs.Names as names
use Rattle.wasm2js_translation.specs.Names.{Name, Fixed, fixed, word}
use Rattle.wasm2js_translation.specs.Helpers.{function_of, one_argument, two_arguments, three_arguments, second, third, spare, gives, sets, shift_left_function, shift_right_signed_function, shift_right_function, rotate_left_function, leading_zeros_function, trailing_zeros_function, set_bits_function, wide_helpers, divisor_test, overflow_test, signed_result, plain_result, division_helpers, word_at, write_word, copy_function, fill_function, memory_helpers, kept}
use Rattle.wasm2js_translation.specs.Modules.{all_helpers, helpers, functions_from, init_function, high_function, translated}
use Rattle.wasm2js_translation.specs.Tables.{stubs}
use Rattle.wasm2js_laws_terms.specs.Sound.{IsHelper}
use Rattle.wasm2js_laws_scopes.specs.Provided.{wide_helper, memory_helper}
use Rattle.wasm2js_laws_scopes.specs.Laws.{is_own}
use Rattle.wasm2js_laws_acceptance.specs.ProvidedLaws.{HelpersAreProvided, MemoryHelpersAreProvided}
use Rattle.wasm2js_laws_acceptance.proofs.ProvidedEntries.{In, in_left, in_right}
use Rattle.wasm2js_laws_acceptance.proofs.ProvidedFound.{function_found, is_seen}

-- ---- what is offered, and asked for

kept_has : (asked : List ℕ → Bool) (fs : List Function) (g : Function) → In g fs → asked g.name ≡ true → In g (kept asked fs)
kept_has asked [] g h e = h
kept_has asked (f ∷ fs) g (inl same) e =
    let first : asked f.name ≡ true = subst (λ (x : Function). asked x.name ≡ true) (sym same) e in
    subst (λ b. In g ((if b then f ∷ [] else []) ++ kept asked fs)) (sym first) (inl same)
kept_has asked (f ∷ fs) g (inr h) e = in_right g (if asked f.name then f ∷ [] else []) (kept asked fs) (kept_has asked fs g h e)

pub all_kept : (P : Function → Type 0) (asked : List ℕ → Bool) (fs : List Function) → AllByRecursion P fs → AllByRecursion P (kept asked fs)
all_kept P asked [] h = tt
all_kept P asked (f ∷ fs) h = by (asked f.name) (all_kept P asked fs h.1)
  where
    by : (b : Bool) → AllByRecursion P (kept asked fs) → AllByRecursion P ((if b then f ∷ [] else []) ++ kept asked fs)
    by true rest = (h.0, rest)
    by false rest = rest

module _ (w : WasmModule) where
  pub word_helper_in : (g : Function) → In g (wide_helpers ++ division_helpers) → In g (all_helpers w)
  word_helper_in g h = in_left g (wide_helpers ++ division_helpers) (if has_memory w then memory_helpers (memory_bytes w) else []) h

  pub memory_helper_in : (g : Function) → has_memory w ≡ true → In g (memory_helpers (memory_bytes w)) → In g (all_helpers w)
  memory_helper_in g e h =
      in_right g (wide_helpers ++ division_helpers) (if has_memory w then memory_helpers (memory_bytes w) else []) (subst (λ b. In g (if b then memory_helpers (memory_bytes w) else [])) (sym e) h)

  pub helper_found : (g : Function) (f : Fixed) → In g (all_helpers w) → g.name ≡ word f → is_asked w (word f) ≡ true → module_meaning (translated w) (word f) ≡ a_function g
  helper_found g f h is asked =
      function_found w g (fixed f)
      (in_left g ((helpers w ++ functions_from w 0 (callees w)) ++ stubs w) (init_function w ∷ high_function ∷ [])
      (in_left g (helpers w ++ functions_from w 0 (callees w)) (stubs w)
      (in_left g (helpers w) (functions_from w 0 (callees w)) (kept_has (is_asked w) (all_helpers w) g h (subst (λ s. is_asked w s ≡ true) (sym is) asked)))))
      is

-- ---- each by its name

module _ (bytes : ℕ) where
  abbrev pub helper_of : Fixed → Function
  helper_of names.shift_left = shift_left_function
  helper_of names.shift_right_signed = shift_right_signed_function
  helper_of names.shift_right = shift_right_function
  helper_of names.rotate_left = rotate_left_function
  helper_of names.leading_zeros = leading_zeros_function
  helper_of names.trailing_zeros = trailing_zeros_function
  helper_of names.set_bits = set_bits_function
  helper_of names.divide_signed = function_of (fixed names.divide_signed) two_arguments [] (divisor_test ∷ overflow_test ∷ signed_result Div ∷ [])
  helper_of names.divide = function_of (fixed names.divide) two_arguments [] (divisor_test ∷ plain_result Div ∷ [])
  helper_of names.remainder_signed = function_of (fixed names.remainder_signed) two_arguments [] (divisor_test ∷ signed_result Rem ∷ [])
  helper_of names.remainder = function_of (fixed names.remainder) two_arguments [] (divisor_test ∷ plain_result Rem ∷ [])
  helper_of names.load_32 = function_of (fixed names.load_32) one_argument [] (gives (word_at 0) ∷ [])
  helper_of names.load_64 = function_of (fixed names.load_64) one_argument [] (sets spare (word_at 4) ∷ gives (word_at 0) ∷ [])
  helper_of names.store_32 = function_of (fixed names.store_32) two_arguments [] (write_word 0 second)
  helper_of names.store_64 = function_of (fixed names.store_64) three_arguments [] (write_word 0 second ++ write_word 4 third)
  helper_of names.copy = copy_function bytes
  helper_of names.fill = fill_function bytes
  helper_of f = shift_left_function

module _ (w : WasmModule) (name : Name) (ps ls : List Name) (ss : List Stmt) (p : list_all is_own ps ≡ true) (l : list_all is_own ls ≡ true) where
  there : (f : Fixed) (g : Function) (form : Signature) → In g (all_helpers w) → g.name ≡ word f → signature_of g ≡ form → is_asked w (word f) ≡ true
      → IsHelper (scope_of (translated w) (function_of name ps ls ss)) f form.params form.result
  there f g form h is signed asked = record { function = g; is_this = is_seen w name ps ls ss p l (fixed f) (a_function g) refl (helper_found w g f h is asked); signature = signed }

  word_helps : (f : Fixed) (form : Signature) → wide_helper f ≡ Some form → is_asked w (word f) ≡ true → IsHelper (scope_of (translated w) (function_of name ps ls ss)) f form.params form.result
  word_helps names.shift_left form h asked = there names.shift_left (helper_of 0 names.shift_left) form (word_helper_in w _ (inl refl)) refl (cc h) asked
  word_helps names.shift_right_signed form h asked = there names.shift_right_signed (helper_of 0 names.shift_right_signed) form (word_helper_in w _ (inr (inl refl))) refl (cc h) asked
  word_helps names.shift_right form h asked = there names.shift_right (helper_of 0 names.shift_right) form (word_helper_in w _ (inr (inr (inl refl)))) refl (cc h) asked
  word_helps names.rotate_left form h asked = there names.rotate_left (helper_of 0 names.rotate_left) form (word_helper_in w _ (inr (inr (inr (inl refl))))) refl (cc h) asked
  word_helps names.leading_zeros form h asked = there names.leading_zeros (helper_of 0 names.leading_zeros) form (word_helper_in w _ (inr (inr (inr (inr (inl refl)))))) refl (cc h) asked
  word_helps names.trailing_zeros form h asked = there names.trailing_zeros (helper_of 0 names.trailing_zeros) form (word_helper_in w _ (inr (inr (inr (inr (inr (inl refl))))))) refl (cc h) asked
  word_helps names.set_bits form h asked = there names.set_bits (helper_of 0 names.set_bits) form (word_helper_in w _ (inr (inr (inr (inr (inr (inr (inl refl)))))))) refl (cc h) asked
  word_helps names.divide_signed form h asked = there names.divide_signed (helper_of 0 names.divide_signed) form (word_helper_in w _ (inr (inr (inr (inr (inr (inr (inr (inl refl))))))))) refl (cc h) asked
  word_helps names.divide form h asked = there names.divide (helper_of 0 names.divide) form (word_helper_in w _ (inr (inr (inr (inr (inr (inr (inr (inr (inl refl)))))))))) refl (cc h) asked
  word_helps names.remainder_signed form h asked = there names.remainder_signed (helper_of 0 names.remainder_signed) form (word_helper_in w _ (inr (inr (inr (inr (inr (inr (inr (inr (inr (inl refl))))))))))) refl (cc h) asked
  word_helps names.remainder form h asked = there names.remainder (helper_of 0 names.remainder) form (word_helper_in w _ (inr (inr (inr (inr (inr (inr (inr (inr (inr (inr (inl refl)))))))))))) refl (cc h) asked
  word_helps f form h asked = absurd (cc h)

  memory_helps : has_memory w ≡ true → (f : Fixed) (form : Signature) → memory_helper f ≡ Some form → is_asked w (word f) ≡ true
      → IsHelper (scope_of (translated w) (function_of name ps ls ss)) f form.params form.result
  memory_helps e names.load_32 form h asked = there names.load_32 (helper_of (memory_bytes w) names.load_32) form (memory_helper_in w _ e (inl refl)) refl (cc h) asked
  memory_helps e names.load_64 form h asked = there names.load_64 (helper_of (memory_bytes w) names.load_64) form (memory_helper_in w _ e (inr (inl refl))) refl (cc h) asked
  memory_helps e names.store_32 form h asked = there names.store_32 (helper_of (memory_bytes w) names.store_32) form (memory_helper_in w _ e (inr (inr (inl refl)))) refl (cc h) asked
  memory_helps e names.store_64 form h asked = there names.store_64 (helper_of (memory_bytes w) names.store_64) form (memory_helper_in w _ e (inr (inr (inr (inl refl))))) refl (cc h) asked
  memory_helps e names.copy form h asked = there names.copy (helper_of (memory_bytes w) names.copy) form (memory_helper_in w _ e (inr (inr (inr (inr (inl refl)))))) refl (cc h) asked
  memory_helps e names.fill form h asked = there names.fill (helper_of (memory_bytes w) names.fill) form (memory_helper_in w _ e (inr (inr (inr (inr (inr (inl refl))))))) refl (cc h) asked
  memory_helps e f form h asked = absurd (cc h)

pub helpers_are_provided : HelpersAreProvided
helpers_are_provided w name ps ls ss p l f form h asked = word_helps w name ps ls ss p l f form h asked

pub memory_helpers_are_provided : MemoryHelpersAreProvided
memory_helpers_are_provided w name ps ls ss p l e f form h asked = memory_helps w name ps ls ss p l e f form h asked
