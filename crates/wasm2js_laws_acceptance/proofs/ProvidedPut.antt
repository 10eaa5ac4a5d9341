-- The helpers that write words and zeros of long segments.
use Rattle.std.proofs.Common.{◌≡◌, ℕ, zero, suc, Bool, true, false, ◌||◌, List, [], ◌∷◌, Some, inl, inr, refl, sym, subst}
use Rattle.std.specs.Prelude.{slice_get}
use Rattle.std.specs.List.{list_any}
use Rattle.wasm_lang.specs.Modules.{DataSegment, WasmModule}
use Rattle.wasm_lang_valid.specs.ModuleRules.{has_memory}
use Rattle.asm_lang_valid.specs.Scope.{a_function, module_meaning}
use Rattle.wasm2js_lang.specs.Parts.Functions.{is_long, has_long_segments}
use Rattle.wasm2js_translation.specs.Names.{fixed, data_words, data_zeros, spelled}
use Rattle.wasm2js_translation.specs.Helpers.{put_function, zero_function}
use Rattle.wasm2js_translation.specs.Modules.{translated}
use Rattle.wasm2js_laws_acceptance.proofs.ProvidedHelpers.{memory_helper_in, helper_found}

or_true : (a b : Bool) → b ≡ true → (a || b) ≡ true
or_true true b h = refl
or_true false b h = h

-- a module with a long segment
pub long_among : (ds : List DataSegment) (i : ℕ) (d : DataSegment) → slice_get ds i ≡ Some d → is_long d ≡ true → list_any is_long ds ≡ true
long_among [] i d e h = absurd (cc e)
long_among (x ∷ ds) zero d e h = let same : x ≡ d = cc e in let first : is_long x ≡ true = subst (λ y. is_long y ≡ true) (sym same) h in rw first refl
long_among (x ∷ ds) (suc i) d e h = or_true (is_long x) (list_any is_long ds) (long_among ds i d e h)

module _ (w : WasmModule) (has : has_memory w ≡ true) (long : has_long_segments w ≡ true) where
  pub put_found : module_meaning (translated w) (spelled (fixed data_words)) ≡ a_function put_function
  put_found = helper_found w put_function data_words (memory_helper_in w put_function has (inr (inr (inr (inr (inr (inr (inl refl)))))))) refl long

  pub zeros_found : module_meaning (translated w) (spelled (fixed data_zeros)) ≡ a_function zero_function
  zeros_found = helper_found w zero_function data_zeros (memory_helper_in w zero_function has (inr (inr (inr (inr (inr (inr (inr (inl refl))))))))) refl long
