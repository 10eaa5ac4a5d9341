-- The helpers by flags and a memory are those of a module with them.
use Rattle.std.proofs.Common.{◌≡◌, ℕ, Bool, true, false, [], ◌++◌, Option, Some, None, refl, ap, ◌∙◌}
use Rattle.std.specs.Prelude.{if◌then◌else◌}
use Rattle.wasm_lang.specs.Modules.{WasmModule}
use Rattle.wasm_lang_valid.specs.ModuleRules.{has_memory}
use Rattle.wasm_lang_valid.specs.Profile.{memory_bytes}
use Rattle.wasm2js_lang.specs.Parts.Functions.{is_asked}
use Rattle.wasm2js_translation.specs.Helpers.{wide_helpers, division_helpers, memory_helpers, kept}
use Rattle.wasm2js_translation.specs.Modules.{helpers}
use Rattle.wasm2js_needs.specs.declared.needs.Needs.{Needs}
use Rattle.wasm2js_needs.specs.Needs.{needs_for}
use Rattle.wasm2js_memory_helpers.specs.Choices.{helpers_with, memory_of}

by_memory : (m : WasmModule) (b : Bool) (n : ℕ)
    → helpers_with (needs_for m) (if b then Some n else None) ≡ kept (is_asked m) (wide_helpers ++ division_helpers ++ (if b then memory_helpers n else []))
by_memory m true n = refl
by_memory m false n = refl

pub helpers_are : (m : WasmModule) (n : Needs) (memory : Option ℕ) → memory ≡ memory_of m → n ≡ needs_for m → helpers_with n memory ≡ helpers m
helpers_are m n memory e f = ap (helpers_with n) e ∙ ap (λ n. helpers_with n (memory_of m)) f ∙ by_memory m (has_memory m) (memory_bytes m)
