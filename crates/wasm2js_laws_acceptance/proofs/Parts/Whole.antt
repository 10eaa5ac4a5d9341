-- The functions of a translated module, in order.
use Rattle.std.proofs.Common.{[], ◌∷◌, refl}
use Rattle.wasm_lang_exec.specs.Reductions.{callees}
use Rattle.wasm2js_translation.specs.Modules.{functions_from, init_function, high_function, helpers}
use Rattle.wasm2js_translation.specs.Tables.{stubs}
use Rattle.wasm2js_laws_acceptance.specs.PartsLaws.{TranslationsHaveFunctions}
use Rattle.wasm2js_laws_acceptance.proofs.Parts.Stand.{helpers_are, source_signed, last_are}
use Rattle.wasm2js_laws_acceptance.proofs.Parts.Stubs.{stubs_are_members}
use Rattle.wasm2js_laws_acceptance.proofs.Parts.Exporting.{exported_as_asked}

pub translations_have_functions : TranslationsHaveFunctions
translations_have_functions w h shaped = record {
  helpers = helpers w;
  source = functions_from w 0 (callees w);
  stubs = stubs w;
  last = init_function w ∷ high_function ∷ [];
  all = refl;
  are_helpers = helpers_are w;
  are_source = source_signed w h shaped;
  are_stubs = stubs_are_members w;
  are_last = last_are w;
  exported = exported_as_asked w h shaped;
}
