-- A translated module is called as asked, so scripts fit it.
use Rattle.wasm2js_translation.specs.Modules.{translated}
use Rattle.wasm2js_laws_scripts.proofs.Fitting.{scripts_fit}
use Rattle.wasm2js_laws_scripts.proofs.Names.{shaped_exports_are_bytes}
use Rattle.wasm2js_laws_acceptance.specs.CalledLaws.{TranslationsAreCalled, TranslationsFit}
use Rattle.wasm2js_laws_acceptance.proofs.CalledExporting.{exports_as_asked}
use Rattle.wasm2js_laws_acceptance.proofs.CalledImporting.{functions_as_asked, no_functions_but_asked, globals_as_asked, no_globals_but_asked, no_doubles, heap_as_asked}

pub translations_are_called : TranslationsAreCalled
translations_are_called w h shaped = record {
  exported = exports_as_asked w h shaped;
  functions = functions_as_asked w h.valid;
  no_other_functions = no_functions_but_asked w h.valid;
  globals = globals_as_asked w;
  no_other_globals = no_globals_but_asked w;
  no_doubles = no_doubles w;
  heap = heap_as_asked w;
}

pub translations_fit : TranslationsFit
translations_fit w h shaped s k = scripts_fit w (translated w) s h.within (shaped_exports_are_bytes w shaped) (translations_are_called w h shaped) k
