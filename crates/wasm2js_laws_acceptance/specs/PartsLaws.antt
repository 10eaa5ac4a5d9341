-- The functions, tables and imports of translated modules.
use Rattle.wasm_lang.specs.Modules.{WasmModule}
use Rattle.wasm_lang.specs.Shape.{IsShaped}
use Rattle.wasm_lang_valid.specs.Profile.{IsInProfile}
use Rattle.wasm2js_lang.specs.Parts.Functions.{HasFunctions}
use Rattle.wasm2js_lang.specs.Parts.Tables.{HasTables}
use Rattle.wasm2js_lang.specs.Parts.Imports.{HasImports}
use Rattle.wasm2js_translation.specs.Modules.{translated}

abbrev pub TranslationsHaveFunctions : Type 0
TranslationsHaveFunctions = (w : WasmModule) → IsInProfile w → IsShaped w → HasFunctions w (translated w)

abbrev pub TranslationsHaveTables : Type 0
TranslationsHaveTables = (w : WasmModule) → IsInProfile w → IsShaped w → HasTables w (translated w)

abbrev pub TranslationsHaveImports : Type 0
TranslationsHaveImports = (w : WasmModule) → IsInProfile w → HasImports w (translated w)
