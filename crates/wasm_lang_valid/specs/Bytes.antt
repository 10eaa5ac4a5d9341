-- Which bytes spell a valid module, which of those can be translated, and why others can't.
use Rattle.std.specs.Prelude.{◌≡◌, ℕ, List, Some}
use Rattle.wasm_lang.specs.Bytes.{IsRead}
use Rattle.wasm_lang.specs.Modules.{WasmModule}
use Rattle.wasm_lang_valid.specs.declared.profile.Outside.{Outside}
use Rattle.wasm_lang_valid.specs.declared.rule.Rule.{Rule}
use Rattle.wasm_lang_valid.specs.declared.section.Section.{Section}
use Rattle.wasm_lang_valid.specs.Profile.{IsInProfile, outside_profile}
use Rattle.wasm_lang_valid.specs.Validity.{IsValidModule, RefusesModule}

-- the bytes spell this module within the reader's limits, and it is valid
pub record IsValidBytes (bytes : List ℕ) (m : WasmModule) : Type 0 where
  pub read : IsRead bytes m
  pub valid : IsValidModule m

-- the bytes spell a module that isn't valid, and this is the first rule that it breaks, and where
pub record IsInvalidBytes (bytes : List ℕ) (rule : Rule) (section : Section) (index instruction : ℕ) : Type 0 where
  pub «module» : WasmModule
  pub read : IsRead bytes «module»
  pub refuses : RefusesModule «module» rule section index instruction

-- the bytes spell this module within the reader's limits, and it can be translated
pub record IsTranslatable (bytes : List ℕ) (m : WasmModule) : Type 0 where
  pub read : IsRead bytes m
  pub within : IsInProfile m

-- the bytes spell a valid module, and this is the first row that it meets of those that aren't translated
pub record IsBeyond (bytes : List ℕ) (row : Outside) : Type 0 where
  pub «module» : WasmModule
  pub taken : IsValidBytes bytes «module»
  pub meets : outside_profile «module» ≡ Some row
