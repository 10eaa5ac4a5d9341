-- Which texts say a valid module of WebAssembly, and why others don't.
use Rattle.std.specs.Prelude.{ℕ, List}
use Rattle.wasm_lang.specs.Modules.{WasmModule}
use Rattle.wasm_lang_valid.specs.declared.rule.Rule.{Rule}
use Rattle.wasm_lang_valid.specs.declared.section.Section.{Section}
use Rattle.wasm_lang_valid.specs.Validity.{IsValidModule, RefusesModule}
use Rattle.wat_lang.specs.declared.fault.Row.{Row}
use Rattle.wat_lang.specs.Texts.{SaysModule, IsFault}
use Rattle.bridge_lang.specs.Reason.{Reason, not_wat, not_valid}

-- the text says this module, and it is valid
pub record IsValidWat (text : List ℕ) (m : WasmModule) : Type 0 where
  pub says : SaysModule text m
  pub valid : IsValidModule m

-- it says none, or one that isn't valid
pub data IsWatRefusal (text : List ℕ) : Reason → Type 0 where
  says_none : (row : Row) (at : ℕ) → IsFault text row at → IsWatRefusal text (not_wat row at)
  says_invalid : (m : WasmModule) (rule : Rule) (section : Section) (index instruction : ℕ) → SaysModule text m
      → RefusesModule m rule section index instruction → IsWatRefusal text (not_valid rule section index instruction)
