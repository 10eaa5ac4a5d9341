use Rattle.std.proofs.Common.{◌≡◌, drop}
use Rattle.wasm_lang.specs.Modules.{WasmModule}
use Rattle.wasm_lang_valid.specs.ModuleRules as rules
use Rattle.wasm_validate.specs.Facts.{FactsOf}
use Rattle.wasm_validate.proofs.rules.are_functions.Given as goal

abbrev pub invariant-loop-f : goal.invariant-loop-f
invariant-loop-f l = (m : WasmModule) → FactsOf l.facts m → rules.are_functions m l.functions ≡ rules.are_functions m (drop l.f-index l.functions)
