-- What is imported and exported, case by case.
use Rattle.std.specs.Prelude.{List, Option, Some, None}
use Rattle.wasm_lang.specs.declared.types.ImportKind.{ImportKind}
use Rattle.wasm_lang.specs.declared.types.ImportKind.TheVariants as imports
use Rattle.wasm_lang.specs.declared.types.ExportKind.{ExportKind}
use Rattle.wasm_lang.specs.declared.types.ExportKind.TheVariants as exports
use Rattle.wat_lang.specs.declared.parts.Space.{Space}
use Rattle.wat_lang.specs.declared.parts.Space.TheVariants as spaces
use Rattle.wat_lang.specs.Grammar.{Mark, an_exported, Marked}
use Rattle.wat_lang.specs.Names.{Names}
use Rattle.wat_lang.specs.Modules.{limits_in, global_type_in, function_type_in, first_used}

abbrev pub kind_of_space : (Space → Names) → List Marked → Space → ImportKind
kind_of_space names ms spaces.Table = imports.Table (limits_in ms)
kind_of_space names ms spaces.Memory = imports.Memory (limits_in ms)
kind_of_space names ms spaces.Global = imports.Global (global_type_in ms)
kind_of_space names ms _ = imports.Func (function_type_in names ms)

-- what a token says is exported, with the tokens behind it
abbrev pub exported_as : (Space → Names) → List Marked → Mark → Option ExportKind
exported_as names ms (an_exported spaces.Func) = Some (exports.Func (first_used names spaces.Func ms))
exported_as names ms (an_exported spaces.Table) = Some (exports.Table (first_used names spaces.Table ms))
exported_as names ms (an_exported spaces.Memory) = Some (exports.Memory (first_used names spaces.Memory ms))
exported_as names ms (an_exported spaces.Global) = Some (exports.Global (first_used names spaces.Global ms))
exported_as names ms _ = None
