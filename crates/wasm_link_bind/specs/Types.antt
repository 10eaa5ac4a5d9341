-- The type of a function, where it has one.
use Rattle.std.specs.Prelude.{Option, Some, None, option_map}
use Rattle.std.specs.Borrow.{Bor}
use Rattle.wasm_lang.specs.Modules.{FunctionType}
use Rattle.wasm_tree.specs.declared.module.FuncType.{FuncType}
use Rattle.wasm_tree.specs.Views.{type_of}

abbrev pub typed : Option (Bor FuncType) → Option FunctionType
typed None = None
typed (Some t) = Some (type_of t.now)
