-- What a context says: the names and the types of the whole module.
use Rattle.std.specs.Prelude.{List, map}
use Rattle.wasm_tree.specs.Views as views
use Rattle.wasm_lang.specs.Modules.{FunctionType}
use Rattle.wat_lang.specs.declared.parts.Space.{Space}
use Rattle.wat_lang.specs.Names as names
use Rattle.wat_read_names.specs.Bound.{space_names}
use Rattle.wat_read_fields.specs.declared.context.Context.{Context}

abbrev pub module_names : Context → Space → names.Names
module_names c = space_names c.spaces.now

abbrev pub module_types : Context → List FunctionType
module_types c = map views.type_of c.types.now
