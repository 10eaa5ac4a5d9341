-- The context that a scope of the code stands for.
use Rattle.std.specs.Prelude.{map, []}
use Rattle.wasm_tree.specs.Views as views
use Rattle.wasm_lang_valid.specs.Typing.{Context}
use Rattle.wasm_validate_bodies.specs.declared.scope.Scope.{Scope}

-- the context outside a body's outermost block
abbrev pub outside : Scope → Context
outside s = record {
  types = map views.type_of s.types.now;
  functions = s.functions.now;
  table = s.table;
  memory = s.memory;
  globals = s.globals.now;
  locals = s.locals.now;
  labels = [];
  returns = s.result;
}
