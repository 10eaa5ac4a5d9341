-- What a body is in.
use Rattle.std.specs.Prelude.{List, [], map}
use Rattle.wasm_lang_valid.specs.Typing.{Context}
use Rattle.wasm_lang.specs.Instructions.{Instruction, plain}
use Rattle.wasm_lang.specs.declared.types.ValType.{ValType}
use Rattle.wasm_tree.specs.Views.{type_of}
use Rattle.wasm2js_translation.specs.Bodies as bodies
use Rattle.wasm2js_operands.specs.declared.scope.BodyScope.{BodyScope}

abbrev pub context_in : BodyScope → Context
context_in s = record {
  types = map type_of s.types.now;
  functions = s.functions.now;
  table = s.table;
  memory = s.memory;
  globals = s.globals.now;
  locals = s.locals.now;
  labels = [];
  returns = s.returns;
}

-- the types of the operands after a plain instruction; any other one leaves them
abbrev pub after : Context → Instruction → List ValType → List ValType
after c (plain p) ts = bodies.after_plain c p ts
after c i ts = ts
