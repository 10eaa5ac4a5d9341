use Rattle.std.proofs.Common.{map, take}
use Rattle.wasm_tree.specs.Views.{body_of, type_of}
use Rattle.wasm_lang_valid.specs.Measures.{called_types}
use Rattle.wasm_validate_bodies.specs.Calls.{IsCalled}
use Rattle.wasm2js_tables.proofs.called.called_of.Given as goal

abbrev pub invariant-loop-body : goal.invariant-loop-body
invariant-loop-body l = IsCalled l.called (map type_of l.types) (called_types (map type_of l.types) (map body_of (take l.body-index l.bodies)))
