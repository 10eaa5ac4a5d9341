use Rattle.std.proofs.Common.{◌++◌, take, List, map}
use Rattle.wasm_lang.specs.Modules.{FunctionType}
use Rattle.wasm_tree.specs.Views.{instr_of, type_of}
use Rattle.wasm_lang_valid.specs.Measures.{called_in}
use Rattle.wasm_validate_bodies.specs.Calls.{IsCalled}
use Rattle.wasm_validate_bodies.proofs.called.Called.add.Given as goal

abbrev pub invariant-loop-instr : goal.invariant-loop-instr
invariant-loop-instr l = (before : List FunctionType) → IsCalled l.fn.self (map type_of l.types) before → IsCalled l.self (map type_of l.types) (before ++ called_in (map type_of l.types) (map instr_of (take l.instr-index l.code)))
