use Rattle.std.proofs.Common.{◌≡◌, ◌++◌, List, map, drop}
use Rattle.asm_lang_valid.specs.Scope as scopes
use Rattle.asm_tree.specs.Views.{function_view}
use Rattle.asm2wasm_translation.specs.Numbers.{each_once}
use Rattle.asm2wasm_numbers.specs.Signatures.{said}
use Rattle.asm2wasm_numbers.proofs.signatures.add_functions.Given as goal

abbrev pub invariant-loop-function : goal.invariant-loop-function
invariant-loop-function l = (rest : List scopes.Signature) → each_once (said l.initial.signatures) (map scopes.signature_of (map function_view l.functions) ++ rest) ≡ each_once (said l.signatures) (map scopes.signature_of (map function_view (drop l.function-index l.functions)) ++ rest)
