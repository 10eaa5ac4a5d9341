use Rattle.std.proofs.Common.{◌≡◌, ◌++◌, List, map, drop}
use Rattle.asm_lang_valid.specs.Scope as scopes
use Rattle.asm2wasm_translation.specs.Numbers.{each_once}
use Rattle.asm2wasm_numbers.specs.Signatures.{asked, said}
use Rattle.asm2wasm_numbers.proofs.signatures.add_calls.Given as goal

abbrev pub invariant-loop-call : goal.invariant-loop-call
invariant-loop-call l = (rest : List scopes.Signature) → each_once (said l.initial.signatures) (map asked l.calls ++ rest) ≡ each_once (said l.signatures) (map asked (drop l.call-index l.calls) ++ rest)
