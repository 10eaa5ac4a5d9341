use Rattle.std.proofs.Common.{◌≡◌, ◌++◌, map, drop}
use Rattle.wasm_tree.specs.Views.{type_of}
use Rattle.asm2wasm_translation.specs.Modules.{type_for}
use Rattle.asm2wasm_numbers.specs.Signatures.{signature_said}
use Rattle.asm2wasm_sections.proofs.typing.types.Given as goal

abbrev pub invariant-loop-signature : goal.invariant-loop-signature
invariant-loop-signature l = map type_of l.types.items ++ map type_for (map signature_said (drop l.signature-index l.signatures)) ≡ map type_for (map signature_said l.signatures)
