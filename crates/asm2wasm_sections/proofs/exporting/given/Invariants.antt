use Rattle.std.proofs.Common.{◌≡◌, ◌++◌, map, drop}
use Rattle.wasm_tree.specs.Views.{export_of}
use Rattle.asm_validate_facts.specs.Numbers.{export_said}
use Rattle.asm2wasm_sections.specs.Parts.{export_given}
use Rattle.asm2wasm_sections.proofs.exporting.given.Given as goal

abbrev pub invariant-loop-export : goal.invariant-loop-export
invariant-loop-export l =
    map export_of l.said.items ++ map (export_given l.imported) (map export_said (drop l.export-index l.exports)) ≡ map (export_given l.imported) (map export_said l.exports)
