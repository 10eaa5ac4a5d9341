use Rattle.std.proofs.Common.{◌≡◌, ◌++◌, List, map, drop}
use Rattle.asm_lang.specs.Modules.{Function}
use Rattle.asm_tree.specs.Views.{export_view}
use Rattle.asm_validate_facts.specs.Numbers.{IsNumbered, all_numbered, export_said}
use Rattle.asm_validate_facts.proofs.exports.several.Given as goal

abbrev pub invariant-loop-export : goal.invariant-loop-export
invariant-loop-export l = (functions : List Function) → IsNumbered l.numbers functions → map export_said l.said.items ++ all_numbered functions (map export_view (drop l.export-index l.exports)) ≡ all_numbered functions (map export_view l.exports)
