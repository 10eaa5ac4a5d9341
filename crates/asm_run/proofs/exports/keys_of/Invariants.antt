use Rattle.std.proofs.Common.{◌≡◌, ◌++◌, drop, map}
use Rattle.asm_validate_facts.specs.Numbers.{export_said}
use Rattle.name_slots.specs.Names.{names_in}
use Rattle.asm_run.specs.Exports.{keys_in}
use Rattle.asm_run.proofs.exports.keys_of.Given as goal

abbrev pub invariant-loop-export : goal.invariant-loop-export
invariant-loop-export l = names_in l.keys.items ++ keys_in (map export_said (drop l.export-index l.exports)) ≡ keys_in (map export_said l.exports)
