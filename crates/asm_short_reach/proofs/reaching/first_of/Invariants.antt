use Rattle.std.proofs.Common.{◌≡◌, map, take}
use Rattle.asm_lang_valid.specs.Refusal.{Exported}
use Rattle.asm_validate_facts.specs.Numbers.{export_said}
use Rattle.asm_short_reach.proofs.reaching.first_of.Given as goal

abbrev pub invariant-loop-export : goal.invariant-loop-export
invariant-loop-export l = l.first.items ≡ map (λ (e : Exported). e.function) (map export_said (take l.export-index l.exports))
