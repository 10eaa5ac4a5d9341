use Rattle.asm_laws_fault.proofs.Refusal.Within.{refused_within}
use Rattle.asm_laws_fault.proofs.refusal_laws.refused_at_a_node.Goals as goal

pub returns : goal.returns
returns c = refused_within
