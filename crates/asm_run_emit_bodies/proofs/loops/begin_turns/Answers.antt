use Rattle.std.proofs.Common.{◌∷◌, ap, ◌∙◌}
use Rattle.asm_run_code.specs.declared.op.Op.TheVariants.{Turn}
use Rattle.asm_run_names.specs.Names.{scope_said}
use Rattle.asm_run_emit_values.proofs.Codes.{told}
use Rattle.asm_run_emit_bodies.specs.Loops.{first, head}
use Rattle.asm_run_emit_bodies.proofs.loops.begin_turns.Goals as goal

pub returns : goal.returns
returns c =
    told c.put_first.result c.put_first.new.output _ _
    (ap (first (scope_said c.args.names.now) c.args.free c.args.turns)
    (c.in_ok-put.ensures ∙ ap (λ l. Turn c.args.free ∷ l) (c.in_ok-put_head.ensures ∙ ap (λ k. head (scope_said c.args.names.now) k c.args.past c.args.turns c.args.output.now) c.in_ok-inner.ensures)))
    c.put_first.ensures
