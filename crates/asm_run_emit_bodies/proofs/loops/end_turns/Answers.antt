use Rattle.std.proofs.Common.{◌∷◌, length, ap, ◌∙◌}
use Rattle.asm_run_code.specs.declared.op.Op.TheVariants.{Again}
use Rattle.asm_run_names.specs.Names.{scope_said}
use Rattle.asm_run_emit_bodies.specs.Loops.{tail}
use Rattle.asm_run_emit_bodies.proofs.loops.end_turns.Goals as goal

pub returns-clause-put : goal.returns-clause-put
returns-clause-put c =
    c.in_ok-put_tail.ensures ∙ ap (tail (scope_said c.args.names.now) c.in_ok-inner.inner c.address-past.result c.args.turns) c.in_ok-put.ensures
    ∙ ap (λ p. tail (scope_said c.args.names.now) c.in_ok-inner.inner p c.args.turns (Again c.args.free ∷ c.args.output.now)) c.address-past.ensures
    ∙ ap (λ k. tail (scope_said c.args.names.now) k (length c.args.output.now) c.args.turns (Again c.args.free ∷ c.args.output.now)) c.in_ok-inner.ensures
