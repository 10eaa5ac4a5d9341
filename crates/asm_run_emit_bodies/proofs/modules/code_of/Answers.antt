use Rattle.std.proofs.Common.{◌∙◌}
use Rattle.asm_run_emit_bodies.proofs.Whole.{flat_made}
use Rattle.asm_run_emit_bodies.proofs.modules.code_of.Goals as goal

pub returns : goal.returns
returns c =
    flat_made c.args.«module».now c.args.function.now c.as_slice.result.now c.as_slice-2.result.now c.in_ok-params.params c.from_vec.result.items.items c.emit_function.new.output c.from_vec-2.result.items.items c.as_slice.ensures c.as_slice-2.ensures
    c.in_ok-params.ensures (c.from_vec.ensures ∙ c.in_ok-firsts.ensures) c.in_ok-emit_function.ensures (c.from_vec-2.ensures ∙ c.in_ok-code.ensures)
