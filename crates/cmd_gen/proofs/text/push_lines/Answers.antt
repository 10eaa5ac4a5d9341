use Rattle.std.proofs.Common.{◌∙◌, sym}
use Rattle.cmd_gen.proofs.Lines.{first_line, next_line, no_lines}
use Rattle.cmd_gen.proofs.text.push_lines.Goals as goal

pub loop-number-init : goal.loop-number-init
loop-number-init c = rw c.in_ok-extend_from_slice.ensures.items (first_line c.args.functions c.args.text.now.items c.requires)

pub loop-number-preserved : goal.loop-number-preserved
loop-number-preserved c = rw c.in_ok-push_line.ensures (next_line c.args.functions c.loop-number.number c.loop-number.text.items c.loop-number.auto.number c.loop-number-test.true ∙ c.loop-number.invariant)

pub returns : goal.returns
returns c = sym (no_lines c.args.functions c.loop-number.number c.loop-number.text.items c.loop-number-test.false) ∙ c.loop-number.invariant
