use Rattle.std.proofs.Common.{sym, ◌∙◌}
use Rattle.wat_lang.specs.Numbers.{number_of}
use Rattle.wat_read_names.proofs.Places.{out_unknown, in_known}
use Rattle.wat_read_names.proofs.ids.small_number.Goals as goal

pub returns-then-is_out : goal.returns-then-is_out
returns-then-is_out c = out_unknown (number_of c.args.text.now) (sym c.is_out.ensures ∙ c.if-is_out.true)

pub returns-else-is_out : goal.returns-else-is_out
returns-else-is_out c = in_known c.natural_in.result (number_of c.args.text.now) c.natural_in.ensures (sym c.is_out.ensures ∙ c.if-is_out.false)
