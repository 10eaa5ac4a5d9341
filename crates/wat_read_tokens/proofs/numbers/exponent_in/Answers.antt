use Rattle.std.proofs.Common.{ap, ◌∙◌}
use Rattle.wat_lang.specs.Numbers.{number_of}
use Rattle.wat_lang.specs.Modules as spec
use Rattle.wat_read_tokens.proofs.Numerals.{exponent_capped}
use Rattle.wat_read_tokens.proofs.numbers.exponent_in.Goals as goal

pub returns : goal.returns
returns c = c.exponent_of.ensures ∙ ap spec.exponent_of c.capped_in.ensures ∙ exponent_capped (number_of c.args.text.now)
