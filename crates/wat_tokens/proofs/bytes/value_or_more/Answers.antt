use Rattle.std.proofs.Common.{refl, arith}
use Rattle.wat_tokens.specs.Fronts.{value_or_more}
use Rattle.wat_tokens.specs.declared.bytes.TheConstants.{VALUES}
use Rattle.wat_tokens.proofs.Tables.{value_of}
use Rattle.wat_tokens.proofs.bytes.value_or_more.Goals as goal

pub returns : goal.returns
returns c = value_of VALUES value_or_more c.args.b (omega arith) refl
