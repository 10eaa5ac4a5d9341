use Rattle.std.proofs.Common.{refl, arith}
use Rattle.wat_tokens.specs.Fronts.{is_plain}
use Rattle.wat_tokens.specs.declared.bytes.TheConstants.{CLASSES}
use Rattle.wat_tokens.proofs.Tables.{flag_of}
use Rattle.wat_tokens.proofs.bytes.is_plain.Goals as goal

pub returns : goal.returns
returns c = flag_of CLASSES 2 is_plain c.args.b (omega arith) refl
