use Rattle.std.proofs.Common.{refl, arith}
use Rattle.wat_lang.specs.Tokens.{is_atom_byte}
use Rattle.wat_tokens.specs.declared.bytes.TheConstants.{CLASSES}
use Rattle.wat_tokens.proofs.Tables.{flag_of}
use Rattle.wat_tokens.proofs.bytes.is_atom_byte.Goals as goal

pub returns : goal.returns
returns c = flag_of CLASSES 1 is_atom_byte c.args.b (omega arith) refl
