use Rattle.std.proofs.Common.{refl}
use Rattle.std.specs.Hash.{le_bytes}
use Rattle.std.specs.Hash.DefaultHasher.{initial, round, write_word, write_byte, write, finish}
use Rattle.asm_worked.proofs.seeds.seeds.Goals as goal

pub returns-clause-none : goal.returns-clause-none
unfolding le_bytes initial round write_word write_byte write finish
returns-clause-none c = refl

pub returns-clause-one : goal.returns-clause-one
unfolding le_bytes initial round write_word write_byte write finish
returns-clause-one c = refl

pub returns-clause-two : goal.returns-clause-two
unfolding le_bytes initial round write_word write_byte write finish
returns-clause-two c = refl

pub returns-clause-others : goal.returns-clause-others
unfolding le_bytes initial round write_word write_byte write finish
returns-clause-others c = refl
