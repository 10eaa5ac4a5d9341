use Rattle.std.proofs.Common.{sym}
use Rattle.wat_read_names.specs.Fields.{field_of}
use Rattle.wat_read_names.proofs.Passing.{none_entered, enters_none, enters_only}
use Rattle.wat_read_names.proofs.naming.Naming.add.Goals as goal

pub enter-requires : goal.enter-requires
enter-requires c = enters_only (field_of c.args.field.now) _ (sym c.in-Some.ensures)

pub returns-in-None : goal.returns-in-None
returns-in-None c = λ fs h. none_entered c.args.self.now fs (field_of c.args.field.now) (enters_none (field_of c.args.field.now) (sym c.in-None.ensures)) h
