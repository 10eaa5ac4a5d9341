use Rattle.std.proofs.Common.{subst}
use Rattle.wat_read_fields.specs.Contexts.{module_names, module_types}
use Rattle.wat_read.specs.Making.{by_open}
use Rattle.wat_read.proofs.making.Making.close.Goals as goal

pub returns-in-None : goal.returns-in-None
returns-in-None c = λ ks h.
    c.close_none.ensures (module_names c.args.context) (module_types c.args.context) ks
    (subst (by_open (module_names c.args.context) (module_types c.args.context) c.args.self.now ks) c.in-None.is h)
