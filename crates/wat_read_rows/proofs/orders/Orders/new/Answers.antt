use Rattle.std.proofs.Common.{refl}
use Rattle.wat_lang.specs.declared.parts.Space.TheVariants as spaces
use Rattle.wat_read_rows.proofs.orders.Orders.new.Goals as goal

pub returns : goal.returns
returns c =
    record {
      defined = refl;
      started = refl;
      order = c.new.ensures;
      types = c.new-2.ensures spaces.Type;
      functions = c.new-3.ensures spaces.Func;
      globals = c.new-4.ensures spaces.Global;
    }
