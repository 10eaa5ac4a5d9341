use Rattle.std.proofs.Common.{refl, ap}
use Rattle.wat_read_tokens.specs.Marks.{marks_of}
use Rattle.wat_read.proofs.making.Making.new.Goals as goal

pub returns : goal.returns
returns c = λ names_of types. record {
  none = refl;
  parts = ap marks_of c.new-4.ensures.items;
  rows = record { numbers = c.new.ensures.numbers; locals = c.new.ensures.locals; fields = c.new.ensures.fields };
  lists = c.new-2.ensures names_of types;
  function = c.new-3.ensures;
}
