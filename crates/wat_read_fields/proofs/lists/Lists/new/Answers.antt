use Rattle.std.proofs.Common.{map, ap}
use Rattle.wasm_tree.specs.Views as views
use Rattle.wat_read_fields.proofs.lists.Lists.new.Goals as goal

pub returns : goal.returns
returns c = λ names_of types. record {
  described = c.new.ensures names_of;
  listed = c.new-2.ensures names_of;
  functions = record { types = c.new-3.ensures; bodies = ap (map views.body_of) c.new-4.ensures };
}
