use Rattle.wat_read_rows.proofs.FieldByField.{all_found}
use Rattle.wat_read_rows.proofs.orders.Orders.found.Goals as goal

pub returns : goal.returns
returns c = λ fs h. all_found c.args.self fs _ _ _ h c.join.ensures c.join-2.ensures c.join-3.ensures
