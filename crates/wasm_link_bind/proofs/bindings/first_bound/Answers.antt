use Rattle.wasm_link_bind.proofs.Finals.{first_made}
use Rattle.wasm_link_bind.proofs.bindings.first_bound.Goals as goal

pub returns : goal.returns
returns c = first_made (record { first = c.args.first.now; second = c.args.second.now }) c.sizes.result.functions c.in_ok-bound.bound.items c.sizes.ensures.functions c.in_ok-bound.ensures
