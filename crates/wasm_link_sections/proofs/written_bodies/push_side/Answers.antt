use Rattle.std.proofs.Common.{◌++◌}
use Rattle.wasm_tree.specs.Views.{module_of}
use Rattle.wasm_binary_write.specs.Spelling.{items, sized, body}
use Rattle.wasm_link_move.specs.Moved.{side_of}
use Rattle.wasm_link_sections.specs.Made.{bodies_made}
use Rattle.wasm_link_sections.proofs.Coded.{side_step}
use Rattle.wasm_link_sections.proofs.written_bodies.push_side.Goals as goal

pub loop-i-preserved : goal.loop-i-preserved
loop-i-preserved c =
    let own = module_of c.args.own.now in
    side_step c.args.numbers.now (side_of c.args.side) own c.args.other c.as_slice-body-items.result.now c.loop-i.i c.body-item.result
    (c.args.out.now.items ++ items (λ b. sized (body b)) (bodies_made c.args.numbers.now (side_of c.args.side) own c.args.other 0 own.bodies))
    c.loop-i.out.items c.push_sized_body.new.out.items c.loop-i-test.true c.body-item.is c.in_ok-push_sized_body.ensures c.loop-i.invariant
