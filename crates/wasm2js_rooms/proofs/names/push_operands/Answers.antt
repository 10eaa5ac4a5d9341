use Rattle.std.proofs.Common.{◌++◌, map, sym, ap, ◌∙◌, append_assoc}
use Rattle.std.specs.List.{flat_map, range_with_len}
use Rattle.wasm2js_translation.specs.Rooms.{operand_names}
use Rattle.wasm2js_nodes.specs.Names.{name_view}
use Rattle.wasm2js_rooms.proofs.Flags.{flat_more}
use Rattle.wasm2js_rooms.proofs.names.push_operands.Goals as goal

pub loop-depth-preserved : goal.loop-depth-preserved
loop-depth-preserved c =
    let f = operand_names c.args.room.now.wide_height in
    let old = map name_view c.args.names.now.items in
    c.in_ok-push_operand.ensures
    ∙ ap (λ ns. ns ++ f c.loop-depth.depth) c.loop-depth.invariant
    ∙ append_assoc old (flat_map f (range_with_len 0 c.loop-depth.depth)) (f c.loop-depth.depth)
    ∙ ap (λ ns. old ++ ns) (sym (flat_more f c.loop-depth.depth))
