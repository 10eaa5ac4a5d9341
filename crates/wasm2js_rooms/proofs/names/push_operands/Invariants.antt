use Rattle.std.proofs.Common.{◌≡◌, ◌++◌, map}
use Rattle.std.specs.List.{flat_map, range_with_len}
use Rattle.wasm2js_translation.specs.Rooms.{operand_names}
use Rattle.wasm2js_nodes.specs.Names.{name_view}
use Rattle.wasm2js_rooms.proofs.names.push_operands.Given as goal

abbrev pub invariant-loop-depth : goal.invariant-loop-depth
invariant-loop-depth l =
    map name_view l.names.items ≡ map name_view l.fn.names.items ++ flat_map (operand_names l.room.wide_height) (range_with_len 0 l.depth)
