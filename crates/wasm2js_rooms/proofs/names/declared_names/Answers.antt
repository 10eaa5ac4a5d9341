use Rattle.std.proofs.Common.{◌++◌, map, drop, ap, ◌∙◌}
use Rattle.std.specs.List.{flat_map, range_with_len}
use Rattle.wasm2js_translation.specs.Rooms.{body_room, operand_names}
use Rattle.wasm2js_operands.specs.Scopes.{context_in}
use Rattle.wasm2js_nodes.specs.Names.{name_view}
use Rattle.wasm2js_rooms.specs.Flags.{flagged_names}
use Rattle.wasm2js_rooms.proofs.Flags.{declared}
use Rattle.wasm2js_rooms.proofs.names.declared_names.Goals as goal

pub returns : goal.returns
returns c = λ tree is.
    c.in_ok-push_operands.ensures
    ∙ ap (λ ns. ns ++ flat_map (operand_names c.in_ok-room.room.wide_height) (range_with_len 0 c.in_ok-room.room.height)) c.in_ok-push_locals.ensures
    ∙ ap (λ ns. (map name_view ns ++ flagged_names c.in_ok-room.room.named.items c.args.params (drop c.args.params c.args.scope.now.locals.now)) ++ flat_map (operand_names c.in_ok-room.room.wide_height) (range_with_len 0 c.in_ok-room.room.height)) c.new-names.ensures.items
    ∙ declared c.in_ok-room.room (body_room (context_in c.args.scope.now) tree) c.args.params c.args.scope.now.locals.now (c.in_ok-room.ensures.sights tree is)
