use Rattle.std.proofs.Common.{◌≡◌, ◌++◌, map, drop}
use Rattle.wasm2js_nodes.specs.Names.{name_view}
use Rattle.wasm2js_rooms.specs.Flags.{flagged_names}
use Rattle.wasm2js_rooms.proofs.names.push_locals.Given as goal

abbrev pub invariant-loop-number : goal.invariant-loop-number
invariant-loop-number l =
    map name_view l.fn.names.items ++ flagged_names l.room.named.items l.params (drop l.params l.locals)
    ≡ map name_view l.names.items ++ flagged_names l.room.named.items l.number (drop l.number l.locals)
