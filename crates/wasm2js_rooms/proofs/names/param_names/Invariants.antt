use Rattle.std.proofs.Common.{◌≡◌, ◌++◌, map, drop}
use Rattle.wasm2js_translation.specs.Modules.{param_names}
use Rattle.wasm2js_nodes.specs.Names.{name_view}
use Rattle.wasm2js_rooms.proofs.names.param_names.Given as goal

abbrev pub invariant-loop-number : goal.invariant-loop-number
invariant-loop-number l = param_names 0 l.types ≡ map name_view l.names.items ++ param_names l.number (drop l.number l.types)
