use Rattle.std.proofs.Common.{◌≡◌, map}
use Rattle.std.specs.List.{range_with_len}
use Rattle.wasm2js_translation.specs.Helpers as helpers
use Rattle.wasm2js_nodes.specs.Names.{name_view}
use Rattle.wasm2js_stubs.proofs.stopping.arguments.Given as goal

abbrev pub invariant-loop-number : goal.invariant-loop-number
invariant-loop-number l = map name_view l.names.items ≡ map helpers.argument (range_with_len 0 l.number)
