use Rattle.std.proofs.Common.{◌≡◌, ◌++◌, drop, map}
use Rattle.wasm_tree.specs.Views.{type_of}
use Rattle.wasm_link_sections.proofs.front.push_types.Given as goal

abbrev pub invariant-loop-t : goal.invariant-loop-t
invariant-loop-t l = map type_of l.fn.types.items ++ map type_of l.more ≡ map type_of l.types.items ++ map type_of (drop l.t-index l.more)
