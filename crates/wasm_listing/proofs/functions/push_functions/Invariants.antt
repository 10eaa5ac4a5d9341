use Rattle.std.proofs.Common.{◌≡◌, ◌+◌, ◌++◌, drop, map}
use Rattle.wasm_tree.specs.Views.{body_of, type_of}
use Rattle.bridge_lang.specs.Listing.{function_lines}
use Rattle.wasm_listing.proofs.functions.push_functions.Given as goal

-- with the lines that are still to come these are all lines
abbrev pub invariant-loop-index : goal.invariant-loop-index
invariant-loop-index l =
    l.out.items ++ function_lines (map type_of l.types) (l.first + l.index) (drop l.index l.functions) (map body_of (drop l.index l.bodies))
    ≡ l.initial.out.items ++ function_lines (map type_of l.types) l.first l.functions (map body_of l.bodies)
