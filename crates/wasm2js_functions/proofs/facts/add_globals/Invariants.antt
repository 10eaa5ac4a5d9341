use Rattle.std.proofs.Common.{◌≡◌, ◌++◌, drop, map}
use Rattle.wasm_tree.specs.Views.{global_of}
use Rattle.wasm2js_functions.proofs.facts.add_globals.Given as goal

abbrev pub invariant-loop-global : goal.invariant-loop-global
invariant-loop-global l = l.fn.types.items ++ map (λ g. g.kind) (map global_of l.globals) ≡ l.types.items ++ map (λ g. g.kind) (map global_of (drop l.global-index l.globals))
