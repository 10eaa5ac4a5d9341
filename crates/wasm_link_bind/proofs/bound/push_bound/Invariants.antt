use Rattle.std.proofs.Common.{◌≡◌, ◌+◌, ◌++◌, drop, map}
use Rattle.std.specs.Prelude.{option_map}
use Rattle.wasm_tree.specs.Views.{import_of}
use Rattle.wasm_link_lang.specs.Pairs.{function_imports}
use Rattle.wasm_link_lang.specs.Pairs as pairs
use Rattle.wasm_link_bind.proofs.bound.push_bound.Given as goal

abbrev pub invariant-loop-import : goal.invariant-loop-import
invariant-loop-import l =
    l.fn.bound.items ++ map (λ i. option_map (λ f. l.base + f) (pairs.bound_to l.other i)) (function_imports (map import_of l.imports))
    ≡ l.bound.items ++ map (λ i. option_map (λ f. l.base + f) (pairs.bound_to l.other i)) (function_imports (map import_of (drop l.import-index l.imports)))
