use Rattle.std.proofs.Common.{◌≡◌, ◌++◌, drop}
use Rattle.wasm_tree.specs.Views.{import_of}
use Rattle.wasm_binary_write.specs.Spelling.{imported, items, vector}
use Rattle.wasm_binary_write.proofs.imports.push_imports.Given as goal

abbrev pub invariant-loop-import : goal.invariant-loop-import
invariant-loop-import l = (l.shared ++ l.pending.items) ++ items (λ x. imported (import_of x)) (drop l.import-index l.imports) ≡ l.initial.shared ++ vector (λ x. imported (import_of x)) l.imports
