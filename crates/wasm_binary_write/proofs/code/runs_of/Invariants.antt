use Rattle.std.proofs.Common.{◌≡◌, ◌*◌, ◌^◌, ◌++◌, map, drop}
use Rattle.wasm_tree.specs.Views.{locals_in}
use Rattle.wasm_binary_write.specs.Runs.{runs_after, IsBelow}
use Rattle.wasm_binary_write.specs.Spelling.{runs}
use Rattle.wasm_binary_write.specs.Views.{joined_of}
use Rattle.wasm_binary_write.proofs.code.runs_of.Given as goal

abbrev pub invariant-loop-run : goal.invariant-loop-run
invariant-loop-run l = record {
  counted : IsBelow (l.run-index * 2 ^ 32) l.last;
  so_far : map joined_of l.done.items ++ runs_after l.last (locals_in (drop l.run-index l.locals)) ≡ runs (locals_in l.locals);
}
