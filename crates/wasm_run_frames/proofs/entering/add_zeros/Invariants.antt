use Rattle.std.proofs.Common.{◌≡◌, ◌++◌, take}
use Rattle.wasm_tree.specs.Views.{locals_in}
use Rattle.wasm_lang_exec.specs.Store.{zeros_of}
use Rattle.wasm_run_frames.proofs.entering.add_zeros.Given as goal

abbrev pub invariant-loop-run : goal.invariant-loop-run
invariant-loop-run l = l.locals.items ≡ l.fn.locals.items ++ zeros_of (locals_in (take l.run-index l.more))
