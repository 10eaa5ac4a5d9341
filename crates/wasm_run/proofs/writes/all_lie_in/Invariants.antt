use Rattle.std.proofs.Common.{◌≡◌, drop, map}
use Rattle.std.specs.List.{list_all}
use Rattle.session_lang.specs.Views.{write_of}
use Rattle.wasm_lang_exec.specs.Fits.{lies_in}
use Rattle.wasm_run.proofs.writes.all_lie_in.Given as goal

abbrev pub invariant-loop-write : goal.invariant-loop-write
invariant-loop-write l = list_all (lies_in l.pages) (map write_of l.writes) ≡ list_all (lies_in l.pages) (map write_of (drop l.write-index l.writes))
