use Rattle.std.proofs.Common.{◌≡◌, drop, map}
use Rattle.std.specs.List.{list_all}
use Rattle.session_lang.specs.Views.{write_of}
use Rattle.asm_tree.specs.Views.{module_view}
use Rattle.asm_lang_exec.specs.Fits.{fits_write}
use Rattle.asm_run.proofs.writes.fit_writes.Given as goal

abbrev pub invariant-loop-write : goal.invariant-loop-write
invariant-loop-write l = list_all (fits_write (module_view l.checked) l.heap_len) (map write_of l.writes) ≡ list_all (fits_write (module_view l.checked) l.heap_len) (map write_of (drop l.write-index l.writes))
