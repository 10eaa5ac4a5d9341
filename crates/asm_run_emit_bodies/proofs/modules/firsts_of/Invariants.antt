use Rattle.std.proofs.Common.{◌≡◌, ◌++◌, map, drop}
use Rattle.asm_tree.specs.Views.{local_view}
use Rattle.asm_run_emit_bodies.specs.Flats.{local_word}
use Rattle.asm_run_emit_bodies.proofs.modules.firsts_of.Given as goal

abbrev pub invariant-loop-local : goal.invariant-loop-local
invariant-loop-local l = l.firsts.items ++ map local_word (map local_view (drop l.local-index l.locals)) ≡ map local_word (map local_view l.locals)
