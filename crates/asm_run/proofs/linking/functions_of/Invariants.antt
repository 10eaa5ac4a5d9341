use Rattle.std.proofs.Common.{◌≡◌, ◌++◌, drop, map}
use Rattle.asm_run_emit_bodies.specs.Flats.{flat_view}
use Rattle.asm_run_steps.specs.Linked.{flat_of}
use Rattle.asm_run.proofs.linking.functions_of.Given as goal

abbrev pub invariant-loop-flat : goal.invariant-loop-flat
invariant-loop-flat l = map flat_of l.functions.items ++ map flat_view (drop l.flat-index l.flats) ≡ map flat_view l.flats
