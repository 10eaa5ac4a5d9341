use Rattle.std.proofs.Common.{◌≡◌, ◌++◌, map, drop}
use Rattle.asm_tree.specs.Views.{module_view, function_view}
use Rattle.asm_run_code.specs.Modules.{flat}
use Rattle.asm_run_emit_bodies.specs.Flats.{flat_view}
use Rattle.asm_run_emit_bodies.proofs.modules.flats_of.Given as goal

abbrev pub invariant-loop-function : goal.invariant-loop-function
invariant-loop-function l = map flat_view l.flats.items ++ map (flat (module_view l.«module»)) (map function_view (drop l.function-index l.functions)) ≡ map (flat (module_view l.«module»)) (map function_view l.functions)
