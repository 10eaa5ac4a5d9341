use Rattle.std.proofs.Common.{◌≡◌, drop, map}
use Rattle.asm_tree.specs.Views.{global_view, module_view}
use Rattle.asm_lang_valid.specs.Refusal.{any_view, has_heap}
use Rattle.asm_run_state.proofs.first.has_heap.Given as goal

abbrev pub invariant-loop-global : goal.invariant-loop-global
invariant-loop-global l = any_view (module_view l.fn.module) (map global_view (drop l.global-index l.fn.module.globals.items.items)) ≡ has_heap (module_view l.fn.module)
