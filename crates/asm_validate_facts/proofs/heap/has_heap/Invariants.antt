use Rattle.std.proofs.Common.{◌≡◌, map, drop}
use Rattle.asm_lang.specs.Modules.{Module}
use Rattle.asm_tree.specs.Views.{global_view}
use Rattle.asm_lang_valid.specs.Refusal.{any_view}
use Rattle.asm_validate_facts.proofs.heap.has_heap.Given as goal

abbrev pub invariant-loop-global : goal.invariant-loop-global
invariant-loop-global l = (m : Module) → any_view m (map global_view l.globals) ≡ any_view m (map global_view (drop l.global-index l.globals))
