use Rattle.std.proofs.Common.{◌≡◌, [], map, drop}
use Rattle.asm_tree.specs.Views.{global_view}
use Rattle.asm_lang_valid.specs.Refusal.{global_imports}
use Rattle.asm_validate_facts.specs.Names.{held}
use Rattle.asm_validate_facts.proofs.globals.foreign_globals.Given as goal

abbrev pub invariant-loop-global : goal.invariant-loop-global
invariant-loop-global l = global_imports (held l.names) (map global_view (drop l.global-index l.globals)) ≡ global_imports [] (map global_view l.globals)
