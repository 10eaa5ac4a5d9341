use Rattle.std.proofs.Common.{◌≡◌, ◌++◌, map, drop}
use Rattle.asm_tree.specs.Views.{module_view, texts_view}
use Rattle.asm_lang_valid.specs.Refusal.{function_number}
use Rattle.asm_run_emit_bodies.proofs.modules.members_of.Given as goal

abbrev pub invariant-loop-member : goal.invariant-loop-member
invariant-loop-member l = l.numbers.items ++ map (function_number (module_view l.names).functions) (texts_view (drop l.member-index l.members)) ≡ map (function_number (module_view l.names).functions) (texts_view l.members)
