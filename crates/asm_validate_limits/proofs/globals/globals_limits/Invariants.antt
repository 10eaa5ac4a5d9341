use Rattle.std.proofs.Common.{◌≡◌, ◌+◌, length, map, drop}
use Rattle.asm_tree.specs.Views.{module_view, global_view}
use Rattle.asm_lang_valid.specs.LimitRows.{globals_marks}
use Rattle.asm_validate_limits.proofs.Lists.{Completes}
use Rattle.asm_validate_limits.proofs.globals.globals_limits.Given as goal

abbrev pub invariant-loop-before : goal.invariant-loop-before
invariant-loop-before l = record {
  rest : Completes (globals_marks (module_view l.home) 0 l.initial.tally.at (map global_view l.globals)) (length l.globals) l.initial.tally (globals_marks (module_view l.home) l.before l.tally.at (map global_view (drop l.before l.globals))) (length (drop l.before l.globals)) l.tally;
  counted : l.tally.at ≡ l.initial.tally.at + l.before;
}
