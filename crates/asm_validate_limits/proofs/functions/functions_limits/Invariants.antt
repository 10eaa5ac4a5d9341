use Rattle.std.proofs.Common.{◌≡◌, ◌+◌, map, drop}
use Rattle.asm_tree.specs.Views.{module_view, function_view}
use Rattle.asm_lang_valid.specs.Rows.{functions_count}
use Rattle.asm_lang_valid.specs.LimitRows.{functions_marks}
use Rattle.asm_validate_limits.specs.Passes.{IsOf}
use Rattle.asm_validate_limits.proofs.Lists.{Completes}
use Rattle.asm_validate_limits.proofs.functions.functions_limits.Given as goal

abbrev pub invariant-loop-before : goal.invariant-loop-before
invariant-loop-before l = record {
  rest : Completes (functions_marks (module_view l.environment.home.now) 0 l.initial.tally.at (map function_view l.functions)) (functions_count (map function_view l.functions)) l.initial.tally (functions_marks (module_view l.environment.home.now) l.before l.tally.at (map function_view (drop l.before l.functions))) (functions_count (map function_view (drop l.before l.functions))) l.tally;
  counted : l.tally.at + functions_count (map function_view (drop l.before l.functions)) ≡ l.initial.tally.at + functions_count (map function_view l.functions);
  of : IsOf (module_view l.environment.home.now) l.tally;
}
