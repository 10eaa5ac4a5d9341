use Rattle.std.proofs.Common.{◌≡◌, ◌+◌, ◌<◌, ◌^◌, drop, map}
use Rattle.asm_tree.specs.Views.{function_view}
use Rattle.asm_lang_valid.specs.Rows.{functions_count}
use Rattle.asm_validate_nodes.proofs.counting.count_functions.Given as goal

abbrev pub invariant-loop-function : goal.invariant-loop-function
invariant-loop-function l = record {
  counted : l.at + functions_count (map function_view (drop l.function-index l.functions)) ≡ l.before + functions_count (map function_view l.functions);
  held : l.at < 2 ^ 64;
}
