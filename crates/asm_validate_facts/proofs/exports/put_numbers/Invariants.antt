use Rattle.std.proofs.Common.{◌≡◌, ◌+◌, ◌≤◌, ℕ, List, length, map, drop}
use Rattle.asm_tree.specs.Views.{function_view}
use Rattle.asm_lang_valid.specs.Refusal.{function_number}
use Rattle.asm_validate_facts.specs.Numbers.{number_seen}
use Rattle.asm_validate_facts.proofs.exports.put_numbers.Given as goal

abbrev pub invariant-loop-i : goal.invariant-loop-i
invariant-loop-i l = record {
  within : l.i ≤ length l.functions;
  put : (n : List ℕ) → number_seen l.initial.names n (length l.functions) ≡ length l.functions → number_seen l.names n (length l.functions) ≡ l.i + function_number (map function_view (drop l.i l.functions)) n;
}

abbrev pub decreases-loop-i : goal.decreases-loop-i
decreases-loop-i l = l.i
