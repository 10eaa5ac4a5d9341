use Rattle.std.proofs.Common.{◌≡◌, ◌≤◌, ℕ, List, length, map, drop}
use Rattle.asm_tree.specs.Views.{function_view}
use Rattle.asm_lang_valid.specs.Scope.{among_functions}
use Rattle.asm_lang.specs.Modules.{Module}
use Rattle.asm_names.specs.Members.{EachIsNumbered}
use Rattle.asm_names.specs.Meanings.{seen}
use Rattle.asm_names.proofs.declared.put_functions.Given as goal

abbrev pub invariant-loop-i : goal.invariant-loop-i
invariant-loop-i l = record {
  within : l.i ≤ length l.functions;
  put : (n : List ℕ) → seen l.names n ≡ among_functions (map function_view (drop l.i l.functions)) n (seen l.initial.names n);
  numbered : (m : Module) → EachIsNumbered m l.initial.names → EachIsNumbered m l.names;
}

abbrev pub decreases-loop-i : goal.decreases-loop-i
decreases-loop-i l = l.i
