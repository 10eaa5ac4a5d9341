use Rattle.std.proofs.Common.{◌≡◌, ◌≤◌, ℕ, List, length, map, drop}
use Rattle.asm_tree.specs.Views.{module_view, global_view}
use Rattle.asm_lang_valid.specs.Scope.{among_globals}
use Rattle.asm_names.specs.Members.{EachIsNumbered}
use Rattle.asm_names.specs.Meanings.{seen}
use Rattle.asm_names.proofs.declared.put_globals.Given as goal

abbrev pub invariant-loop-i : goal.invariant-loop-i
invariant-loop-i l = record {
  within : l.i ≤ length l.globals;
  put : (n : List ℕ) → seen l.names n ≡ among_globals (module_view l.home) (map global_view (drop l.i l.globals)) n (seen l.initial.names n);
  numbered : EachIsNumbered (module_view l.home) l.initial.names → EachIsNumbered (module_view l.home) l.names;
}

abbrev pub decreases-loop-i : goal.decreases-loop-i
decreases-loop-i l = l.i
