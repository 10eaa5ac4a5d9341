use Rattle.std.proofs.Common.{◌≡◌, ◌≤◌, ℕ, List, length, map, drop}
use Rattle.asm_tree.specs.Views.{table_view}
use Rattle.asm_lang.specs.Modules.{Module}
use Rattle.asm_names.specs.Members.{EachIsNumbered}
use Rattle.asm_names.specs.Meanings.{seen, tables_over}
use Rattle.asm_names.proofs.declared.put_tables.Given as goal

abbrev pub invariant-loop-i : goal.invariant-loop-i
invariant-loop-i l = record {
  within : l.i ≤ length l.tables;
  put : (n : List ℕ) → seen l.names n ≡ tables_over (map table_view (drop l.i l.tables)) n (seen l.initial.names n);
  numbered : (m : Module) → EachIsNumbered m l.initial.names → EachIsNumbered m l.names;
}

abbrev pub decreases-loop-i : goal.decreases-loop-i
decreases-loop-i l = l.i
