use Rattle.std.proofs.Common.{◌≡◌, ◌≤◌, ℕ, List, length, map, drop}
use Rattle.asm_tree.specs.Views.{local_view}
use Rattle.asm_lang_valid.specs.Scope.{Meaning, among_locals}
use Rattle.asm_names.specs.Scopes.{local_seen}
use Rattle.asm_names.proofs.locals.put_locals.Given as goal

abbrev pub invariant-loop-i : goal.invariant-loop-i
invariant-loop-i l = record {
  within : l.i ≤ length l.locals;
  put : (n : List ℕ) (o : Meaning) → local_seen l.names n o ≡ among_locals (map local_view (drop l.i l.locals)) n (local_seen l.initial.names n o);
}

abbrev pub decreases-loop-i : goal.decreases-loop-i
decreases-loop-i l = l.i
