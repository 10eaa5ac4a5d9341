use Rattle.std.proofs.Common.{◌≡◌, ◌≤◌, ℕ, List, length, drop}
use Rattle.std.specs.Prelude.{if◌then◌else◌}
use Rattle.asm_tree.specs.Views.{texts_view}
use Rattle.asm_lang_valid.specs.Scope.{is_in, a_parameter}
use Rattle.asm_lang.specs.Modules.{Module}
use Rattle.asm_names.specs.Members.{EachIsNumbered}
use Rattle.asm_names.specs.Meanings.{seen}
use Rattle.asm_names.proofs.declared.put_params.Given as goal

abbrev pub invariant-loop-i : goal.invariant-loop-i
invariant-loop-i l = record {
  within : l.i ≤ length l.params;
  put : (n : List ℕ) → seen l.names n ≡ (if is_in n (texts_view (drop l.i l.params)) then a_parameter else seen l.initial.names n);
  numbered : (m : Module) → EachIsNumbered m l.initial.names → EachIsNumbered m l.names;
}

abbrev pub decreases-loop-i : goal.decreases-loop-i
decreases-loop-i l = l.i
