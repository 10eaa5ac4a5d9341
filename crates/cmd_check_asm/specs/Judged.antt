-- What is answered of a module.
use Rattle.std.specs.Prelude.{◌≡◌, ℕ, List, Some, slice_get, Result, Ok, Err}
use Rattle.asm_lang.specs.Modules.{Module}
use Rattle.asm_tree.specs.declared.tree.Module.{Module as Tree}
use Rattle.asm_tree.specs.Views.{module_view}
use Rattle.asm_lang_valid.specs.declared.rule.Rule.{Rule}
use Rattle.asm_lang_valid.specs.Refusal.{refusal, IsAccepted}
use Rattle.bridge_lang.specs.declared.asm_rows.AsmRow.TheVariants as rows
use Rattle.cmd_check_asm.specs.declared.fault.CheckFault.{CheckFault}
use Rattle.cmd_check_asm.specs.declared.fault.CheckFault.TheVariants.{Refused, Memory}

-- the module's refusal is for this rule, at the node that has this place
pub record Breaks (m : Module) (places : List ℕ) (rule : Rule) (at : ℕ) : Type 0 where
  pub node : ℕ
  pub first : refusal m ≡ Some (record { rule = rule; node = node })
  pub is_there : slice_get places node ≡ Some at

-- the module itself, where it is accepted; its refusal otherwise; or want of memory
abbrev pub IsVerdict : Module → List ℕ → Result Tree CheckFault → Type 0
IsVerdict m places (Ok checked) = (module_view checked ≡ m) × IsAccepted m
IsVerdict m places (Err (Refused (rows.Rule rule) at)) = Breaks m places rule at
IsVerdict m places (Err Memory) = Unit {0}
IsVerdict m places (Err _) = ⊥
