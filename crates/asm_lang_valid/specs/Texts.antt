-- Which texts are accepted, and which are refused for a rule that their module breaks.
use Rattle.std.specs.Prelude.{◌≡◌, ℕ, List, Some, slice_get}
use Rattle.asm_lang.specs.Modules.{Module}
use Rattle.asm_lang.specs.Texts.{SaysModule}
use Rattle.asm_lang_valid.specs.declared.rule.Rule.{Rule}
use Rattle.asm_lang_valid.specs.Refusal.{refusal, IsAccepted}

-- the text says this module, which is accepted
pub record IsAcceptedText (text : List ℕ) (m : Module) : Type 0 where
  pub places : List ℕ
  pub says : SaysModule text m places
  pub accepted : IsAccepted m

-- the text says a module that is refused for this rule, at the place of the node that breaks it
pub record IsRefusedModule (text : List ℕ) (rule : Rule) (at : ℕ) : Type 0 where
  pub «module» : Module
  pub places : List ℕ
  pub says : SaysModule text «module» places
  pub node : ℕ
  pub first : refusal «module» ≡ Some (record { rule = rule; node = node })
  pub is_there : slice_get places node ≡ Some at
