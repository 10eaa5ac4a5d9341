-- What reading a text answers.
use Rattle.std.specs.Prelude.{◌≡◌, ℕ, ◌≤◌, List, Result, Ok, Err, IfOk, IfErr}
use Rattle.sem_words.specs.Lists.{list_items}
use Rattle.asm_lang.specs.Heights.{module_height, height_limit}
use Rattle.asm_lang.specs.Modules.{Module, module_places}
use Rattle.asm_lang.specs.Texts.{IsTextOf, SaysModule}
use Rattle.asm_tree.specs.declared.tree.Parsed.{Parsed}
use Rattle.asm_tree.specs.Views.{module_view}
use Rattle.asm_text.specs.declared.fault.TextFault.{TextFault}
use Rattle.asm_text.specs.declared.fault.TextFault.TheVariants as faults
use Rattle.asm_text.specs.Faults.{IsFault}

-- it is this module with these places, or memory ran out
abbrev pub IsAnswer : Module → List ℕ → Result Parsed TextFault → Type 0
IsAnswer m places (Ok p) = (module_view p.module ≡ m) × (list_items p.places ≡ places)
IsAnswer m places (Err faults.Memory) = Unit {0}
IsAnswer m places (Err _) = ⊥

-- it is this module, or memory ran out
abbrev pub IsAgain : Module → Result Parsed TextFault → Type 0
IsAgain m (Ok p) = module_view p.module ≡ m
IsAgain m (Err faults.Memory) = Unit {0}
IsAgain m (Err _) = ⊥

-- All that the answer says of the text. Only private contracts name it.
pub record IsAnswered (text : List ℕ) (r : Result Parsed TextFault) : Type 0 where
  pub found : IfOk r (λ p. SaysModule text (module_view p.module) (list_items p.places))
  pub only : (m : Module) (said : IsTextOf text m) → module_height m ≤ height_limit → IsAnswer m (module_places said.tree) r
  pub fault : IfErr r (λ e. IsFault text e)
