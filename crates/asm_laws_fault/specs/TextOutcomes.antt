-- A text says a module within the limit on the height, or has a fault.
use Rattle.std.specs.Prelude.{ℕ, List}
use Rattle.asm_lang.specs.Modules.{Module}
use Rattle.asm_lang.specs.Texts.{SaysModule, Fault, IsFault}

pub data TextOutcome (text : List ℕ) : Type 0 where
  says : (m : Module) (places : List ℕ) → SaysModule text m places → TextOutcome text
  a_fault : (f : Fault) (at : ℕ) → IsFault text f at → TextOutcome text
