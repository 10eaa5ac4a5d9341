-- The place of a refusal of a body.
use Rattle.std.specs.Prelude.{◌≡◌, ℕ, ◌+◌, List, ◌++◌, take, Some, slice_get}
use Rattle.wasm_lang.specs.Instructions.{Instruction}
use Rattle.wasm_lang_valid.specs.declared.rule.Rule.{Rule}
use Rattle.wasm_lang_valid.specs.Typing.{Context, IsValid}
use Rattle.wasm_lang_valid.specs.Rules.{IsRule}

-- a valid body begins with these instructions
abbrev pub BeginsValid : Context → List Instruction → Type 0
BeginsValid base start = (more : List Instruction) × IsValid base (start ++ more)

-- no valid body begins with the instructions up to this one, one begins with those before it, and of the rules that
-- this one breaks whatever is guessed, this is the one of the least number
pub record Refuses (base : Context) (code : List Instruction) (place : ℕ) (rule : Rule) : Type 0 where
  pub instr : Instruction
  pub stands : slice_get code place ≡ Some instr
  pub before : BeginsValid base (take place code)
  pub here : BeginsValid base (take (place + 1) code) → ⊥
  pub broken : IsRule base (take place code) instr rule
