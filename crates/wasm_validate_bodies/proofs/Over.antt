-- The operands above a height.
use Rattle.std.proofs.Common.{◌≡◌, ◌<◌, List, [], ◌∷◌, length, refl, arith}
use Rattle.std.specs.Prelude.{Err}
use Rattle.wasm_lang_valid.specs.declared.rule.Rule.TheVariants.{OperandsLeft}
use Rattle.wasm_lang_valid.specs.State.{Operand, nothing_left}

pub left_err : (s : List Operand) → 0 < length s → nothing_left s ≡ Err OperandsLeft
left_err [] h = absurd (omega arith)
left_err (k ∷ s) h = refl
