-- What a call passes, as a list.
use Rattle.std.specs.Prelude.{ℕ, suc, List, [], ◌∷◌, ◌++◌}
use Rattle.wasm_lang.specs.declared.types.ValType.{ValType}
use Rattle.wasm_lang.specs.declared.types.ValType.TheVariants.{I32, I64}
use Rattle.asm_lang.specs.Modules.{Expr}
use Rattle.wasm2js_translation.specs.Words.{int_of}
use Rattle.wasm2js_translation.specs.Pairs.{operand_pair}
use Rattle.wasm2js_translation.specs.Delays.{Delayed, at_hand}

-- the words of the operand of number d, while these wait
abbrev pub given_at : List Delayed → ℕ → ValType → List Expr
given_at ds d I32 = int_of (at_hand ds (operand_pair d).low) ∷ []
given_at ds d I64 = int_of (at_hand ds (operand_pair d).low) ∷ int_of (at_hand ds (operand_pair d).high) ∷ []

-- of operands of these types from number d on
abbrev pub given_from : List Delayed → ℕ → List ValType → List Expr
given_from ds d [] = []
given_from ds d (t ∷ ts) = given_at ds d t ++ given_from ds (suc d) ts
