-- What a call passes.
use Rattle.std.proofs.Common.{◌≡◌, ℕ, suc, List, [], ◌∷◌, refl, ap}
use Rattle.wasm_lang.specs.declared.types.ValType.{ValType}
use Rattle.wasm_lang.specs.declared.types.ValType.TheVariants.{I32, I64}
use Rattle.asm_lang.specs.Modules.{exprs}
use Rattle.asm_tree.specs.Views.{exprs_in}
use Rattle.wasm2js_translation.specs.Words.{int_of}
use Rattle.wasm2js_translation.specs.Pairs.{operand_pair}
use Rattle.wasm2js_translation.specs.Delays.{Delayed, at_hand}
use Rattle.wasm2js_translation.specs.Bodies.{arguments_from}
use Rattle.wasm2js_jumps.specs.Arguments.{given_from}

pub words_are : (ds : List Delayed) (d : ℕ) (ts : List ValType) → exprs_in (given_from ds d ts) ≡ arguments_from ds d ts
words_are ds d [] = refl
words_are ds d (I32 ∷ ts) = ap (exprs (int_of (at_hand ds (operand_pair d).low))) (words_are ds (suc d) ts)
words_are ds d (I64 ∷ ts) = ap (λ es. exprs (int_of (at_hand ds (operand_pair d).low)) (exprs (int_of (at_hand ds (operand_pair d).high)) es)) (words_are ds (suc d) ts)
