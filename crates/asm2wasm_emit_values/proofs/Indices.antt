-- An index that is a shift.
use Rattle.std.proofs.Common.{◌≡◌, ℕ, suc, ◌≤◌, true, List, ap, arith}
use Rattle.sem_words.specs.declared.js_value.JsOp.TheVariants.{Sar}
use Rattle.wasm_lang_exec.specs.Code.{◌⊕◌}
use Rattle.asm_lang.specs.Modules.{Expr, binary}
use Rattle.asm_lang_valid.specs.Rows.{expr_count}
use Rattle.asm_lang_valid.specs.Typing.{Scope, named}
use Rattle.asm2wasm_translation.specs.Values.{plains, exponent_in, aligned, expr_code}
use Rattle.asm2wasm_emit_values.specs.Indices.{index_code}

module _ (i left right : Expr) (is : i ≡ binary Sar left right) where
  pub shifted_code : (size : ℕ) (c : Scope) (d : ℕ) (n : List ℕ) → index_code size c d n i ≡ expr_code size c true d left ⊕ plains (aligned (exponent_in (named c n)))
  shifted_code size c d n = ap (index_code size c d n) is

  -- the operand that is shifted is a part
  pub shifted_part : suc (expr_count left) ≤ expr_count i
  shifted_part = let whole = ap expr_count is in omega (arith, whole)
