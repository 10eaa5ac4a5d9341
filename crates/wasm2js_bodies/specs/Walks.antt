-- What one step of a walk over a flat body does.
use Rattle.std.specs.Prelude.{◌≡◌, ◌<◌, ◌+◌, ◌++◌, ℕ, suc, Bool, false, List}
use Rattle.wasm_lang.specs.declared.types.ValType.{ValType}
use Rattle.wasm_lang.specs.Instructions.{Instruction}
use Rattle.wasm_lang_valid.specs.Measures.{has_mul_div}
use Rattle.wasm_lang_valid.specs.Typing.{Context}
use Rattle.wasm_lang_exec.specs.Code.{Trees, ε, ◌▹◌, block, loop, if_block}
use Rattle.wasm_run_flat.specs.Places.{code_at, Stands}
use Rattle.wasm_run_flat.specs.declared.target.Target.{Target}
use Rattle.asm_lang.specs.Modules.{Stmt}
use Rattle.wasm2js_translation.specs.Bodies.{Aim, stmts_of, comes_to_end}
use Rattle.wasm2js_build.specs.Growing.{Held}

-- code stands there, whatever blocks it stands in, in a body whose instructions are translated
pub record IsInside (body : List Instruction) (at : ℕ) : Type 0 where
  pub targets : List Target
  pub stands : Stands body at targets
  pub translated : has_mul_div body ≡ false

-- how many instructions
abbrev pub size : Trees → ℕ
size ε = 0
size (block r body ▹ is) = suc (size body + size is)
size (loop r body ▹ is) = suc (size body + size is)
size (if_block r first second ▹ is) = suc (size first + size second + size is)
size (x ▹ is) = suc (size is)

-- the statements of code before which so much waits and is known
abbrev pub stmts_after : (bytes cells : ℕ) (c : Context) → Trees → List Aim → (b : ℕ) → List ValType → Held → List Stmt
stmts_after bytes cells c is ls b ts h = stmts_of bytes cells c is ls b ts h.waits h.known

-- to another place of the same block, where there is less to do: the operands there have the types us, and es is held there in place of ds
pub record GoesOn (bytes cells : ℕ) (c : Context) (body : List Instruction) (at place : ℕ) (ls : List Aim) (b : ℕ) (ts us : List ValType) (ds es : Held) (before after : List Stmt) : Type 0 where
  pub statements : after ++ stmts_after bytes cells c (code_at body place) ls b us es ≡ before ++ stmts_after bytes cells c (code_at body at) ls b ts ds
  pub ending : comes_to_end (code_at body place) ≡ comes_to_end (code_at body at)
  pub inside : IsInside body place
  pub smaller : size (code_at body place) < size (code_at body at)

-- the block is over, and its end was reached or not
pub record IsOver (bytes cells : ℕ) (c : Context) (body : List Instruction) (at : ℕ) (reached : Bool) (ls : List Aim) (b : ℕ) (ts : List ValType) (ds : Held) (before after : List Stmt) : Type 0 where
  pub statements : after ≡ before ++ stmts_after bytes cells c (code_at body at) ls b ts ds
  pub ending : reached ≡ comes_to_end (code_at body at)
