-- How code ends, and what stands before a word that is read.
use Rattle.std.proofs.Common.{◌≡◌, ℕ, true, false, List, [], ◌∷◌, Some, None, refl}
use Rattle.wasm_lang.specs.declared.types.ValType.{ValType}
use Rattle.wasm_lang.specs.declared.types.ValType.TheVariants.{I32, I64}
use Rattle.wasm2js_translation.specs.Words.{simple_statements}
use Rattle.wasm2js_translation.specs.Delays.{Delayed, written}
use Rattle.wasm2js_translation.specs.Actions.{under}
use Rattle.wasm2js_translation.specs.Bodies.{Aim, past, again, out, leave_late, ended}
use Rattle.wasm2js_jumps.specs.Aims.{gives_a_word}

-- the function's own code, which gives a word of 32 bits
pub own_end : (ls : List Aim) (b : ℕ) (ts : List ValType) (ds : List Delayed) → gives_a_word ls ≡ true → leave_late (Some I32) (under 1 b ts) ds ≡ ended ls b ts ds
own_end [] b ts ds e = absurd (cc e)
own_end (past n r ∷ ls) b ts ds e = absurd (cc e)
own_end (again n ∷ ls) b ts ds e = absurd (cc e)
own_end (out None ∷ ls) b ts ds e = absurd (cc e)
own_end (out (Some I64) ∷ ls) b ts ds e = absurd (cc e)
own_end (out (Some I32) ∷ []) b ts ds e = refl
own_end (out (Some I32) ∷ l ∷ ls) b ts ds e = absurd (cc e)

-- other code
pub other_end : (ls : List Aim) (b : ℕ) (ts : List ValType) (ds : List Delayed) → gives_a_word ls ≡ false → simple_statements (written ds) ≡ ended ls b ts ds
other_end [] b ts ds e = refl
other_end (past n r ∷ ls) b ts ds e = refl
other_end (again n ∷ ls) b ts ds e = refl
other_end (out None ∷ ls) b ts ds e = refl
other_end (out (Some I64) ∷ ls) b ts ds e = refl
other_end (out (Some I32) ∷ []) b ts ds e = absurd (cc e)
other_end (out (Some I32) ∷ l ∷ ls) b ts ds e = refl
