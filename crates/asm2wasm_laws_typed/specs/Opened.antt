-- Which labels stand open round the code of a statement.
use Rattle.std.specs.Prelude.{◌≡◌, ◌⊎◌, ℕ, ◌<◌, true, List, [], ◌∷◌, length, Option, Some, None, if◌then◌else◌}
use Rattle.wasm_lang.specs.declared.types.ValType.{ValType}
use Rattle.wasm_lang.specs.declared.types.ValType.TheVariants.{I32}
use Rattle.wasm_lang_valid.specs.Typing.{Context}
use Rattle.asm_lang_valid.specs.Scope.{is_in}
use Rattle.asm_lang_valid.specs.Typing.{Scope, Around, has_label, has_loop, result_of}
use Rattle.asm2wasm_translation.specs.Bodies.{Label, break_label, continue_label}
use Rattle.asm2wasm_laws_typed.specs.Contexts.{IsContextOf}

-- the result of a function is an int, if there is one
abbrev pub returned : Scope → Option ValType
returned c = if result_of c then Some I32 else None

-- a branch to an open label carries nothing, and one to the outermost block the function's result
abbrev pub open_labels : List Label → Option ValType → List (Option ValType)
open_labels [] r = r ∷ []
open_labels (l ∷ ls) r = None ∷ open_labels ls r

-- the context of code under these labels in a function's body
pub record IsPlaced (c : Scope) (room : ℕ) (ls : List Label) (w : Context) : Type 0 where
  pub is_context : IsContextOf c room w
  pub labels : w.labels ≡ open_labels ls w.returns
  pub returns : w.returns ≡ returned c

-- What stands round a statement is open, so that each branch of it finds its label. A loop opens its own labels itself.
pub record Covers (a : Around) (ls : List Label) (own : List (List ℕ)) : Type 0 where
  pub breakables : a.in_breakable ≡ true → break_label ls None < length ls
  pub loops : a.in_loop ≡ true → continue_label ls None < length ls
  pub ends : (n : List ℕ) → has_label a.labels n ≡ true → break_label ls (Some n) < length ls
  pub turns : (n : List ℕ) → has_loop a.labels n ≡ true → (is_in n own ≡ true) ⊎ (continue_label ls (Some n) < length ls)
