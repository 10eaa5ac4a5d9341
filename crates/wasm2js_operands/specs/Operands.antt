-- The operands of all open blocks, as one list whose last one is the top.
use Rattle.std.specs.Prelude.{◌≡◌, ◌≤◌, ℕ, List, drop, take, reverse, length}
use Rattle.wasm_lang.specs.declared.types.ValType.{ValType}

-- those of the innermost block, the top first; so many lie below them
abbrev pub over : ℕ → List ValType → List ValType
over base types = reverse (drop base types)

-- those below are the same, and are still there
pub record IsKept (base : ℕ) (before after : List ValType) : Type 0 where
  pub below : take base after ≡ take base before
  pub there : base ≤ length after
