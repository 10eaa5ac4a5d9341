-- Tokens are a module, or have a fault.
use Rattle.std.specs.Prelude.{ℕ, ◌≤◌, List}
use Rattle.asm_lang.specs.Lexemes.{Lexeme}
use Rattle.asm_lang.specs.Trees.{ModuleTree}
use Rattle.asm_lang.specs.Grammar.{IsModule}
use Rattle.asm_lang.specs.TreeHeights.{whole_height}
use Rattle.asm_lang.specs.Kinds.{Kind, IsFault}

-- Tokens are a module within the limit, or have a fault.
pub data Outcome (limit : ℕ) (xs : List Lexeme) : Type 0 where
  a_module : (m : ModuleTree) → IsModule m xs → whole_height m ≤ limit → Outcome limit xs
  a_fault : (a : Kind) (k : ℕ) → IsFault limit xs a k → Outcome limit xs
