-- How the code counts heights.
use Rattle.std.specs.Prelude.{ℕ, Bool, true, false, min}
use Rattle.asm_lang.specs.Modules.{Expr, chain}

-- a height above the limit counts as one more than the limit
abbrev pub counted : ℕ → ℕ
counted h = min h 1001

-- whether a further `+` or `-` goes on with the expression
abbrev pub is_chain : Expr → Bool
is_chain (chain e ls) = true
is_chain _ = false
