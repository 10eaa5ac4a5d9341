-- Where tokens that are no module break the grammar. A fault's place is a number of tokens before it.
use Rattle.std.specs.Prelude.{◌≡◌, ℕ, ◌+◌, ◌<◌, ◌≤◌, List, ◌∷◌, ◌++◌, length, take, drop}
use Rattle.sem_words.specs.declared.js_value.JsOp.TheVariants.{Sub}
use Rattle.asm_lang.specs.Lexemes.{Lexeme, operator, directive, a_zero, Meets}
use Rattle.asm_lang.specs.Trees.{Heading, ModuleTree}
use Rattle.asm_lang.specs.Grammar.{IsHeading, IsModule}

-- some module begins with the tokens
abbrev pub IsViable : List Lexeme → Type 0
IsViable xs = (m : ModuleTree) × (ys : List Lexeme) × IsModule m (xs ++ ys)

-- At k stands a `-`, and directly after it a number of value 0.
pub record IsPair (xs : List Lexeme) (k : ℕ) : Type 0 where
  pub minus : Lexeme
  pub zero : Lexeme
  pub rest : List Lexeme
  pub there : drop k xs ≡ minus ∷ zero ∷ rest
  pub is_minus : minus.class ≡ operator Sub
  pub is_zero : Meets a_zero zero

-- At k stands a `-` that may stand there, and directly after it a number of value 0 that may not: the `-` is a prefix.
pub record IsNegativeZero (xs : List Lexeme) (k : ℕ) : Type 0 where
  pub pair : IsPair xs k
  pub before : IsViable (take (k + 1) xs)
  pub here : ¬ IsViable (take (k + 2) xs)

-- The heading stands before k, and at k a token that isn't the directive.
pub record IsMissingUse (xs : List Lexeme) (k : ℕ) : Type 0 where
  pub heading : Heading
  pub token : Lexeme
  pub rest : List Lexeme
  pub there : drop k xs ≡ token ∷ rest
  pub stands : IsHeading heading xs (token ∷ rest)
  pub is_other : ¬ (token.class ≡ directive)
  pub before : IsViable (take k xs)
  pub here : ¬ IsViable (take (k + 1) xs)

-- Some module begins with the tokens before place k, and none with those up to it. At the end of input the tokens are no
-- module. Neither of the faults above stands there.
pub record IsFirstFault (xs : List Lexeme) (k : ℕ) : Type 0 where
  pub within : k ≤ length xs
  pub before : IsViable (take k xs)
  pub here : k < length xs → ¬ IsViable (take (k + 1) xs)
  pub whole : (m : ModuleTree) → ¬ IsModule m xs
  pub no_zero : (j : ℕ) → j + 1 ≡ k → ¬ IsNegativeZero xs j
  pub has_use : ¬ IsMissingUse xs k

-- Tokens are a module, or break the grammar at a place.
pub data Verdict (xs : List Lexeme) : Type 0 where
  a_module : (m : ModuleTree) → IsModule m xs → Verdict xs
  a_negative_zero : (k : ℕ) → IsNegativeZero xs k → Verdict xs
  a_missing_use : (k : ℕ) → IsMissingUse xs k → Verdict xs
  a_first_fault : (k : ℕ) → IsFirstFault xs k → Verdict xs
