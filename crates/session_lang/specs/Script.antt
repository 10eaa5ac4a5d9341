-- A script: what the host gives to a session. Each part has the number of its line.
use Rattle.std.specs.Prelude.{ℕ, ℤ, List}

-- the value of an imported global
pub record GlobalPlain : Type 0 where
  pub name : List ℕ
  pub value : ℤ
  pub line : ℕ

-- bytes that are put into the heap from a place on
pub record WritePlain : Type 0 where
  pub at : ℕ
  pub bytes : List ℕ
  pub line : ℕ

-- a call of an export
pub record CallPlain : Type 0 where
  pub name : List ℕ
  pub args : List ℤ
  pub line : ℕ

-- what an import does when it is called: it makes byte writes, in order, and gives a 64-bit word; or it throws
pub data ReplyPlain : Type 0 where
  give : (word : ℕ) → (writes : List WritePlain) → ReplyPlain
  throw : ReplyPlain

pub record ReplyLinePlain : Type 0 where
  pub reply : ReplyPlain
  pub line : ℕ

pub record ScriptPlain : Type 0 where
  pub globals : List GlobalPlain
  pub writes : List WritePlain
  pub calls : List CallPlain
  pub replies : List ReplyLinePlain
