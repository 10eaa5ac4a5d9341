-- The operand stack of a run as its innermost block sees it (section 4.2.9).
use Rattle.std.specs.Prelude.{List}
use Rattle.sem_words.specs.declared.word.Word.{Word}

-- the operands of the innermost block, and those that stand below it; the topmost is the first of each
pub record Stack : Type 0 where
  pub values : List Word
  pub below : List Word
