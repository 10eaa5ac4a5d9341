-- Operands that a branch, a return or an end takes out of a block.
use Rattle.std.specs.Prelude.{◌≡◌, ℕ, List, ◌++◌, Some}
use Rattle.sem_words.specs.declared.word.Word.{Word}
use Rattle.wasm_lang_exec.specs.Reductions.{top_of}
use Rattle.wasm_laws_machine.specs.Meaning.{IsBelow}

-- the topmost operands stand on those of the block outside
pub record IsCarried (arity : ℕ) (old outside last new below : List Word) : Type 0 where
  pub top : List Word
  pub is_top : top_of arity old ≡ Some top
  pub values : new ≡ top ++ outside
  pub others : below ≡ last

-- .. out of all blocks above `floor` operands, to a block above `outer` operands
abbrev pub Carries : ℕ → ℕ → ℕ → (old old_below new new_below : List Word) → Type 0
Carries arity floor outer old old_below new new_below =
    (over rest outside last : List Word) → IsBelow floor old_below over rest → IsBelow outer rest outside last → IsCarried arity old outside last new new_below

-- all operands come to those of the block outside, above `floor` operands
abbrev pub ComesDown : ℕ → (old old_below new new_below : List Word) → Type 0
ComesDown floor old old_below new new_below =
    (outside rest : List Word) → IsBelow floor old_below outside rest → (new ≡ old ++ outside) × (new_below ≡ rest)
