-- Instructions, and which lists of them are expressions (sections 2.4 and 5.4).
-- A nested body is written as it is spelled, from left to right: `block`, `loop` and `if_block` open a block, `end_mark` closes
-- it, and `else_mark` stands between the two arms of an if.
use Rattle.std.specs.Prelude.{◌≡◌, ℕ, Bool, true, false, List, [], ◌∷◌, ◌++◌, Option}
use Rattle.sem_words.specs.declared.word.Bin.{Bin}
use Rattle.sem_words.specs.declared.word.Un.{Un}
use Rattle.sem_words.specs.declared.word.Rel.{Rel}
use Rattle.wasm_lang.specs.declared.types.ValType.{ValType}
use Rattle.wasm_lang.specs.declared.types.MemOp.{MemOp}

-- the instructions that don't open, close, leave or call anything: numeric, parametric, variable and memory ones
pub data Plain : Type 0 where
  nop drop_operand select : Plain
  local_get local_set local_tee global_get global_set : (x : ℕ) → Plain
  -- the alignment is the exponent of a power of two
  load store : (op : MemOp) (align offset : ℕ) → Plain
  memory_size memory_copy memory_fill : Plain
  -- a constant is its word
  const32 const64 : (word : ℕ) → Plain
  eqz32 eqz64 : Plain
  rel32 rel64 : (op : Rel) → Plain
  un32 un64 : (op : Un) → Plain
  bin32 bin64 : (op : Bin) → Plain
  wrap extend_s extend_u : Plain
  -- version 2.0: the low bits of an operand, which is wide where it has 64 bits, extended with their sign
  sign_extend : (wide : Bool) (bits : ℕ) → Plain

-- A block has at most one result. A branch names a label, 0 the innermost.
pub data Instruction : Type 0 where
  unreachable : Instruction
  block loop if_block : (result : Option ValType) → Instruction
  else_mark end_mark : Instruction
  br br_if : (label : ℕ) → Instruction
  br_table : (labels : List ℕ) (default : ℕ) → Instruction
  return : Instruction
  call : (function : ℕ) → Instruction
  call_indirect : (type : ℕ) → Instruction
  plain : (p : Plain) → Instruction

-- it opens or closes nothing
abbrev pub is_simple : Instruction → Bool
is_simple (block r) = false
is_simple (loop r) = false
is_simple (if_block r) = false
is_simple else_mark = false
is_simple end_mark = false
is_simple _ = true

-- The list is a sequence of instructions, in which each block is closed.
pub data Nested : List Instruction → Type 0 where
  empty : Nested []
  simple : {i : Instruction} {rest : List Instruction} → is_simple i ≡ true → Nested rest → Nested (i ∷ rest)
  in_block : {r : Option ValType} {body rest : List Instruction} → Nested body → Nested rest → Nested (block r ∷ (body ++ end_mark ∷ rest))
  in_loop : {r : Option ValType} {body rest : List Instruction} → Nested body → Nested rest → Nested (loop r ∷ (body ++ end_mark ∷ rest))
  in_if : {r : Option ValType} {body rest : List Instruction} → Nested body → Nested rest → Nested (if_block r ∷ (body ++ end_mark ∷ rest))
  in_arms : {r : Option ValType} {first second rest : List Instruction} → Nested first → Nested second → Nested rest
      → Nested (if_block r ∷ (first ++ else_mark ∷ (second ++ end_mark ∷ rest)))

-- The list is an expression: a sequence of instructions, and the end that closes it.
abbrev pub IsExpression : List Instruction → Type 0
IsExpression code = (inner : List Instruction) × (code ≡ inner ++ end_mark ∷ []) × Nested inner
