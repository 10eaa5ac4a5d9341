-- How the arms of an if end.
use Rattle.std.specs.Prelude.{Bool, true, false, List, [], ◌∷◌, if◌then◌else◌}
use Rattle.wasm_lang.specs.Instructions.{Instruction, else_mark}

abbrev pub is_else : Instruction → Bool
is_else else_mark = true
is_else _ = false

-- the instructions without the mark of an else that they end with
abbrev pub without_else : List Instruction → List Instruction
without_else [] = []
without_else (i ∷ []) = if is_else i then [] else i ∷ []
without_else (i ∷ j ∷ is) = i ∷ without_else (j ∷ is)
