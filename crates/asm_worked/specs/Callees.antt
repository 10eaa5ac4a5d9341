-- Exports, and calls of them.
use Rattle.std.specs.Prelude.{List, [], ◌∷◌, codes, pos}
use Rattle.session_lang.specs.Script.{CallPlain}
use Rattle.asm_lang_valid.specs.Refusal.{Exported}
use Rattle.asm_worked.specs.Forms.{called}

-- return{a:f,b:g,a:h};
abbrev pub keyed : List Exported
keyed = record { key = codes "a"; function = 0 } ∷ record { key = codes "b"; function = 1 } ∷ record { key = codes "a"; function = 2 } ∷ []

abbrev pub asked : List CallPlain
asked = called (codes "f") [] 1 ∷ called (codes "d") [] 2 ∷ called (codes "f") (pos 1 ∷ []) 3 ∷ []
