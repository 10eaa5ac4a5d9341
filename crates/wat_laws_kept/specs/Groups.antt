-- Code that is looked at one instruction at a time, each with the tokens behind it.
use Rattle.std.specs.Prelude.{Bool, true, false, List, [], ◌∷◌}
use Rattle.wat_lang.specs.Grammar.{Marked}
use Rattle.wat_lang.specs.Names.{Names, labels_after}
use Rattle.wat_lang.specs.Modules.{is_instruction}

-- the labels that are open behind the tokens
abbrev pub labels_behind : Names → List Marked → Names
labels_behind labels [] = labels
labels_behind labels (m ∷ ms) = labels_behind (labels_after labels m) ms

-- nothing, or an instruction and what stands behind it
abbrev pub begins_instruction : List Marked → Bool
begins_instruction [] = true
begins_instruction (m ∷ ms) = is_instruction m.mark

abbrev pub no_instruction : List Marked → Bool
no_instruction [] = true
no_instruction (m ∷ ms) = elim (is_instruction m.mark) [ true ↦ false | false ↦ no_instruction ms ]
