-- Marks that say what a field puts into spaces and the head of a function, and those of its code.
use Rattle.std.specs.Prelude.{Bool, true, false, ◌&&◌, not, List, [], ◌∷◌}
use Rattle.wat_lang.specs.declared.parts.Space.TheVariants as spaces
use Rattle.wat_lang.specs.Grammar.{Mark, a_field, a_described, binds, a_type_use, a_type, an_instruction, Marked}
use Rattle.wat_lang.specs.Names.{all_with, Field}

-- it binds an id, but for a label's, or is a type of the head of a function
abbrev pub is_head : Mark → Bool
is_head (a_described s) = true
is_head (binds spaces.Label) = false
is_head (binds s) = true
is_head a_type_use = true
is_head (a_type p) = true
is_head _ = false

abbrev pub heads : List Marked → List Marked
heads ms = all_with is_head ms

-- a field of whose parts the heads alone are there
abbrev pub headed : Field → Field
headed f = record { kind = f.kind; at = f.at; parts = heads f.parts }

-- whether code has begun behind a token, where it had or hadn't before it
abbrev pub code_after : Bool → Mark → Bool
code_after b (a_field k) = false
code_after b (an_instruction i) = true
code_after b _ = b

-- whether code has begun in the last field
abbrev pub in_code : Bool → List Marked → Bool
in_code b [] = b
in_code b (m ∷ ms) = in_code (code_after b m.mark) ms

-- In each field no head stands behind an instruction.
abbrev pub heads_lead : Bool → List Marked → Bool
heads_lead b [] = true
heads_lead b (m ∷ ms) = not (b && is_head m.mark) && heads_lead (code_after b m.mark) ms
