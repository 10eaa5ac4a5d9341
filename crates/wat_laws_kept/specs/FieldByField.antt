-- Marks that are looked at one by one, from the first on: the fields that are whole, and the one that stands open.
use Rattle.std.specs.Prelude.{◌≡◌, Bool, true, false, ◌&&◌, ◌||◌, not, List, [], ◌∷◌, ◌++◌, fold}
use Rattle.wat_lang.specs.declared.parts.FieldKind.{FieldKind}
use Rattle.wat_lang.specs.Grammar.{Mark, a_field, Marked}
use Rattle.wat_lang.specs.Names.{Field, fields_of}
use Rattle.wat_lang.specs.Rows.{defines, starts}

abbrev pub is_field : Mark → Bool
is_field (a_field kind) = true
is_field _ = false

abbrev pub no_field : List Marked → Bool
no_field [] = true
no_field (m ∷ ms) = not (is_field m.mark) && no_field ms

-- behind these fields this one stands open
pub record Stands (ms : List Marked) (fs : List Field) (f : Field) : Type 0 where
  pub before : List Marked
  pub first : Marked
  pub is_first : first.mark ≡ a_field f.kind
  pub there : first.token.at ≡ f.at
  pub parts : ms ≡ before ++ first ∷ f.parts
  pub inside : no_field f.parts ≡ true
  pub whole : fields_of before ≡ fs

-- a field with one more token
abbrev pub with_part : Field → Marked → Field
with_part f m = record { kind = f.kind; at = f.at; parts = f.parts ++ m ∷ [] }

-- a field that begins with this token
abbrev pub begun_at : FieldKind → Marked → Field
begun_at kind m = record { kind = kind; at = m.token.at; parts = [] }

-- whether fields define something, or something was defined before them
abbrev pub defined_by : Bool → List Field → Bool
defined_by defined fs = fold (λ (b : Bool) (f : Field). b || defines f.kind) defined fs

-- whether a start is among fields, or stands before them
abbrev pub started_by : Bool → List Field → Bool
started_by started fs = fold (λ (b : Bool) (f : Field). b || starts f.kind) started fs
