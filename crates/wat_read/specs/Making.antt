-- What the second reading of a text has judged and made.
use Rattle.std.specs.Prelude.{◌≡◌, ◌⊎◌, ◌↔◌, IsTrue, true, false, List, [], ◌∷◌, ◌++◌, map, drop, Option, Some, None}
use Rattle.wasm_tree.specs.Views as views
use Rattle.wasm_lang.specs.Modules.{FunctionType}
use Rattle.wat_lang.specs.declared.parts.Space.{Space}
use Rattle.wat_lang.specs.declared.parts.FieldKind.{FieldKind}
use Rattle.wat_lang.specs.declared.parts.FieldKind.TheVariants as kinds
use Rattle.wat_lang.specs.Grammar.{Marked}
use Rattle.wat_lang.specs.Names as names
use Rattle.wasm_lang.specs.Instructions.{end_mark}
use Rattle.wat_lang.specs.Modules.{instructions_in, code_in}
use Rattle.wat_lang.specs.Rows.{number_rows, locals_of, use_rows}
use Rattle.wat_laws_kept.specs.Heads.{heads, in_code}
use Rattle.wat_laws_kept.specs.FieldByField.{no_field, Stands}
use Rattle.wat_laws_kept.specs.Groups.{labels_behind, begins_instruction, no_instruction}
use Rattle.wat_read_tokens.specs.Marks.{marks_of}
use Rattle.wat_read_outline.specs.declared.outline.Begun.{Begun}
use Rattle.wat_read.specs.declared.judging.FieldRows.{FieldRows}
use Rattle.wat_read.specs.declared.functions.MadeCode.{MadeCode}
use Rattle.wat_read.specs.declared.functions.OpenFunction.{OpenFunction}
use Rattle.wat_read.specs.declared.functions.WholeCode.{WholeCode}
use Rattle.wat_read.specs.declared.making.Making.{Making}
use Rattle.wat_read_fields.specs.Lists.{HasLists}
use Rattle.wat_read.specs.Judged.{HasRows}

-- the names at a place of the function's code
abbrev pub names_in : (Space → names.Names) → List FunctionType → names.Field → names.Names → Space → names.Names
names_in names_of types f = names.names_at names_of (locals_of names_of types f)

-- what is made of these tokens of code, where these locals may be named
pub record HasMadeCode (names_of : Space → names.Names) (locals : names.Names) (m : MadeCode) (done : List Marked) : Type 0 where
  pub labels : m.labels ≡ labels_behind [] done
  pub fits : IsTrue m.fits ↔ (number_rows done ≡ [])
  pub code : m.fits ≡ true → map views.instr_of m.code.items ≡ instructions_in (names.names_at names_of locals) [] done

-- the code with its end
pub record IsWholeOf (w : WholeCode) (m : MadeCode) : Type 0 where
  pub code : map views.instr_of w.code.items ≡ map views.instr_of m.code.items ++ end_mark ∷ []
  pub fits : w.fits ≡ m.fits

pub record HasWholeCode (names_of : Space → names.Names) (locals : names.Names) (w : WholeCode) (parts : List Marked) : Type 0 where
  pub fits : IsTrue w.fits ↔ (number_rows parts ≡ [])
  pub code : w.fits ≡ true → map views.instr_of w.code.items ≡ code_in names_of locals parts

-- The function stands open with these parts, of which the first are judged and made.
pub record HasFunction (names_of : Space → names.Names) (types : List FunctionType) (o : OpenFunction) (f : names.Field) (done : List Marked) : Type 0 where
  pub is_function : f.kind ≡ kinds.Func
  pub parts : f.parts ≡ done ++ marks_of o.group.items
  pub heads : marks_of o.heads.items ≡ heads f.parts
  pub alone : no_instruction (drop 1 (marks_of o.group.items)) ≡ true
  pub front : (done ≡ []) ⊎ (begins_instruction (marks_of o.group.items) ≡ true)
  pub before : o.in_code ≡ false → done ≡ []
  pub locals : o.in_code ≡ true → o.locals ≡ locals_of names_of types f
  pub made : HasMadeCode names_of (locals_of names_of types f) o.made done

-- the function that stands open is judged and made so far, behind these tokens and fields
pub record IsJudged (names_of : Space → names.Names) (types : List FunctionType) (o : OpenFunction) (r : FieldRows) (f : names.Field) (before : List Marked) (whole : List names.Field) : Type 0 where
  pub done : List Marked
  pub function : HasFunction names_of types o f done
  pub begun : (done ≡ []) ⊎ (marks_of o.group.items ≡ [] → ⊥)
  pub rows : HasRows names_of types r (before ++ done) whole (use_rows (names_in names_of types f) [] done)

-- all of its parts are
pub record IsWhole (names_of : Space → names.Names) (types : List FunctionType) (o : OpenFunction) (r : FieldRows) (f : names.Field) (before : List Marked) (whole : List names.Field) : Type 0 where
  pub function : HasFunction names_of types o f f.parts
  pub rows : HasRows names_of types r (before ++ f.parts) whole (use_rows (names_in names_of types f) [] f.parts)
  pub in_code : o.in_code ≡ true
  pub group : o.group.items ≡ []

-- nothing of a function is there
pub record IsEmpty (o : OpenFunction) : Type 0 where
  pub heads : o.heads.items ≡ []
  pub group : o.group.items ≡ []
  pub in_code : o.in_code ≡ false
  pub labels : o.made.labels ≡ []
  pub code : o.made.code.items ≡ []
  pub fits : o.made.fits ≡ true

-- no field has begun
pub record HasNone (names_of : Space → names.Names) (types : List FunctionType) (m : Making) (ks : List Marked) : Type 0 where
  pub none : no_field ks ≡ true
  pub parts : marks_of m.parts.items ≡ ks
  pub rows : HasRows names_of types m.rows [] [] []
  pub lists : HasLists names_of types m.lists []
  pub function : IsEmpty m.function

-- a field stands open that is no function
pub record HasParts (names_of : Space → names.Names) (types : List FunctionType) (m : Making) (b : Begun) (ks : List Marked) : Type 0 where
  pub whole : List names.Field
  pub field : names.Field
  pub stands : Stands ks whole field
  pub kind : field.kind ≡ b.kind
  pub at : field.at ≡ b.at
  pub parts : marks_of m.parts.items ≡ field.parts
  pub rows : HasRows names_of types m.rows (stands.before ++ stands.first ∷ []) whole []
  pub lists : number_rows stands.before ≡ [] → HasLists names_of types m.lists whole
  pub function : IsEmpty m.function

-- a function stands open
pub record HasCode (names_of : Space → names.Names) (types : List FunctionType) (m : Making) (b : Begun) (ks : List Marked) : Type 0 where
  pub whole : List names.Field
  pub field : names.Field
  pub stands : Stands ks whole field
  pub at : field.at ≡ b.at
  pub judged : IsJudged names_of types m.function m.rows field (stands.before ++ stands.first ∷ []) whole
  pub code : m.function.in_code ≡ in_code false ks
  pub lists : number_rows stands.before ≡ [] → HasLists names_of types m.lists whole
  pub parts : m.parts.items ≡ []

abbrev pub by_kind : (Space → names.Names) → List FunctionType → Making → Begun → List Marked → FieldKind → Type 0
by_kind names_of types m b ks kinds.Func = HasCode names_of types m b ks
by_kind names_of types m b ks _ = HasParts names_of types m b ks

abbrev pub by_open : (Space → names.Names) → List FunctionType → Making → List Marked → Option Begun → Type 0
by_open names_of types m ks None = HasNone names_of types m ks
by_open names_of types m ks (Some b) = by_kind names_of types m b ks b.kind

-- these tokens are judged and made, but for what stands open
abbrev pub HasMade : (Space → names.Names) → List FunctionType → Making → List Marked → Type 0
HasMade names_of types m ks = by_open names_of types m ks m.begun

-- all of these tokens are judged and made
pub record HasClosed (names_of : Space → names.Names) (types : List FunctionType) (m : Making) (ks : List Marked) : Type 0 where
  pub rows : HasRows names_of types m.rows ks (names.fields_of ks) []
  pub lists : number_rows ks ≡ [] → HasLists names_of types m.lists (names.fields_of ks)
  pub function : IsEmpty m.function
  pub parts : m.parts.items ≡ []
