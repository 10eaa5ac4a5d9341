-- What the marks of a text say in order: its fields, the ids that they bind, and the numbers that are used (sections 6.1.3 and 6.3.5).
use Rattle.std.specs.Prelude.{ℕ, suc, Bool, true, false, ◌&&◌, not, List, [], ◌∷◌, ◌++◌, map, replicate, drop, filter, find, Option, Some, None, option_map, option_and_then, unwrap_or, ℤ, pos, negsuc, bytes_eq, ◌==◌}
use Rattle.wasm_lang.specs.declared.types.ValType.{ValType}
use Rattle.wasm_lang.specs.declared.types.ValType.TheVariants.{I32}
use Rattle.wasm_lang.specs.Instructions.{Instruction, block, loop, if_block, end_mark}
use Rattle.wasm_lang.specs.Modules.{FunctionType}
use Rattle.wat_lang.specs.declared.parts.Space.{Space}
use Rattle.wat_lang.specs.declared.parts.Space.TheVariants as spaces
use Rattle.wat_lang.specs.declared.parts.Part.{Part}
use Rattle.wat_lang.specs.declared.parts.Part.TheVariants.{Param, Result, Local}
use Rattle.wat_lang.specs.declared.parts.FieldKind.{FieldKind}
use Rattle.wat_lang.specs.declared.parts.FieldKind.TheVariants as kinds
use Rattle.wat_lang.specs.Tokens.{Class, string, atom}
use Rattle.wat_lang.specs.Numbers.{number_of}
use Rattle.wat_lang.specs.Grammar.{Mark, a_field, a_described, binds, uses, a_type_use, a_type, an_instruction, Marked, value_type_of}

-- ---- tokens

abbrev pub bytes_of : Class → List ℕ
bytes_of (atom bs) = bs
bytes_of (string value) = value
bytes_of _ = []

-- the bytes of an atom, or what a string stands for
abbrev pub text_of : Marked → List ℕ
text_of m = bytes_of m.token.class

abbrev pub type_of : Marked → ValType
type_of m = unwrap_or (value_type_of (text_of m)) I32

abbrev pub same_space : Space → Space → Bool
same_space s t = number s == number t
  where
    number : Space → ℕ
    number spaces.Type = 0
    number spaces.Func = 1
    number spaces.Table = 2
    number spaces.Memory = 3
    number spaces.Global = 4
    number spaces.Local = 5
    number spaces.Label = 6
    number spaces.Elem = 7
    number spaces.Data = 8

abbrev pub same_part : Part → Part → Bool
same_part p q = number p == number q
  where
    number : Part → ℕ
    number Param = 0
    number Result = 1
    number Local = 2

abbrev pub binds_in : Space → Mark → Bool
binds_in s (binds t) = same_space s t
binds_in s _ = false

abbrev pub uses_in : Space → Mark → Bool
uses_in s (uses t) = same_space s t
uses_in s _ = false

abbrev pub is_type_use : Mark → Bool
is_type_use a_type_use = true
is_type_use _ = false

abbrev pub types_part : Part → Mark → Bool
types_part p (a_type q) = same_part p q
types_part p _ = false

-- the tokens with such a mark
abbrev pub all_with : (Mark → Bool) → List Marked → List Marked
all_with test ms = filter (λ m. test m.mark) ms

abbrev pub first_with : (Mark → Bool) → List Marked → Option Marked
first_with test ms = find (λ m. test m.mark) ms

-- ---- fields

-- a field, the offset of its keyword, and what stands behind that
pub record Field : Type 0 where
  pub kind : FieldKind
  pub at : ℕ
  pub parts : List Marked

-- what stands before the first field, and the fields
abbrev pub Cut : Type 0
Cut = List Marked × List Field

abbrev pub cut_at : Marked → Cut → Mark → Cut
cut_at m rest (a_field kind) = ([], record { kind = kind; at = m.token.at; parts = rest.0 } ∷ rest.1)
cut_at m rest _ = (m ∷ rest.0, rest.1)

abbrev pub cut : List Marked → Cut
cut [] = ([], [])
cut (m ∷ ms) = cut_at m (cut ms) m.mark

abbrev pub fields_of : List Marked → List Field
fields_of ms = (cut ms).1

-- What a field puts into a numbered space, and the offset of the keyword that says so: its own, or that of what is imported.
pub record Entry : Type 0 where
  pub space : Space
  pub at : ℕ

abbrev pub described_by : Marked → Option Entry → Mark → Option Entry
described_by m others (a_described space) = Some (record { space = space; at = m.token.at })
described_by m others _ = others

abbrev pub described : List Marked → Option Entry
described [] = None
described (m ∷ ms) = described_by m (described ms) m.mark

abbrev pub entry_of : Field → Option Entry
entry_of f = by f.kind
  where
    own : Space → Option Entry
    own space = Some (record { space = space; at = f.at })

    by : FieldKind → Option Entry
    by kinds.Type = own spaces.Type
    by kinds.Import = described f.parts
    by kinds.Func = own spaces.Func
    by kinds.Table = own spaces.Table
    by kinds.Memory = own spaces.Memory
    by kinds.Global = own spaces.Global
    by kinds.Export = None
    by kinds.Start = None
    by kinds.Elem = own spaces.Elem
    by kinds.Data = own spaces.Data

abbrev pub is_import : FieldKind → Bool
is_import kinds.Import = true
is_import _ = false

-- whether a field puts something into the space
abbrev pub enters : Space → Field → Bool
enters s f = by (entry_of f)
  where
    by : Option Entry → Bool
    by None = false
    by (Some e) = same_space s e.space

-- ---- ids and numbers

-- the ids of a space by number, where there are some
abbrev pub Names : Type 0
Names = List (Option (List ℕ))

abbrev pub is_named : List ℕ → Option (List ℕ) → Bool
is_named id None = false
is_named id (Some bound) = bytes_eq id bound

-- the first number with the id
abbrev pub place_of_id : List ℕ → Names → Option ℕ
place_of_id id [] = None
place_of_id id (n ∷ ns) = elim (is_named id n) [ true ↦ Some 0 | false ↦ option_map suc (place_of_id id ns) ]

abbrev pub natural : ℤ → Option ℕ
natural (pos n) = Some n
natural (negsuc n) = None

-- the number that a number or an id names; None for a negative number, and for an id that isn't bound
abbrev pub index_of : Names → List ℕ → Option ℕ
index_of names text = elim (number_of text) [ Some z ↦ natural z | None ↦ place_of_id text names ]

abbrev pub id_bound : Space → List Marked → Option (List ℕ)
id_bound s ms = option_map text_of (first_with (binds_in s) ms)

-- the ids of a space of the module: those of imports first, each in text order
abbrev pub names_of : List Field → Space → Names
names_of fs s = ids (filter (λ f. enters s f && is_import f.kind) fs) ++ ids (filter (λ f. enters s f && not (is_import f.kind)) fs)
  where
    ids : List Field → Names
    ids gs = map (λ g. id_bound s g.parts) gs

-- ---- the head of a function

abbrev pub types_in : Part → List Marked → List ValType
types_in p ms = map type_of (all_with (types_part p) ms)

abbrev pub signature_of : List Marked → FunctionType
signature_of ms = record { params = types_in Param ms; results = types_in Result ms }

-- the types of a module
abbrev pub types_of : List Field → List FunctionType
types_of fs = map (λ f. signature_of f.parts) (filter (enters spaces.Type) fs)

-- an id stands before the type that it names
abbrev pub id_after : Option (List ℕ) → Marked → Option (List ℕ)
id_after id m = by m.mark
  where
    by : Mark → Option (List ℕ)
    by (binds spaces.Local) = Some (text_of m)
    by (a_type p) = None
    by _ = id

-- the ids of the parameters or of the locals that are written, behind an id that waits for its type
abbrev pub written_ids : Part → Option (List ℕ) → List Marked → Names
written_ids p id [] = []
written_ids p id (m ∷ ms) = elim (types_part p m.mark) [ true ↦ id ∷ written_ids p (id_after id m) ms | false ↦ written_ids p (id_after id m) ms ]

-- the number of the type that the function names
abbrev pub type_use : Names → List Marked → Option ℕ
type_use types ms = option_and_then (λ m. index_of types (text_of m)) (first_with is_type_use ms)

-- Parameters that aren't written have no ids.
abbrev pub param_ids : (count : ℕ) → Names → Names
param_ids count [] = replicate count None
param_ids count ids = ids

-- parameters, and locals behind them, of a function whose type has so many parameters
abbrev pub local_names : (params : ℕ) → List Marked → Names
local_names params ms = param_ids params (written_ids Param None ms) ++ written_ids Local None ms

-- ---- labels

abbrev pub open_after : Names → Instruction → Names
open_after labels (block r) = None ∷ labels
open_after labels (loop r) = None ∷ labels
open_after labels (if_block r) = None ∷ labels
open_after labels end_mark = drop 1 labels
open_after labels _ = labels

-- The labels that are open behind a token, the innermost first; a block's id stands behind its keyword.
abbrev pub labels_after : Names → Marked → Names
labels_after labels m = by m.mark
  where
    by : Mark → Names
    by (an_instruction form) = open_after labels form
    by (binds spaces.Label) = Some (text_of m) ∷ drop 1 labels
    by _ = labels

-- the names of each space at a place, where these locals and labels are there
abbrev pub names_at : (module_names : Space → Names) (locals labels : Names) → Space → Names
names_at module_names locals labels spaces.Local = locals
names_at module_names locals labels spaces.Label = labels
names_at module_names locals labels s = module_names s
