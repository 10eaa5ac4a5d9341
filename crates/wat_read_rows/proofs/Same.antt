-- The ids of fields as the code holds them.
use Rattle.std.proofs.Common.{◌≡◌, List, [], ◌++◌, refl, ap, ◌∙◌}
use Rattle.std.proofs.Math.Path.{fun_ext}
use Rattle.std.specs.List.{flat_map}
use Rattle.wasm_lang.specs.Modules.{FunctionType}
use Rattle.wat_lang.specs.declared.parts.Space.{Space}
use Rattle.wat_lang.specs.declared.parts.Space.TheVariants as spaces
use Rattle.wat_lang.specs.Names.{Names, Field, names_of, names_at}
use Rattle.wat_lang.specs.Rows.{Refusal, use_rows, locals_of, field_rows}
use Rattle.wat_read_names.specs.declared.spaces.Spaces.{Spaces}
use Rattle.wat_read_names.specs.Bound.{space_names, HasNames}
use Rattle.wat_read_rows.specs.Heads.{rows_by_kind}

abbrev Scope : Type 0
Scope = Names → Names → Space → Names

at_each : (n : Spaces) (fs : List Field) → HasNames n fs → (locals labels : Names) (s : Space) → names_at (space_names n) locals labels s ≡ names_at (names_of fs) locals labels s
at_each n fs h locals labels spaces.Type = h.types
at_each n fs h locals labels spaces.Func = h.functions
at_each n fs h locals labels spaces.Table = h.tables
at_each n fs h locals labels spaces.Memory = h.memories
at_each n fs h locals labels spaces.Global = h.globals
at_each n fs h locals labels spaces.Local = refl
at_each n fs h locals labels spaces.Label = refl
at_each n fs h locals labels spaces.Elem = h.elements
at_each n fs h locals labels spaces.Data = h.segments

pub same_scope : (n : Spaces) (fs : List Field) → HasNames n fs → (let f : Scope = names_at (space_names n) in f) ≡ names_at (names_of fs)
same_scope n fs h = fun_ext (λ locals. fun_ext (λ labels. fun_ext (at_each n fs h locals labels)))

pub by_kinds : (names : Space → Names) (types : List FunctionType) (f : Field) → field_rows names types f ≡ use_rows (names_at names (locals_of names types f)) [] f.parts ++ rows_by_kind names types f
by_kinds names types f = refl

-- Heads are looked at with the ids of types alone.
heads_same : (names others : Space → Names) (types : List FunctionType) (f : Field) → names spaces.Type ≡ others spaces.Type → rows_by_kind names types f ≡ rows_by_kind others types f
heads_same names others types f e = ap (λ (ids : Names). rows_by_kind (λ _. ids) types f) e

locals_same : (names others : Space → Names) (types : List FunctionType) (f : Field) → names spaces.Type ≡ others spaces.Type → locals_of names types f ≡ locals_of others types f
locals_same names others types f e = ap (λ (ids : Names). locals_of (λ _. ids) types f) e

pub field_same : (n : Spaces) (fs : List Field) → HasNames n fs → (types : List FunctionType) (f : Field) → field_rows (space_names n) types f ≡ field_rows (names_of fs) types f
field_same n fs h types f =
    ap (λ (scope : Scope). use_rows (scope (locals_of (space_names n) types f)) [] f.parts ++ rows_by_kind (space_names n) types f) (same_scope n fs h)
    ∙ ap (λ (locals : Names). use_rows (names_at (names_of fs) locals) [] f.parts ++ rows_by_kind (space_names n) types f) (locals_same (space_names n) (names_of fs) types f h.types)
    ∙ ap (λ (rs : List Refusal). use_rows (names_at (names_of fs) (locals_of (names_of fs) types f)) [] f.parts ++ rs) (heads_same (space_names n) (names_of fs) types f h.types)

pub fields_same : (n : Spaces) (fs : List Field) → HasNames n fs → (types : List FunctionType) (gs : List Field) → flat_map (field_rows (space_names n) types) gs ≡ flat_map (field_rows (names_of fs) types) gs
fields_same n fs h types gs = ap (λ (f : Field → List Refusal). flat_map f gs) (fun_ext (field_same n fs h types))
