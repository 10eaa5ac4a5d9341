-- The rows of marks without some that say nothing.
use Rattle.std.proofs.Common.{◌≡◌, ℕ, Bool, false, ◌&&◌, ◌||◌, not, List, [], ◌++◌, slice_get, Option, Some, None, refl, ap, ◌∙◌}
use Rattle.std.specs.Prelude.{flat_map, if◌then◌else◌}
use Rattle.std.specs.Str.{is_utf8}
use Rattle.wasm_lang.specs.Limits.{params_of}
use Rattle.wasm_lang.specs.Modules.{FunctionType}
use Rattle.wat_lang.specs.declared.parts.Space.{Space}
use Rattle.wat_lang.specs.declared.parts.Space.TheVariants as spaces
use Rattle.wat_lang.specs.declared.parts.Part.TheVariants.{Param, Local}
use Rattle.wat_lang.specs.declared.parts.FieldKind.TheVariants as kinds
use Rattle.wat_lang.specs.declared.fault.Row.TheVariants as rows
use Rattle.wat_lang.specs.Grammar.{Marked}
use Rattle.wat_lang.specs.Names.{text_of, same_space, binds_in, types_part, Field, Entry, described, is_import, Names, names_of, signature_of, types_of, type_use, names_at}
use Rattle.wat_lang.specs.Modules.{function_type_in}
use Rattle.wat_lang.specs.Rows as r
use Rattle.wat_lang.specs.Rows.{Refusal, rows_of}
use Rattle.wat_laws_kept.specs.Kept.{kept}
use Rattle.wat_laws_kept.proofs.Dropped.{Drops, kept_drops, same_all, same_flat, same_described, same_uses}
use Rattle.wat_laws_kept.proofs.Fields.{field, Thins, thins, AllThin, no_fields, more, thin_fields, same_entry, same_flats, same_names, same_types, same_signature}
use Rattle.wat_laws_kept.proofs.Modules.{same_type_use, same_function_type, same_local_names}

-- ---- rows of marks

same_numbers : {ks ms : List Marked} → Drops ks ms → r.number_rows ks ≡ r.number_rows ms
same_numbers d = same_flat (λ m. r.where_holds (r.is_bad_number m) rows.Number m.token.at) (λ t. refl) d

same_utf8 : {ks ms : List Marked} → Drops ks ms → r.utf8_rows ks ≡ r.utf8_rows ms
same_utf8 d = ap (λ (xs : List Marked). flat_map (λ m. r.where_holds (not (is_utf8 (text_of m))) rows.Utf8 m.token.at) xs) (same_all r.is_name refl d)

same_taken : (s : Space) {ks ms : List Marked} → Drops ks ms → r.taken_in s ks ≡ r.taken_in s ms
same_taken s d = ap (r.taken_again []) (same_all (binds_in s) refl d)

same_entry_rows : {ks ms : List Marked} → Drops ks ms → r.entry_rows ks ≡ r.entry_rows ms
same_entry_rows {ks = ks} {ms = ms} d = rw (same_all r.is_table_minimum refl d) refl

-- ---- rows of fields

same_local_spaces : (g f : Field) → Thins g f → r.local_spaces g ≡ r.local_spaces f
same_local_spaces g f (thins kind at d) = rw (same_taken spaces.Local d) refl

-- A head is judged by the type that it names and the types that are written.
bad_use_by : (types : List FunctionType) (o : Option ℕ) (ks ms : List Marked) → signature_of ks ≡ signature_of ms → r.is_bad_use types ks o ≡ r.is_bad_use types ms o
bad_use_by types None ks ms e = refl
bad_use_by types (Some n) ks ms e = by (slice_get types n) refl
  where
    by : (x : Option FunctionType) → slice_get types n ≡ x → r.is_bad_use types ks (Some n) ≡ r.is_bad_use types ms (Some n)
    by None q = rw (r.is_bad_use, q) refl
    by (Some type) q =
        let empty : FunctionType = record { params = []; results = [] } in
        rw (r.is_bad_use, q) (ap (λ (s : FunctionType). not (r.same_signature s empty) && not (r.same_signature s type)) e)

pub head_by : (names : Space → Names) (types : List FunctionType) (at : ℕ) (ks ms : List Marked) → type_use (names spaces.Type) ks ≡ type_use (names spaces.Type) ms → signature_of ks ≡ signature_of ms
    → r.head_rows names types at ks ≡ r.head_rows names types at ms
head_by names types at ks ms u e =
    ap (λ (b : Bool). r.where_holds b rows.TypeUse at)
    (ap (λ (o : Option ℕ). r.is_bad_use types ks (r.known_use o)) u ∙ bad_use_by types (r.known_use (type_use (names spaces.Type) ms)) ks ms e)

same_head : (names : Space → Names) (types : List FunctionType) (at : ℕ) {ks ms : List Marked} → Drops ks ms → r.head_rows names types at ks ≡ r.head_rows names types at ms
same_head names types at {ks = ks} {ms = ms} d = head_by names types at ks ms (same_type_use (names spaces.Type) d) (same_signature ks ms d)

same_function : (names : Space → Names) (types : List FunctionType) (at : ℕ) {ks ms : List Marked} → Drops ks ms → r.function_rows names types at ks ≡ r.function_rows names types at ms
same_function names types at {ks = ks} {ms = ms} d = rw (same_head names types at d, same_function_type names d, same_all (types_part Local) refl d) refl

same_imported : (names : Space → Names) (types : List FunctionType) (o : Option Entry) {ks ms : List Marked} → Drops ks ms → r.imported_rows names types ks o ≡ r.imported_rows names types ms o
same_imported names types None d = refl
same_imported names types (Some e) d = ap (λ (rs : List Refusal). if same_space spaces.Func e.space then rs else []) (same_head names types e.at d)

same_locals : (names : Space → Names) (types : List FunctionType) (g f : Field) → Thins g f → r.locals_of names types g ≡ r.locals_of names types f
same_locals names types g f (thins kinds.Func at {ks = ks} {ms = ms} d) = rw (same_function_type names d, same_local_names (params_of types (function_type_in names ms)) d) refl
same_locals names types g f (thins kind at d) = refl

same_field_uses : (names : Space → Names) (types : List FunctionType) (g f : Field) → Thins g f
    → r.use_rows (names_at names (r.locals_of names types g)) [] g.parts ≡ r.use_rows (names_at names (r.locals_of names types f)) [] f.parts
same_field_uses names types g f (thins kind at {ks = ks} {ms = ms} d) =
    ap (λ (locals : Names). r.use_rows (names_at names locals) [] ks) (same_locals names types _ _ (thins kind at d)) ∙ same_uses (names_at names (r.locals_of names types (field kind at ms))) [] d

same_field : (names : Space → Names) (types : List FunctionType) (g f : Field) → Thins g f → r.field_rows names types g ≡ r.field_rows names types f
same_field names types g f (thins kinds.Type at d) = rw (same_field_uses names types _ _ (thins kinds.Type at d), same_all (types_part Param) refl d) refl
same_field names types g f (thins kinds.Func at d) = rw (same_field_uses names types _ _ (thins kinds.Func at d), same_function names types at d) refl
same_field names types g f (thins kinds.Import at {ms = ms} d) = rw (same_field_uses names types _ _ (thins kinds.Import at d), same_described d, same_imported names types (described ms) d) refl
same_field names types g f (thins kind at d) = rw (same_field_uses names types _ _ (thins kind at d)) refl

-- ---- all rows

same_orders : (defined started : Bool) {gs fs : List Field} → AllThin gs fs → r.order_rows defined started gs ≡ r.order_rows defined started fs
same_orders defined started no_fields = refl
same_orders defined started (more {gs = gs} {fs = fs} (thins kind at d) ts) =
    ap (λ (rs : List Refusal). r.where_holds ((is_import kind && defined) || (r.starts kind && started)) rows.Order at ++ rs) (same_orders (defined || r.defines kind) (started || r.starts kind) ts)

same_entries : (s : Space) {gs fs : List Field} → AllThin gs fs → r.entries_in s gs ≡ r.entries_in s fs
same_entries s no_fields = refl
same_entries s (more {g = g} {f = f} {gs = gs} {fs = fs} t ts) = rw (r.entries_in, same_entry t, same_entries s ts) refl

same_counts : {gs fs : List Field} → AllThin gs fs → r.count_rows gs ≡ r.count_rows fs
same_counts {gs = gs} {fs = fs} ts = rw (same_entries spaces.Type ts, same_entries spaces.Func ts, same_entries spaces.Global ts) refl

same_taken_rows : {gs fs : List Field} {ks ms : List Marked} → AllThin gs fs → Drops ks ms → r.taken_rows gs ks ≡ r.taken_rows fs ms
same_taken_rows {gs = gs} {fs = fs} {ks = ks} {ms = ms} ts d =
    rw (
      same_taken spaces.Type d,
      same_taken spaces.Func d,
      same_taken spaces.Table d,
      same_taken spaces.Memory d,
      same_taken spaces.Global d,
      same_taken spaces.Elem d,
      same_taken spaces.Data d,
      same_flats r.local_spaces same_local_spaces ts,
    ) refl

of_fields : {gs fs : List Field} {ks ms : List Marked} → AllThin gs fs → Drops ks ms → r.rows_of_fields gs ks ≡ r.rows_of_fields fs ms
of_fields {gs = gs} {fs = fs} {ks = ks} {ms = ms} ts d =
    rw (
      same_numbers d,
      same_utf8 d,
      same_taken_rows ts d,
      same_names ts,
      same_types ts,
      same_flats (r.field_rows (names_of fs) (types_of fs)) (same_field (names_of fs) (types_of fs)) ts,
      same_orders false false ts,
      same_counts ts,
      same_entry_rows d,
    ) refl

pub same_rows : (ms : List Marked) → rows_of (kept ms) ≡ rows_of ms
same_rows ms = of_fields (thin_fields ms) (kept_drops ms)
