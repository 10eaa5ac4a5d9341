-- What refuses a text of the grammar, each with its place. Offsets are in bytes.
use Rattle.std.specs.Prelude.{ℕ, ◌+◌, ◌^◌, Bool, true, false, ◌&&◌, ◌||◌, not, List, [], ◌∷◌, ◌++◌, flat_map, length, Option, Some, None, is_none, ℤ, pos, neg_ℤ, int_le, int_lt, nat_lt, nat_le, bytes_eq, slice_get, if◌then◌else◌}
use Rattle.std.specs.List.{list_any}
use Rattle.std.specs.Str.{is_utf8}
use Rattle.wasm_lang.specs.declared.types.ValType.{ValType}
use Rattle.wasm_lang.specs.declared.types.ValType.TheVariants.{I32, I64}
use Rattle.wasm_lang.specs.Instructions.{block, loop, if_block}
use Rattle.wasm_lang.specs.Limits.{most_types, most_functions, most_params, most_locals, most_levels, most_globals, most_entries, params_of}
use Rattle.wasm_lang.specs.Modules.{FunctionType}
use Rattle.wat_lang.specs.declared.parts.Space.{Space}
use Rattle.wat_lang.specs.declared.parts.Space.TheVariants as spaces
use Rattle.wat_lang.specs.declared.parts.Part.TheVariants.{Param, Local}
use Rattle.wat_lang.specs.declared.parts.FieldKind.{FieldKind}
use Rattle.wat_lang.specs.declared.parts.FieldKind.TheVariants as kinds
use Rattle.wat_lang.specs.declared.fault.Row.{Row}
use Rattle.wat_lang.specs.declared.fault.Row.TheVariants as rows
use Rattle.wat_lang.specs.Numbers.{number_of, is_id}
use Rattle.wat_lang.specs.Grammar.{Mark, uses, a_type_use, a_minimum, a_maximum, a_module_name, a_field_name, an_export_name, a_word_32, a_word_64, an_offset, an_alignment, an_instruction, Marked}
use Rattle.wat_lang.specs.Names.{text_of, same_space, binds_in, types_part, all_with, Field, fields_of, Entry, entry_of, is_import, Names, place_of_id, names_of, signature_of, types_of, type_use, local_names, labels_after, names_at}
use Rattle.wat_lang.specs.Modules.{natural_or_0, exponent_of, offset_of, alignment_of, function_type_in}

abbrev pub row_number : Row → ℕ
row_number rows.Token = 1
row_number rows.Grammar = 2
row_number rows.Number = 3
row_number rows.IdTaken = 4
row_number rows.IdUnknown = 5
row_number rows.TypeUse = 6
row_number rows.Order = 7
row_number rows.Limit = 8
row_number rows.OutsideInteger = 9
row_number rows.Utf8 = 10

pub record Refusal : Type 0 where
  pub row : Row
  pub at : ℕ

-- the refusal by a row at a place, if this holds
abbrev pub where_holds : Bool → Row → ℕ → List Refusal
where_holds true row at = record { row = row; at = at } ∷ []
where_holds false row at = []

-- ---- numbers

-- lo ≤ z < hi
abbrev pub is_between : (lo hi : ℤ) → ℤ → Bool
is_between lo hi z = int_le lo z && int_lt z hi

abbrev pub is_out : (lo hi : ℤ) → Option ℤ → Bool
is_out lo hi None = false
is_out lo hi (Some z) = not (is_between lo hi z)

-- not a number of 32 bits without a sign
abbrev pub is_out_32 : Option ℤ → Bool
is_out_32 z = is_out (pos 0) (pos (2 ^ 32)) z

-- A constant is a word or its signed reading. An id is no number.
abbrev pub is_bad_number : Marked → Bool
is_bad_number m = by m.mark
  where
    z : Option ℤ
    z = number_of (text_of m)

    by : Mark → Bool
    by a_word_32 = is_out (neg_ℤ (pos (2 ^ 31))) (pos (2 ^ 32)) z
    by a_word_64 = is_out (neg_ℤ (pos (2 ^ 63))) (pos (2 ^ 64)) z
    by an_offset = is_out_32 (offset_of m)
    by an_alignment = is_none (exponent_of (natural_or_0 (alignment_of m)))
    by (uses s) = is_out_32 z
    by a_type_use = is_out_32 z
    by (a_minimum s) = is_out_32 z
    by a_maximum = is_out_32 z
    by _ = false

abbrev pub number_rows : List Marked → List Refusal
number_rows ms = flat_map (λ m. where_holds (is_bad_number m) rows.Number m.token.at) ms

-- ---- names

abbrev pub is_name : Mark → Bool
is_name a_module_name = true
is_name a_field_name = true
is_name an_export_name = true
is_name _ = false

abbrev pub utf8_rows : List Marked → List Refusal
utf8_rows ms = flat_map (λ m. where_holds (not (is_utf8 (text_of m))) rows.Utf8 m.token.at) (all_with is_name ms)

-- ---- ids that are bound

abbrev pub is_taken : (before : List (List ℕ)) → List ℕ → Bool
is_taken before id = list_any (bytes_eq id) before

-- the ids that are bound again, behind these
abbrev pub taken_again : (before : List (List ℕ)) → List Marked → List Refusal
taken_again before [] = []
taken_again before (m ∷ ms) = where_holds (is_taken before (text_of m)) rows.IdTaken m.token.at ++ taken_again (text_of m ∷ before) ms

abbrev pub taken_in : Space → List Marked → List Refusal
taken_in s ms = taken_again [] (all_with (binds_in s) ms)

-- Parameters and locals have a space of their own in each function and each import. In a type they bind nothing.
abbrev pub has_locals : FieldKind → Bool
has_locals kinds.Import = true
has_locals kinds.Func = true
has_locals _ = false

abbrev pub local_spaces : Field → List Refusal
local_spaces f = if has_locals f.kind then taken_in spaces.Local f.parts else []

-- Labels may be bound again.
abbrev pub taken_rows : List Field → List Marked → List Refusal
taken_rows fs ms =
    flat_map (λ s. taken_in s ms) (spaces.Type ∷ spaces.Func ∷ spaces.Table ∷ spaces.Memory ∷ spaces.Global ∷ spaces.Elem ∷ spaces.Data ∷ [])
    ++ flat_map local_spaces fs

-- ---- ids that are used, and blocks that are open

abbrev pub opens_block : Mark → Bool
opens_block (an_instruction (block r)) = true
opens_block (an_instruction (loop r)) = true
opens_block (an_instruction (if_block r)) = true
opens_block _ = false

abbrev pub is_unknown : Names → Marked → Bool
is_unknown names m = is_id (text_of m) && is_none (place_of_id (text_of m) names)

abbrev pub is_unknown_use : (Space → Names) → Marked → Bool
is_unknown_use names m = by m.mark
  where
    by : Mark → Bool
    by (uses s) = is_unknown (names s) m
    by a_type_use = is_unknown (names spaces.Type) m
    by _ = false

-- with these labels open before the tokens
abbrev pub use_rows : (Names → Space → Names) → (labels : Names) → List Marked → List Refusal
use_rows names labels [] = []
use_rows names labels (m ∷ ms) =
    where_holds (is_unknown_use (names labels) m) rows.IdUnknown m.token.at
    ++ (where_holds (opens_block m.mark && nat_le most_levels (length labels)) rows.Limit m.token.at
    ++ use_rows names (labels_after labels m) ms)

-- ---- heads of functions

abbrev pub same_types : List ValType → List ValType → Bool
same_types [] [] = true
same_types (I32 ∷ ts) (I32 ∷ us) = same_types ts us
same_types (I64 ∷ ts) (I64 ∷ us) = same_types ts us
same_types _ _ = false

abbrev pub same_signature : FunctionType → FunctionType → Bool
same_signature t u = same_types t.params u.params && same_types t.results u.results

-- Parameters and results that are written are all of the type's.
abbrev pub is_bad_use : List FunctionType → List Marked → Option ℕ → Bool
is_bad_use types ms None = false
is_bad_use types ms (Some n) = by (slice_get types n)
  where
    by : Option FunctionType → Bool
    by None = true
    by (Some type) = not (same_signature (signature_of ms) (record { params = []; results = [] })) && not (same_signature (signature_of ms) type)

-- the number of the type, if it has one below 2 ^ 32
abbrev pub known_use : Option ℕ → Option ℕ
known_use None = None
known_use (Some n) = if nat_lt n (2 ^ 32) then Some n else None

-- every T from a count on, where so many come before
abbrev pub from_count : (most : ℕ) → (before : ℕ) → List Marked → List Refusal
from_count most before [] = []
from_count most before (m ∷ ms) = where_holds (nat_le most before) rows.Limit m.token.at ++ from_count most (before + 1) ms

abbrev pub head_rows : (Space → Names) → List FunctionType → ℕ → List Marked → List Refusal
head_rows names types at ms = where_holds (is_bad_use types ms (known_use (type_use (names spaces.Type) ms))) rows.TypeUse at

-- a function, at its keyword
abbrev pub function_rows : (Space → Names) → List FunctionType → ℕ → List Marked → List Refusal
function_rows names types at ms =
    head_rows names types at ms
    ++ from_count most_locals (params_of types (function_type_in names ms)) (all_with (types_part Local) ms)

abbrev pub imported_rows : (Space → Names) → List FunctionType → List Marked → Option Entry → List Refusal
imported_rows names types ms None = []
imported_rows names types ms (Some e) = if same_space spaces.Func e.space then head_rows names types e.at ms else []

-- the locals that may be named in a field
abbrev pub locals_of : (Space → Names) → List FunctionType → Field → Names
locals_of names types f = by f.kind
  where
    by : FieldKind → Names
    by kinds.Func = local_names (params_of types (function_type_in names f.parts)) f.parts
    by _ = []

abbrev pub field_rows : (Space → Names) → List FunctionType → Field → List Refusal
field_rows names types f = use_rows (names_at names (locals_of names types f)) [] f.parts ++ by f.kind
  where
    by : FieldKind → List Refusal
    by kinds.Type = from_count most_params 0 (all_with (types_part Param) f.parts)
    by kinds.Func = function_rows names types f.at f.parts
    by kinds.Import = imported_rows names types f.parts (entry_of f)
    by _ = []

-- ---- the order of fields, and their counts

abbrev pub defines : FieldKind → Bool
defines kinds.Func = true
defines kinds.Table = true
defines kinds.Memory = true
defines kinds.Global = true
defines _ = false

abbrev pub starts : FieldKind → Bool
starts kinds.Start = true
starts _ = false

-- behind fields of which some define something, and some are a start
abbrev pub order_rows : (defined started : Bool) → List Field → List Refusal
order_rows defined started [] = []
order_rows defined started (f ∷ fs) =
    where_holds ((is_import f.kind && defined) || (starts f.kind && started)) rows.Order f.at
    ++ order_rows (defined || defines f.kind) (started || starts f.kind) fs

abbrev pub entries_in : Space → List Field → List Entry
entries_in s [] = []
entries_in s (f ∷ fs) = by (entry_of f) ++ entries_in s fs
  where
    by : Option Entry → List Entry
    by None = []
    by (Some e) = if same_space s e.space then e ∷ [] else []

abbrev pub entries_from : (most : ℕ) → (before : ℕ) → List Entry → List Refusal
entries_from most before [] = []
entries_from most before (e ∷ es) = where_holds (nat_le most before) rows.Limit e.at ++ entries_from most (before + 1) es

abbrev pub count_rows : List Field → List Refusal
count_rows fs =
    entries_from most_types 0 (entries_in spaces.Type fs)
    ++ (entries_from most_functions 0 (entries_in spaces.Func fs)
    ++ entries_from most_globals 0 (entries_in spaces.Global fs))

abbrev pub is_table_minimum : Mark → Bool
is_table_minimum (a_minimum spaces.Table) = true
is_table_minimum _ = false

abbrev pub entry_rows : List Marked → List Refusal
entry_rows ms = flat_map (λ m. where_holds (nat_lt most_entries (natural_or_0 (number_of (text_of m)))) rows.Limit m.token.at) (all_with is_table_minimum ms)

-- ---- all rows

abbrev pub rows_of_fields : List Field → List Marked → List Refusal
rows_of_fields fs ms =
    number_rows ms ++ (utf8_rows ms ++ (taken_rows fs ms ++ (flat_map (field_rows (names_of fs) (types_of fs)) fs
    ++ (order_rows false false fs ++ (count_rows fs ++ entry_rows ms)))))

abbrev pub rows_of : List Marked → List Refusal
rows_of ms = rows_of_fields (fields_of ms) ms

-- a comes before b: its place does, or its number at the same place
abbrev pub is_before : Refusal → Refusal → Bool
is_before a b = nat_lt a.at b.at || (nat_le a.at b.at && nat_lt (row_number a.row) (row_number b.row))

abbrev pub lesser : Refusal → Option Refusal → Refusal
lesser a None = a
lesser a (Some b) = if is_before b a then b else a

abbrev pub least : List Refusal → Option Refusal
least [] = None
least (r ∷ rs) = Some (lesser r (least rs))
