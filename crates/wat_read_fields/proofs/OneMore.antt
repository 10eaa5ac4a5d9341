-- What one more field adds to what fields say.
use Rattle.std.proofs.Common.{◌≡◌, ℕ, Bool, true, false, ◌&&◌, cond, List, [], ◌∷◌, ◌++◌, map, Option, Some, None, refl, sym, ap, ◌∙◌, append-nil}
use Rattle.std.specs.List.{slice_get}
use Rattle.std.proofs.lemmas.List.{map-append}
use Rattle.wat_lang.specs.declared.parts.Space.{Space}
use Rattle.wat_lang.specs.declared.parts.Space.TheVariants as spaces
use Rattle.wat_lang.specs.declared.parts.FieldKind.{FieldKind}
use Rattle.wat_lang.specs.declared.parts.FieldKind.TheVariants as kinds
use Rattle.wat_lang.specs.Grammar.{Marked}
use Rattle.wasm_lang.specs.Modules.{FunctionType}
use Rattle.wat_lang.specs.Names.{Names, same_space, Field, enters, is_import}
use Rattle.wat_lang.specs.Modules.{parts_of, is_export, is_start, limits_in, import_of, global_of, export_of, element_of, segment_of, first_used, function_type_in, body_of}
use Rattle.wat_laws_kept.proofs.FieldByField.{parts_joined}
use Rattle.wat_read_tokens.specs.Marks.{only}
use Rattle.wat_read_fields.specs.Fit.{defines_in, is_function, started}
use Rattle.wat_read_fields.specs.Lists.{HasDescribed, HasListed, HasFunctions}
use Rattle.wat_read_fields.specs.declared.lists.Described.{Described}
use Rattle.wat_read_fields.specs.declared.lists.Listed.{Listed}
use Rattle.wat_read_fields.specs.declared.lists.Functions.{Functions}

one_more : {Y : Type 0} (test : Field → Bool) (f : List Marked → Y) (fs : List Field) (g : Field) → map f (parts_of test (fs ++ g ∷ [])) ≡ map f (parts_of test fs) ++ only (test g) (f g.parts)
one_more test f fs g =
    ap (map f) (parts_joined test fs (g ∷ []))
    ∙ map-append f (parts_of test fs) (parts_of test (g ∷ []))
    ∙ ap (λ ys. map f (parts_of test fs) ++ ys) (alone (test g))
  where
    alone : (b : Bool) → map f (map (λ (h : Field). h.parts) (cond b (g ∷ []) [])) ≡ only b (f g.parts)
    alone true = refl
    alone false = refl

pub added : {Y : Type 0} (test : Field → Bool) (f : List Marked → Y) (fs : List Field) (g : Field) (old new : List Y) → old ≡ map f (parts_of test fs) → new ≡ old ++ only (test g) (f g.parts)
    → new ≡ map f (parts_of test (fs ++ g ∷ []))
added test f fs g old new h e = e ∙ ap (λ ys. ys ++ only (test g) (f g.parts)) h ∙ sym (one_more test f fs g)

pub not_added : {Y : Type 0} (test : Field → Bool) (f : List Marked → Y) (fs : List Field) (g : Field) (old : List Y) → test g ≡ false → old ≡ map f (parts_of test fs)
    → old ≡ map f (parts_of test (fs ++ g ∷ []))
not_added test f fs g old none h = added test f fs g old old h (sym (append-nil old) ∙ ap (λ (b : Bool). old ++ only b (f g.parts)) (sym none))

-- a field that passes the test
pub one_added : {Y : Type 0} (test : Field → Bool) (f : List Marked → Y) (fs : List Field) (g : Field) (old new : List Y) (y : Y) → test g ≡ true → y ≡ f g.parts → old ≡ map f (parts_of test fs) → new ≡ old ++ y ∷ []
    → new ≡ map f (parts_of test (fs ++ g ∷ []))
one_added test f fs g old new y holds is h e = added test f fs g old new h (e ∙ ap (λ x. old ++ x ∷ []) is ∙ ap (λ (b : Bool). old ++ only b (f g.parts)) (sym holds))

-- ---- the first start

first_joined : (xs ys : List ℕ) → slice_get (xs ++ ys) 0 ≡ started (slice_get xs 0) ys
first_joined [] ys = refl
first_joined (x ∷ xs) ys = refl

pub start_added : (test : Field → Bool) (f : List Marked → ℕ) (fs : List Field) (g : Field) (old new : Option ℕ) → old ≡ slice_get (map f (parts_of test fs)) 0 → new ≡ started old (only (test g) (f g.parts))
    → new ≡ slice_get (map f (parts_of test (fs ++ g ∷ []))) 0
start_added test f fs g old new h e =
    e ∙ ap (λ (o : Option ℕ). started o (only (test g) (f g.parts))) h
    ∙ sym (first_joined (map f (parts_of test fs)) (only (test g) (f g.parts)))
    ∙ ap (λ ys. slice_get ys 0) (sym (one_more test f fs g))

none_started : (o : Option ℕ) → o ≡ started o []
none_started (Some n) = refl
none_started None = refl

pub start_not_added : (test : Field → Bool) (f : List Marked → ℕ) (fs : List Field) (g : Field) (old : Option ℕ) → test g ≡ false → old ≡ slice_get (map f (parts_of test fs)) 0
    → old ≡ slice_get (map f (parts_of test (fs ++ g ∷ []))) 0
start_not_added test f fs g old none h = start_added test f fs g old old h (none_started old ∙ ap (λ (b : Bool). started old (only b (f g.parts))) (sym none))

-- ---- fields that define nothing in a space

and_true : (b : Bool) → (b && true) ≡ b
and_true true = refl
and_true false = refl

and_false : (b : Bool) → (b && false) ≡ false
and_false true = refl
and_false false = refl

abbrev defines_by : Space → FieldKind → Bool
defines_by s kinds.Type = same_space s spaces.Type
defines_by s kinds.Func = same_space s spaces.Func
defines_by s kinds.Table = same_space s spaces.Table
defines_by s kinds.Memory = same_space s spaces.Memory
defines_by s kinds.Global = same_space s spaces.Global
defines_by s kinds.Elem = same_space s spaces.Elem
defines_by s kinds.Data = same_space s spaces.Data
defines_by s _ = false

defines_of_kind : (s : Space) (kind : FieldKind) (at : ℕ) (ms : List Marked) → defines_in s (record { kind = kind; at = at; parts = ms }) ≡ defines_by s kind
defines_of_kind s kinds.Type at ms = and_true (same_space s spaces.Type)
defines_of_kind s kinds.Import at ms = and_false (enters s (record { kind = kinds.Import; at = at; parts = ms }))
defines_of_kind s kinds.Func at ms = and_true (same_space s spaces.Func)
defines_of_kind s kinds.Table at ms = and_true (same_space s spaces.Table)
defines_of_kind s kinds.Memory at ms = and_true (same_space s spaces.Memory)
defines_of_kind s kinds.Global at ms = and_true (same_space s spaces.Global)
defines_of_kind s kinds.Export at ms = refl
defines_of_kind s kinds.Start at ms = refl
defines_of_kind s kinds.Elem at ms = and_true (same_space s spaces.Elem)
defines_of_kind s kinds.Data at ms = and_true (same_space s spaces.Data)

defines_none : (s : Space) (g : Field) → defines_by s g.kind ≡ false → defines_in s g ≡ false
defines_none s g e = defines_of_kind s g.kind g.at g.parts ∙ e

pub function_defined : (g : Field) → g.kind ≡ kinds.Func → defines_in spaces.Func g ≡ true
function_defined g e = defines_of_kind spaces.Func g.kind g.at g.parts ∙ ap (defines_by spaces.Func) e

-- ---- fields of other kinds

abbrev pub is_described : FieldKind → Bool
is_described kinds.Import = true
is_described kinds.Table = true
is_described kinds.Memory = true
is_described kinds.Global = true
is_described _ = false

abbrev pub is_listed : FieldKind → Bool
is_listed kinds.Export = true
is_listed kinds.Start = true
is_listed kinds.Elem = true
is_listed kinds.Data = true
is_listed _ = false

record NotDescribed (kind : FieldKind) : Type 0 where
  imports : is_import kind ≡ false
  tables : defines_by spaces.Table kind ≡ false
  memories : defines_by spaces.Memory kind ≡ false
  globals : defines_by spaces.Global kind ≡ false

not_described : (kind : FieldKind) → is_described kind ≡ false → NotDescribed kind
not_described kinds.Import e = absurd cc
not_described kinds.Table e = absurd cc
not_described kinds.Memory e = absurd cc
not_described kinds.Global e = absurd cc
not_described kind e = record { imports = refl; tables = refl; memories = refl; globals = refl }

record NotListed (kind : FieldKind) : Type 0 where
  exports : is_export kind ≡ false
  start : is_start kind ≡ false
  elements : defines_by spaces.Elem kind ≡ false
  segments : defines_by spaces.Data kind ≡ false

not_listed : (kind : FieldKind) → is_listed kind ≡ false → NotListed kind
not_listed kinds.Export e = absurd cc
not_listed kinds.Start e = absurd cc
not_listed kinds.Elem e = absurd cc
not_listed kinds.Data e = absurd cc
not_listed kind e = record { exports = refl; start = refl; elements = refl; segments = refl }

no_function : (kind : FieldKind) → is_function kind ≡ false → defines_by spaces.Func kind ≡ false
no_function kinds.Func e = absurd cc
no_function kind e = refl

pub described_stay : (names_of : Space → Names) (l : Described) (fs : List Field) (g : Field) → is_described g.kind ≡ false → HasDescribed names_of l fs → HasDescribed names_of l (fs ++ g ∷ [])
described_stay names_of l fs g e h =
    let no = not_described g.kind e in
    record {
      imports = not_added (λ f. is_import f.kind) (import_of names_of) fs g _ no.imports h.imports;
      tables = not_added (defines_in spaces.Table) limits_in fs g _ (defines_none spaces.Table g no.tables) h.tables;
      memories = not_added (defines_in spaces.Memory) limits_in fs g _ (defines_none spaces.Memory g no.memories) h.memories;
      globals = not_added (defines_in spaces.Global) (global_of names_of) fs g _ (defines_none spaces.Global g no.globals) h.globals;
    }

pub listed_stay : (names_of : Space → Names) (l : Listed) (fs : List Field) (g : Field) → is_listed g.kind ≡ false → HasListed names_of l fs → HasListed names_of l (fs ++ g ∷ [])
listed_stay names_of l fs g e h =
    let no = not_listed g.kind e in
    record {
      exports = not_added (λ f. is_export f.kind) (export_of names_of) fs g _ no.exports h.exports;
      start = start_not_added (λ f. is_start f.kind) (first_used names_of spaces.Func) fs g l.start no.start h.start;
      elements = not_added (defines_in spaces.Elem) (element_of names_of) fs g _ (defines_none spaces.Elem g no.elements) h.elements;
      segments = not_added (defines_in spaces.Data) (segment_of names_of) fs g _ (defines_none spaces.Data g no.segments) h.segments;
    }

pub functions_stay : (names_of : Space → Names) (types : List FunctionType) (l : Functions) (fs : List Field) (g : Field) → is_function g.kind ≡ false → HasFunctions names_of types l fs
    → HasFunctions names_of types l (fs ++ g ∷ [])
functions_stay names_of types l fs g e h =
    let no = defines_none spaces.Func g (no_function g.kind e) in
    record {
      types = not_added (defines_in spaces.Func) (function_type_in names_of) fs g _ no h.types;
      bodies = not_added (defines_in spaces.Func) (body_of names_of types) fs g _ no h.bodies;
    }
