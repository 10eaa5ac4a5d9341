-- Fields, one token after another: which are whole, which one stands open, and what adds up along them.
use Rattle.std.proofs.Common.{◌≡◌, ℕ, ◌+◌, Bool, true, false, ◌&&◌, ◌||◌, not, if◌then◌else◌, List, [], ◌∷◌, ◌++◌, map, length, nat_le, nat_lt, filter, flat_map, Option, Some, None, refl, sym, ap, ◌∙◌, arith, append_assoc}
use Rattle.std.specs.Str.{is_utf8}
use Rattle.std.proofs.lemmas.List.{map-append}
use Rattle.std.proofs.lemmas.List.Elements.{filter-append}
use Rattle.std.proofs.lemmas.Grind.{flat_map-append}
use Rattle.wasm_lang.specs.Limits.{most_entries}
use Rattle.wasm_lang.specs.Modules.{FunctionType}
use Rattle.wat_lang.specs.declared.parts.Space.{Space}
use Rattle.wat_lang.specs.declared.parts.Space.TheVariants as spaces
use Rattle.wat_lang.specs.declared.parts.FieldKind.{FieldKind}
use Rattle.wat_lang.specs.declared.fault.Row.TheVariants as rows
use Rattle.wat_lang.specs.Numbers.{number_of}
use Rattle.wat_lang.specs.Grammar.{Mark, a_field, Marked}
use Rattle.wat_lang.specs.Names.{text_of, same_space, all_with, Field, Cut, cut, cut_at, fields_of, Entry, entry_of, enters, is_import, signature_of, types_of}
use Rattle.wat_lang.specs.Modules.{natural_or_0, parts_of, own_of}
use Rattle.wat_lang.specs.Rows.{Refusal, where_holds, is_name, utf8_rows, is_table_minimum, entry_rows, defines, starts, order_rows, entries_in, entries_from}
use Rattle.wat_laws_kept.specs.FieldByField.{is_field, no_field, Stands, with_part, begun_at, defined_by, started_by}

-- ---- marks without a field

pub false_and_true : (x y : Bool) → (not x && y) ≡ true → (x ≡ false) × (y ≡ true)
false_and_true true y e = absurd cc
false_and_true false y e = (refl, e)

goes_on_at : (m : Marked) (rest : Cut) (k : Mark) → is_field k ≡ false → cut_at m rest k ≡ (m ∷ rest.0, rest.1)
goes_on_at m rest (a_field kind) e = absurd cc
goes_on_at m rest k e = refl

no_cut : (ms : List Marked) → no_field ms ≡ true → cut ms ≡ (ms, [])
no_cut [] e = refl
no_cut (m ∷ ms) e =
    let w = false_and_true (is_field m.mark) (no_field ms) e in
    ap (λ (c : Cut). cut_at m c m.mark) (no_cut ms w.1) ∙ goes_on_at m (ms, []) m.mark w.0

pub no_fields_in : (ms : List Marked) → no_field ms ≡ true → fields_of ms ≡ []
no_fields_in ms e = ap (λ (c : Cut). c.1) (no_cut ms e)

pub no_field_more : (ms : List Marked) (m : Marked) → no_field ms ≡ true → is_field m.mark ≡ false → no_field (ms ++ m ∷ []) ≡ true
no_field_more [] m e f = ap (λ (b : Bool). not b && true) f
no_field_more (n ∷ ns) m e f =
    let w = false_and_true (is_field n.mark) (no_field ns) e in
    ap (λ (b : Bool). not b && no_field (ns ++ m ∷ [])) w.0 ∙ no_field_more ns m w.1 f

-- ---- the field that stands open

-- Where a field begins all before it is whole.
cut_joined : (a b : List Marked) → (cut b).0 ≡ [] → cut (a ++ b) ≡ ((cut a).0, (cut a).1 ++ (cut b).1)
cut_joined [] b e = let behind : List Marked → Cut = λ xs. (xs, (cut b).1) in ap behind e
cut_joined (m ∷ ms) b e = ap (λ (c : Cut). cut_at m c m.mark) (cut_joined ms b e) ∙ by m.mark
  where
    by : (k : Mark) → cut_at m ((cut ms).0, (cut ms).1 ++ (cut b).1) k ≡ ((cut_at m (cut ms) k).0, (cut_at m (cut ms) k).1 ++ (cut b).1)
    by (a_field kind) = refl
    by k = refl

open_cut : {ms : List Marked} {fs : List Field} {f : Field} → (s : Stands ms fs f) → cut (s.first ∷ f.parts) ≡ ([], f ∷ [])
open_cut {f = f} s =
    let at_place : ℕ → Cut = λ at. ([], record { kind = f.kind; at = at; parts = f.parts } ∷ []) in
    ap (λ (c : Cut). cut_at s.first c s.first.mark) (no_cut f.parts s.inside)
    ∙ ap (λ (k : Mark). cut_at s.first (f.parts, []) k) s.is_first
    ∙ ap at_place s.there

pub fields_standing : {ms : List Marked} {fs : List Field} {f : Field} → Stands ms fs f → fields_of ms ≡ fs ++ f ∷ []
fields_standing {fs = fs} {f = f} s =
    let rest : List Marked = s.first ∷ f.parts in
    ap fields_of s.parts
    ∙ ap (λ (c : Cut). c.1) (cut_joined s.before rest (ap (λ (c : Cut). c.0) (open_cut s)))
    ∙ ap (λ (gs : List Field). gs ++ (cut rest).1) s.whole
    ∙ ap (λ (c : Cut). fs ++ c.1) (open_cut s)

pub stands_longer : {ms : List Marked} {fs : List Field} {f : Field} (m : Marked) → Stands ms fs f → is_field m.mark ≡ false → Stands (ms ++ m ∷ []) fs (with_part f m)
stands_longer {f = f} m s e = record {
  before = s.before;
  first = s.first;
  is_first = s.is_first;
  there = s.there;
  parts = ap (λ xs. xs ++ m ∷ []) s.parts ∙ append_assoc s.before (s.first ∷ f.parts) (m ∷ []);
  inside = no_field_more f.parts m s.inside e;
  whole = s.whole;
}

begun_behind : (ms : List Marked) (fs : List Field) (m : Marked) (kind : FieldKind) → fields_of ms ≡ fs → m.mark ≡ a_field kind → Stands (ms ++ m ∷ []) fs (begun_at kind m)
begun_behind ms fs m kind whole e = record { before = ms; first = m; is_first = e; there = refl; parts = refl; inside = refl; whole = whole }

pub stands_next : {ms : List Marked} {fs : List Field} {f : Field} (m : Marked) (kind : FieldKind) → Stands ms fs f → m.mark ≡ a_field kind → Stands (ms ++ m ∷ []) (fs ++ f ∷ []) (begun_at kind m)
stands_next {ms = ms} {fs = fs} {f = f} m kind s e = begun_behind ms (fs ++ f ∷ []) m kind (fields_standing s) e

pub stands_first : (ms : List Marked) (m : Marked) (kind : FieldKind) → no_field ms ≡ true → m.mark ≡ a_field kind → Stands (ms ++ m ∷ []) [] (begun_at kind m)
stands_first ms m kind none e = begun_behind ms [] m kind (no_fields_in ms none) e

-- ---- what marks say adds up

pub all_joined : (test : Mark → Bool) (a b : List Marked) → all_with test (a ++ b) ≡ all_with test a ++ all_with test b
all_joined test a b = filter-append (λ (m : Marked). test m.mark) a b

pub utf8_joined : (a b : List Marked) → utf8_rows (a ++ b) ≡ utf8_rows a ++ utf8_rows b
utf8_joined a b =
    let row : Marked → List Refusal = λ m. where_holds (not (is_utf8 (text_of m))) rows.Utf8 m.token.at in
    ap (flat_map row) (all_joined is_name a b) ∙ flat_map-append row (all_with is_name a) (all_with is_name b)

pub entry_rows_joined : (a b : List Marked) → entry_rows (a ++ b) ≡ entry_rows a ++ entry_rows b
entry_rows_joined a b =
    let row : Marked → List Refusal = λ m. where_holds (nat_lt most_entries (natural_or_0 (number_of (text_of m)))) rows.Limit m.token.at in
    ap (flat_map row) (all_joined is_table_minimum a b) ∙ flat_map-append row (all_with is_table_minimum a) (all_with is_table_minimum b)

-- ---- what fields say adds up

pub parts_joined : (test : Field → Bool) (a b : List Field) → parts_of test (a ++ b) ≡ parts_of test a ++ parts_of test b
parts_joined test a b =
    let parts : Field → List Marked = λ f. f.parts in
    ap (map parts) (filter-append test a b) ∙ map-append parts (filter test a) (filter test b)

pub own_joined : (a b : List Field) (s : Space) → own_of (a ++ b) s ≡ own_of a s ++ own_of b s
own_joined a b s = parts_joined (λ f. enters s f && not (is_import f.kind)) a b

pub types_joined : (a b : List Field) → types_of (a ++ b) ≡ types_of a ++ types_of b
types_joined a b =
    let type : Field → FunctionType = λ f. signature_of f.parts in
    ap (map type) (filter-append (enters spaces.Type) a b) ∙ map-append type (filter (enters spaces.Type) a) (filter (enters spaces.Type) b)

pub order_joined : (defined started : Bool) (a b : List Field)
    → order_rows defined started (a ++ b) ≡ order_rows defined started a ++ order_rows (defined_by defined a) (started_by started a) b
order_joined defined started [] b = refl
order_joined defined started (f ∷ fs) b =
    let here : List Refusal = where_holds ((is_import f.kind && defined) || (starts f.kind && started)) rows.Order f.at in
    let d : Bool = defined || defines f.kind in
    let s : Bool = started || starts f.kind in
    ap (λ xs. here ++ xs) (order_joined d s fs b)
    ∙ sym (append_assoc here (order_rows d s fs) (order_rows (defined_by d fs) (started_by s fs) b))

pub entries_joined : (s : Space) (a b : List Field) → entries_in s (a ++ b) ≡ entries_in s a ++ entries_in s b
entries_joined s [] b = refl
entries_joined s (f ∷ fs) b =
    let put : Option Entry → List Entry = λ o. elim o [ None ↦ [] | Some e ↦ if same_space s e.space then e ∷ [] else [] ] in
    ap (λ xs. put (entry_of f) ++ xs) (entries_joined s fs b)
    ∙ sym (append_assoc (put (entry_of f)) (entries_in s fs) (entries_in s b))

pub counts_joined : (most n : ℕ) (a b : List Entry) → entries_from most n (a ++ b) ≡ entries_from most n a ++ entries_from most (n + length a) b
counts_joined most n [] b = let same : n ≡ n + length {A = Entry} [] = omega arith in ap (λ (k : ℕ). entries_from most k b) same
counts_joined most n (e ∷ es) b =
    let here : List Refusal = where_holds (nat_le most n) rows.Limit e.at in
    let same : n + 1 + length es ≡ n + length (e ∷ es) = omega arith in
    ap (λ xs. here ++ xs) (counts_joined most (n + 1) es b)
    ∙ sym (append_assoc here (entries_from most (n + 1) es) (entries_from most (n + 1 + length es) b))
    ∙ ap (λ (k : ℕ). entries_from most n (e ∷ es) ++ entries_from most k b) same
