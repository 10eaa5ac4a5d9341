-- Counts that no row refuses are within the limits, and what the fields of a module put into its spaces is counted.
use Rattle.std.proofs.Common.{◌≡◌, ℕ, ◌+◌, ◌≤◌, Bool, true, false, ◌&&◌, not, cond, List, [], ◌∷◌, ◌++◌, map, length, Option, Some, None, refl, sym, ap, ◌∙◌, arith}
use Rattle.std.specs.Prelude.{filter, nat_le, if◌then◌else◌}
use Rattle.std.specs.List.{AllByRecursion}
use Rattle.std.proofs.lemmas.Bool.{leb-false}
use Rattle.wasm_lang.specs.declared.types.ImportKind.{ImportKind}
use Rattle.wasm_lang.specs.declared.types.ImportKind.TheVariants as imports
use Rattle.wasm_lang.specs.Limits.{function_imports, global_imports}
use Rattle.wasm_lang.specs.Modules.{Imported}
use Rattle.wat_lang.specs.declared.parts.Space.{Space}
use Rattle.wat_lang.specs.declared.parts.Space.TheVariants as spaces
use Rattle.wat_lang.specs.declared.parts.FieldKind.{FieldKind}
use Rattle.wat_lang.specs.declared.parts.FieldKind.TheVariants as kinds
use Rattle.wat_lang.specs.declared.fault.Row.TheVariants as rows
use Rattle.wat_lang.specs.Grammar.{Marked}
use Rattle.wat_lang.specs.Names.{same_space, Names, Field, Entry, described, entry_of, enters, is_import}
use Rattle.wat_lang.specs.Modules.{limits_in, global_type_in, function_type_in, import_kind_in, is_module_name, is_field_name, string_in, parts_of, own_of, import_of}
use Rattle.wat_lang.specs.Rows.{where_holds, from_count, entries_in, entries_from}
use Rattle.wat_laws_read.proofs.Lists.{empty_parts, not_held}
use Rattle.wat_laws_read.proofs.Spelled.{DescribesWell, HasForm, FieldHolds}

-- ---- counts up to a limit

pub entries_few : (most before : ℕ) (es : List Entry) → entries_from most before es ≡ [] → before ≤ most → before + length es ≤ most
entries_few most before [] e h = omega (arith, h)
entries_few most before (x ∷ es) e h =
    let parts = empty_parts (where_holds (nat_le most before) rows.Limit x.at) (entries_from most (before + 1) es) e in
    let more = leb-false most before (not_held (nat_le most before) rows.Limit x.at parts.0) in
    let rest = entries_few most (before + 1) es parts.1 (omega (arith, more)) in
    omega (arith, rest)

pub marks_few : (most before : ℕ) (ms : List Marked) → from_count most before ms ≡ [] → before ≤ most → before + length ms ≤ most
marks_few most before [] e h = omega (arith, h)
marks_few most before (m ∷ ms) e h =
    let parts = empty_parts (where_holds (nat_le most before) rows.Limit m.token.at) (from_count most (before + 1) ms) e in
    let more = leb-false most before (not_held (nat_le most before) rows.Limit m.token.at parts.0) in
    let rest = marks_few most (before + 1) ms parts.1 (omega (arith, more)) in
    omega (arith, rest)

-- ---- what a field puts into a space

abbrev pub entered : Space → Option Entry → Bool
entered s None = false
entered s (Some e) = same_space s e.space

abbrev added : Space → Option Entry → List Entry
added s None = []
added s (Some e) = if same_space s e.space then e ∷ [] else []

pub enters_is : (s : Space) (f : Field) (o : Option Entry) → entry_of f ≡ o → enters s f ≡ entered s o
enters_is s f None e = rw (e, enters) refl
enters_is s f (Some x) e = rw (e, enters) refl

entries_is : (s : Space) (f : Field) (fs : List Field) (o : Option Entry) → entry_of f ≡ o → entries_in s (f ∷ fs) ≡ added s o ++ entries_in s fs
entries_is s f fs None e = rw (e, entries_in) refl
entries_is s f fs (Some x) e = rw (e, entries_in) refl

pub count_entries : (s : Space) (fs : List Field) → length (filter (enters s) fs) ≡ length (entries_in s fs)
count_entries s [] = refl
count_entries s (f ∷ fs) = by (count_entries s fs) (entry_of f) refl
  where
    first : Bool → ℕ
    first b = length (cond b (f ∷ filter (enters s) fs) (filter (enters s) fs))

    by : length (filter (enters s) fs) ≡ length (entries_in s fs) → (o : Option Entry) → entry_of f ≡ o → length (filter (enters s) (f ∷ fs)) ≡ length (entries_in s (f ∷ fs))
    by below None e = ap first (enters_is s f None e) ∙ below ∙ ap length (sym (entries_is s f fs None e))
    by below (Some x) e = ap first (enters_is s f (Some x) e) ∙ under (same_space s x.space) ∙ ap length (sym (entries_is s f fs (Some x) e))
      where
        under : (b : Bool) → first b ≡ length ((if b then x ∷ [] else []) ++ entries_in s fs)
        under true = omega (arith, below)
        under false = below

-- ---- imports

abbrev pub kind_by : (Space → Names) → List Marked → Space → ImportKind
kind_by names parts spaces.Table = imports.Table (limits_in parts)
kind_by names parts spaces.Memory = imports.Memory (limits_in parts)
kind_by names parts spaces.Global = imports.Global (global_type_in parts)
kind_by names parts _ = imports.Func (function_type_in names parts)

pub import_is : (names : Space → Names) (parts : List Marked) (s : Space) (at : ℕ) → described parts ≡ Some (record { space = s; at = at }) → import_kind_in names parts ≡ kind_by names parts s
import_is names parts spaces.Type at e = rw (e, import_kind_in) refl
import_is names parts spaces.Func at e = rw (e, import_kind_in) refl
import_is names parts spaces.Table at e = rw (e, import_kind_in) refl
import_is names parts spaces.Memory at e = rw (e, import_kind_in) refl
import_is names parts spaces.Global at e = rw (e, import_kind_in) refl
import_is names parts spaces.Local at e = rw (e, import_kind_in) refl
import_is names parts spaces.Label at e = rw (e, import_kind_in) refl
import_is names parts spaces.Elem at e = rw (e, import_kind_in) refl
import_is names parts spaces.Data at e = rw (e, import_kind_in) refl

abbrev pub with_kind : List Marked → ImportKind → Imported
with_kind parts k = record { module_name = string_in is_module_name parts; name = string_in is_field_name parts; kind = k }

-- ---- functions and globals with the imported ones

abbrev one_function : ImportKind → ℕ
one_function (imports.Func t) = 1
one_function k = 0

abbrev one_global : ImportKind → ℕ
one_global (imports.Global t) = 1
one_global k = 0

abbrev as_number : Bool → ℕ
as_number true = 1
as_number false = 0

-- how many imports are of a kind, and which space they enter
record Counts : Type 0 where
  space : Space
  count : List Imported → ℕ
  one : ImportKind → ℕ
  none : count [] ≡ 0
  more : (parts : List Marked) (k : ImportKind) (is : List Imported) → count (with_kind parts k ∷ is) ≡ one k + count is
  fits : (names : Space → Names) (parts : List Marked) (s : Space) → DescribesWell s parts → one (kind_by names parts s) ≡ as_number (same_space space s)

function_counts : Counts
function_counts = record { space = spaces.Func; count = function_imports; one = one_function; none = refl; more = more; fits = fits }
  where
    more : (parts : List Marked) (k : ImportKind) (is : List Imported) → function_imports (with_kind parts k ∷ is) ≡ one_function k + function_imports is
    more parts (imports.Func t) is = refl
    more parts (imports.Table l) is = refl
    more parts (imports.Memory l) is = refl
    more parts (imports.Global t) is = refl

    fits : (names : Space → Names) (parts : List Marked) (s : Space) → DescribesWell s parts → one_function (kind_by names parts s) ≡ as_number (same_space spaces.Func s)
    fits names parts spaces.Func d = refl
    fits names parts spaces.Table d = refl
    fits names parts spaces.Memory d = refl
    fits names parts spaces.Global d = refl
    fits names parts _ d = absurd d

global_counts : Counts
global_counts = record { space = spaces.Global; count = global_imports; one = one_global; none = refl; more = more; fits = fits }
  where
    more : (parts : List Marked) (k : ImportKind) (is : List Imported) → global_imports (with_kind parts k ∷ is) ≡ one_global k + global_imports is
    more parts (imports.Func t) is = refl
    more parts (imports.Table l) is = refl
    more parts (imports.Memory l) is = refl
    more parts (imports.Global t) is = refl

    fits : (names : Space → Names) (parts : List Marked) (s : Space) → DescribesWell s parts → one_global (kind_by names parts s) ≡ as_number (same_space spaces.Global s)
    fits names parts spaces.Func d = refl
    fits names parts spaces.Table d = refl
    fits names parts spaces.Memory d = refl
    fits names parts spaces.Global d = refl
    fits names parts _ d = absurd d

module _ (c : Counts) (names : Space → Names) where
  abbrev brought : List Field → List Imported
  brought fs = map (import_of names) (parts_of (λ f. is_import f.kind) fs)

  abbrev Counted : List Field → Type 0
  Counted fs = c.count (brought fs) + length (own_of fs c.space) ≡ length (filter (enters c.space) fs)

  abbrev own_with : Field → List Field → Bool → ℕ
  own_with f fs b = length (map (λ (g : Field). g.parts) (cond b (f ∷ filter (λ g. enters c.space g && not (is_import g.kind)) fs) (filter (λ g. enters c.space g && not (is_import g.kind)) fs)))

  abbrev all_with_one : Field → List Field → Bool → ℕ
  all_with_one f fs b = length (cond b (f ∷ filter (enters c.space) fs) (filter (enters c.space) fs))

  counted_import : (at : ℕ) (parts : List Marked) (fs : List Field) → HasForm kinds.Import parts → Counted fs → Counted (record { kind = kinds.Import; at = at; parts = parts } ∷ fs)
  counted_import at parts fs h below =
      let f : Field = record { kind = kinds.Import; at = at; parts = parts } in
      let e = h.0 in
      let a : c.count (brought (f ∷ fs)) ≡ as_number (same_space c.space e.space) + c.count (brought fs) =
      ap (λ (k : ImportKind). c.count (with_kind parts k ∷ brought fs)) (import_is names parts e.space e.at h.1)
      ∙ c.more parts (kind_by names parts e.space) (brought fs) ∙ ap (λ n. n + c.count (brought fs)) (c.fits names parts e.space h.2) in
      let is : enters c.space f ≡ same_space c.space e.space = enters_is c.space f (Some e) h.1 in
      by (same_space c.space e.space) a (ap (λ b. own_with f fs (b && false)) is) (ap (all_with_one f fs) is)
    where
      by : (b : Bool) → c.count (brought (record { kind = kinds.Import; at = at; parts = parts } ∷ fs)) ≡ as_number b + c.count (brought fs)
          → length (own_of (record { kind = kinds.Import; at = at; parts = parts } ∷ fs) c.space) ≡ own_with (record { kind = kinds.Import; at = at; parts = parts }) fs (b && false)
          → length (filter (enters c.space) (record { kind = kinds.Import; at = at; parts = parts } ∷ fs)) ≡ all_with_one (record { kind = kinds.Import; at = at; parts = parts }) fs b
          → Counted (record { kind = kinds.Import; at = at; parts = parts } ∷ fs)
      by true a o f = omega (arith, a, o, f, below)
      by false a o f = omega (arith, a, o, f, below)

  counted_other : (f : Field) (fs : List Field) → is_import f.kind ≡ false → Counted fs → Counted (f ∷ fs)
  counted_other f fs other below =
      let a : c.count (brought (f ∷ fs)) ≡ c.count (brought fs) = ap (λ b. c.count (map (import_of names) (map (λ (g : Field). g.parts) (cond b (f ∷ filter (λ (g : Field). is_import g.kind) fs) (filter (λ (g : Field). is_import g.kind) fs))))) other in
      let o : length (own_of (f ∷ fs) c.space) ≡ own_with f fs (enters c.space f && true) = ap (λ b. own_with f fs (enters c.space f && not b)) other in
      by (enters c.space f) a o refl
    where
      by : (b : Bool) → c.count (brought (f ∷ fs)) ≡ c.count (brought fs) → length (own_of (f ∷ fs) c.space) ≡ own_with f fs (b && true) → length (filter (enters c.space) (f ∷ fs)) ≡ all_with_one f fs b → Counted (f ∷ fs)
      by true a o f = omega (arith, a, o, f, below)
      by false a o f = omega (arith, a, o, f, below)

  counted_field : (k : FieldKind) (at : ℕ) (parts : List Marked) (fs : List Field) → HasForm k parts → Counted fs → Counted (record { kind = k; at = at; parts = parts } ∷ fs)
  counted_field kinds.Import at parts fs h below = counted_import at parts fs h below
  counted_field k at parts fs h below = counted_other (record { kind = k; at = at; parts = parts }) fs refl below

  counted : (fs : List Field) → AllByRecursion FieldHolds fs → Counted fs
  counted [] all = ap (λ n. n + 0) c.none
  counted (f ∷ fs) all = counted_field f.kind f.at f.parts fs (all.0).form (counted fs all.1)

pub functions_counted : (names : Space → Names) (fs : List Field) → AllByRecursion FieldHolds fs
    → function_imports (map (import_of names) (parts_of (λ f. is_import f.kind) fs)) + length (own_of fs spaces.Func) ≡ length (filter (enters spaces.Func) fs)
unfolding function_counts
functions_counted names fs all = counted function_counts names fs all

pub globals_counted : (names : Space → Names) (fs : List Field) → AllByRecursion FieldHolds fs
    → global_imports (map (import_of names) (parts_of (λ f. is_import f.kind) fs)) + length (own_of fs spaces.Global) ≡ length (filter (enters spaces.Global) fs)
unfolding global_counts
globals_counted names fs all = counted global_counts names fs all
