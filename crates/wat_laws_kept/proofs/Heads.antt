-- What the heads alone say: the ids that a field binds, what it puts into spaces, and the head of a function.
use Rattle.std.proofs.Common.{◌≡◌, ℕ, Bool, true, false, ◌&&◌, cond, List, [], ◌∷◌, ◌++◌, map, Option, Some, None, refl, sym, ap, ◌∙◌}
use Rattle.std.specs.Prelude.{option_map, option_and_then, unwrap_or}
use Rattle.wasm_lang.specs.Limits.{params_of}
use Rattle.wasm_lang.specs.Modules.{FunctionType}
use Rattle.wat_lang.specs.declared.parts.Space.{Space}
use Rattle.wat_lang.specs.declared.parts.Space.TheVariants as spaces
use Rattle.wat_lang.specs.declared.parts.Part.{Part}
use Rattle.wat_lang.specs.declared.parts.Part.TheVariants.{Param, Result, Local}
use Rattle.wat_lang.specs.declared.parts.FieldKind.{FieldKind}
use Rattle.wat_lang.specs.declared.parts.FieldKind.TheVariants as kinds
use Rattle.wat_lang.specs.Grammar.{Mark, a_described, binds, a_type_use, a_type, Marked, marked}
use Rattle.wat_lang.specs.Names.{text_of, type_of, same_space, binds_in, is_type_use, types_part, all_with, first_with, Entry, described, described_by, entry_of, enters, Names, index_of, id_bound, types_in, signature_of, id_after, written_ids, type_use, local_names}
use Rattle.wat_lang.specs.Modules.{function_type_in}
use Rattle.wat_lang.specs.Rows.{taken_again, taken_in, head_rows, function_rows, locals_of}
use Rattle.wat_laws_kept.specs.Heads.{is_head, heads, code_after, in_code, heads_lead}
use Rattle.wat_laws_kept.proofs.Fields.{field}
use Rattle.wat_laws_kept.proofs.Rows.{head_by}
use Rattle.wat_laws_kept.proofs.FieldByField.{all_joined, false_and_true}

pub heads_joined : (a b : List Marked) → heads (a ++ b) ≡ heads a ++ heads b
heads_joined a b = all_joined is_head a b

-- ---- what is found

-- the first marks are the others without some that are no heads
data Passes : List Marked → List Marked → Type 0 where
  none : Passes [] []
  keeps : {ks ms : List Marked} → (m : Marked) → Passes ks ms → Passes (m ∷ ks) (m ∷ ms)
  passes : {ks ms : List Marked} → (m : Marked) → is_head m.mark ≡ false → Passes ks ms → Passes ks (m ∷ ms)

heads_pass : (ms : List Marked) → Passes (heads ms) ms
heads_pass [] = none
heads_pass (m ∷ ms) = by (heads_pass ms) (is_head m.mark) refl
  where
    by : Passes (heads ms) ms → (b : Bool) → is_head m.mark ≡ b → Passes (cond b (m ∷ heads ms) (heads ms)) (m ∷ ms)
    by below true q = keeps m below
    by below false q = passes m q below

-- only heads pass the test
abbrev OnlyHeads : (Mark → Bool) → Type 0
OnlyHeads test = (k : Mark) → is_head k ≡ false → test k ≡ false

passed_all : (test : Mark → Bool) → OnlyHeads test → {ks ms : List Marked} → Passes ks ms → all_with test ks ≡ all_with test ms
passed_all test only none = refl
passed_all test only (keeps m p) = ap (λ (xs : List Marked). cond (test m.mark) (m ∷ xs) xs) (passed_all test only p)
passed_all test only (passes {ms = ms} m e p) = passed_all test only p ∙ ap (λ (b : Bool). cond b (m ∷ all_with test ms) (all_with test ms)) (sym (only m.mark e))

passed_first : (test : Mark → Bool) → OnlyHeads test → {ks ms : List Marked} → Passes ks ms → first_with test ks ≡ first_with test ms
passed_first test only none = refl
passed_first test only (keeps m p) = ap (λ (x : Option Marked). cond (test m.mark) (Some m) x) (passed_first test only p)
passed_first test only (passes {ms = ms} m e p) = passed_first test only p ∙ ap (λ (b : Bool). cond b (Some m) (first_with test ms)) (sym (only m.mark e))

-- ---- ids

only_label : (s t : Space) → is_head (binds s) ≡ true → is_head (binds t) ≡ false → same_space s t ≡ false
only_label spaces.Label t e f = absurd cc
only_label s spaces.Label e f = refl
only_label s t e f = absurd cc

only_bound : (s : Space) → is_head (binds s) ≡ true → OnlyHeads (binds_in s)
only_bound s e (binds t) f = only_label s t e f
only_bound s e k f = refl

pub bound_of_heads : (s : Space) → is_head (binds s) ≡ true → (ms : List Marked) → all_with (binds_in s) (heads ms) ≡ all_with (binds_in s) ms
bound_of_heads s e ms = passed_all (binds_in s) (only_bound s e) (heads_pass ms)

pub id_of_heads : (s : Space) → is_head (binds s) ≡ true → (ms : List Marked) → id_bound s (heads ms) ≡ id_bound s ms
id_of_heads s e ms = ap (λ (o : Option Marked). option_map text_of o) (passed_first (binds_in s) (only_bound s e) (heads_pass ms))

pub taken_of_heads : (s : Space) → is_head (binds s) ≡ true → (ms : List Marked) → taken_in s (heads ms) ≡ taken_in s ms
taken_of_heads s e ms = ap (taken_again []) (bound_of_heads s e ms)

-- ---- the head of a function

only_types : (p : Part) → OnlyHeads (types_part p)
only_types p (a_type q) e = absurd cc
only_types p k e = refl

only_type_use : OnlyHeads is_type_use
only_type_use a_type_use e = absurd cc
only_type_use k e = refl

pub typed_of_heads : (p : Part) (ms : List Marked) → all_with (types_part p) (heads ms) ≡ all_with (types_part p) ms
typed_of_heads p ms = passed_all (types_part p) (only_types p) (heads_pass ms)

pub types_of_heads : (p : Part) (ms : List Marked) → types_in p (heads ms) ≡ types_in p ms
types_of_heads p ms = ap (map type_of) (typed_of_heads p ms)

pub signature_of_heads : (ms : List Marked) → signature_of (heads ms) ≡ signature_of ms
signature_of_heads ms = rw (types_of_heads Param ms, types_of_heads Result ms) refl

written_past : (p : Part) (id : Option (List ℕ)) (m : Marked) (ms : List Marked) → is_head m.mark ≡ false → written_ids p id (m ∷ ms) ≡ written_ids p id ms
written_past p id m ms e = by m.mark e
  where
    by : (k : Mark) → is_head k ≡ false → written_ids p id (marked k m.token ∷ ms) ≡ written_ids p id ms
    by (binds spaces.Label) f = refl
    by (binds s) f = absurd cc
    by (a_type q) f = absurd cc
    by k f = refl

passed_written : (p : Part) (id : Option (List ℕ)) → {ks ms : List Marked} → Passes ks ms → written_ids p id ks ≡ written_ids p id ms
passed_written p id none = refl
passed_written p id (keeps m d) =
    ap (λ (ns : Names). let x : Names = elim (types_part p m.mark) [ true ↦ id ∷ ns | false ↦ ns ] in x) (passed_written p (id_after id m) d)
passed_written p id (passes {ms = ms} m e d) = passed_written p id d ∙ sym (written_past p id m ms e)

pub written_of_heads : (p : Part) (id : Option (List ℕ)) (ms : List Marked) → written_ids p id (heads ms) ≡ written_ids p id ms
written_of_heads p id ms = passed_written p id (heads_pass ms)

pub local_names_of_heads : (params : ℕ) (ms : List Marked) → local_names params (heads ms) ≡ local_names params ms
local_names_of_heads params ms = rw (written_of_heads Param None ms, written_of_heads Local None ms) refl

pub type_use_of_heads : (types : Names) (ms : List Marked) → type_use types (heads ms) ≡ type_use types ms
type_use_of_heads types ms = ap (λ (o : Option Marked). option_and_then (λ m. index_of types (text_of m)) o) (passed_first is_type_use only_type_use (heads_pass ms))

pub function_type_of_heads : (names : Space → Names) (ms : List Marked) → function_type_in names (heads ms) ≡ function_type_in names ms
function_type_of_heads names ms = ap (λ (o : Option ℕ). unwrap_or o 0) (type_use_of_heads (names spaces.Type) ms)

-- ---- rows

pub head_rows_of_heads : (names : Space → Names) (types : List FunctionType) (at : ℕ) (ms : List Marked) → head_rows names types at (heads ms) ≡ head_rows names types at ms
head_rows_of_heads names types at ms = head_by names types at (heads ms) ms (type_use_of_heads (names spaces.Type) ms) (signature_of_heads ms)

pub function_rows_of_heads : (names : Space → Names) (types : List FunctionType) (at : ℕ) (ms : List Marked) → function_rows names types at (heads ms) ≡ function_rows names types at ms
function_rows_of_heads names types at ms = rw (head_rows_of_heads names types at ms, function_type_of_heads names ms, typed_of_heads Local ms) refl

-- ---- fields

described_past : (m : Marked) (o : Option Entry) (k : Mark) → is_head k ≡ false → described_by m o k ≡ o
described_past m o (a_described s) e = absurd cc
described_past m o k e = refl

passed_described : {ks ms : List Marked} → Passes ks ms → described ks ≡ described ms
passed_described none = refl
passed_described (keeps m p) = ap (λ o. described_by m o m.mark) (passed_described p)
passed_described (passes {ms = ms} m e p) = passed_described p ∙ sym (described_past m (described ms) m.mark e)

pub described_of_heads : (ms : List Marked) → described (heads ms) ≡ described ms
described_of_heads ms = passed_described (heads_pass ms)

pub entry_of_heads : (kind : FieldKind) (at : ℕ) (ms : List Marked) → entry_of (field kind at (heads ms)) ≡ entry_of (field kind at ms)
entry_of_heads kinds.Import at ms = described_of_heads ms
entry_of_heads kind at ms = refl

pub enters_of_heads : (s : Space) (kind : FieldKind) (at : ℕ) (ms : List Marked) → enters s (field kind at (heads ms)) ≡ enters s (field kind at ms)
enters_of_heads s kind at ms = rw (enters, entry_of_heads kind at ms) refl

pub locals_of_heads : (names : Space → Names) (types : List FunctionType) (kind : FieldKind) (at : ℕ) (ms : List Marked)
    → locals_of names types (field kind at (heads ms)) ≡ locals_of names types (field kind at ms)
locals_of_heads names types kinds.Func at ms =
    rw (function_type_of_heads names ms, local_names_of_heads (params_of types (function_type_in names ms)) ms) refl
locals_of_heads names types kind at ms = refl

-- ---- behind code

pub no_head_behind_code : (b : Bool) (ms : List Marked) (m : Marked) → heads_lead b (ms ++ m ∷ []) ≡ true → in_code b ms ≡ true → is_head m.mark ≡ false
no_head_behind_code b [] m e c = sym (ap (λ (x : Bool). x && is_head m.mark) c) ∙ (false_and_true (b && is_head m.mark) true e).0
no_head_behind_code b (n ∷ ns) m e c =
    let next : Bool = code_after b n.mark in
    no_head_behind_code next ns m (false_and_true (b && is_head n.mark) (heads_lead next (ns ++ m ∷ [])) e).1 c

pub in_code_more : (b : Bool) (ms : List Marked) (m : Marked) → in_code b (ms ++ m ∷ []) ≡ code_after (in_code b ms) m.mark
in_code_more b [] m = refl
in_code_more b (n ∷ ns) m = in_code_more (code_after b n.mark) ns m
