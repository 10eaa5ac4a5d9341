-- How many entries the tables of a translated module have.
use Rattle.std.proofs.Common.{◌≡◌, ℕ, suc, ◌+◌, ◌*◌, ◌≤◌, Bool, true, false, cond, ◌&&◌, not, List, [], ◌∷◌, ◌++◌, length, map, refl, sym, ap, ◌∙◌, subst, arith}
use Rattle.std.specs.Prelude.{if◌then◌else◌, ◌||◌}
use Rattle.std.specs.List.{AllByRecursion}
use Rattle.std.specs.Cmp.Lexicographic.{pointwise}
use Rattle.std.proofs.lemmas.Bool.{and_parts, and_from}
use Rattle.std.proofs.lemmas.List.{length-map}
use Rattle.std.proofs.Math.Nat.{suc-mul, mul-le-mul_right}
use Rattle.wasm_lang.specs.declared.types.ValType.{ValType}
use Rattle.wasm_lang.specs.declared.types.ValType.TheVariants.{I32, I64}
use Rattle.wasm_lang.specs.Modules.{FunctionType, WasmModule}
use Rattle.wasm_lang_valid.specs.Typing.{same}
use Rattle.wasm_lang_valid.specs.Measures.{called_types, same_type, is_among, distinct}
use Rattle.asm_lang.specs.Modules.{Table}
use Rattle.wasm2js_translation.specs.Names.{spelled}
use Rattle.wasm2js_lang.specs.Tables.{MaskedTable, cells_of, masked_from, masked}
use Rattle.wasm2js_lang.proofs.Padded.{cells_are_padded}
use Rattle.wasm2js_translation.specs.Tables.{cell_name, stub_of, cell_count, table_for, tables_for}
use Rattle.wasm2js_laws_acceptance.proofs.ProvidedSizes.{few_cells}
use Rattle.wasm2js_laws_acceptance.proofs.ProvidedTables.{type_is}
use Rattle.wasm2js_laws_acceptance.proofs.ProvidedWithin.{rows_are_within}
use Rattle.wasm2js_laws_acceptance.specs.FunctionsFunctions.{IsSource}
use Rattle.wasm2js_laws_acceptance.proofs.FunctionsLimited.{limited}
use Rattle.wasm2js_laws_acceptance.specs.LimitsLaws.{member_count}

-- ---- no more tables than distinct types that are called

abbrev counted : (later before : Bool) → ℕ → ℕ
counted true b n = n
counted false true n = n
counted false false n = suc n

-- how many of these types, each at its last place, aren't among those before
abbrev fresh : (before : List FunctionType) → List FunctionType → ℕ
fresh before [] = 0
fresh before (t ∷ ts) = counted (is_among t ts) (is_among t before) (fresh before ts)

fresh_few : (ts : List FunctionType) → fresh [] ts ≤ distinct ts
fresh_few [] = omega arith
fresh_few (t ∷ ts) = by (is_among t ts) (fresh_few ts)
  where
    by : (b : Bool) → fresh [] ts ≤ distinct ts → counted b false (fresh [] ts) ≤ cond b (distinct ts) (distinct ts + 1)
    by true h = h
    by false h = omega (arith, h)

or_false : (a : Bool) → (a || false) ≡ a
or_false true = refl
or_false false = refl

or_true : (a : Bool) → (a || true) ≡ true
or_true true = refl
or_true false = refl

or_assoc : (a b c : Bool) → (a || (b || c)) ≡ ((a || b) || c)
or_assoc true b c = refl
or_assoc false b c = refl

more_among : (t x : FunctionType) (ts : List FunctionType) → is_among t (ts ++ x ∷ []) ≡ (is_among t ts || same_type t x)
more_among t x [] = or_false (same_type t x)
more_among t x (u ∷ ts) = ap (λ b. same_type t u || b) (more_among t x ts) ∙ or_assoc (same_type t u) (is_among t ts) (same_type t x)

same_self : (t : ValType) → same t t ≡ true
same_self I32 = refl
same_self I64 = refl

all_self : (ts : List ValType) → pointwise same ts ts ≡ true
all_self [] = refl
all_self (t ∷ ts) = and_from (same t t) (pointwise same ts ts) (same_self t) (all_self ts)

type_self : (t : FunctionType) → same_type t t ≡ true
type_self t = and_from (pointwise same t.params t.params) (pointwise same t.results t.results) (all_self t.params) (all_self t.results)

counted_less : (a b c : Bool) {m n : ℕ} → m ≤ n → counted a (b || c) m ≤ counted a b n
counted_less true b c h = h
counted_less false true c h = h
counted_less false false true h = omega (arith, h)
counted_less false false false h = omega (arith, h)

counted_one : (a b c : Bool) {m n : ℕ} → suc m ≤ n → suc (counted a (b || c) m) ≤ counted a b n
counted_one true b c h = h
counted_one false true c h = h
counted_one false false true h = omega (arith, h)
counted_one false false false h = omega (arith, h)

-- one more before leaves no more
fresh_less : (before : List FunctionType) (x : FunctionType) (ts : List FunctionType) → fresh (before ++ x ∷ []) ts ≤ fresh before ts
fresh_less before x [] = omega arith
fresh_less before x (t ∷ ts) =
    subst (λ b. counted (is_among t ts) b (fresh (before ++ x ∷ []) ts) ≤ counted (is_among t ts) (is_among t before) (fresh before ts)) (sym (more_among t x before))
    (counted_less (is_among t ts) (is_among t before) (same_type t x) (fresh_less before x ts))

abbrev LessBy : (before : List FunctionType) (x t : FunctionType) (ts : List FunctionType) → Bool → Type 0
LessBy before x t ts b = suc (counted (is_among t ts) b (fresh (before ++ x ∷ []) ts)) ≤ counted (is_among t ts) (is_among t before) (fresh before ts)

-- .. and one less where it is one of them that wasn't before
fresh_one : (before : List FunctionType) (x : FunctionType) (ts : List FunctionType) → is_among x ts ≡ true → is_among x before ≡ false → suc (fresh (before ++ x ∷ []) ts) ≤ fresh before ts
fresh_one before x [] h new = absurd (cc h)
fresh_one before x (t ∷ ts) h new = by (same_type x t) refl h (λ e. fresh_one before x ts e new)
  where
    at_last : (a b : Bool) {m n : ℕ} → b ≡ false → (a ≡ true → suc m ≤ n) → m ≤ n → suc (counted a true m) ≤ counted a b n
    at_last true b e f h = f refl
    at_last false true e f h = absurd (cc e)
    at_last false false e f h = omega (arith, h)

    here : x ≡ t → (is_among x ts ≡ true → suc (fresh (before ++ x ∷ []) ts) ≤ fresh before ts) → LessBy before x t ts (is_among t (before ++ x ∷ []))
    here same further =
        let there : is_among t (before ++ x ∷ []) ≡ true = more_among t x before ∙ ap (λ b. is_among t before || b) (ap (λ t. same_type t x) (sym same) ∙ type_self x) ∙ or_true (is_among t before) in
        subst (LessBy before x t ts) (sym there)
        (at_last (is_among t ts) (is_among t before) (ap (λ t. is_among t before) (sym same) ∙ new) (λ e. further (ap (λ x. is_among x ts) same ∙ e)) (fresh_less before x ts))

    by : (s : Bool) → same_type x t ≡ s → (s || is_among x ts) ≡ true → (is_among x ts ≡ true → suc (fresh (before ++ x ∷ []) ts) ≤ fresh before ts) → LessBy before x t ts (is_among t (before ++ x ∷ []))
    by true e h further = here (type_is x t e) further
    by false e h further = subst (LessBy before x t ts) (sym (more_among t x before)) (counted_one (is_among t ts) (is_among t before) (same_type t x) (further h))

not_true : (b : Bool) → not b ≡ true → b ≡ false
not_true true h = absurd (cc h)
not_true false h = refl

module _ (w : WasmModule) where
  abbrev called : List FunctionType
  called = called_types w.types w.bodies

  tables_few : (n : ℕ) (before ts : List FunctionType) → length (masked_from w n before ts) ≤ fresh before called
  tables_few n before [] = omega arith
  tables_few n before (t ∷ ts) = by (is_among t called && not (is_among t before)) refl (tables_few (suc n) (before ++ t ∷ []) ts)
    where
      in_turn : {a b c : ℕ} → a ≤ b → b ≤ c → a ≤ c
      in_turn p q = omega (arith, p, q)

      one_more : {a b c : ℕ} → a ≤ b → suc b ≤ c → suc a ≤ c
      one_more p q = omega (arith, p, q)

      by : (b : Bool) → (is_among t called && not (is_among t before)) ≡ b → length (masked_from w (suc n) (before ++ t ∷ []) ts) ≤ fresh (before ++ t ∷ []) called
          → length (if b then record { function_type = n; cells = cells_of w t } ∷ masked_from w (suc n) (before ++ t ∷ []) ts else masked_from w (suc n) (before ++ t ∷ []) ts) ≤ fresh before called
      by true e h = let p = and_parts (is_among t called) (not (is_among t before)) e in one_more h (fresh_one before t called p.0 (not_true (is_among t before) p.1))
      by false e h = in_turn h (fresh_less before t called)

  -- ---- each has as many cells

  module _ (source : IsSource w) where
    cells_long : (t : FunctionType) → length (cells_of w t) ≡ cell_count w
    cells_long t = (cells_are_padded w t (record { valid = source.whole.is_valid; within = source.within })).long

    abbrev AreLong : List MaskedTable → Type 0
    AreLong ms = AllByRecursion (λ (m : MaskedTable). length m.cells ≡ cell_count w) ms

    all_long : (n : ℕ) (before ts : List FunctionType) → AreLong (masked_from w n before ts)
    all_long n before [] = tt
    all_long n before (t ∷ ts) = by (is_among t called && not (is_among t before)) (all_long (suc n) (before ++ t ∷ []) ts)
      where
        by : (b : Bool) → AreLong (masked_from w (suc n) (before ++ t ∷ []) ts)
            → AreLong (if b then record { function_type = n; cells = cells_of w t } ∷ masked_from w (suc n) (before ++ t ∷ []) ts else masked_from w (suc n) (before ++ t ∷ []) ts)
        by true h = (cells_long t, h)
        by false h = h

    members_long : (m : MaskedTable) → length m.cells ≡ cell_count w → length (table_for w m).members ≡ cell_count w
    members_long m e = length-map m.cells (λ x. spelled (cell_name (stub_of w m) x)) ∙ e

    few : cell_count w ≤ 65536
    few = few_cells w (rows_are_within w source.within)

    tables_short : (ms : List MaskedTable) → AreLong ms → AllByRecursion (λ (t : Table). length t.members ≤ 65536) (map (table_for w) ms)
    tables_short [] h = tt
    tables_short (m ∷ ms) h = (subst (λ n. n ≤ 65536) (sym (members_long m h.0)) few, tables_short ms h.1)

    all_members : (ms : List MaskedTable) → AreLong ms → member_count (map (table_for w) ms) ≡ length ms * cell_count w
    all_members [] h = zero_times (cell_count w)
      where
        zero_times : (n : ℕ) → 0 ≡ 0 * n
        zero_times n = omega arith
    all_members (m ∷ ms) h =
        let a = members_long m h.0 in
        let b = all_members ms h.1 in
        let c = suc-mul (length ms) (cell_count w) in
        together (length (table_for w m).members) (member_count (map (table_for w) ms)) (cell_count w) (length ms * cell_count w) (suc (length ms) * cell_count w) a b c
      where
        together : (x y c r s : ℕ) → x ≡ c → y ≡ r → s ≡ r + c → x + y ≡ s
        together x y c r s p q t = omega (arith, p, q, t)

    pub members_short : AllByRecursion (λ (t : Table). length t.members ≤ 65536) (tables_for w)
    members_short = tables_short (masked w) (all_long 0 [] w.types)

    pub entries_few : member_count (tables_for w) ≤ 1048576
    entries_few =
        let a = all_members (masked w) (all_long 0 [] w.types) in
        let b = tables_few 0 [] w.types in
        let c = fresh_few called in
        let d = mul-le-mul_right {m = length (masked w)} {n = distinct called} (cell_count w) (omega (arith, b, c)) in
        let e = (limited w source.within).cells in
        in_turn a d e
      where
        in_turn : {x y z : ℕ} → x ≡ y → y ≤ z → z ≤ 1048576 → x ≤ 1048576
        in_turn p q r = omega (arith, p, q, r)
