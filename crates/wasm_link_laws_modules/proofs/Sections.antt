-- The items of the linked module's sections keep their rules: all but exports, the start and code.
use Rattle.std.proofs.Common.{◌≡◌, inl, inr, ℕ, zero, suc, ◌+◌, ◌≤◌, Bool, true, false, not, List, [], ◌∷◌, ◌++◌, length, map, take, Option, Some, None, refl, sym, ap, ◌∙◌, subst, arith, length-append}
use Rattle.std.specs.Prelude.{slice_get, if◌then◌else◌, ◌&&◌, ◌||◌, nat_lt, nat_le, nat_eq, max, min, cond}
use Rattle.std.proofs.lemmas.List.{append_assoc}
use Rattle.std.proofs.lemmas.Option.{slice_get_within}
use Rattle.wasm_lang.specs.declared.types.ValType.{ValType}
use Rattle.wasm_lang.specs.declared.types.ValType.TheVariants.{I32}
use Rattle.wasm_lang.specs.declared.types.GlobalType.{GlobalType}
use Rattle.wasm_lang.specs.declared.types.Limits.{Limits}
use Rattle.wasm_lang.specs.declared.types.ImportKind.{ImportKind}
use Rattle.wasm_lang.specs.declared.types.ImportKind.TheVariants as imports
use Rattle.wasm_lang.specs.Instructions.{Instruction, plain, const32, const64, global_get}
use Rattle.wasm_lang.specs.Modules.{FunctionType, Imported, GlobalEntry, ElementSegment, DataSegment, WasmModule}
use Rattle.wasm_lang_valid.specs.declared.rule.Rule.TheVariants.{NoType, NoFunction, NoTable, NoMemory, NoGlobal, Initializer, Size, SecondMemory, StartType}
use Rattle.wasm_lang_valid.specs.Measures.{env_name}
use Rattle.wasm_lang_valid.specs.Runnable as alone
use Rattle.wasm_lang_valid.specs.Runnable.{above, or_else}
use Rattle.wasm_lang_valid.specs.ModuleRules.{at, meets, is_table, is_memory, imports_table, imports_memory, imported_globals, imported_functions, function_of, has_table, has_memory, function_types, global_types, type_rule, is_type, is_function, is_global, is_table_number, is_memory_number, is_ordered, has_pages, memory_rule, table_rule, import_rule, is_constant, is_end, value_rule, init_rule, are_functions, element_rule, segment_rule, is_start, type_of_function}
use Rattle.wasm_lang_valid.specs.Profile.{is_global_offset}
use Rattle.wasm_laws_sound.specs.Laws.{IsWhole}
use Rattle.wasm_link_lang.specs.Pairs.{Pair, past_first}
use Rattle.wasm_link_lang.specs.Reductions.{entries}
use Rattle.wasm_link_lang.specs.Refusal.{memory_name, stated_max, maximum, lesser, past_maximum, least_maximum}
use Rattle.wasm_link_lang.specs.Session.{greater, pages}
use Rattle.wasm_link_code.specs.Numbers.{or_zero, number, global_number}
use Rattle.wasm_link_code.specs.Linked.{stays, staying, moved_kind, moved_import, memory_import, linked_imports, linked_functions, start_types, either_table, moved_offset, moved_element, linked_elements, moved_value, moved_global, linked_globals, linked}
use Rattle.wasm_link_laws_modules.proofs.Accepted.{MeetsNoRow}
use Rattle.wasm_link_laws_modules.proofs.Places.{Splits, splits, get_there}
use Rattle.wasm_link_laws_modules.proofs.Types.{typed_first, typed_second}
use Rattle.wasm_link_laws_modules.proofs.Linked.{imported_globals_are}
use Rattle.wasm_link_laws_modules.proofs.Numbered.{number_typed, first_imported_global, second_imported_global}
use Rattle.wasm_link_laws_modules.proofs.Facts.{Every, every_both, every_mapped, every_less, at_each, lt_test, lt_true, lt_false, le_test, le_true, meets_test, meets_rest, meets_both, types_kept, imports_kept, functions_kept, globals_kept, start_kept, elements_kept, segments_kept, in_itself, constant_offsets}
use Rattle.wasm_link_laws_modules.proofs.Contexts.{table_first, table_second, memory_first, memory_of_second}

-- ---- types and functions that are there

pub function_there : (m : WasmModule) (f : ℕ) (t : FunctionType) → type_of_function m f ≡ Some t → is_function m f ≡ true
function_there m f t e = by (slice_get (function_types m) f) refl
  where
    by : (o : Option ℕ) → slice_get (function_types m) f ≡ o → is_function m f ≡ true
    by None h = let none : type_of_function m f ≡ None = rw h refl in absurd (cc (none, e))
    by (Some n) h = lt_test f (length (function_types m)) (slice_get_within (function_types m) f n h)

abbrev pub TypeThere : WasmModule → ImportKind → Type 0
TypeThere m (imports.Func t) = is_type m t ≡ true
TypeThere m kind = Unit {0}

pub import_type : (m : WasmModule) (before : List Imported) (kind : ImportKind) → import_rule m before kind ≡ None → TypeThere m kind
import_type m before (imports.Func t) e = meets_test (is_type m t) NoType None e
import_type m before (imports.Table l) e = tt
import_type m before (imports.Memory l) e = tt
import_type m before (imports.Global g) e = tt

one_more : (m : WasmModule) (kind : ImportKind) (ts : List ℕ) → TypeThere m kind → Every (λ n. is_type m n ≡ true) ts → Every (λ n. is_type m n ≡ true) (function_of kind ++ ts)
one_more m (imports.Func t) ts f further zero n h = let same : t ≡ n = cc h in ap (is_type m) (sym same) ∙ f
one_more m (imports.Func t) ts f further (suc i) n h = further i n h
one_more m (imports.Table l) ts f further i n h = further i n h
one_more m (imports.Memory l) ts f further i n h = further i n h
one_more m (imports.Global g) ts f further i n h = further i n h

imported_types : (m : WasmModule) (is : List Imported) → Every (λ (x : Imported). TypeThere m x.kind) is → Every (λ n. is_type m n ≡ true) (imported_functions is)
imported_types m [] e i n h = absurd (cc h)
imported_types m (x ∷ is) e i n h =
    one_more m x.kind (imported_functions is) (e 0 x refl) (imported_types m is (every_less (λ (x : Imported). TypeThere m x.kind) x is e)) i n h

pub all_types_there : (m : WasmModule) → IsWhole m → Every (λ n. is_type m n ≡ true) (function_types m)
all_types_there m whole =
    every_both (λ n. is_type m n ≡ true) (imported_functions m.imports) m.functions
    (imported_types m m.imports (λ i x h. import_type m (take i m.imports) x.kind (imports_kept m whole.is_valid i x h))) (functions_kept m whole.is_valid)

-- a function that is there has a type
pub typed_there : (m : WasmModule) → IsWhole m → (f : ℕ) → is_function m f ≡ true → (t : FunctionType) × (type_of_function m f ≡ Some t)
typed_there m whole f e =
    let n = get_there (function_types m) f (lt_true f (length (function_types m)) e) in
    let t = get_there m.types n.0 (lt_true n.0 (length m.types) (all_types_there m whole f n.0 n.1)) in
    let at = n.1 in (t.0, rw at t.1)

-- ---- imports that stay

pub staying_at : (other : WasmModule) (is : List Imported) (k : ℕ) (x : Imported) → slice_get (staying other is) k ≡ Some x
    → (j : ℕ) × (slice_get is j ≡ Some x) × (stays other x ≡ true)
staying_at other [] k x h = absurd (cc h)
staying_at other (y ∷ is) k x h = by (stays other y) refl k h (λ k h. staying_at other is k x h)
  where
    by : (b : Bool) → stays other y ≡ b → (k : ℕ) → slice_get (if b then y ∷ staying other is else staying other is) k ≡ Some x
        → ((k : ℕ) → slice_get (staying other is) k ≡ Some x → (j : ℕ) × (slice_get is j ≡ Some x) × (stays other x ≡ true))
        → (j : ℕ) × (slice_get (y ∷ is) j ≡ Some x) × (stays other x ≡ true)
    by true e zero h further = let same : y ≡ x = cc h in (0, h, ap (stays other) (sym same) ∙ e)
    by true e (suc k) h further = let r = further k h in (suc r.0, r.1, r.2)
    by false e k h further = let r = further k h in (suc r.0, r.1, r.2)

-- the kinds of imports that stay
abbrev pub StayingKind : WasmModule → ImportKind → Type 0
StayingKind m (imports.Func t) = is_type m t ≡ true
StayingKind m (imports.Table l) = ⊥
StayingKind m (imports.Memory l) = ⊥
StayingKind m (imports.Global g) = Unit {0}

staying_kind : (m other : WasmModule) (n f : List ℕ) (kind : ImportKind) → stays other (record { module_name = n; name = f; kind = kind }) ≡ true → TypeThere m kind → StayingKind m kind
staying_kind m other n f (imports.Func t) e h = h
staying_kind m other n f (imports.Table l) e h = cc e
staying_kind m other n f (imports.Memory l) e h = cc e
staying_kind m other n f (imports.Global g) e h = tt

staying_kinds : (m other : WasmModule) → IsWhole m → Every (λ (x : Imported). StayingKind m x.kind) (staying other m.imports)
staying_kinds m other whole k x h =
    let at = staying_at other m.imports k x h in
    staying_kind m other x.module_name x.name x.kind at.2 (import_type m (take at.0 m.imports) x.kind (imports_kept m whole.is_valid at.0 x at.1))

same_kinds : (m w : WasmModule) (n : ℕ) (kind : ImportKind) → ((t : ℕ) → is_type m t ≡ true → is_type w (n + t) ≡ true) → StayingKind m kind → StayingKind w (moved_kind n kind)
same_kinds m w n (imports.Func t) types e = types t e
same_kinds m w n (imports.Table l) types e = e
same_kinds m w n (imports.Memory l) types e = e
same_kinds m w n (imports.Global g) types e = tt

kept_kind : (m : WasmModule) (before : List Imported) (kind : ImportKind) → StayingKind m kind → import_rule m before kind ≡ None
kept_kind m before (imports.Func t) e = meets_both (is_type m t) NoType None e refl
kept_kind m before (imports.Table l) e = absurd e
kept_kind m before (imports.Memory l) e = absurd e
kept_kind m before (imports.Global g) e = refl

no_kind : (m : WasmModule) (kind : ImportKind) → StayingKind m kind → (is_memory kind ≡ false) × (is_table kind ≡ false)
no_kind m (imports.Func t) e = (refl, refl)
no_kind m (imports.Table l) e = absurd e
no_kind m (imports.Memory l) e = absurd e
no_kind m (imports.Global g) e = (refl, refl)

none_imported : (m : WasmModule) (is : List Imported) → Every (λ (x : Imported). StayingKind m x.kind) is → (imports_memory is ≡ false) × (imports_table is ≡ false)
none_imported m [] e = (refl, refl)
none_imported m (x ∷ is) e =
    let here = no_kind m x.kind (e 0 x refl) in
    let further = none_imported m is (every_less (λ (x : Imported). StayingKind m x.kind) x is e) in
    (ap (λ b. b || imports_memory is) here.0 ∙ further.0, ap (λ b. b || imports_table is) here.1 ∙ further.1)

none_of_both : (is js : List Imported) → imports_table is ≡ false → imports_table js ≡ false → imports_table (is ++ js) ≡ false
none_of_both [] js e f = f
none_of_both (i ∷ is) js e f = by (is_table i.kind) e (λ e. none_of_both is js e f)
  where
    by : (b : Bool) → (b || imports_table is) ≡ false → (imports_table is ≡ false → imports_table (is ++ js) ≡ false) → (b || imports_table (is ++ js)) ≡ false
    by true e further = absurd (cc e)
    by false e further = further e

take_front : {A : Type 0} → (xs ys : List A) → take (length xs + 0) (xs ++ ys) ≡ xs
take_front [] ys = let e : 0 + 0 ≡ 0 = omega arith in ap (λ n. take n ys) e
take_front (x ∷ xs) ys = let e : suc (length xs) + 0 ≡ suc (length xs + 0) = omega arith in ap (λ n. take n (x ∷ (xs ++ ys))) e ∙ ap (λ zs. x ∷ zs) (take_front xs ys)

-- ---- the memory

pub above_none : (limit n : ℕ) → above limit (Some n) ≡ None → n ≤ limit
above_none limit n e = by (nat_lt limit n) refl e
  where
    by : (b : Bool) → nat_lt limit n ≡ b → cond b (Some n) None ≡ None → n ≤ limit
    by true f e = absurd (cc e)
    by false f e = lt_false limit n f

pub greater_small : (limit : ℕ) (o p : Option ℕ) → above limit o ≡ None → above limit p ≡ None → (n : ℕ) → greater o p ≡ Some n → n ≤ limit
greater_small limit None p e f n h = above_none limit n (ap (above limit) (sym h) ∙ f)
greater_small limit (Some k) None e f n h = above_none limit n (ap (above limit) (sym h) ∙ e)
greater_small limit (Some k) (Some m) e f n h =
    let a = above_none limit k e in
    let b = above_none limit m f in
    let c : max k m ≡ n = cc h in omega (arith, a, b, c)

lesser_small : (limit : ℕ) (o p : Option ℕ) → ((n : ℕ) → o ≡ Some n → n ≤ limit) → ((n : ℕ) → p ≡ Some n → n ≤ limit) → (n : ℕ) → lesser o p ≡ Some n → n ≤ limit
lesser_small limit None p f g n h = g n h
lesser_small limit (Some k) None f g n h = f n h
lesser_small limit (Some k) (Some m) f g n h =
    let a = f k refl in
    let b = g m refl in
    let c : min k m ≡ n = cc h in omega (arith, a, b, c)

both_parts : (a b : Bool) → (a && b) ≡ true → (a ≡ true) × (b ≡ true)
both_parts true b e = (refl, e)
both_parts false b e = absurd (cc e)

few_pages : (m : WasmModule) (before : List Imported) (kind : ImportKind) → import_rule m before kind ≡ None → (n : ℕ) → stated_max kind ≡ Some n → n ≤ 65536
few_pages m before (imports.Func t) e n h = absurd (cc h)
few_pages m before (imports.Table l) e n h = absurd (cc h)
few_pages m before (imports.Global g) e n h = absurd (cc h)
few_pages m before (imports.Memory l) e n h =
    let ordered = both_parts (is_ordered l) (has_pages l) (meets_test (is_ordered l && has_pages l) Size (meets (not (imports_memory before)) SecondMemory None) e) in
    within l.max h ordered.1
  where
    within : (o : Option ℕ) → o ≡ Some n → has_pages (record l { max = o }) ≡ true → n ≤ 65536
    within None h f = absurd (cc h)
    within (Some k) h f =
        let b = both_parts (nat_le l.min 65536) (nat_le k 65536) f in
        let c = le_true k 65536 b.1 in
        let d : k ≡ n = cc h in omega (arith, c, d)

maximum_small : (is : List Imported) → Every (λ (x : Imported). (n : ℕ) → stated_max x.kind ≡ Some n → n ≤ 65536) is → (n : ℕ) → maximum is ≡ Some n → n ≤ 65536
maximum_small [] e n h = absurd (cc h)
maximum_small (x ∷ is) e n h =
    by (stated_max x.kind) (e 0 x refl) (maximum_small is (every_less (λ (x : Imported). (n : ℕ) → stated_max x.kind ≡ Some n → n ≤ 65536) x is e)) h
  where
    by : (o : Option ℕ) → ((n : ℕ) → o ≡ Some n → n ≤ 65536) → ((n : ℕ) → maximum is ≡ Some n → n ≤ 65536) → or_else o (maximum is) ≡ Some n → n ≤ 65536
    by None f further h = further n h
    by (Some k) f further h = f n h

memory_kept : (n : ℕ) (most : Option ℕ) → n ≤ 4096 → ((k : ℕ) → most ≡ Some k → k ≤ 65536) → past_maximum (Some n) most ≡ None
    → memory_rule (record { min = n; max = most }) false ≡ None
memory_kept n None small f e = let few = le_test n 65536 (omega (arith, small)) in rw few refl
memory_kept n (Some k) small f e =
    let few = le_test n 65536 (omega (arith, small)) in
    let less = le_test k 65536 (f k refl) in
    let ordered = le_test n k (by (nat_lt k n) refl e) in
    rw (few, less, ordered) refl
  where
    by : (b : Bool) → nat_lt k n ≡ b → (if b then Some n else None) ≡ None → n ≤ k
    by true h e = absurd (cc e)
    by false h e = lt_false k n h

memory_is_last : (w : WasmModule) (front : List Imported) → Every (λ (x : Imported). StayingKind w x.kind) front → (o most : Option ℕ)
    → ((n : ℕ) → o ≡ Some n → memory_rule (record { min = n; max = most }) false ≡ None)
    → (i : ℕ) → at (slice_get (front ++ memory_import o most) i) (λ (x : Imported). import_rule w (take i (front ++ memory_import o most)) x.kind) ≡ None
memory_is_last w front kinds o most kept i = by (slice_get (front ++ memory_import o most) i) refl
  where
    last : (o : Option ℕ) → ((n : ℕ) → o ≡ Some n → memory_rule (record { min = n; max = most }) false ≡ None)
        → (j : ℕ) (x : Imported) → slice_get (memory_import o most) j ≡ Some x → import_rule w (take (length front + j) (front ++ memory_import o most)) x.kind ≡ None
    last None kept j x h = absurd (cc h)
    last (Some n) kept (suc j) x h = absurd (cc h)
    last (Some n) kept zero x h =
        let it : record { module_name = env_name; name = memory_name; kind = imports.Memory (record { min = n; max = most }) } ≡ x = cc h in
        ap (λ (x : Imported). import_rule w (take (length front + 0) (front ++ memory_import (Some n) most)) x.kind) (sym it)
        ∙ ap (λ b. memory_rule (record { min = n; max = most }) b)
        (ap imports_memory (take_front front (memory_import (Some n) most)) ∙ (none_imported w front kinds).0)
        ∙ kept n refl

    found : (x : Imported) → Splits front (memory_import o most) i x → import_rule w (take i (front ++ memory_import o most)) x.kind ≡ None
    found x (inl p) = kept_kind w (take i (front ++ memory_import o most)) x.kind (kinds i x p)
    found x (inr p) = ap (λ i. import_rule w (take i (front ++ memory_import o most)) x.kind) p.1 ∙ last o kept p.0 x p.2

    by : (y : Option Imported) → slice_get (front ++ memory_import o most) i ≡ y → at y (λ (x : Imported). import_rule w (take i (front ++ memory_import o most)) x.kind) ≡ None
    by None h = refl
    by (Some x) h = found x (splits front (memory_import o most) i x h)

-- ---- first values and offsets

second_is_end : (m : WasmModule) (t : ValType) (i j : Instruction) → init_rule m t (i ∷ j ∷ []) ≡ None → (is_end j ≡ true) × (value_rule m t i ≡ None)
second_is_end m t i j e = (meets_test (is_end j) Initializer (value_rule m t i) e, meets_rest (is_end j) Initializer (value_rule m t i) e)

constant_there : (t : ValType) (o : Option GlobalType) → is_constant t o ≡ true → (g : GlobalType) × (o ≡ Some g)
constant_there t None e = absurd (cc e)
constant_there t (Some g) e = (g, refl)

-- the global that a first value names has another number
pub value_moves : (m w : WasmModule) (f : ℕ → ℕ)
    → ((x : ℕ) (g : GlobalType) → slice_get (imported_globals m.imports) x ≡ Some g → slice_get (imported_globals w.imports) (f x) ≡ Some g)
    → (t : ValType) (is : List Instruction) → init_rule m t is ≡ None → init_rule w t (moved_value f is) ≡ None
value_moves m w f numbers t [] e = absurd (cc e)
value_moves m w f numbers t (i ∷ []) e = absurd (cc e)
value_moves m w f numbers t (i ∷ j ∷ k ∷ is) e = absurd (cc e)
value_moves m w f numbers t (plain (global_get x) ∷ j ∷ []) e =
    let s = second_is_end m t (plain (global_get x)) j e in
    let r = meets_rest (is_global m x) NoGlobal (meets (is_constant t (slice_get (imported_globals m.imports) x)) Initializer None) s.1 in
    let c = meets_test (is_constant t (slice_get (imported_globals m.imports) x)) Initializer None r in
    let g = constant_there t (slice_get (imported_globals m.imports) x) c in
    let there = numbers x g.0 g.1 in
    let own = map (λ (g : GlobalEntry). g.kind) w.globals in
    let many = length-append (imported_globals w.imports) own in
    let within = slice_get_within (imported_globals w.imports) (f x) g.0 there in
    meets_both (is_end j) Initializer (value_rule w t (plain (global_get (f x)))) s.0
    (meets_both (is_global w (f x)) NoGlobal (meets (is_constant t (slice_get (imported_globals w.imports) (f x))) Initializer None)
    (lt_test (f x) (length (global_types w)) (omega (arith, many, within)))
    (meets_both (is_constant t (slice_get (imported_globals w.imports) (f x))) Initializer None (ap (is_constant t) (there ∙ sym g.1) ∙ c) refl))
value_moves m w f numbers t (plain (const32 n) ∷ j ∷ []) e = e
value_moves m w f numbers t (plain (const64 n) ∷ j ∷ []) e = e
value_moves m w f numbers t (i ∷ j ∷ []) e = let s = second_is_end m t i j e in absurd (cc s.1)

-- an offset that isn't a global
pub offset_moves : (m w : WasmModule) (n : ℕ) (is : List Instruction) → is_global_offset is ≡ false → init_rule m I32 is ≡ None
    → (init_rule w I32 is ≡ None) × (init_rule w I32 (moved_offset n is) ≡ None)
offset_moves m w n [] g e = absurd (cc e)
offset_moves m w n (i ∷ []) g e = absurd (cc e)
offset_moves m w n (i ∷ j ∷ k ∷ is) g e = absurd (cc e)
offset_moves m w n (plain (global_get x) ∷ j ∷ []) g e = absurd (cc g)
offset_moves m w n (plain (const32 k) ∷ j ∷ []) g e = (e, e)
offset_moves m w n (plain (const64 k) ∷ j ∷ []) g e = (e, e)
offset_moves m w n (i ∷ j ∷ []) g e = let s = second_is_end m I32 i j e in absurd (cc s.1)

-- ---- the linked module

functions_numbered : (m w : WasmModule) (f : ℕ → ℕ) → ((x : ℕ) → is_function m x ≡ true → is_function w (f x) ≡ true) → (fs : List ℕ) → are_functions m fs ≡ true → are_functions w (map f fs) ≡ true
functions_numbered m w f numbers [] e = refl
functions_numbered m w f numbers (x ∷ fs) e =
    let b = both_parts (is_function m x) (are_functions m fs) e in
    ap (λ a. a && are_functions w (map f fs)) (numbers x b.0) ∙ functions_numbered m w f numbers fs b.1

table_is_there : (m w : WasmModule) (n : ℕ) → (has_table m ≡ true → has_table w ≡ true) → is_table_number m n ≡ true → is_table_number w n ≡ true
table_is_there m w n there e = let b = both_parts (nat_eq n 0) (has_table m) e in ap (λ a. a && has_table w) b.0 ∙ there b.1

memory_is_there : (m w : WasmModule) (n : ℕ) → (has_memory m ≡ true → has_memory w ≡ true) → is_memory_number m n ≡ true → is_memory_number w n ≡ true
memory_is_there m w n there e = let b = both_parts (nat_eq n 0) (has_memory m) e in ap (λ a. a && has_memory w) b.0 ∙ there b.1

element_moves : (m w : WasmModule) (f : ℕ → ℕ) (n : ℕ) → ((x : ℕ) → is_function m x ≡ true → is_function w (f x) ≡ true) → (has_table m ≡ true → has_table w ≡ true)
    → (e : ElementSegment) → is_global_offset e.offset ≡ false → element_rule m e ≡ None → element_rule w (moved_element f n e) ≡ None
element_moves m w f n numbers there e g h =
    let a = meets_test (are_functions m e.functions) NoFunction (meets (is_table_number m e.table) NoTable (init_rule m I32 e.offset)) h in
    let r = meets_rest (are_functions m e.functions) NoFunction (meets (is_table_number m e.table) NoTable (init_rule m I32 e.offset)) h in
    let b = meets_test (is_table_number m e.table) NoTable (init_rule m I32 e.offset) r in
    let c = meets_rest (is_table_number m e.table) NoTable (init_rule m I32 e.offset) r in
    meets_both (are_functions w (map f e.functions)) NoFunction (meets (is_table_number w e.table) NoTable (init_rule w I32 (moved_offset n e.offset))) (functions_numbered m w f numbers e.functions a)
    (meets_both (is_table_number w e.table) NoTable (init_rule w I32 (moved_offset n e.offset)) (table_is_there m w e.table there b) (offset_moves m w n e.offset g c).1)

segment_moves : (m w : WasmModule) → (has_memory m ≡ true → has_memory w ≡ true) → (d : DataSegment) → is_global_offset d.offset ≡ false → segment_rule m d ≡ None → segment_rule w d ≡ None
segment_moves m w there d g h =
    let a = meets_test (is_memory_number m d.memory) NoMemory (init_rule m I32 d.offset) h in
    let r = meets_rest (is_memory_number m d.memory) NoMemory (init_rule m I32 d.offset) h in
    meets_both (is_memory_number w d.memory) NoMemory (init_rule w I32 d.offset) (memory_is_there m w d.memory there a) (offset_moves m w 0 d.offset g r).0

module _ (w : Pair) where
  pub linked_imports_are : (linked w).imports ≡ linked_imports w
  unfolding linked
  linked_imports_are = refl

  pub linked_functions_are : (linked w).functions ≡ linked_functions w
  unfolding linked
  linked_functions_are = refl

  pub linked_globals_are : (linked w).globals ≡ linked_globals w
  unfolding linked
  linked_globals_are = refl

  pub linked_elements_are : (linked w).elements ≡ linked_elements w
  unfolding linked
  linked_elements_are = refl

  pub linked_segments_are : (linked w).segments ≡ w.first.segments ++ w.second.segments
  unfolding linked
  linked_segments_are = refl

  of_imports : (x : ℕ) (g : GlobalType) → slice_get (imported_globals w.first.imports ++ imported_globals w.second.imports) x ≡ Some g → slice_get (imported_globals (linked w).imports) x ≡ Some g
  unfolding linked
  of_imports x g h = ap (λ gs. slice_get gs x) (imported_globals_are w) ∙ h

module _ (w : Pair) (rows : MeetsNoRow w) (first : IsWhole w.first) (second : IsWhole w.second) where
  many_types : length (w.first.types ++ w.second.types) ≡ length w.first.types + length w.second.types
  many_types = length-append w.first.types w.second.types

  type_of_first : (t : ℕ) → is_type w.first t ≡ true → is_type (linked w) t ≡ true
  unfolding linked
  type_of_first t e =
      let a = lt_true t (length w.first.types) e in
      let b = many_types in lt_test t (length (w.first.types ++ w.second.types)) (omega (arith, a, b))

  type_of_second : (t : ℕ) → is_type w.second t ≡ true → is_type (linked w) (length w.first.types + t) ≡ true
  unfolding linked
  type_of_second t e =
      let a = lt_true t (length w.second.types) e in
      let b = many_types in lt_test (length w.first.types + t) (length (w.first.types ++ w.second.types)) (omega (arith, a, b))

  pub function_of_first : (f : ℕ) → is_function w.first f ≡ true → is_function (linked w) (number w f) ≡ true
  function_of_first f e =
      let t = typed_there w.first first f e in function_there (linked w) (number w f) t.0 (number_typed w rows f t.0 (typed_first w f t.0 t.1))

  pub function_of_second : (f : ℕ) → is_function w.second f ≡ true → is_function (linked w) (number w ((past_first w).functions + f)) ≡ true
  function_of_second f e =
      let t = typed_there w.second second f e in
      function_there (linked w) (number w ((past_first w).functions + f)) t.0 (number_typed w rows ((past_first w).functions + f) t.0 (typed_second w f t.0 t.1))

  pub types_stay : (i : ℕ) → at (slice_get (linked w).types i) type_rule ≡ None
  unfolding linked
  types_stay i =
      at_each type_rule (w.first.types ++ w.second.types) (every_both (λ t. type_rule t ≡ None) w.first.types w.second.types (types_kept w.first first.is_valid) (types_kept w.second second.is_valid)) i

  -- ---- imports

  abbrev pub fronts : List Imported
  fronts = staying w.second w.first.imports ++ map (moved_import (length w.first.types)) (staying w.first w.second.imports)

  same_kind : (kind : ImportKind) → StayingKind w.first kind → StayingKind (linked w) kind
  same_kind (imports.Func t) e = type_of_first t e
  same_kind (imports.Table l) e = e
  same_kind (imports.Memory l) e = e
  same_kind (imports.Global g) e = tt

  pub fronts_stay : Every (λ (x : Imported). StayingKind (linked w) x.kind) fronts
  fronts_stay =
      every_both (λ (x : Imported). StayingKind (linked w) x.kind) (staying w.second w.first.imports) (map (moved_import (length w.first.types)) (staying w.first w.second.imports))
      (λ i x h. same_kind x.kind (staying_kinds w.first w.second first i x h))
      (every_mapped (λ (x : Imported). StayingKind (linked w) x.kind) (moved_import (length w.first.types)) (staying w.first w.second.imports)
      (λ i x h. same_kinds w.second (linked w) (length w.first.types) x.kind type_of_second (staying_kinds w.second w.first second i x h)))

  memory_stays : (n : ℕ) → pages w ≡ Some n → memory_rule (record { min = n; max = least_maximum w }) false ≡ None
  memory_stays n e =
      let small = greater_small 4096 (alone.pages w.first) (alone.pages w.second) (in_itself w.first rows.first_profile).small (in_itself w.second rows.second_profile).small n e in
      memory_kept n (least_maximum w) small
      (lesser_small 65536 (maximum w.first.imports) (maximum w.second.imports)
      (maximum_small w.first.imports (λ i x h. few_pages w.first (take i w.first.imports) x.kind (imports_kept w.first first.is_valid i x h)))
      (maximum_small w.second.imports (λ i x h. few_pages w.second (take i w.second.imports) x.kind (imports_kept w.second second.is_valid i x h))))
      (ap (λ o. past_maximum o (least_maximum w)) (sym e) ∙ rows.limits)

  pub joined_imports : linked_imports w ≡ fronts ++ memory_import (pages w) (least_maximum w)
  joined_imports =
      sym (append_assoc (staying w.second w.first.imports) (map (moved_import (length w.first.types)) (staying w.first w.second.imports)) (memory_import (pages w) (least_maximum w)))

  pub imports_stay : (i : ℕ) → at (slice_get (linked w).imports i) (λ (x : Imported). import_rule (linked w) (take i (linked w).imports) x.kind) ≡ None
  imports_stay i =
      subst (λ is. at (slice_get is i) (λ (x : Imported). import_rule (linked w) (take i is) x.kind) ≡ None) (sym (linked_imports_are w ∙ joined_imports))
      (memory_is_last (linked w) fronts fronts_stay (pages w) (least_maximum w) memory_stays i)

  no_table_there : imports_table (linked_imports w) ≡ false
  no_table_there = ap imports_table joined_imports ∙ none_of_both fronts (memory_import (pages w) (least_maximum w)) (none_imported (linked w) fronts fronts_stay).1 (by (pages w))
    where
      by : (o : Option ℕ) → imports_table (memory_import o (least_maximum w)) ≡ false
      by None = refl
      by (Some n) = refl

  -- ---- functions, the table and globals

  pub functions_stay : (i : ℕ) → at (slice_get (linked w).functions i) (λ t. meets (is_type (linked w) t) NoType None) ≡ None
  functions_stay i = by
    where
      start : (p q : Option ℕ) → w.first.start ≡ p → Every (λ t. is_type (linked w) t ≡ true) (start_types w p q)
      start None q e i x h = absurd (cc h)
      start (Some a) None e i x h = absurd (cc h)
      start (Some a) (Some b) e (suc i) x h = absurd (cc h)
      start (Some a) (Some b) e zero x h =
          let f = meets_test (is_function w.first a) NoFunction (meets (is_start (type_of_function w.first a)) StartType None) (start_kept w.first first.is_valid a e) in
          let n = get_there (function_types w.first) a (lt_true a (length (function_types w.first)) f) in
          let same : or_zero (slice_get (function_types w.first) a) ≡ x = cc h in
          let is : n.0 ≡ x = ap or_zero (sym n.1) ∙ same in
          subst (λ t. is_type (linked w) t ≡ true) is (type_of_first n.0 (all_types_there w.first first a n.0 n.1))

      all : Every (λ t. is_type (linked w) t ≡ true) (linked_functions w)
      all =
          every_both (λ t. is_type (linked w) t ≡ true) w.first.functions (map (λ t. length w.first.types + t) w.second.functions ++ start_types w w.first.start w.second.start)
          (λ i x h. type_of_first x (functions_kept w.first first.is_valid i x h))
          (every_both (λ t. is_type (linked w) t ≡ true) (map (λ t. length w.first.types + t) w.second.functions) (start_types w w.first.start w.second.start)
          (every_mapped (λ t. is_type (linked w) t ≡ true) (λ t. length w.first.types + t) w.second.functions (λ i x h. type_of_second x (functions_kept w.second second.is_valid i x h)))
          (start w.first.start w.second.start refl))

      by : at (slice_get (linked w).functions i) (λ t. meets (is_type (linked w) t) NoType None) ≡ None
      by =
          at_each (λ t. meets (is_type (linked w) t) NoType None) (linked w).functions
          (subst (Every (λ t. meets (is_type (linked w) t) NoType None ≡ None)) (sym (linked_functions_are w)) (λ i x h. meets_both (is_type (linked w) x) NoType None (all i x h) refl)) i

  pub tables_stay : (i : ℕ) → at (slice_get (linked w).tables i) (λ l. table_rule l (imports_table (linked w).imports || nat_lt 0 i)) ≡ None
  unfolding linked
  tables_stay i = by w.first.tables w.second.tables (imports_table (linked_imports w)) no_table_there i
    where
      one : (b : Bool) → b ≡ false → (n i : ℕ) → at (slice_get (record { min = n; max = None } ∷ []) i) (λ l. table_rule l (b || nat_lt 0 i)) ≡ None
      one true e n i = absurd (cc e)
      one false e n zero = refl
      one false e n (suc i) = refl

      by : (first second : List Limits) (b : Bool) → b ≡ false → (i : ℕ) → at (slice_get (either_table first second (entries w.first + entries w.second)) i) (λ l. table_rule l (b || nat_lt 0 i)) ≡ None
      by [] [] b e i = refl
      by [] (l ∷ ls) b e i = one b e (entries w.first + entries w.second) i
      by (l ∷ ls) second b e i = one b e (entries w.first + entries w.second) i

  pub globals_stay : (i : ℕ) → at (slice_get (linked w).globals i) (λ (g : GlobalEntry). init_rule (linked w) g.kind.kind g.init) ≡ None
  globals_stay i = by
    where
      all : Every (λ (g : GlobalEntry). init_rule (linked w) g.kind.kind g.init ≡ None) (linked_globals w)
      all =
          every_both (λ (g : GlobalEntry). init_rule (linked w) g.kind.kind g.init ≡ None) (map (moved_global (global_number w)) w.first.globals)
          (map (moved_global (λ x. global_number w ((past_first w).globals + x))) w.second.globals)
          (every_mapped (λ (g : GlobalEntry). init_rule (linked w) g.kind.kind g.init ≡ None) (moved_global (global_number w)) w.first.globals
          (λ i g h. value_moves w.first (linked w) (global_number w) (λ x t e. of_imports w (global_number w x) t (first_imported_global w x t e)) g.kind.kind g.init (globals_kept w.first first.is_valid i g h)))
          (every_mapped (λ (g : GlobalEntry). init_rule (linked w) g.kind.kind g.init ≡ None) (moved_global (λ x. global_number w ((past_first w).globals + x))) w.second.globals
          (λ i g h. value_moves w.second (linked w) (λ x. global_number w ((past_first w).globals + x))
          (λ x t e. of_imports w (global_number w ((past_first w).globals + x)) t (second_imported_global w x t e)) g.kind.kind g.init (globals_kept w.second second.is_valid i g h)))

      by : at (slice_get (linked w).globals i) (λ (g : GlobalEntry). init_rule (linked w) g.kind.kind g.init) ≡ None
      by =
          at_each (λ (g : GlobalEntry). init_rule (linked w) g.kind.kind g.init) (linked w).globals
          (subst (Every (λ (g : GlobalEntry). init_rule (linked w) g.kind.kind g.init ≡ None)) (sym (linked_globals_are w)) all) i

  -- ---- segments

  pub elements_stay : (i : ℕ) → at (slice_get (linked w).elements i) (element_rule (linked w)) ≡ None
  elements_stay i = by
    where
      all : Every (λ e. element_rule (linked w) e ≡ None) (linked_elements w)
      all =
          let constant1 = constant_offsets 0 w.first.elements w.first.segments (in_itself w.first rows.first_profile).constant in
          let constant2 = constant_offsets 0 w.second.elements w.second.segments (in_itself w.second rows.second_profile).constant in
          let past : ℕ → ℕ = λ f. number w ((past_first w).functions + f) in
          every_both (λ e. element_rule (linked w) e ≡ None) (map (moved_element (number w) 0) w.first.elements) (map (moved_element past (entries w.first)) w.second.elements)
          (every_mapped (λ e. element_rule (linked w) e ≡ None) (moved_element (number w) 0) w.first.elements
          (λ i e h. element_moves w.first (linked w) (number w) 0 function_of_first (table_first w rows) e (constant1.elements i e h) (elements_kept w.first first.is_valid i e h)))
          (every_mapped (λ e. element_rule (linked w) e ≡ None) (moved_element past (entries w.first)) w.second.elements
          (λ i e h. element_moves w.second (linked w) past (entries w.first) function_of_second (table_second w rows) e (constant2.elements i e h) (elements_kept w.second second.is_valid i e h)))

      by : at (slice_get (linked w).elements i) (element_rule (linked w)) ≡ None
      by = at_each (element_rule (linked w)) (linked w).elements (subst (Every (λ e. element_rule (linked w) e ≡ None)) (sym (linked_elements_are w)) all) i

  pub segments_stay : (i : ℕ) → at (slice_get (linked w).segments i) (segment_rule (linked w)) ≡ None
  segments_stay i = by
    where
      all : Every (λ d. segment_rule (linked w) d ≡ None) (w.first.segments ++ w.second.segments)
      all =
          let constant1 = constant_offsets 0 w.first.elements w.first.segments (in_itself w.first rows.first_profile).constant in
          let constant2 = constant_offsets 0 w.second.elements w.second.segments (in_itself w.second rows.second_profile).constant in
          every_both (λ d. segment_rule (linked w) d ≡ None) w.first.segments w.second.segments
          (λ i d h. segment_moves w.first (linked w) (memory_first w rows) d (constant1.segments i d h) (segments_kept w.first first.is_valid i d h))
          (λ i d h. segment_moves w.second (linked w) (memory_of_second w rows) d (constant2.segments i d h) (segments_kept w.second second.is_valid i d h))

      by : at (slice_get (linked w).segments i) (segment_rule (linked w)) ≡ None
      by = at_each (segment_rule (linked w)) (linked w).segments (subst (Every (λ d. segment_rule (linked w) d ≡ None)) (sym (linked_segments_are w)) all) i
