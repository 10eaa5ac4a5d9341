-- The rule of an item is, of those that it breaks, the one of the least number.
use Rattle.std.proofs.Common.{◌≡◌, inl, inr, ℕ, zero, suc, ◌+◌, ◌-◌, ◌<◌, ◌≤◌, Bool, true, false, not, ◌&&◌, ◌||◌, List, [], ◌∷◌, length, take, drop, Option, Some, None, refl, sym, ap, ◌∙◌, subst, arith}
use Rattle.std.specs.Prelude.{slice_get, nat_lt, nat_le}
use Rattle.std.specs.List.{list_any}
use Rattle.std.proofs.lemmas.Bool.{cases_order}
use Rattle.wasm_lang.specs.declared.types.ValType.{ValType}
use Rattle.wasm_lang.specs.declared.types.ValType.TheVariants.{I32}
use Rattle.wasm_lang.specs.declared.types.Limits.{Limits}
use Rattle.wasm_lang.specs.declared.types.ImportKind.{ImportKind}
use Rattle.wasm_lang.specs.declared.types.ImportKind.TheVariants as imports
use Rattle.wasm_lang.specs.declared.types.ExportKind.{ExportKind}
use Rattle.wasm_lang.specs.declared.types.ExportKind.TheVariants as exports
use Rattle.wasm_lang.specs.Instructions.{Instruction, plain, const32, const64, global_get}
use Rattle.wasm_lang.specs.Modules.{FunctionType, Imported, Exported, ElementSegment, DataSegment, WasmModule}
use Rattle.wasm_lang_valid.specs.declared.rule.Rule.{Rule}
use Rattle.wasm_lang_valid.specs.declared.rule.Rule.TheVariants.{NoType, NoFunction, NoTable, NoMemory, NoGlobal, Initializer, Size, SecondMemory, SecondTable, RepeatedName, StartType, TwoResults}
use Rattle.wasm_lang_valid.specs.declared.section.Section.{Section}
use Rattle.wasm_lang_valid.specs.declared.section.Section.TheVariants as sections
use Rattle.wasm_lang_valid.specs.Rules.{number}
use Rattle.wasm_lang_valid.specs.ModuleRules.{meets, is_type, is_function, is_global, is_table_number, is_memory_number, is_ordered, has_pages, imports_table, imports_memory, is_end, is_named, is_start, type_of_function, are_functions, type_rule, table_rule, memory_rule, import_rule, value_rule, init_rule, exported_rule, export_rule, start_rule, element_rule, segment_rule, at, item_rule}
use Rattle.wasm_lang_valid.specs.Broken.{type_breaks, number_breaks, table_breaks, memory_breaks, import_breaks, gets_none, gives, is_one, init_breaks, exported_breaks, export_breaks, start_breaks, element_breaks, segment_breaks, breaks_at, item_breaks}
use Rattle.wasm_lang_valid.proofs.Once.{rules, numbered, same_number}

-- no rule of a number from the first up to the second is broken
abbrev NoneIn : (Rule → Bool) → ℕ → ℕ → Type 0
NoneIn b low high = (r : Rule) → low ≤ number r → number r < high → b r ≡ false

or_none : (a c : Bool) → a || c ≡ false → (a ≡ false) × (c ≡ false)
or_none true c e = cc
or_none false c e = (refl, e)

any_none : (b : Rule → Bool) (rs : List Rule) (i : ℕ) (r : Rule) → list_any b rs ≡ false → slice_get rs i ≡ Some r → b r ≡ false
any_none b [] i r e s = cc
any_none b (x ∷ xs) zero r e s = let same : x ≡ r = cc in subst (λ x. b x ≡ false) same (or_none (b x) (list_any b xs) e).0
any_none b (x ∷ xs) (suc i) r e s = any_none b xs i r (or_none (b x) (list_any b xs) e).1 s

part_at : {A : Type 0} (xs : List A) (low count i : ℕ) → i < count → slice_get (take count (drop low xs)) i ≡ slice_get xs (low + i)
part_at xs zero zero i h = absurd (omega (arith, h))
part_at [] zero (suc count) i h = refl
part_at (x ∷ xs) zero (suc count) zero h = refl
part_at (x ∷ xs) zero (suc count) (suc i) h = let e : 0 + suc i ≡ suc (0 + i) = omega arith in rw e (part_at xs zero count i (omega (arith, h)))
part_at [] (suc low) zero i h = absurd (omega (arith, h))
part_at [] (suc low) (suc count) i h = refl
part_at (x ∷ xs) (suc low) count i h = let e : suc low + i ≡ suc (low + i) = omega arith in rw e (part_at xs low count i h)

none_in : (b : Rule → Bool) (low high : ℕ) → list_any b (take (high - low) (drop low rules)) ≡ false → NoneIn b low high
none_in b low high e r le lt =
    let i : low + (number r - low) ≡ number r = omega (arith, le) in
    any_none b (take (high - low) (drop low rules)) (number r - low) r e (part_at rules low (high - low) (number r - low) (omega (arith, le, lt)) ∙ ap (slice_get rules) i ∙ numbered r)

longer : (b : Rule → Bool) (r : Rule) (high : ℕ) → NoneIn b 0 (number r) → b r ≡ false → NoneIn b (suc (number r)) high → NoneIn b 0 high
longer b r high before here after s le lt =
    elim (cases_order (number s) (number r)) [ inl e ↦ subst (λ x. b x ≡ false) (sym (same_number s r e)) here | inr o ↦ elim o [ inl less ↦ before s le less | inr more ↦ after s (omega (arith, more)) lt ] ]

-- what an item's rule says of those that it breaks
pub record IsLeast (o : Option Rule) (b : Rule → Bool) : Type 0 where
  pub breaks : (r : Rule) → o ≡ Some r → b r ≡ true
  pub least : (r s : Rule) → o ≡ Some r → number s < number r → b s ≡ false
  pub fine : (s : Rule) → o ≡ None → b s ≡ false

at_most : (r : Rule) → number r < 22
at_most r = less (slice_get_at rules (number r) r (numbered r))
  where
    less : number r < length rules → number r < 22
    less h = h

    slice_get_at : {A : Type 0} (xs : List A) (i : ℕ) (x : A) → slice_get xs i ≡ Some x → i < length xs
    slice_get_at [] i x e = cc
    slice_get_at (y ∷ ys) zero x e = omega arith
    slice_get_at (y ∷ ys) (suc i) x e = let h = slice_get_at ys i x e in omega (arith, h)

none_broken : (b : Rule → Bool) → NoneIn b 0 22 → IsLeast None b
none_broken b none = record {
  breaks = λ r e. cc;
  least = λ r s e lt. cc;
  fine = λ s e. none s (omega arith) (at_most s);
}

not_true : (kept : Bool) (x : Bool) → x ≡ not kept → kept ≡ true → x ≡ false
not_true true x e h = e
not_true false x e h = cc

-- a rule, and those of higher numbers
tested : (b : Rule → Bool) (kept : Bool) (rule : Rule) (more : Option Rule) → NoneIn b 0 (number rule) → b rule ≡ not kept → (b rule ≡ false → IsLeast more b) → IsLeast (meets kept rule more) b
tested b true rule more below is then = then is
tested b false rule more below is then = record {
  breaks = λ r e. let same : rule ≡ r = cc in subst (λ x. b x ≡ true) same is;
  least = λ r s e lt. let same : rule ≡ r = cc in below s (omega arith) (subst (λ x. number s < number x) (sym same) lt);
  fine = λ s e. cc;
}

-- .. and none of higher numbers
last : (b : Rule → Bool) (kept : Bool) (rule : Rule) → NoneIn b 0 (number rule) → b rule ≡ not kept → NoneIn b (suc (number rule)) 22 → IsLeast (meets kept rule None) b
last b kept rule below is above = tested b kept rule None below is (λ unbroken. none_broken b (longer b rule 22 below unbroken above))

not_not : (b : Bool) → b ≡ not (not b)
not_not true = refl
not_not false = refl

type_least : (t : FunctionType) → IsLeast (type_rule t) (type_breaks t)
type_least t = last (type_breaks t) (nat_le (length t.results) 1) TwoResults (none_in (type_breaks t) 0 21 refl) refl (none_in (type_breaks t) 22 22 refl)

number_least : (m : WasmModule) (t : ℕ) → IsLeast (meets (is_type m t) NoType None) (number_breaks m t)
number_least m t = last (number_breaks m t) (is_type m t) NoType (none_in (number_breaks m t) 0 1 refl) refl (none_in (number_breaks m t) 2 22 refl)

table_least : (l : Limits) (before : Bool) → IsLeast (table_rule l before) (table_breaks l before)
table_least l before =
    let b = table_breaks l before in
    let low = none_in b 0 14 refl in
    tested b (is_ordered l) Size _ low refl (λ unbroken. last b (not before) SecondTable (longer b Size 16 low unbroken (none_in b 15 16 refl)) (not_not before) (none_in b 17 22 refl))

memory_least : (l : Limits) (before : Bool) → IsLeast (memory_rule l before) (memory_breaks l before)
memory_least l before =
    let b = memory_breaks l before in
    let low = none_in b 0 14 refl in
    tested b (is_ordered l && has_pages l) Size _ low refl (λ unbroken. last b (not before) SecondMemory (longer b Size 15 low unbroken (none_in b 15 15 refl)) (not_not before) (none_in b 16 22 refl))

import_least : (m : WasmModule) (before : List Imported) (kind : ImportKind) → IsLeast (import_rule m before kind) (import_breaks m before kind)
import_least m before (imports.Func t) = number_least m t
import_least m before (imports.Table l) = table_least l (imports_table before)
import_least m before (imports.Memory l) = memory_least l (imports_memory before)
import_least m before (imports.Global g) = none_broken (λ rule. false) (λ r le lt. refl)

-- a first value's rule, as two tests in the order of their numbers
value_tests : (m : WasmModule) (t : ValType) (i : Instruction) → value_rule m t i ≡ meets (not (gets_none m i)) NoGlobal (meets (gives m t i) Initializer None)
value_tests m t (plain (const32 n)) = refl
value_tests m t (plain (const64 n)) = refl
value_tests m t (plain (global_get x)) = ap (λ b. meets b NoGlobal (meets (gives m t (plain (global_get x))) Initializer None)) (not_not (is_global m x))
value_tests m t i = refl

init_tests : (m : WasmModule) (t : ValType) (init : List Instruction) → init_rule m t init ≡ meets (not (is_one (gets_none m) init)) NoGlobal (meets (is_one (gives m t) init) Initializer None)
init_tests m t [] = refl
init_tests m t (i ∷ []) = refl
init_tests m t (i ∷ j ∷ []) = ended (is_end j)
  where
    ended : (b : Bool) → meets b Initializer (value_rule m t i) ≡ meets (not (b && gets_none m i)) NoGlobal (meets (b && gives m t i) Initializer None)
    ended true = value_tests m t i
    ended false = refl
init_tests m t (i ∷ j ∷ k ∷ is) = refl

-- where these two rules are the only ones from the first one's number on
init_least : (m : WasmModule) (t : ValType) (init : List Instruction) (b : Rule → Bool) → NoneIn b 0 5 → b NoGlobal ≡ is_one (gets_none m) init → NoneIn b 6 13 → b Initializer ≡ not (is_one (gives m t) init) → NoneIn b 14 22 → IsLeast (init_rule m t init) b
init_least m t init b low no_global mid init_is high =
    rw (init_tests m t init) (tested b (not (is_one (gets_none m) init)) NoGlobal _ low (no_global ∙ not_not _) (λ unbroken. last b (is_one (gives m t) init) Initializer (longer b NoGlobal 13 low unbroken mid) init_is high))

-- an export's own rule, and that of its name
named_least : (b : Rule → Bool) (kept named : Bool) (rule : Rule) → NoneIn b 0 (number rule) → b rule ≡ not kept → NoneIn b (suc (number rule)) 17 → b RepeatedName ≡ named → NoneIn b 18 22 → IsLeast (meets kept rule (meets (not named) RepeatedName None)) b
named_least b kept named rule low is mid name high =
    tested b kept rule _ low is (λ unbroken. last b (not named) RepeatedName (longer b rule 17 low unbroken mid) (name ∙ not_not named) high)

exported_least : (m : WasmModule) (named : Bool) (kind : ExportKind) → IsLeast (exported_rule m kind (meets (not named) RepeatedName None)) (exported_breaks m named kind)
exported_least m named (exports.Func f) =
    let b = exported_breaks m named (exports.Func f) in
    named_least b (is_function m f) named NoFunction (none_in b 0 2 refl) refl (none_in b 3 17 refl) refl (none_in b 18 22 refl)
exported_least m named (exports.Table t) =
    let b = exported_breaks m named (exports.Table t) in
    named_least b (is_table_number m t) named NoTable (none_in b 0 3 refl) refl (none_in b 4 17 refl) refl (none_in b 18 22 refl)
exported_least m named (exports.Memory t) =
    let b = exported_breaks m named (exports.Memory t) in
    named_least b (is_memory_number m t) named NoMemory (none_in b 0 4 refl) refl (none_in b 5 17 refl) refl (none_in b 18 22 refl)
exported_least m named (exports.Global g) =
    let b = exported_breaks m named (exports.Global g) in
    named_least b (is_global m g) named NoGlobal (none_in b 0 5 refl) refl (none_in b 6 17 refl) refl (none_in b 18 22 refl)

export_least : (m : WasmModule) (before : List Exported) (e : Exported) → IsLeast (export_rule m before e) (export_breaks m before e)
export_least m before e = exported_least m (is_named e.name before) e.kind

start_least : (m : WasmModule) (f : ℕ) → IsLeast (start_rule m f) (start_breaks m f)
start_least m f =
    let b = start_breaks m f in
    let low = none_in b 0 2 refl in
    tested b (is_function m f) NoFunction _ low refl (λ unbroken. last b (is_start (type_of_function m f)) StartType (longer b NoFunction 18 low unbroken (none_in b 3 18 refl)) refl (none_in b 19 22 refl))

element_least : (m : WasmModule) (e : ElementSegment) → IsLeast (element_rule m e) (element_breaks m e)
element_least m e =
    let b = element_breaks m e in
    let low = none_in b 0 2 refl in
    tested b (are_functions m e.functions) NoFunction _ low refl (λ unbroken.
    let mid = longer b NoFunction 3 low unbroken (none_in b 3 3 refl) in
    tested b (is_table_number m e.table) NoTable _ mid refl (λ none.
    init_least m I32 e.offset b (longer b NoTable 5 mid none (none_in b 4 5 refl)) refl (none_in b 6 13 refl) refl (none_in b 14 22 refl)))

segment_least : (m : WasmModule) (d : DataSegment) → IsLeast (segment_rule m d) (segment_breaks m d)
segment_least m d =
    let b = segment_breaks m d in
    let low = none_in b 0 4 refl in
    tested b (is_memory_number m d.memory) NoMemory _ low refl (λ unbroken.
    init_least m I32 d.offset b (longer b NoMemory 5 low unbroken (none_in b 5 5 refl)) refl (none_in b 6 13 refl) refl (none_in b 14 22 refl))

at_least : {A : Type 0} (o : Option A) (rule : A → Option Rule) (breaks : A → Rule → Bool) → ((x : A) → IsLeast (rule x) (breaks x)) → IsLeast (at o rule) (breaks_at o breaks)
at_least None rule breaks each = none_broken (λ rule. false) (λ r le lt. refl)
at_least (Some x) rule breaks each = each x

pub item_least : (m : WasmModule) (s : Section) (i : ℕ) → IsLeast (item_rule m s i) (item_breaks m s i)
item_least m sections.Types i = at_least (slice_get m.types i) _ _ type_least
item_least m sections.Imports i = at_least (slice_get m.imports i) _ _ (λ x. import_least m (take i m.imports) x.kind)
item_least m sections.Functions i = at_least (slice_get m.functions i) _ _ (number_least m)
item_least m sections.Tables i = at_least (slice_get m.tables i) _ _ (λ l. table_least l (imports_table m.imports || nat_lt 0 i))
item_least m sections.Memories i = at_least (slice_get m.memories i) _ _ (λ l. memory_least l (imports_memory m.imports || nat_lt 0 i))
item_least m sections.Globals i = at_least (slice_get m.globals i) _ _ (λ g. init_least m g.kind.kind g.init (init_breaks m g.kind.kind g.init) (none_in _ 0 5 refl) refl (none_in _ 6 13 refl) refl (none_in _ 14 22 refl))
item_least m sections.Exports i = at_least (slice_get m.exports i) _ _ (export_least m (take i m.exports))
item_least m sections.Start i = at_least m.start _ _ (start_least m)
item_least m sections.Elements i = at_least (slice_get m.elements i) _ _ (element_least m)
item_least m sections.Code i = none_broken (λ rule. false) (λ r le lt. refl)
item_least m sections.Data i = at_least (slice_get m.segments i) _ _ (segment_least m)
