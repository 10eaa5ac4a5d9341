-- A valid module has what the text form can say.
use Rattle.std.proofs.Common.{◌≡◌, ℕ, zero, suc, ◌+◌, ◌<◌, ◌≤◌, Bool, true, false, ◌&&◌, cond, List, [], ◌∷◌, ◌++◌, length, take, Option, Some, None, Result, Ok, refl, sym, ap, subst, arith}
use Rattle.std.specs.Prelude.{slice_get, nat_le, nat_eq}
use Rattle.std.specs.List.{AllByRecursion}
use Rattle.std.proofs.lemmas.Bool.{and_parts, leb-true, ltb-true, eqb-true}
use Rattle.wasm_lang.specs.declared.types.ValType.{ValType}
use Rattle.wasm_lang.specs.declared.types.ValType.TheVariants.{I32}
use Rattle.wasm_lang.specs.declared.types.ImportKind.{ImportKind}
use Rattle.wasm_lang.specs.declared.types.ImportKind.TheVariants as imports
use Rattle.wasm_lang.specs.Instructions.{Plain, global_get, load, store, const32, const64, Instruction, else_mark, end_mark, plain}
use Rattle.wasm_lang.specs.Modules.{Imported, GlobalEntry, ElementSegment, DataSegment, FunctionBody, WasmModule}
use Rattle.wasm_lang_valid.specs.declared.rule.Rule.{Rule}
use Rattle.wasm_lang_valid.specs.declared.rule.Rule.TheVariants.{NoType, Alignment}
use Rattle.wasm_lang_valid.specs.declared.section.Section.TheVariants as sections
use Rattle.wasm_lang_valid.specs.Typing.{Context, natural, unless, plain_late, late, Typed, typed_empty, typed_plain, typed_block, typed_loop, typed_arms, typed_if}
use Rattle.wasm_lang_valid.specs.ModuleRules.{meets, is_type, import_rule, is_table_number, is_memory_number, has_table, has_memory, are_functions, is_end, value_rule, init_rule, element_rule, segment_rule, at}
use Rattle.wasm_lang_valid.specs.Validity.{IsValidBody, IsValidModule}
use Rattle.wat_laws_again.specs.Fitting.{IsPlainValue, IsValue, IsConstant, HasConstants, IsAligned, HasOneOfEach, HasType, ImportHasType, HasTypes}

-- ---- rules

kept : (b : Bool) (rule : Rule) (others : Option Rule) → meets b rule others ≡ None → (b ≡ true) × (others ≡ None)
kept true rule others e = (refl, e)
kept false rule others e = absurd cc

-- what each item of a section keeps
all_kept : {X : Type 0} (rule : X → Option Rule) (xs : List X) → ((i : ℕ) → i < length xs → at (slice_get xs i) rule ≡ None) → AllByRecursion (λ x. rule x ≡ None) xs
all_kept rule [] h = tt
all_kept rule (x ∷ xs) h = (h 0 (omega arith), all_kept rule xs (λ i lt. h (suc i) (omega (arith, lt))))

weaker : {X : Type 0} (P Q : X → Type 0) → ((x : X) → P x → Q x) → (xs : List X) → AllByRecursion P xs → AllByRecursion Q xs
weaker P Q f [] all = tt
weaker P Q f (x ∷ xs) all = (f x all.0, weaker P Q f xs all.1)

-- ---- first values and offsets

is_the_end : (j : Instruction) → is_end j ≡ true → j ≡ end_mark
is_the_end end_mark e = refl
is_the_end _ e = absurd cc

plain_value : (m : WasmModule) (t : ValType) (p : Plain) → value_rule m t (plain p) ≡ None → IsPlainValue p
plain_value m t (global_get x) e = tt
plain_value m t (const32 n) e = tt
plain_value m t (const64 n) e = tt
plain_value m t _ e = absurd cc

value : (m : WasmModule) (t : ValType) (i : Instruction) → value_rule m t i ≡ None → IsValue i
value m t (plain p) e = plain_value m t p e
value m t _ e = absurd cc

constant : (m : WasmModule) (t : ValType) (code : List Instruction) → init_rule m t code ≡ None → IsConstant code
constant m t [] e = absurd cc
constant m t (i ∷ []) e = absurd cc
constant m t (i ∷ j ∷ []) e =
    let k = kept (is_end j) _ (value_rule m t i) e in
    (i, ap (λ (x : Instruction). i ∷ x ∷ []) (is_the_end j k.0), value m t i k.1)
constant m t (i ∷ j ∷ x ∷ is) e = absurd cc

zero_is : (n : ℕ) (b : Bool) → nat_eq n 0 && b ≡ true → n ≡ 0
zero_is n b e = eqb-true n 0 (and_parts (nat_eq n 0) b e).0

pub valid_constants : (m : WasmModule) → IsValidModule m → HasConstants m
valid_constants m v = record {
  globals = weaker (λ (g : GlobalEntry). init_rule m g.kind.kind g.init ≡ None) (λ (g : GlobalEntry). IsConstant g.init) (λ g e. constant m g.kind.kind g.init e) m.globals
      (all_kept (λ (g : GlobalEntry). init_rule m g.kind.kind g.init) m.globals (λ i lt. v sections.Globals i lt));
  elements = weaker (λ (e : ElementSegment). element_rule m e ≡ None) (λ (e : ElementSegment). IsConstant e.offset)
      (λ e h. constant m I32 e.offset (kept (is_table_number m e.table) _ (init_rule m I32 e.offset) (kept (are_functions m e.functions) _ _ h).1).1) m.elements
      (all_kept (element_rule m) m.elements (λ i lt. v sections.Elements i lt));
  segments = weaker (λ (s : DataSegment). segment_rule m s ≡ None) (λ (s : DataSegment). IsConstant s.offset)
      (λ s h. constant m I32 s.offset (kept (is_memory_number m s.memory) _ (init_rule m I32 s.offset) h).1) m.segments (all_kept (segment_rule m) m.segments (λ i lt. v sections.Data i lt));
}

-- ---- alignments

natural_low : (size : ℕ) → natural size ≤ 3
natural_low size = by (nat_le 8 size) (nat_le 4 size) (nat_le 2 size)
  where
    by : (a b c : Bool) → cond a 3 (cond b 2 (cond c 1 0)) ≤ 3
    by true b c = omega arith
    by false true c = omega arith
    by false false true = omega arith
    by false false false = omega arith

abbrev allowed : Bool → Rule → Result (Unit {0}) Rule
allowed b rule = unless b rule tt

aligned : (align size : ℕ) (rule : Rule) → allowed (nat_le align (natural size)) rule ≡ Ok tt → align < 32
aligned align size rule e = by (nat_le align (natural size)) refl e
  where
    by : (b : Bool) → nat_le align (natural size) ≡ b → allowed b rule ≡ Ok tt → align < 32
    by true t e = let low = natural_low size in let le = leb-true align (natural size) t in omega (arith, low, le)
    by false t e = absurd cc

plain_aligned : (c : Context) (p : Plain) → plain_late c p ≡ Ok tt → IsAligned (plain p)
plain_aligned c (load op align offset) e = aligned align op.size Alignment e
plain_aligned c (store op align offset) e = aligned align op.size Alignment e
plain_aligned c _ e = tt

one_aligned : (c : Context) (i : Instruction) → late c i ≡ Ok tt → IsAligned i
one_aligned c (plain p) e = plain_aligned c p e
one_aligned c _ e = tt

joined : (P : Instruction → Type 0) (xs ys : List Instruction) → AllByRecursion P xs → AllByRecursion P ys → AllByRecursion P (xs ++ ys)
joined P [] ys a b = b
joined P (x ∷ xs) ys a b = (a.0, joined P xs ys a.1 b)

typed_aligned : {c : Context} {code : List Instruction} {before after : List ValType} → Typed c code before after → AllByRecursion IsAligned code
typed_aligned typed_empty = tt
typed_aligned (typed_plain {c = c} {i = i} below s a l d) = (one_aligned c i l, typed_aligned d)
typed_aligned (typed_block {body = body} {rest = rest} b d) = (tt, joined IsAligned body (end_mark ∷ rest) (typed_aligned b) (tt, typed_aligned d))
typed_aligned (typed_loop {body = body} {rest = rest} b d) = (tt, joined IsAligned body (end_mark ∷ rest) (typed_aligned b) (tt, typed_aligned d))
typed_aligned (typed_arms {first = one} {second = two} {rest = rest} a b d) =
    (tt, joined IsAligned one (else_mark ∷ (two ++ end_mark ∷ rest)) (typed_aligned a) (tt, joined IsAligned two (end_mark ∷ rest) (typed_aligned b) (tt, typed_aligned d)))
typed_aligned (typed_if {body = body} {rest = rest} b d) = (tt, joined IsAligned body (end_mark ∷ rest) (typed_aligned b) (tt, typed_aligned d))

body_aligned : (m : WasmModule) (i : ℕ) (body : FunctionBody) → IsValidBody m i (Some body) → AllByRecursion IsAligned body.code
body_aligned m i body v = subst (AllByRecursion IsAligned) (sym v.1) (joined IsAligned v.0 (end_mark ∷ []) (typed_aligned v.2) (tt, tt))

bodies_aligned : (m : WasmModule) (n : ℕ) (bodies : List FunctionBody) → ((i : ℕ) → i < length bodies → IsValidBody m (n + i) (slice_get bodies i)) → AllByRecursion (λ (b : FunctionBody). AllByRecursion IsAligned b.code) bodies
bodies_aligned m n [] h = tt
bodies_aligned m n (body ∷ bodies) h = (
  body_aligned m (n + 0) body (h 0 (omega arith)),
  bodies_aligned m (n + 1) bodies (λ i lt. subst (λ k. IsValidBody m k (slice_get bodies i)) (let e : n + suc i ≡ n + 1 + i = omega arith in e) (h (suc i) (omega (arith, lt)))),
)

pub valid_one_of_each : (m : WasmModule) → IsValidModule m → HasOneOfEach m
valid_one_of_each m v = record {
  bodies = bodies_aligned m 0 m.bodies (λ i lt. subst (λ k. IsValidBody m k (slice_get m.bodies i)) (let e : i ≡ 0 + i = omega arith in e) (v sections.Code i lt));
  elements = weaker (λ (e : ElementSegment). element_rule m e ≡ None) (λ (e : ElementSegment). e.table ≡ 0)
      (λ e h. zero_is e.table (has_table m) (kept (is_table_number m e.table) _ (init_rule m I32 e.offset) (kept (are_functions m e.functions) _ _ h).1).0) m.elements
      (all_kept (element_rule m) m.elements (λ i lt. v sections.Elements i lt));
  segments = weaker (λ (s : DataSegment). segment_rule m s ≡ None) (λ (s : DataSegment). s.memory ≡ 0)
      (λ s h. zero_is s.memory (has_memory m) (kept (is_memory_number m s.memory) _ (init_rule m I32 s.offset) h).0) m.segments (all_kept (segment_rule m) m.segments (λ i lt. v sections.Data i lt));
}

-- ---- types of functions

got : {X : Type 0} (xs : List X) (i : ℕ) → i < length xs → (x : X) × (slice_get xs i ≡ Some x)
got [] i lt = absurd (omega (arith, lt))
got (x ∷ xs) zero lt = (x, refl)
got (x ∷ xs) (suc i) lt = got xs i (omega (arith, lt))

all_held : {X : Type 0} (P : X → Type 0) (rule : ℕ → X → Option Rule) → ((i : ℕ) (x : X) → rule i x ≡ None → P x) → (xs : List X) → ((i : ℕ) → i < length xs → at (slice_get xs i) (rule i) ≡ None) → AllByRecursion P xs
all_held P rule f [] h = tt
all_held P rule f (x ∷ xs) h = (f 0 x (h 0 (omega arith)), all_held P (λ i. rule (suc i)) (λ i. f (suc i)) xs (λ i lt. h (suc i) (omega (arith, lt))))

type_there : (m : WasmModule) (t : ℕ) (rule : Rule) → meets (is_type m t) rule None ≡ None → HasType m.types t
type_there m t rule e = got m.types t (ltb-true t (length m.types) (kept (is_type m t) rule None e).0)

import_type_there : (m : WasmModule) (before : List Imported) (kind : ImportKind) → import_rule m before kind ≡ None → ImportHasType m.types kind
import_type_there m before (imports.Func t) e = type_there m t NoType e
import_type_there m before (imports.Table l) e = tt
import_type_there m before (imports.Memory l) e = tt
import_type_there m before (imports.Global g) e = tt

pub valid_types : (m : WasmModule) → IsValidModule m → HasTypes m
valid_types m v = record {
  imports = all_held (λ (i : Imported). ImportHasType m.types i.kind) (λ i (x : Imported). import_rule m (take i m.imports) x.kind) (λ i x e. import_type_there m (take i m.imports) x.kind e) m.imports (λ i lt. v sections.Imports i lt);
  functions = all_held (HasType m.types) (λ i t. meets (is_type m t) NoType None) (λ i t e. type_there m t NoType e) m.functions (λ i lt. v sections.Functions i lt);
}
