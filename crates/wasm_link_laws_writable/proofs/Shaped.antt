-- The module that two shaped modules are linked to is shaped.
use Rattle.std.proofs.Common.{◌≡◌, ℕ, zero, suc, ◌+◌, ◌<◌, Bool, true, false, List, [], ◌∷◌, ◌++◌, length, map, Option, Some, None, refl, sym, ap, ◌∙◌, subst, arith}
use Rattle.std.specs.Prelude.{All, if◌then◌else◌, codes, option_map}
use Rattle.std.specs.Str.{IsUtf8, IsAscii}
use Rattle.std.specs.List.{flat_map, AllByRecursion}
use Rattle.std.proofs.lemmas.List.Elements.{All-from_recursion, recursion_from_All, All-nil, All-cons, All-head, All-tail, All-append, All-map, All-weaker}
use Rattle.std.proofs.lemmas.Str.{IsUtf8-from_ascii}
use Rattle.wasm_lang.specs.declared.types.ValType.{ValType}
use Rattle.wasm_lang.specs.declared.types.ValType.TheVariants.{I32}
use Rattle.wasm_lang.specs.Instructions.{Instruction, call, plain, const32, const64, global_get, end_mark, is_simple, empty, simple, IsExpression}
use Rattle.wasm_lang.specs.Modules.{Imported, Exported, GlobalEntry, ElementSegment, DataSegment, FunctionBody, WasmModule}
use Rattle.wasm_lang.specs.Opcodes.{form_at}
use Rattle.wasm_lang.specs.Shape.{HasOpcode, IsShapedCode, IsShaped}
use Rattle.wasm_lang_valid.specs.ModuleRules.{init_rule, value_rule}
use Rattle.wasm_lang_exec.specs.Session.{exported_function}
use Rattle.wasm_link_lang.specs.Pairs.{Pair, Bases, past_first, addressed, at_addresses}
use Rattle.wasm_link_lang.specs.Refusal.{refusal, least_maximum, locals_of}
use Rattle.wasm_laws_sound.specs.Laws.{IsWhole}
use Rattle.wasm_link_laws_modules.specs.Laws.{IsLinkable}
use Rattle.wasm_link_lang.specs.Session as session
use Rattle.wasm_link_code.specs.Code.{moved, moved_code}
use Rattle.wasm_lang_valid.specs.Validity.{IsValidModule}
use Rattle.wasm_link_lang.specs.Reductions.{entries}
use Rattle.wasm_link_code.specs.Laws.{no_bases}
use Rattle.wasm_link_code.specs.Numbers.{number, global_number}
use Rattle.wasm_link_code.proofs.CodeAddresses.{first_is_addressed}
use Rattle.wasm_link_code.specs.Linked.{linked, moved_global, moved_element, stays, staying, moved_import, memory_import, moved_bodies, start_bodies, moved_exports, with_export, moved_value, moved_offset, second_start}
use Rattle.wasm_link_laws_writable.proofs.Values.{shape}
use Rattle.wasm_link_laws_writable.proofs.Expressions.{addressed_expression, addressed_opcodes}
use Rattle.wasm_link_laws_writable.proofs.Facts.{globals_fine, elements_fine}

-- ---- names

low : (bs : List ℕ) → AllByRecursion (λ b. b < 128) bs → IsAscii bs
low [] all i = omega arith
low (b ∷ bs) all zero = all.0
low (b ∷ bs) all (suc i) = low bs all.1 i

env_utf8 : IsUtf8 (codes "env")
env_utf8 = IsUtf8-from_ascii (codes "env") (low (codes "env") (omega arith, (omega arith, (omega arith, tt))))

memory_utf8 : IsUtf8 (codes "memory")
memory_utf8 = IsUtf8-from_ascii (codes "memory") (low (codes "memory") (omega arith, (omega arith, (omega arith, (omega arith, (omega arith, (omega arith, tt)))))))

-- a fact that a moved import keeps
module _ (P : Imported → Type 0) (keeps : (n : ℕ) (i : Imported) → P i → P (moved_import n i)) where
  stay : (other : WasmModule) (is : List Imported) → All P is → All P (staying other is)
  stay other [] h = h
  stay other (i ∷ is) h = by (stays other i) (stay other is (All-tail P i is h))
    where
      by : (t : Bool) → All P (staying other is) → All P (if t then i ∷ staying other is else staying other is)
      by true rest = All-cons P i (staying other is) (All-head P i is h) rest
      by false rest = rest

  move : (n : ℕ) (is : List Imported) → All P is → All P (map (moved_import n) is)
  move n [] h = h
  move n (i ∷ is) h = All-cons P (moved_import n i) (map (moved_import n) is) (keeps n i (All-head P i is h)) (move n is (All-tail P i is h))

  all_imports : (w : Pair) → ((least most : Option ℕ) → All P (memory_import least most)) → All P w.first.imports → All P w.second.imports
      → All P (staying w.second w.first.imports ++ (map (moved_import (length w.first.types)) (staying w.first w.second.imports) ++ memory_import (session.pages w) (least_maximum w)))
  all_imports w memory first second =
      All-append P (staying w.second w.first.imports) _ (stay w.second w.first.imports first)
      (All-append P (map (moved_import (length w.first.types)) (staying w.first w.second.imports)) _ (move (length w.first.types) (staying w.first w.second.imports) (stay w.first w.second.imports second)) (memory (session.pages w) (least_maximum w)))

memory_modules : (least most : Option ℕ) → All (λ (i : Imported). IsUtf8 i.module_name) (memory_import least most)
memory_modules None most = All-nil (λ (i : Imported). IsUtf8 i.module_name)
memory_modules (Some n) most = All-cons (λ (i : Imported). IsUtf8 i.module_name) _ [] env_utf8 (All-nil (λ (i : Imported). IsUtf8 i.module_name))

memory_names : (least most : Option ℕ) → All (λ (i : Imported). IsUtf8 i.name) (memory_import least most)
memory_names None most = All-nil (λ (i : Imported). IsUtf8 i.name)
memory_names (Some n) most = All-cons (λ (i : Imported). IsUtf8 i.name) _ [] memory_utf8 (All-nil (λ (i : Imported). IsUtf8 i.name))

exports_keep : (function : ℕ → ℕ) (es : List Exported) → All (λ (e : Exported). IsUtf8 e.name) es → All (λ (e : Exported). IsUtf8 e.name) (moved_exports function es)
exports_keep function [] h = h
exports_keep function (e ∷ es) h = by (exported_function e.kind) (exports_keep function es (All-tail (λ (e : Exported). IsUtf8 e.name) e es h))
  where
    by : (o : Option ℕ) → All (λ (e : Exported). IsUtf8 e.name) (moved_exports function es) → All (λ (e : Exported). IsUtf8 e.name) (with_export function e o (moved_exports function es))
    by None rest = rest
    by (Some f) rest = All-cons (λ (e : Exported). IsUtf8 e.name) _ (moved_exports function es) (All-head (λ (e : Exported). IsUtf8 e.name) e es h) rest

-- ---- code

pub fused : (g : Instruction → List Instruction) (h : Instruction → Instruction) (xs : List Instruction) → flat_map (λ i. g (h i)) xs ≡ flat_map g (map h xs)
fused g h [] = refl
fused g h (x ∷ xs) = ap (λ l. g (h x) ++ l) (fused g h xs)

code_moves : (w : Pair) (b : Bases) (k : ℕ) (code : List Instruction) → IsShapedCode code → IsShapedCode (moved_code w k (map (addressed b) code))
code_moves w b k code s = record {
  expression = subst IsExpression (fused (moved w k) (addressed b) code) (addressed_expression w b k code s.expression);
  opcodes = All-from_recursion HasOpcode (moved_code w k (map (addressed b) code)) (subst (AllByRecursion HasOpcode) (fused (moved w k) (addressed b) code) (addressed_opcodes w b k code (recursion_from_All HasOpcode code s.opcodes)));
}

first_moves : (w : Pair) (k : ℕ) (code : List Instruction) → IsShapedCode code → IsShapedCode (moved_code w k code)
first_moves w k code s = subst (λ c. IsShapedCode (moved_code w k c)) (first_is_addressed code) (code_moves w no_bases k code s)

first_bodies_move : (w : Pair) (m : WasmModule) (other i : ℕ) (bs : List FunctionBody) → All (λ (b : FunctionBody). IsShapedCode b.code) bs → All (λ (b : FunctionBody). IsShapedCode b.code) (moved_bodies w m other i bs)
first_bodies_move w m other i [] h = h
first_bodies_move w m other i (b ∷ bs) h =
    All-cons (λ (b : FunctionBody). IsShapedCode b.code) _ (moved_bodies w m other (suc i) bs) (first_moves w (locals_of m i b) b.code (All-head (λ (b : FunctionBody). IsShapedCode b.code) b bs h))
    (first_bodies_move w m other (suc i) bs (All-tail (λ (b : FunctionBody). IsShapedCode b.code) b bs h))

second_bodies_move : (w : Pair) (m : WasmModule) (a : Bases) (other i : ℕ) (bs : List FunctionBody) → All (λ (b : FunctionBody). IsShapedCode b.code) bs
    → All (λ (b : FunctionBody). IsShapedCode b.code) (moved_bodies w m other i (map (λ (f : FunctionBody). record f { code = map (addressed a) f.code }) bs))
second_bodies_move w m a other i [] h = h
second_bodies_move w m a other i (b ∷ bs) h =
    All-cons (λ (b : FunctionBody). IsShapedCode b.code) _ (moved_bodies w m other (suc i) (map (λ (f : FunctionBody). record f { code = map (addressed a) f.code }) bs))
    (code_moves w a (locals_of m i b) b.code (All-head (λ (b : FunctionBody). IsShapedCode b.code) b bs h))
    (second_bodies_move w m a other (suc i) bs (All-tail (λ (b : FunctionBody). IsShapedCode b.code) b bs h))

starts_shaped : (w : Pair) (a b : Option ℕ) → All (λ (b : FunctionBody). IsShapedCode b.code) (start_bodies w a b)
unfolding form_at
starts_shaped w (Some a) (Some b) =
    All-cons (λ (b : FunctionBody). IsShapedCode b.code) _ []
    (record {
      expression = (call (number w a) ∷ call (number w b) ∷ [], refl, simple refl (simple refl empty));
      opcodes = All-from_recursion HasOpcode (call (number w a) ∷ call (number w b) ∷ end_mark ∷ []) ((0x10, refl), ((0x10, refl), ((0x0b, refl), tt)));
    })
    (All-nil (λ (b : FunctionBody). IsShapedCode b.code))
starts_shaped w None None = All-nil (λ (b : FunctionBody). IsShapedCode b.code)
starts_shaped w None (Some b) = All-nil (λ (b : FunctionBody). IsShapedCode b.code)
starts_shaped w (Some a) None = All-nil (λ (b : FunctionBody). IsShapedCode b.code)

-- ---- values of valid modules

single : (i : Instruction) → is_simple i ≡ true → HasOpcode i → IsShapedCode (i ∷ end_mark ∷ [])
unfolding form_at
single i s h = record {
  expression = (i ∷ [], refl, simple s empty);
  opcodes = All-from_recursion HasOpcode (i ∷ end_mark ∷ []) (h, ((0x0b, refl), tt));
}

one_value : (m : WasmModule) (t : ValType) (global : ℕ → ℕ) (i : Instruction) → value_rule m t i ≡ None → IsShapedCode (moved_value global (i ∷ end_mark ∷ []))
unfolding form_at
one_value m t global (plain (const32 n)) e = single (plain (const32 n)) refl (0x41, refl)
one_value m t global (plain (const64 n)) e = single (plain (const64 n)) refl (0x42, refl)
one_value m t global (plain (global_get x)) e = single (plain (global_get (global x))) refl (0x23, refl)
one_value m t global i e = absurd (cc)

value_shaped : (m : WasmModule) (t : ValType) (global : ℕ → ℕ) (code : List Instruction) → init_rule m t code ≡ None → IsShapedCode (moved_value global code)
value_shaped m t global code e = let s = shape m t code e in subst (λ c. IsShapedCode (moved_value global c)) (sym s.1) (one_value m t global s.0 s.2)

one_offset : (m : WasmModule) (t : ValType) (n : ℕ) (i : Instruction) → value_rule m t i ≡ None → IsShapedCode (moved_offset n (i ∷ end_mark ∷ []))
unfolding form_at
one_offset m t n (plain (const32 k)) e = single (plain (const32 (k + n))) refl (0x41, refl)
one_offset m t n (plain (const64 k)) e = single (plain (const64 k)) refl (0x42, refl)
one_offset m t n (plain (global_get x)) e = single (plain (global_get x)) refl (0x23, refl)
one_offset m t n i e = absurd (cc)

offset_shaped : (m : WasmModule) (t : ValType) (n : ℕ) (code : List Instruction) → init_rule m t code ≡ None → IsShapedCode (moved_offset n code)
offset_shaped m t n code e = let s = shape m t code e in subst (λ c. IsShapedCode (moved_offset n c)) (sym s.1) (one_offset m t n s.0 s.2)

globals_shaped : (m : WasmModule) (global : ℕ → ℕ) (gs : List GlobalEntry) → AllByRecursion (λ (g : GlobalEntry). init_rule m g.kind.kind g.init ≡ None) gs → All (λ (g : GlobalEntry). IsShapedCode g.init) (map (moved_global global) gs)
globals_shaped m global [] h = All-nil (λ (g : GlobalEntry). IsShapedCode g.init)
globals_shaped m global (g ∷ gs) h = All-cons (λ (g : GlobalEntry). IsShapedCode g.init) _ (map (moved_global global) gs) (value_shaped m g.kind.kind global g.init h.0) (globals_shaped m global gs h.1)

elements_shaped : (m : WasmModule) (function : ℕ → ℕ) (n : ℕ) (es : List ElementSegment) → AllByRecursion (λ (e : ElementSegment). init_rule m I32 e.offset ≡ None) es → All (λ (e : ElementSegment). IsShapedCode e.offset) (map (moved_element function n) es)
elements_shaped m function n [] h = All-nil (λ (e : ElementSegment). IsShapedCode e.offset)
elements_shaped m function n (e ∷ es) h = All-cons (λ (e : ElementSegment). IsShapedCode e.offset) _ (map (moved_element function n) es) (offset_shaped m I32 n e.offset h.0) (elements_shaped m function n es h.1)

-- ---- the whole

pub linked_is_shaped : (w : Pair) → IsValidModule w.first → IsValidModule w.second → IsShaped w.first → IsShaped w.second → length (linked w).functions ≡ length (linked w).bodies → IsShaped (linked w)
unfolding linked
linked_is_shaped w first second p q match = record {
  module_names = all_imports (λ (i : Imported). IsUtf8 i.module_name) (λ n i h. h) w memory_modules p.module_names q.module_names;
  import_names = all_imports (λ (i : Imported). IsUtf8 i.name) (λ n i h. h) w memory_names p.import_names q.import_names;
  export_names =
      All-append (λ (e : Exported). IsUtf8 e.name) (moved_exports (number w) w.first.exports) _ (exports_keep (number w) w.first.exports p.export_names)
      (exports_keep (λ f. number w ((past_first w).functions + f)) w.second.exports q.export_names);
  bodies =
      All-append (λ (b : FunctionBody). IsShapedCode b.code) (moved_bodies w w.first (entries w.second) 0 w.first.bodies) _ (first_bodies_move w w.first (entries w.second) 0 w.first.bodies p.bodies)
      (All-append (λ (b : FunctionBody). IsShapedCode b.code) (moved_bodies w w.second (entries w.first) 0 (at_addresses (past_first w) w.second).bodies) _ (second_bodies_move w w.second (past_first w) (entries w.first) 0 w.second.bodies q.bodies)
      (starts_shaped w w.first.start (second_start w)));
  globals =
      All-append (λ (g : GlobalEntry). IsShapedCode g.init) (map (moved_global (global_number w)) w.first.globals) _ (globals_shaped w.first (global_number w) w.first.globals (globals_fine w.first first))
      (globals_shaped w.second (λ x. global_number w ((past_first w).globals + x)) w.second.globals (globals_fine w.second second));
  elements =
      All-append (λ (e : ElementSegment). IsShapedCode e.offset) (map (moved_element (number w) 0) w.first.elements) _ (elements_shaped w.first (number w) 0 w.first.elements (elements_fine w.first first))
      (elements_shaped w.second (λ f. number w ((past_first w).functions + f)) (entries w.first) w.second.elements (elements_fine w.second second));
  segments = All-append (λ (s : DataSegment). IsShapedCode s.offset) w.first.segments w.second.segments p.segments q.segments;
  bodies_match = match;
}

pub linkable : (w : Pair) → IsValidModule w.first → IsValidModule w.second → IsShaped w.first → IsShaped w.second → refusal w ≡ None → IsLinkable w
linkable w first second p q none = record {
  first = record { is_valid = first; bodies_match = p.bodies_match };
  second = record { is_valid = second; bodies_match = q.bodies_match };
  not_refused = none;
}
