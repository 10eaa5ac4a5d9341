-- Elements at constant places of which none lies outside the table lie inside.
use Rattle.std.proofs.Common.{◌≡◌, ℕ, zero, suc, ◌+◌, ◌≤◌, Bool, true, false, List, [], ◌∷◌, length, Option, Some, None, refl, subst, arith}
use Rattle.std.specs.Prelude.{slice_get, nat_lt}
use Rattle.std.proofs.lemmas.Bool.Decides.{nat_tests}
use Rattle.wasm_lang.specs.declared.types.ValType.TheVariants.{I32}
use Rattle.wasm_lang.specs.Modules.{ElementSegment, DataSegment, WasmModule}
use Rattle.wasm_lang_valid.specs.ModuleRules.{init_rule, element_rule, are_functions}
use Rattle.wasm_lang_valid.specs.Validity.{IsValidModule}
use Rattle.wasm_lang_valid.specs.Profile.{where_so, or_zero, is_global_offset, constant_offset, passes, offset_from_import, segment_outside, table_length, memory_bytes}
use Rattle.wasm2js_lang.proofs.Padded.{is_constant, meets_last, fine}
use Rattle.wasm2js_tables.specs.Inside.{AreInside}

apart : (b : Bool) (n : ℕ) (o : Option ℕ) → where_so b n o ≡ None → (b ≡ false) × (o ≡ None)
apart true n o h = cc h
apart false n o h = (refl, h)

inside : (o : Option ℕ) (n size room : ℕ) → o ≡ Some n → passes o size room ≡ false → or_zero o + size ≤ room
inside None n size room e h = cc e
inside (Some k) n size room e h = at_most room (k + size) h
  where
    at_most : (a b : ℕ) → nat_lt a b ≡ false → b ≤ a
    at_most a b h = grind (arith, nat_tests)

module _ (w : WasmModule) (room bytes : ℕ) (segments : List DataSegment) where
  all_inside : (es : List ElementSegment) (n : ℕ) → ((i : ℕ) (e : ElementSegment) → slice_get es i ≡ Some e → element_rule w e ≡ None)
      → offset_from_import n es segments ≡ None → segment_outside room bytes n es segments ≡ None → AreInside room es
  all_inside [] n fine constant within i e h = cc h
  all_inside (s ∷ es) n fine constant within zero e h = this (some_same h)
    where
      some_same : Some s ≡ Some e → s ≡ e
      some_same h = cc h

      here : or_zero (constant_offset s.offset) + length s.functions ≤ room
      here =
          let g = apart (is_global_offset s.offset) n (offset_from_import (n + 1) es segments) constant in
          let o = apart (passes (constant_offset s.offset) (length s.functions) room) n (segment_outside room bytes (n + 1) es segments) within in
          let init = meets_last _ _ (init_rule w I32 s.offset) (meets_last (are_functions w s.functions) _ _ (fine 0 s refl)) in
          let c = is_constant w s.offset init g.0 in
          inside (constant_offset s.offset) c.0 (length s.functions) room c.1 o.0

      this : s ≡ e → or_zero (constant_offset e.offset) + length e.functions ≤ room
      this same = subst (λ x. or_zero (constant_offset x.offset) + length x.functions ≤ room) same here
  all_inside (s ∷ es) n fine constant within (suc i) e h =
      let g = apart (is_global_offset s.offset) n (offset_from_import (n + 1) es segments) constant in
      let o = apart (passes (constant_offset s.offset) (length s.functions) room) n (segment_outside room bytes (n + 1) es segments) within in
      all_inside es (n + 1) (λ i e h. fine (suc i) e h) g.1 o.1 i e h

pub elements_inside : (w : WasmModule) → IsValidModule w → offset_from_import 0 w.elements w.segments ≡ None
    → segment_outside (table_length w) (memory_bytes w) 0 w.elements w.segments ≡ None → AreInside (table_length w) w.elements
elements_inside w valid constant within = all_inside w (table_length w) (memory_bytes w) w.segments w.elements 0 (fine w valid) constant within
