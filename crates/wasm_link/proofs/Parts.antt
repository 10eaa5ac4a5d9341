-- The sections of two valid modules that can be linked, as the code makes them, are those of the linked module.
use Rattle.std.proofs.Common.{◌≡◌, ℕ, zero, suc, ◌+◌, ◌^◌, ◌<◌, ◌≤◌, Bool, true, false, List, [], ◌∷◌, ◌++◌, length, map, take, Option, Some, None, refl, sym, ap, ◌∙◌, subst, arith, zero-add, add-zero}
use Rattle.std.specs.Prelude.{if◌then◌else◌}
use Rattle.std.specs.List.{AllByRecursion}
use Rattle.wasm_lang.specs.declared.types.ImportKind.{ImportKind}
use Rattle.wasm_lang.specs.declared.types.ImportKind.TheVariants as imports
use Rattle.wasm_lang.specs.declared.types.ValType.TheVariants.{I32}
use Rattle.wasm_lang.specs.Modules.{Imported, GlobalEntry, ElementSegment, DataSegment, WasmModule}
use Rattle.wasm_lang_valid.specs.ModuleRules.{init_rule}
use Rattle.wasm_lang_valid.specs.Profile.{is_global_offset, constant_offset, passes, offset_from_import, segment_outside}
use Rattle.wasm_lang_valid.specs.Validity.{IsValidModule}
use Rattle.wasm_link_code.specs.Linked.{stays, staying, moved_kind, moved_import, moved_global, moved_element}
use Rattle.wasm_link_sections.specs.Made.{capped, kind_made, import_made, imports_made, global_made, element_made, segment_made}
use Rattle.wasm_link_laws_writable.proofs.Each.{same_map, both_each}
use Rattle.wasm_link_laws_writable.proofs.Facts.{TypeIsThere, functions_typed, globals_fine, elements_fine, segments_fine, all_constant, all_inside}
use Rattle.wasm_link.proofs.Constants.{within, value_is, offset_is, kept_is}

-- ---- imports

kind_is : (m : WasmModule) (n : ℕ) (kind : ImportKind) → n + length m.types < 2 ^ 32 → TypeIsThere m kind → kind_made n kind ≡ moved_kind n kind
unfolding TypeIsThere
kind_is m n (imports.Func t) few h = ap (λ (k : ℕ). imports.Func k) (within (n + t) (omega arith))
kind_is m n (imports.Table l) few h = refl
kind_is m n (imports.Memory l) few h = refl
kind_is m n (imports.Global g) few h = refl

pub imports_are : (m other : WasmModule) (n : ℕ) (is : List Imported) → n + length m.types < 2 ^ 32 → AllByRecursion (λ (i : Imported). TypeIsThere m i.kind) is → imports_made other n is ≡ map (moved_import n) (staying other is)
imports_are m other n [] few h = refl
imports_are m other n (i ∷ is) few h = by (imports_are m other n is few h.1) (stays other i)
  where
    by : imports_made other n is ≡ map (moved_import n) (staying other is) → (t : Bool) → (if t then import_made n i ∷ imports_made other n is else imports_made other n is) ≡ map (moved_import n) (if t then i ∷ staying other is else staying other is)
    by rest true = ap (λ k. record i { kind = k } ∷ imports_made other n is) (kind_is m n i.kind few h.0) ∙ ap (λ l. moved_import n i ∷ l) rest
    by rest false = rest

first_kind : (kind : ImportKind) → moved_kind 0 kind ≡ kind
first_kind (imports.Func t) = ap (λ (k : ℕ). imports.Func k) (zero-add t)
first_kind (imports.Table l) = refl
first_kind (imports.Memory l) = refl
first_kind (imports.Global g) = refl

pub first_imports : (is : List Imported) → map (moved_import 0) is ≡ is
first_imports [] = refl
first_imports (i ∷ is) = ap (λ k. record i { kind = k } ∷ map (moved_import 0) is) (first_kind i.kind) ∙ ap (λ l. i ∷ l) (first_imports is)

-- ---- the functions' types

pub functions_are : (m : WasmModule) (n : ℕ) → n + length m.types < 2 ^ 32 → IsValidModule m → map (λ t. capped (n + t)) m.functions ≡ map (λ t. n + t) m.functions
functions_are m n few valid = same_map (λ (t : ℕ). capped (n + t)) (λ (t : ℕ). n + t) (λ (t : ℕ). t < length m.types) m.functions (λ t h. within (n + t) (omega arith)) (functions_typed m valid)

-- ---- globals

pub globals_are : (m : WasmModule) (global : ℕ → ℕ) → IsValidModule m → map (global_made global) m.globals ≡ map (moved_global global) m.globals
globals_are m global valid =
    same_map (global_made global) (moved_global global) (λ (g : GlobalEntry). init_rule m g.kind.kind g.init ≡ None) m.globals (λ g h. ap (λ c. record g { init = c }) (value_is m g.kind.kind global g.init h))
    (globals_fine m valid)

-- ---- segments

pub elements_are : (m : WasmModule) (function : ℕ → ℕ) (n entries bytes : ℕ) → IsValidModule m → entries + n < 2 ^ 32 → offset_from_import 0 m.elements m.segments ≡ None → segment_outside entries bytes 0 m.elements m.segments ≡ None
    → map (element_made function n) m.elements ≡ map (moved_element function n) m.elements
elements_are m function n entries bytes valid few constant inside =
    same_map (element_made function n) (moved_element function n) (λ (x : ElementSegment). ((init_rule m I32 x.offset ≡ None) × (is_global_offset x.offset ≡ false)) × (passes (constant_offset x.offset) (length x.functions) entries ≡ false)) m.elements
    (λ x h. ap (λ c. record { table = x.table; offset = c; functions = map function x.functions }) (offset_is m n entries (length x.functions) x.offset few h.0.0 h.0.1 h.1))
    (both_each _ _ m.elements
    (both_each _ _ m.elements
    (elements_fine m valid)
    ((all_constant 0 m.elements m.segments constant).0))
    (all_inside entries bytes 0 m.elements m.segments inside))

same_each : {A : Type 0} (f : A → A) (P : A → Type 0) (xs : List A) → ((x : A) → P x → f x ≡ x) → AllByRecursion P xs → map f xs ≡ xs
same_each f P [] h e = refl
same_each f P (x ∷ xs) h e = ap (λ y. y ∷ map f xs) (h x e.0) ∙ ap (λ l. x ∷ l) (same_each f P xs h e.1)

pub segments_are : (m : WasmModule) → IsValidModule m → offset_from_import 0 m.elements m.segments ≡ None → map segment_made m.segments ≡ m.segments
segments_are m valid constant =
    same_each segment_made (λ (d : DataSegment). (init_rule m I32 d.offset ≡ None) × (is_global_offset d.offset ≡ false)) m.segments
    (λ d h. ap (λ c. record { memory = d.memory; offset = c; bytes = d.bytes }) (kept_is m d.offset h.0 h.1))
    (both_each _ _ m.segments
    (segments_fine m valid)
    ((all_constant 0 m.elements m.segments constant).1))
