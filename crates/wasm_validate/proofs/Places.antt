-- Sections, and the places of their faults.
use Rattle.std.proofs.Common.{◌≡◌, ◌⊎◌, inl, inr, ℕ, zero, suc, ◌<◌, ◌+◌, ◌-◌, true, List, [], ◌∷◌, length, get_or, refl, sym, ap, ◌∙◌, subst, arith}
use Rattle.wasm_lang.specs.Modules.{WasmModule}
use Rattle.wasm_lang_valid.specs.declared.section.Section.{Section}
use Rattle.wasm_lang_valid.specs.declared.section.Section.TheVariants.{Types, Imports, Functions, Tables, Memories, Globals, Exports, Start, Elements, Code, Data}
use Rattle.wasm_lang_valid.specs.Validity.{id, items, IsFine, IsFineSection, IsValidModule, BreaksAt}
use Rattle.wasm_validate.specs.declared.fault.ItemFault.{ItemFault}
use Rattle.wasm_validate.specs.declared.fault.ItemFault.TheVariants.{Broken, Memory}
use Rattle.wasm_validate.specs.declared.fault.Invalid.{Invalid}
use Rattle.wasm_validate.specs.declared.fault.Invalid.TheVariants as invalid
use Rattle.wasm_validate.specs.Sections.{is_separate, FineItems, IsItemFault}
use Rattle.wasm_validate.specs.declared.fault.CodeFault.{CodeFault}
use Rattle.wasm_validate.specs.declared.fault.CodeFault.TheVariants as codes
use Rattle.wasm_validate.specs.Bodies.{FineBodies, IsCodeFault}
use Rattle.wasm_validate.specs.Refusals.{in_section, in_code, IsSectionFault, IsInvalid}

-- a section whose items are looked at one at a time
pub fine_section : (m : WasmModule) (s : Section) → is_separate s ≡ true → FineItems m s (items m s) → IsFineSection m s
fine_section m Code e h = cc
fine_section m s e h = h

pub section_fault : (m : WasmModule) (s : Section) (fault : ItemFault) → is_separate s ≡ true → IsItemFault m s (items m s) fault → IsSectionFault m s (in_section s fault)
section_fault m s Memory e h = tt
section_fault m Code (Broken index rule) e h = cc
section_fault m Types (Broken index rule) e h = (refl, h.0, h.1, (h.2, refl))
section_fault m Imports (Broken index rule) e h = (refl, h.0, h.1, (h.2, refl))
section_fault m Functions (Broken index rule) e h = (refl, h.0, h.1, (h.2, refl))
section_fault m Tables (Broken index rule) e h = (refl, h.0, h.1, (h.2, refl))
section_fault m Memories (Broken index rule) e h = (refl, h.0, h.1, (h.2, refl))
section_fault m Globals (Broken index rule) e h = (refl, h.0, h.1, (h.2, refl))
section_fault m Exports (Broken index rule) e h = (refl, h.0, h.1, (h.2, refl))
section_fault m Start (Broken index rule) e h = (refl, h.0, h.1, (h.2, refl))
section_fault m Elements (Broken index rule) e h = (refl, h.0, h.1, (h.2, refl))
section_fault m Data (Broken index rule) e h = (refl, h.0, h.1, (h.2, refl))

-- the section of an id
abbrev sections : List Section
sections = Types ∷ Imports ∷ Functions ∷ Tables ∷ Memories ∷ Globals ∷ Exports ∷ Start ∷ Elements ∷ Code ∷ Data ∷ []

back : (s : Section) → get_or sections (id s - 1) Types ≡ s
back Types = refl
back Imports = refl
back Functions = refl
back Tables = refl
back Memories = refl
back Globals = refl
back Exports = refl
back Start = refl
back Elements = refl
back Code = refl
back Data = refl

pub id_same : (s t : Section) → id s ≡ id t → s ≡ t
id_same s t e = sym (back s) ∙ ap (λ n. get_or sections (n - 1) Types) e ∙ back t

at_least : (s : Section) → 0 < id s
at_least Types = omega arith
at_least Imports = omega arith
at_least Functions = omega arith
at_least Tables = omega arith
at_least Memories = omega arith
at_least Globals = omega arith
at_least Exports = omega arith
at_least Start = omega arith
at_least Elements = omega arith
at_least Code = omega arith
at_least Data = omega arith

at_most : (s : Section) → id s < 12
at_most Types = omega arith
at_most Imports = omega arith
at_most Functions = omega arith
at_most Tables = omega arith
at_most Memories = omega arith
at_most Globals = omega arith
at_most Exports = omega arith
at_most Start = omega arith
at_most Elements = omega arith
at_most Code = omega arith
at_most Data = omega arith

split : (n k : ℕ) → n < k + 1 → (n < k) ⊎ (n ≡ k)
split zero zero h = inr refl
split zero (suc k) h = inl (omega arith)
split (suc n) zero h = absurd (omega (arith, h))
split (suc n) (suc k) h = elim (split n k (omega (arith, h))) [ inl lt ↦ inl (omega (arith, lt)) | inr eq ↦ inr (ap suc eq) ]

-- the sections of lower ids are fine
abbrev pub FineBefore : WasmModule → ℕ → Type 0
FineBefore m n = (s : Section) → id s < n → IsFineSection m s

pub none_before : (m : WasmModule) → FineBefore m (0 + 1)
none_before m s h = absurd (omega (arith, at_least s))

pub one_section : (m : WasmModule) (k : ℕ) (s : Section) → id s ≡ k + 1 → FineBefore m (k + 1) → IsFineSection m s → FineBefore m (k + 1 + 1)
one_section m k s is before here t h = by (id t) refl
  where
    by : (n : ℕ) → id t ≡ n → IsFineSection m t
    by n e = elim (split n (k + 1) (omega (arith, h, e))) [ inl lt ↦ before t (omega (arith, lt, e)) | inr eq ↦ subst (IsFineSection m) (id_same s t (omega (arith, is, e, eq))) here ]

pub invalid_at : (m : WasmModule) (k : ℕ) (s : Section) (e : Invalid) → id s ≡ k + 1 → FineBefore m (k + 1) → IsSectionFault m s e → IsInvalid m e
invalid_at m k s invalid.Memory is before f = tt
invalid_at m k s (invalid.Rule rule section index instruction) is before f =
    record {
      sections = λ t h. before t (subst (λ n. id t < n) (ap id f.0 ∙ is) h);
      within = subst (λ x. index < items m x) (sym f.0) f.1;
      items = λ i h. subst (λ x. IsFine m x i) (sym f.0) (f.2 i h);
      here = subst (λ x. BreaksAt m x index rule instruction) (sym f.0) f.3;
    }

-- after the sections before the code

pub code_fault : (m : WasmModule) (k : ℕ) (e : CodeFault) → 9 ≡ k → FineBefore m (k + 1) → IsCodeFault m e → IsInvalid m (in_code e)
code_fault m k codes.Memory is before f = tt
code_fault m k (codes.Broken index rule instruction) is before f = record {
  sections = λ s h. before s (omega (arith, h, is));
  within = f.0;
  items = f.1;
  here = f.2;
}

before_data : (m : WasmModule) (k : ℕ) → 9 ≡ k → FineBefore m (k + 1) → FineBodies m (length m.bodies) → FineBefore m (10 + 1)
before_data m k is before bodies = one_section m 9 Code refl (subst (λ n. FineBefore m (n + 1)) (sym is) before) bodies

pub data_fault : (m : WasmModule) (k : ℕ) (e : Invalid) → 9 ≡ k → FineBefore m (k + 1) → FineBodies m (length m.bodies) → IsSectionFault m Data e → IsInvalid m e
data_fault m k e is before bodies f = invalid_at m 10 Data e refl (before_data m k is before bodies) f

pub all_sections : (m : WasmModule) (k : ℕ) → 9 ≡ k → FineBefore m (k + 1) → FineBodies m (length m.bodies) → IsFineSection m Data → IsValidModule m
all_sections m k is before bodies fine s = one_section m 10 Data refl (before_data m k is before bodies) fine s (at_most s)
