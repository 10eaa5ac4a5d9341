-- A module whose bodies are expressions is valid or refused.
use Rattle.std.proofs.Common.{◌≡◌, ◌⊎◌, inl, inr, ℕ, zero, suc, ◌+◌, ◌<◌, List, length, get_or, take, Option, Some, None, All, refl, sym, subst, arith}
use Rattle.std.specs.Prelude.{slice_get, Result, Ok, Err}
use Rattle.std.proofs.lemmas.Option.{slice_get-get_or, slice_get_within, get_or_from_slice_get}
use Rattle.std.proofs.lemmas.List.Elements.{All-get_or}
use Rattle.std.proofs.lemmas.Bool.{cases_order}
use Rattle.wasm_lang.specs.Instructions.{Instruction, IsExpression, end_mark}
use Rattle.wasm_lang.specs.Modules.{FunctionBody, WasmModule}
use Rattle.wasm_lang_valid.specs.declared.rule.Rule.{Rule}
use Rattle.wasm_lang_valid.specs.declared.section.Section.{Section}
use Rattle.wasm_lang_valid.specs.declared.section.Section.TheVariants.{Types, Imports, Functions, Tables, Memories, Globals, Exports, Start, Elements, Code, Data}
use Rattle.wasm_lang_valid.specs.Typing.{Context, IsValid}
use Rattle.wasm_lang_valid.specs.State.{Level, step, steps, at_start}
use Rattle.wasm_lang_valid.specs.Refusal.{Refuses}
use Rattle.wasm_lang_valid.specs.Validity.{id, items, body_context, IsFine, BreaksAt, IsFineSection, IsValidBody, BodyRefuses, IsValidModule, IsRefused}
use Rattle.wasm_lang_valid.proofs.Main.{valid, refuses, goes_on}
use Rattle.wasm_lang_valid.proofs.Once.{same_id}

abbrev BodyFault : Context → List Instruction → Type 0
BodyFault base code = (rule : Rule) × (place : ℕ) × Refuses base code place rule

module _ (base : Context) (code : List Instruction) (expression : IsExpression code) where
  -- the pass goes on from a place, with so many instructions left
  from : (left place : ℕ) (ls : List Level) → length code ≡ place + left → steps base (at_start base.returns) (take place code) ≡ Ok ls → IsValid base code ⊎ BodyFault base code
  from zero place ls e q = inl (valid base code place ls expression (omega (arith, e)) q)
  from (suc left) place ls e q = at (λ next s. from left (place + 1) next (omega (arith, e)) (goes_on base code place i ls next stands q s)) (step base ls i) refl
    where
      i : Instruction
      i = get_or code place end_mark

      stands : slice_get code place ≡ Some i
      stands = slice_get-get_or code place end_mark (omega (arith, e))

      at : ((next : List Level) → step base ls i ≡ Ok next → IsValid base code ⊎ BodyFault base code) → (r : Result (List Level) Rule) → step base ls i ≡ r → IsValid base code ⊎ BodyFault base code
      at on (Err rule) s = inr (rule, place, refuses base code place i ls rule expression stands q s)
      at on (Ok next) s = on next s

  body_judged : IsValid base code ⊎ BodyFault base code
  body_judged = from (length code) 0 (at_start base.returns) (omega arith) refl

module _ (m : WasmModule) (expressions : All (λ b. IsExpression b.code) m.bodies) where
  abbrev ItemFault : Section → ℕ → Type 0
  ItemFault s i = (rule : Rule) × (place : ℕ) × BreaksAt m s i rule place

  code_judged : (i : ℕ) (body : Option FunctionBody) → slice_get m.bodies i ≡ body → IsValidBody m i body ⊎ ((rule : Rule) × (place : ℕ) × BodyRefuses m i body rule place)
  code_judged i None e = inl tt
  code_judged i (Some body) e = body_judged (body_context m i body) body.code (subst (λ b. IsExpression b.code) (get_or_from_slice_get m.bodies i body body e) (All-get_or (λ b. IsExpression b.code) m.bodies i body (slice_get_within m.bodies i body e) expressions))

  ruled : (o : Option Rule) → (o ≡ None) ⊎ ((rule : Rule) × (place : ℕ) × ((o ≡ Some rule) × (place ≡ 0)))
  ruled None = inl refl
  ruled (Some rule) = inr (rule, 0, (refl, refl))

  item_judged : (s : Section) (i : ℕ) → IsFine m s i ⊎ ItemFault s i
  item_judged Types i = ruled _
  item_judged Imports i = ruled _
  item_judged Functions i = ruled _
  item_judged Tables i = ruled _
  item_judged Memories i = ruled _
  item_judged Globals i = ruled _
  item_judged Exports i = ruled _
  item_judged Start i = ruled _
  item_judged Elements i = ruled _
  item_judged Code i = code_judged i (slice_get m.bodies i) refl
  item_judged Data i = ruled _

  abbrev FineItems : Section → ℕ → Type 0
  FineItems s n = (i : ℕ) → i < n → IsFine m s i

  -- the first of the items that isn't fine
  abbrev FirstFault : Section → ℕ → Type 0
  FirstFault s n = (i : ℕ) × (i < n) × FineItems s i × ItemFault s i

  below : (i n : ℕ) → i < suc n → (i < n) ⊎ (i ≡ n)
  below i n h = elim (cases_order i n) [ inl e ↦ inr e | inr o ↦ elim o [ inl lt ↦ inl lt | inr gt ↦ absurd (omega (arith, h, gt)) ] ]

  one_more : (s : Section) (n : ℕ) → FineItems s n → IsFine m s n → FineItems s (suc n)
  one_more s n fine here i h = elim (below i n h) [ inl lt ↦ fine i lt | inr e ↦ subst (IsFine m s) (sym e) here ]

  items_judged : (s : Section) (n : ℕ) → FineItems s n ⊎ FirstFault s n
  items_judged s zero = inl (λ i h. absurd (omega (arith, h)))
  items_judged s (suc n) = on (items_judged s n)
    where
      last : FineItems s n → IsFine m s n ⊎ ItemFault s n → FineItems s (suc n) ⊎ FirstFault s (suc n)
      last fine (inl here) = inl (one_more s n fine here)
      last fine (inr fault) = inr (n, omega arith, fine, fault)

      on : FineItems s n ⊎ FirstFault s n → FineItems s (suc n) ⊎ FirstFault s (suc n)
      on (inl fine) = last fine (item_judged s n)
      on (inr fault) = inr (fault.0, omega (arith, fault.1), fault.2, fault.3)

  abbrev FineBefore : ℕ → Type 0
  FineBefore n = (s : Section) → id s < n → IsFineSection m s

  -- all sections before this one are fine: this one, or a fault
  section_judged : (s : Section) → FineBefore (id s) → FineBefore (suc (id s)) ⊎ IsRefused m
  section_judged s before = on (items_judged s (items m s))
    where
      on : FineItems s (items m s) ⊎ FirstFault s (items m s) → FineBefore (suc (id s)) ⊎ IsRefused m
      on (inl fine) = inl (λ t h. elim (below (id t) (id s) h) [ inl lt ↦ before t lt | inr e ↦ subst (IsFineSection m) (sym (same_id t s e)) fine ])
      on (inr fault) = inr (record {
        rule = fault.3.0;
        section = s;
        index = fault.0;
        instruction = fault.3.1;
        refuses = record { sections = before; within = fault.1; items = fault.2; here = fault.3.2 };
      })

  then : (s : Section) → FineBefore (id s) ⊎ IsRefused m → FineBefore (suc (id s)) ⊎ IsRefused m
  then s (inl before) = section_judged s before
  then s (inr refused) = inr refused

  none_before : FineBefore 1
  none_before Types h = absurd (omega (arith, h))
  none_before Imports h = absurd (omega (arith, h))
  none_before Functions h = absurd (omega (arith, h))
  none_before Tables h = absurd (omega (arith, h))
  none_before Memories h = absurd (omega (arith, h))
  none_before Globals h = absurd (omega (arith, h))
  none_before Exports h = absurd (omega (arith, h))
  none_before Start h = absurd (omega (arith, h))
  none_before Elements h = absurd (omega (arith, h))
  none_before Code h = absurd (omega (arith, h))
  none_before Data h = absurd (omega (arith, h))

  all_judged : FineBefore 12 ⊎ IsRefused m
  all_judged = then Data (then Code (then Elements (then Start (then Exports (then Globals (then Memories (then Tables (then Functions (then Imports (then Types (inl none_before)))))))))))

  all_fine : FineBefore 12 → IsValidModule m
  all_fine fine Types = fine Types (omega arith)
  all_fine fine Imports = fine Imports (omega arith)
  all_fine fine Functions = fine Functions (omega arith)
  all_fine fine Tables = fine Tables (omega arith)
  all_fine fine Memories = fine Memories (omega arith)
  all_fine fine Globals = fine Globals (omega arith)
  all_fine fine Exports = fine Exports (omega arith)
  all_fine fine Start = fine Start (omega arith)
  all_fine fine Elements = fine Elements (omega arith)
  all_fine fine Code = fine Code (omega arith)
  all_fine fine Data = fine Data (omega arith)

  pub judged : IsValidModule m ⊎ IsRefused m
  judged = elim all_judged [ inl fine ↦ inl (all_fine fine) | inr refused ↦ inr refused ]
