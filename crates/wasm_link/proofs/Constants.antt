-- First values and offsets of valid modules, as the code makes them, are those of the linked module.
use Rattle.std.proofs.Common.{◌≡◌, ℕ, ◌+◌, ◌^◌, ◌<◌, ◌≤◌, Bool, true, false, List, [], ◌∷◌, Option, Some, None, refl, sym, ap, ◌∙◌, subst, arith}
use Rattle.std.specs.Prelude.{nat_lt, if◌then◌else◌}
use Rattle.std.proofs.lemmas.Bool.{false≢true}
use Rattle.std.proofs.lemmas.Bool.Decides.{nat_tests}
use Rattle.wasm_lang.specs.declared.types.ValType.{ValType}
use Rattle.wasm_lang.specs.declared.types.ValType.TheVariants.{I32}
use Rattle.wasm_lang.specs.Instructions.{Instruction, plain, const32, const64, global_get, end_mark}
use Rattle.wasm_lang.specs.Modules.{WasmModule}
use Rattle.wasm_lang_valid.specs.ModuleRules.{value_rule, init_rule}
use Rattle.wasm_lang_valid.specs.Profile.{is_global_offset, constant_offset, passes}
use Rattle.wasm_link_code.specs.Linked.{moved_value, moved_offset}
use Rattle.wasm_link_sections.specs.Made.{capped, value_made, offset_made, offset_kept}
use Rattle.wasm_link_laws_writable.proofs.Values.{shape}

value_of_one : (m : WasmModule) (t : ValType) (global : ℕ → ℕ) (i : Instruction) → value_rule m t i ≡ None → value_made global (i ∷ end_mark ∷ []) ≡ moved_value global (i ∷ end_mark ∷ [])
value_of_one m t global (plain (const32 n)) e = refl
value_of_one m t global (plain (const64 n)) e = refl
value_of_one m t global (plain (global_get x)) e = refl
value_of_one m t global i e = absurd (cc)

pub value_is : (m : WasmModule) (t : ValType) (global : ℕ → ℕ) (code : List Instruction) → init_rule m t code ≡ None → value_made global code ≡ moved_value global code
value_is m t global code e = let s = shape m t code e in ap (value_made global) s.1 ∙ value_of_one m t global s.0 s.2 ∙ ap (moved_value global) (sym s.1)

pub within : (n : ℕ) → n < 2 ^ 32 → capped n ≡ n
within n h = let t : nat_lt n (2 ^ 32) ≡ true = grind (arith, nat_tests) in ap (λ b. if b then n else 4294967295) t

offset_of_one : (m : WasmModule) (n room size : ℕ) (i : Instruction) → room + n < 2 ^ 32 → value_rule m I32 i ≡ None → is_global_offset (i ∷ end_mark ∷ []) ≡ false → passes (constant_offset (i ∷ end_mark ∷ [])) size room ≡ false
    → offset_made n (i ∷ end_mark ∷ []) ≡ moved_offset n (i ∷ end_mark ∷ [])
offset_of_one m n room size (plain (const32 k)) few e g p =
    let inside : k + size ≤ room = grind (arith, nat_tests) in
    ap (λ w. plain (const32 w) ∷ end_mark ∷ []) (within (k + n) (omega arith))
offset_of_one m n room size (plain (const64 k)) few e g p = absurd (cc)
offset_of_one m n room size (plain (global_get x)) few e g p = absurd (false≢true (sym g))
offset_of_one m n room size i few e g p = absurd (cc)

pub offset_is : (m : WasmModule) (n room size : ℕ) (code : List Instruction) → room + n < 2 ^ 32 → init_rule m I32 code ≡ None → is_global_offset code ≡ false → passes (constant_offset code) size room ≡ false → offset_made n code ≡ moved_offset n code
offset_is m n room size code few e g p =
    let s = shape m I32 code e in
    ap (offset_made n) s.1
    ∙ offset_of_one m n room size s.0 few s.2 (sym (ap is_global_offset s.1) ∙ g) (sym (ap (λ c. passes (constant_offset c) size room) s.1) ∙ p)
    ∙ ap (moved_offset n) (sym s.1)

kept_of_one : (m : WasmModule) (i : Instruction) → value_rule m I32 i ≡ None → is_global_offset (i ∷ end_mark ∷ []) ≡ false → offset_kept (i ∷ end_mark ∷ []) ≡ i ∷ end_mark ∷ []
kept_of_one m (plain (const32 k)) e g = refl
kept_of_one m (plain (const64 k)) e g = absurd (cc)
kept_of_one m (plain (global_get x)) e g = absurd (false≢true (sym g))
kept_of_one m i e g = absurd (cc)

pub kept_is : (m : WasmModule) (code : List Instruction) → init_rule m I32 code ≡ None → is_global_offset code ≡ false → offset_kept code ≡ code
kept_is m code e g = let s = shape m I32 code e in ap offset_kept s.1 ∙ kept_of_one m s.0 s.2 (sym (ap is_global_offset s.1) ∙ g) ∙ sym s.1
