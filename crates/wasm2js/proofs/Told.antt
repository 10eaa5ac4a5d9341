-- What holds of a plain module holds of each value that stands for it; and an accepted module isn't refused.
use Rattle.std.proofs.Common.{◌≡◌, refl, sym, subst}
use Rattle.std.specs.Prelude.{Result, Ok, Err, IfOk}
use Rattle.asm_lang.specs.Modules.{Module}
use Rattle.asm_lang_valid.specs.Refusal.{IsAccepted}
use Rattle.asm_validate.specs.Refusals.{IsRefused}
use Rattle.asm_validate_names.specs.declared.refusal.AsmRefusal.{AsmRefusal}
use Rattle.asm_validate_names.specs.declared.refusal.AsmRefusal.TheVariants as refusals
use Rattle.wasm_lang.specs.Modules.{WasmModule}
use Rattle.wasm_lang_valid.specs.Profile.{IsInProfile}
use Rattle.wasm2js_laws_acceptance.specs.FunctionsFunctions.{IsSource}

pub in_profile : (w : WasmModule) → IsSource w → IsInProfile w
in_profile w source = record { valid = source.whole.is_valid; within = source.within }

pub told : {M E : Type 0} (view : M → Module) (n : Module) (P : Module → Type 0) (r : Result M E) → P n → IfOk r (λ m. view m ≡ n) → IfOk r (λ m. P (view m))
told view n P (Ok m) p e = subst P (sym e) p
told view n P (Err x) p e = e

pub same : {A E : Type 0} (made : A) (P : A → Type 0) (r : Result A E) → P made → IfOk r (λ m. m ≡ made) → IfOk r P
same made P (Ok m) p e = subst P (sym e) p
same made P (Err x) p e = e

-- what the validator says against an accepted module is want of memory
pub only_memory : (m : Module) → IsAccepted m → (refusal : AsmRefusal) → IsRefused m refusal → refusal ≡ refusals.Memory
only_memory m accepted (refusals.Refused rule node) is = absurd (cc (accepted, is))
only_memory m accepted refusals.Memory is = refl
