-- Two modules that can be linked, and a valid module, which isn't refused.
use Rattle.std.proofs.Common.{◌≡◌, ℕ, None, refl}
use Rattle.wasm_lang.specs.Modules.{WasmModule}
use Rattle.wasm_lang.specs.Shape.{IsShaped}
use Rattle.wasm_lang_valid.specs.declared.rule.Rule.{Rule}
use Rattle.wasm_lang_valid.specs.declared.section.Section.{Section}
use Rattle.wasm_lang_valid.specs.Validity.{IsValidModule, RefusesModule}
use Rattle.wasm_validate.specs.declared.fault.Invalid.{Invalid}
use Rattle.wasm_validate.specs.declared.fault.Invalid.TheVariants as faults
use Rattle.wasm_validate.specs.Refusals.{IsInvalid}
use Rattle.wasm_link_lang.specs.Pairs.{Pair}
use Rattle.wasm_link_lang.specs.Refusal.{refusal}
use Rattle.wasm_link_laws_modules.specs.Laws.{IsLinkable}

abbrev NotBoth : Type 0
NotBoth = (m : WasmModule) (rule : Rule) (section : Section) (index instruction : ℕ) → IsValidModule m → RefusesModule m rule section index instruction → ⊥

-- what the validator says against a valid module is want of memory
pub only_memory : NotBoth → (w : WasmModule) → IsValidModule w → (fault : Invalid) → IsInvalid w fault → fault ≡ faults.Memory
only_memory never w valid (faults.Rule rule section index instruction) refuses = absurd (never w rule section index instruction valid refuses)
only_memory never w valid faults.Memory refuses = refl

pub linkable : (w : Pair) → IsValidModule w.first → IsValidModule w.second → IsShaped w.first → IsShaped w.second → refusal w ≡ None → IsLinkable w
linkable w first second p q none = record {
  first = record { is_valid = first; bodies_match = p.bodies_match };
  second = record { is_valid = second; bodies_match = q.bodies_match };
  not_refused = none;
}
