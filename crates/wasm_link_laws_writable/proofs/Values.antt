-- First values and offsets of valid modules are one instruction, and the end.
use Rattle.std.proofs.Common.{◌≡◌, Bool, true, false, List, [], ◌∷◌, Option, Some, None, refl, ap}
use Rattle.std.proofs.lemmas.Bool.{false≢true}
use Rattle.wasm_lang.specs.declared.types.ValType.{ValType}
use Rattle.wasm_lang.specs.Instructions.{Instruction, end_mark}
use Rattle.wasm_lang.specs.Modules.{WasmModule}
use Rattle.wasm_lang_valid.specs.declared.rule.Rule.{Rule}
use Rattle.wasm_lang_valid.specs.declared.rule.Rule.TheVariants.{Initializer}
use Rattle.wasm_lang_valid.specs.ModuleRules.{meets, is_end, value_rule, init_rule}

pub kept : (b : Bool) (rule : Rule) (more : Option Rule) → meets b rule more ≡ None → (b ≡ true) × (more ≡ None)
kept true rule more e = (refl, e)
kept false rule more e = absurd (cc)

is_the_end : (j : Instruction) → is_end j ≡ true → j ≡ end_mark
is_the_end end_mark e = refl
is_the_end j e = absurd (false≢true e)

-- one instruction, and the end
pub shape : (m : WasmModule) (t : ValType) (code : List Instruction) → init_rule m t code ≡ None → (i : Instruction) × (code ≡ i ∷ end_mark ∷ []) × (value_rule m t i ≡ None)
shape m t [] e = absurd (cc)
shape m t (i ∷ []) e = absurd (cc)
shape m t (i ∷ j ∷ []) e =
    let k = kept (is_end j) Initializer (value_rule m t i) e in
    (i, ap (λ j. i ∷ j ∷ []) (is_the_end j k.0), k.1)
shape m t (i ∷ j ∷ k ∷ is) e = absurd (cc)
