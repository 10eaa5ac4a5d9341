use Rattle.std.proofs.Common.{◌≡◌, Result, Ok, sym, ◌∙◌}
use Rattle.asm_lang.specs.Trees.{ModuleTree}
use Rattle.asm_lang.specs.Machine.{Refusal}
use Rattle.asm_lang.proofs.CompleteModules.{module_read}
use Rattle.asm_lang.proofs.Sound.{found_module}
use Rattle.asm_lang.proofs.modules_of_tokens.Goals as goal

same : (m n : ModuleTree) → (let r : Result ModuleTree Refusal = Ok m in r) ≡ Ok n → m ≡ n
same m n h = cc

pub returns-clause-one : goal.returns-clause-one
returns-clause-one c = λ xs m n h k. same m n (sym (module_read h) ∙ module_read k)

pub returns-clause-complete : goal.returns-clause-complete
returns-clause-complete c = λ xs m h. module_read h

pub returns-clause-sound : goal.returns-clause-sound
returns-clause-sound c = λ xs m h. found_module xs m h
