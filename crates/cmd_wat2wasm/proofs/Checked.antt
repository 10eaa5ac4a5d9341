-- Why a text is refused, of the faults of its reading and of its module, and what its module is written as.
use Rattle.std.proofs.Common.{◌≡◌, ◌<◌, ◌≤◌, ℕ, List, length, sym, subst}
use Rattle.std.specs.Prelude.{All}
use Rattle.std.specs.List.{AllByRecursion}
use Rattle.std.proofs.lemmas.List.Elements.{recursion_from_All}
use Rattle.wasm_lang.specs.Modules.{WasmModule}
use Rattle.wasm_lang.specs.Shape.{IsWritable}
use Rattle.wasm_lang.specs.Grammar.{IsModuleBytes}
use Rattle.wasm_binary_write.specs.Spelling.{spelling}
use Rattle.wasm_validate.specs.declared.fault.Invalid as validity
use Rattle.wasm_validate.specs.Refusals.{IsInvalid}
use Rattle.wat_lang.specs.Texts.{SaysModule}
use Rattle.wat_marks.specs.Views.{IsFaultOf}
use Rattle.wat_marks.specs.declared.fault.WatFault.{WatFault}
use Rattle.wat_marks.specs.declared.fault.WatFault.TheVariants as texts
use Rattle.asm2wasm_lang.specs.Allowed.{IsShortest}
use Rattle.bridge_lang.specs.Job.{file_limit}
use Rattle.bridge_lang.specs.WatVerdicts.{IsValidWat, says_none, says_invalid}
use Rattle.cmd_check_wasm.specs.Faults.{of_invalid}
use Rattle.cmd_wat2wasm.specs.declared.fault.TextFault.TheVariants.{Check}
use Rattle.cmd_wat2wasm.specs.Faults.{of_wat}
use Rattle.cmd_wat2wasm.specs.Verdicts.{IsRefused, IsSpelledFor}

pub unsaid : (text : List ℕ) (fault : WatFault) → IsFaultOf text fault → IsRefused text (of_wat fault)
unsaid text (texts.Refused row at) i = says_none row at i
unsaid text texts.Memory i = tt

pub invalid : (text : List ℕ) (m : WasmModule) (fault : validity.Invalid) → SaysModule text m → IsInvalid m fault → IsRefused text (Check (of_invalid fault))
invalid text m (validity.TheVariants.Rule rule section index instruction) says i = says_invalid m rule section index instruction says i
invalid text m validity.TheVariants.Memory says i = tt

-- what a text says can be written, and so can the module that stands for it
pub writable : ((text : List ℕ) (m : WasmModule) → AllByRecursion (λ b. b < 256) text → length text ≤ 16777216 → SaysModule text m → IsWritable m)
    → (text : List ℕ) (m valid : WasmModule) → valid ≡ m → All (λ b. b < 256) text → SaysModule text m → length text ≤ file_limit → IsWritable valid
writable law text m valid same bytes says short = subst IsWritable (sym same) (law text m (recursion_from_All (λ b. b < 256) text bytes) short says)

pub spelled : ((m : WasmModule) → IsWritable m → IsModuleBytes (spelling m) m) → ((m : WasmModule) (bytes : List ℕ) → IsModuleBytes bytes m → length (spelling m) ≤ length bytes)
    → (text : List ℕ) (m : WasmModule) (bytes : List ℕ) → IsValidWat text m → IsWritable m → bytes ≡ spelling m → IsSpelledFor text bytes
spelled spells shortest text m bytes said fits e =
    let written : IsShortest (spelling m) m = record { spells = spells m fits; no_shorter = shortest m } in
    record { «module» = m; said = said; shortest = subst (λ b. IsShortest b m) (sym e) written }
