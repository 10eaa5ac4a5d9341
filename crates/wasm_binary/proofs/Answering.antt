-- An answer that is what the definition reads is exactly that of the relation.
use Rattle.std.proofs.Common.{◌≡◌, ℕ, ◌<◌, List, sym, ◌∙◌}
use Rattle.std.specs.Prelude.{Result, Ok, Err, All}
use Rattle.wasm_lang.specs.declared.fault.Fault.{Fault}
use Rattle.wasm_lang.specs.Grammar.{IsModuleBytes}
use Rattle.wasm_lang.specs.Limits.{IsWithinReader}
use Rattle.wasm_lang.specs.Modules.{WasmModule}
use Rattle.wasm_lang.specs.ReadingModule.{read_module}
use Rattle.wasm_lang.specs.Bytes.{IsRead}
use Rattle.wasm_lang.proofs.ReadingLawsModule.{reads_what_is_spelled, spelled_as_read}
use Rattle.wasm_lang.proofs.ReadingLawsPlaces.{place_within}
use Rattle.wasm_tree.specs.declared.module.Module.{Module}
use Rattle.wasm_tree.specs.Views.{module_of}
use Rattle.wasm_binary.specs.declared.fault.BinFault.{BinFault}
use Rattle.wasm_binary.specs.declared.fault.BinFault.TheVariants as faults
use Rattle.wasm_binary.specs.Answers.{IsReadAs, IsRefusal, IsAnswer}

pub found_is : (bytes : List ℕ) (m : WasmModule) → All (λ b. b < 256) bytes → read_module bytes ≡ Ok m → IsRead bytes m
found_is bytes m all e = let h = spelled_as_read bytes m all e in record { spelled = h.0; within = h.1 }

same_module : (m n : WasmModule) (r : Result WasmModule Fault) → r ≡ Ok m → r ≡ Ok n → m ≡ n
same_module m n r e f = let g : ◌≡◌ {A = Result WasmModule Fault} (Ok m) (Ok n) = sym e ∙ f in cc

other_answer : (bytes : List ℕ) (m : WasmModule) (f : Fault) → IsModuleBytes bytes m → IsWithinReader m → read_module bytes ≡ Err f → ⊥
other_answer bytes m f s w e = let g : ◌≡◌ {A = Result WasmModule Fault} (Err f) (Ok m) = sym e ∙ reads_what_is_spelled bytes m s w in cc

pub only_is : (bytes : List ℕ) (r : Result Module BinFault) → IsAnswer r (read_module bytes) → (m : WasmModule) → IsModuleBytes bytes m → IsWithinReader m → IsReadAs m r
only_is bytes (Ok found) e m s w = same_module (module_of found) m (read_module bytes) e (reads_what_is_spelled bytes m s w)
only_is bytes (Err (faults.Refused row at)) e m s w = other_answer bytes m (record { row = row; at = at }) s w e
only_is bytes (Err faults.Memory) e m s w = tt

pub refusal_is : (bytes : List ℕ) (fault : BinFault) → IsAnswer (Err fault) (read_module bytes) → IsRefusal bytes fault
refusal_is bytes (faults.Refused row at) e = record {
  first = e;
  none = λ m r. other_answer bytes m (record { row = row; at = at }) r.spelled r.within e;
  within = place_within bytes (record { row = row; at = at }) e;
}
refusal_is bytes faults.Memory e = tt
