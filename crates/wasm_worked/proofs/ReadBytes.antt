-- What reading gives is what the bytes spell.
use Rattle.std.proofs.Common.{◌≡◌, ℕ, ◌<◌, List, sym, ◌∙◌}
use Rattle.std.specs.Prelude.{Result, Ok, Err, All}
use Rattle.wasm_lang.specs.declared.fault.Fault.{Fault}
use Rattle.wasm_lang.specs.declared.fault.Row.{Row}
use Rattle.wasm_lang.specs.Modules.{WasmModule}
use Rattle.wasm_lang.specs.ReadingModule.{read_module}
use Rattle.wasm_lang.proofs.ReadingLawsModule.{reads_what_is_spelled, spelled_as_read}
use Rattle.wasm_lang.proofs.ReadingLawsPlaces.{place_within}
use Rattle.wasm_lang.specs.Bytes.{IsRead, IsFirstFault}

pub read_as : (bytes : List ℕ) (m : WasmModule) → All (λ b. b < 256) bytes → read_module bytes ≡ Ok m → IsRead bytes m
read_as bytes m all e = let h = spelled_as_read bytes m all e in record { spelled = h.0; within = h.1 }

not_both : (bytes : List ℕ) (m : WasmModule) (f : Fault) → read_module bytes ≡ Err f → read_module bytes ≡ Ok m → ⊥
not_both bytes m f e h = let g : ◌≡◌ {A = Result WasmModule Fault} (Err f) (Ok m) = sym e ∙ h in cc

pub refused_as : (bytes : List ℕ) (row : Row) (at : ℕ) → read_module bytes ≡ Err (record { row = row; at = at }) → IsFirstFault bytes row at
refused_as bytes row at e = record {
  first = e;
  none = λ m r. not_both bytes m (record { row = row; at = at }) e (reads_what_is_spelled bytes m r.spelled r.within);
  within = place_within bytes (record { row = row; at = at }) e;
}
