-- What the commands write there and back is what may be written.
use Rattle.std.proofs.Common.{◌≡◌, ℕ, List, subst}
use Rattle.wasm_lang.specs.Modules.{WasmModule}
use Rattle.wasm_lang.proofs.ReadingLawsOne.{one_module}
use Rattle.wasm_lang_valid.specs.Bytes.{IsValidBytes}
use Rattle.asm_lang.specs.Modules.{Module}
use Rattle.asm_lang_valid.specs.Texts.{IsAcceptedText}
use Rattle.asm2wasm_lang.specs.Allowed as there
use Rattle.wasm2js_lang.specs.Allowed as back
use Rattle.wasm2js_lang.specs.RoundTrips.{RoundTripsSimulate}
use Rattle.cmd_check_asm.proofs.Verdicts as laws
use Rattle.bridge_lang.specs.declared.making.Making.TheVariants.{WasmToAsm}
use Rattle.bridge_lang.specs.Command.{make, translate}
use Rattle.bridge_lang.specs.Job.{IsMade, of_text, of_binary, of_wat}
use Rattle.bridge_lang.specs.RoundTrips.{WrittenBackSimulate}

-- the bytes are those of this module, which may be written for the text's
there_is : (text bytes : List ℕ) (heap : ℕ) (a : Module) (w : WasmModule) → IsMade (translate heap) text bytes → IsAcceptedText text a → IsValidBytes bytes w
    → there.IsAllowed a heap w
there_is text bytes heap a w (of_text m reads i t) j k =
    let same : m ≡ a = laws.one_module text m a i j in
    let spelled : t.«module» ≡ w = one_module bytes t.«module» w t.shortest.spells k.read.spelled in
    subst (λ n. there.IsAllowed n heap w) same (subst (there.IsAllowed m heap) spelled t.allowed)
there_is text bytes heap a w (of_binary v reads i t) j k = absurd t
there_is text bytes heap a w (of_wat v reads i t) j k = absurd t

-- the text says this module, which may be written for the bytes'
back_is : (bytes output : List ℕ) (b : Module) (w : WasmModule) → IsMade (make WasmToAsm) bytes output → IsValidBytes bytes w → IsAcceptedText output b
    → back.IsAllowed w b
back_is bytes output b w (of_binary v reads i t) k j =
    let same : t.«module» ≡ b = laws.one_module output t.«module» b t.accepted j in
    let spelled : v ≡ w = one_module bytes v w i.read.spelled k.read.spelled in
    subst (λ x. back.IsAllowed x b) spelled (subst (back.IsAllowed v) same t.allowed)
back_is bytes output b w (of_text m reads i t) k j = absurd t
back_is bytes output b w (of_wat v reads i t) k j = absurd cc

pub written_back_simulate : RoundTripsSimulate → WrittenBackSimulate
written_back_simulate law text bytes output heap one two a b w i k j s fits =
    law a heap w b (there_is text bytes heap a w one i k) (back_is bytes output b w two k j) s fits
