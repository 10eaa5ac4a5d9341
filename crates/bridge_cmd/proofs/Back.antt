-- The text of a translation to asm.js.
use Rattle.std.proofs.Common.{◌≡◌, ℕ, List, refl, sym, subst}
use Rattle.asm_lang.specs.Heights.{IsWellFormed}
use Rattle.asm_lang.specs.Modules.{Module}
use Rattle.asm_lang.specs.Printing.{canonical_text}
use Rattle.asm_lang.specs.Texts.{SaysModule}
use Rattle.asm_lang_valid.specs.Texts.{IsAcceptedText}
use Rattle.wasm_lang.specs.Modules.{WasmModule}
use Rattle.wasm_lang_valid.specs.Bytes.{IsTranslatable}
use Rattle.wasm2js_lang.specs.Allowed.{IsAllowed}
use Rattle.wasm2js_translation.specs.Modules.{translated}
use Rattle.wasm2js_laws_simulation.specs.WholeLaws.{SpelledAreAllowed, TrapsOfSpelledAreCalls}
use Rattle.wasm2js_laws_simulation.specs.BoundedLaws.{SpelledAreBounded}
use Rattle.bridge_lang.specs.declared.making.Making.TheVariants.{WasmToAsm}
use Rattle.bridge_lang.specs.Command.{make}
use Rattle.bridge_lang.specs.Job.{IsMade, of_binary}

abbrev pub SaysAgain : Type 0
SaysAgain = (m : Module) → IsWellFormed m → (places : List ℕ) × SaysModule (canonical_text m) m places

module _ (allowed : SpelledAreAllowed) (traps : TrapsOfSpelledAreCalls) (bounded : SpelledAreBounded) (again : SaysAgain) where
  -- it says the translated module, which is accepted
  stands : (m : Module) (w : WasmModule) → IsAllowed w m → IsAcceptedText (canonical_text m) m
  stands m w a =
      let says = again m a.well_formed in
      record { places = says.0; says = says.1; accepted = a.accepted }

  pub made : (bytes output : List ℕ) (w : WasmModule) → IsTranslatable bytes w → output ≡ canonical_text (translated w) → IsMade (make WasmToAsm) bytes output
  made bytes output w t e =
      let a = allowed w (bytes, t.read.spelled) t.within in
      of_binary w refl (record { read = t.read; valid = t.within.valid }) (record {
        within = t.within.within;
        «module» = translated w;
        printed = e;
        accepted = subst (λ text. IsAcceptedText text (translated w)) (sym e) (stands (translated w) w a);
        allowed = a;
        traps = traps w (bytes, t.read.spelled) t.within;
        bounded = bounded w (bytes, t.read.spelled) t.within;
      })
