-- A valid module is said by its canonical text.
use Rattle.wasm_lang.specs.Limits.{IsWithinReader}
use Rattle.wasm_lang.specs.Modules.{WasmModule}
use Rattle.wasm_lang.specs.Shape.{IsShaped}
use Rattle.wasm_lang_valid.specs.Validity.{IsValidModule}
use Rattle.wat_lang.specs.Printing.{canonical}
use Rattle.wat_lang.specs.Texts.{SaysModule}
use Rattle.wat_laws_print.specs.Words.{IsOfWords}
use Rattle.wat_laws_again.specs.Signs.{placed, signs_of}
use Rattle.wat_laws_again.proofs.Marked.{canonical_is_marked}
use Rattle.wat_laws_again.proofs.ModulesBack.{signs_say}
use Rattle.wat_laws_again.proofs.Valid.{valid_constants, valid_one_of_each, valid_types}
use Rattle.wat_laws_again.proofs.Whole.{IsSaid, signs_accepted}

pub said_by_canonical : (m : WasmModule) → IsShaped m → IsWithinReader m → IsOfWords m → IsValidModule m → SaysModule (canonical m) m
said_by_canonical m shaped within words valid =
    let constants = valid_constants m valid in
    let one = valid_one_of_each m valid in
    let marked = canonical_is_marked m shaped words constants in
    let said : IsSaid m = record { shaped = shaped; within = within; words = words; constants = constants; one = one; types = valid_types m valid } in
    record {
      marks = placed marked.0 (signs_of m);
      is_marked = marked.1;
      is_accepted = signs_accepted m said marked.0 (marked.1).tokens (marked.1).is_grammatical;
      is_this = signs_say m shaped words constants one marked.0;
    }
