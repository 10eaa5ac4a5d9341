-- Instructions that load from the memory, in functions whose helpers read it as they should.
use Rattle.std.specs.Prelude.{ℕ}
use Rattle.wasm_lang.specs.declared.types.MemOp.{MemOp}
use Rattle.wasm_lang.specs.Instructions.{load}
use Rattle.wasm2js_translation.specs.Names as names
use Rattle.wasm2js_laws_places.specs.Straight.{Helping}
use Rattle.wasm2js_laws_helpers.specs.Access.Answers.{loaded_word, loaded_words}
use Rattle.wasm2js_laws_typed.specs.Laws.{IsFormed}
use Rattle.wasm2js_laws_preservation.specs.ControlControl.{Function}
use Rattle.wasm2js_laws_preservation.specs.InstructionsPlain.{PlainIs, AnswersAtOnce, Supports}

-- the helpers that read words give their bytes
pub record AreReaders (helping : Helping) : Type 0 where
  pub load_32 : AnswersAtOnce helping names.load_32 loaded_word
  pub load_64 : AnswersAtOnce helping names.load_64 loaded_words

-- each load is what its code does
abbrev pub LoadsAreRead : Type 0
LoadsAreRead =
    (op : MemOp) (align offset : ℕ) → IsFormed (load op align offset) → (f : Function) (helping : Helping) → Supports f helping → AreReaders helping
    → PlainIs f helping (load op align offset)
