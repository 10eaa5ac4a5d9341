-- Instructions that open no block are kept.
use Rattle.wasm_lang.specs.Instructions.{Plain}
use Rattle.wasm_lang_exec.specs.Code.{plain}
use Rattle.asm_lang_exec.specs.Values.{Calls}
use Rattle.asm_laws_continuation.specs.Laws.{AllFollow}
use Rattle.wasm2js_laws_places.specs.Straight.{Helping}
use Rattle.wasm2js_laws_places.specs.Helped.{AreHelpers}
use Rattle.wasm2js_laws_typed.specs.Laws.{IsFormed}
use Rattle.wasm2js_laws_preservation.specs.ControlControl.{Function, IsFair}
use Rattle.wasm2js_laws_preservation.specs.ControlLaws.{IsKeptFirst}
use Rattle.wasm2js_laws_preservation.specs.InstructionsPlain.{PlainIs}

-- one whose code does what it does, where helpers do what is said of them
abbrev pub PlainsAreKept : Type 0
PlainsAreKept =
    (f : Function) → IsFair f → (calls : Calls) → AllFollow calls f.calls → (helping : Helping) → AreHelpers f.scope calls f.bound f.setting.bytes helping
    → (p : Plain) → (IsFormed p → PlainIs f helping p) → IsKeptFirst f (plain p)
