-- Where an instruction may stand, its code is sound.
use Rattle.std.proofs.Common.{◌≡◌, ℕ, List, ◌++◌, map, Ok, sym, ◌∙◌, subst}
use Rattle.wasm_lang.specs.declared.types.ValType.{ValType}
use Rattle.wasm_lang.specs.Instructions.{Plain}
use Rattle.wasm_lang_valid.specs.Typing.{Shape, Acts, plain_shape}
use Rattle.wasm_lang_exec.specs.Code.{plain, Trees, ◌▹◌}
use Rattle.wasm2js_translation.specs.Delays.{Delayed}
use Rattle.wasm2js_translation.specs.Bodies.{Aim}
use Rattle.wasm2js_laws_terms.specs.Sound.{AreSoundActions}
use Rattle.wasm2js_laws_typed.proofs.SoundPlain.{plain_is_sound}
use Rattle.wasm2js_laws_typed.proofs.TypedShapes.{same_shape, plain_after}
use Rattle.wasm2js_laws_typed.proofs.RoomParts.{room_here}
use Rattle.wasm2js_laws_preservation.specs.ControlControl.{Function, IsFair, MayStand, carried_by, under_aims}
use Rattle.wasm2js_laws_preservation.proofs.ControlStanding.{after_instruction, instruction_room}
use Rattle.wasm2js_laws_places.specs.Straight.{Helping}
use Rattle.wasm2js_laws_preservation.specs.InstructionsPlain.{code_amid}

module _ (f : Function) (fair : IsFair f) (helping : Helping) (p : Plain) (code : Trees) (ls : List Aim) (b : ℕ) (form : Shape) (takes gives below : List ValType)
    (is : plain_shape (under_aims f.context ls) p ≡ Ok form) (acts : Acts form takes gives) (standing : MayStand f (plain p ▹ code) b (takes ++ below)) where
  abbrev shaped : plain_shape f.context p ≡ Ok form
  shaped = sym (same_shape f.context (map carried_by ls) p) ∙ is

  pub rest_stands : MayStand f code b (gives ++ below)
  rest_stands = subst (λ ts. MayStand f code b ts) (plain_after f.context p form takes gives below shaped acts) (after_instruction f b p code (takes ++ below) standing)

  pub code_sound : (ds : List Delayed) → AreSoundActions f.scope (code_amid f helping ds p b (takes ++ below))
  code_sound ds =
      plain_is_sound f.scope f.context f.called f.setting.bytes f.cells fair.provides ds p standing.formed.0.0 standing.formed.0.1 form takes gives below shaped acts b
      (instruction_room f b p code (takes ++ below) standing) (room_here f.scope f.context code b (gives ++ below) rest_stands.room)
