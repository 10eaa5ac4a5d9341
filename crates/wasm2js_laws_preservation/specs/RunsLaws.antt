-- Calls of the helpers that fill and copy, in any module where the names that they use mean what they should, and the instructions that call them.
use Rattle.std.specs.Prelude.{◌≡◌, ℕ, ◌+◌, ◌≤◌, List, map, false}
use Rattle.sem_words.specs.declared.js_value.JsValue.{JsValue}
use Rattle.sem_words.specs.JsValues.{to_uint32_of}
use Rattle.asm_lang.specs.Modules.{Function, Module}
use Rattle.asm_lang_valid.specs.declared.meaning.Element.TheVariants.{Int32}
use Rattle.asm_lang_valid.specs.declared.meaning.Builtin.TheVariants.{Imul}
use Rattle.asm_lang_valid.specs.Scope.{a_view, a_builtin, module_meaning}
use Rattle.asm_lang_exec.specs.Runs.{Place}
use Rattle.asm_lang_exec.specs.Meaning.{call_at}
use Rattle.wasm_lang.specs.Instructions.{memory_copy, memory_fill}
use Rattle.wasm2js_translation.specs.Names as names
use Rattle.wasm2js_translation.specs.Names.{view_of_words, imul}
use Rattle.wasm2js_translation.specs.Words.{name_of}
use Rattle.wasm2js_translation.specs.Helpers.{copy_function, fill_function}
use Rattle.wasm2js_laws_places.specs.Straight.{Answer, Helping}
use Rattle.wasm2js_laws_places.specs.Places.{IsHeap}
use Rattle.wasm2js_laws_places.specs.Helped.{Helps}
use Rattle.wasm2js_laws_helpers.specs.Laws.{HasTrap}
use Rattle.wasm2js_laws_helpers.specs.Access.Laws.{HasBytes}
use Rattle.wasm2js_laws_preservation.specs.ControlControl as control
use Rattle.wasm2js_laws_preservation.specs.InstructionsPlain.{PlainIs, Answers, Supports}
use Rattle.wasm2js_laws_preservation.specs.RunsAnswers.{filled_run, fill_units, copied_run, copy_units}

-- the names of the views, of products and of traps
pub record HasViews (m : Module) : Type 0 where
  pub bytes : HasBytes m
  pub words : module_meaning m (name_of view_of_words) ≡ a_view Int32
  pub products : module_meaning m (name_of imul) ≡ a_builtin Imul
  pub traps : HasTrap m

-- each call of the function gives this, and takes so many units, where calls lie at most so deep
abbrev pub HelpsBy : Module → (bytes : ℕ) → Function → (List ℕ → List ℕ → Answer) → (List ℕ → ℕ) → Type 0
HelpsBy m bytes g answer units =
    (bound : ℕ) (vs : List JsValue) (p : Place) → IsHeap bytes p.heap → p.units ≤ bound
    → Helps bytes (answer (map to_uint32_of vs) p.heap) (units (map to_uint32_of vs)) p (call_at false m bound g vs p)

abbrev pub FillHelps : Type 0
FillHelps = (m : Module) → HasViews m → (bytes : ℕ) → HelpsBy m bytes (fill_function bytes) (filled_run bytes) (fill_units bytes)

abbrev pub CopyHelps : Type 0
CopyHelps = (m : Module) → HasViews m → (bytes : ℕ) → HelpsBy m bytes (copy_function bytes) (copied_run bytes) (copy_units bytes)

-- ---- instructions

pub record AreMovers (bytes : ℕ) (helping : Helping) : Type 0 where
  pub fill : Answers helping names.fill (filled_run bytes) (fill_units bytes)
  pub copy : Answers helping names.copy (copied_run bytes) (copy_units bytes)

-- where a reduction may pay for a loop over the whole memory
abbrev pub FillIsDone : Type 0
FillIsDone =
    (f : control.Function) (helping : Helping) → Supports f helping → AreMovers f.setting.bytes helping → f.setting.bytes + 80 ≤ f.pace → PlainIs f helping memory_fill

abbrev pub CopyIsDone : Type 0
CopyIsDone =
    (f : control.Function) (helping : Helping) → Supports f helping → AreMovers f.setting.bytes helping → f.setting.bytes + 80 ≤ f.pace → PlainIs f helping memory_copy
