-- Single parts of sections.
use Rattle.std.specs.Prelude.{ℕ, ◌+◌, [], ◌∷◌, length, map}
use Rattle.wasm_lang.specs.declared.types.ExportKind.TheVariants as exports
use Rattle.wasm_lang.specs.Instructions.{plain, const32, end_mark}
use Rattle.wasm_lang.specs.Modules.{Exported, ElementSegment}
use Rattle.asm_lang.specs.Modules.{Module}
use Rattle.asm_lang_valid.specs.LimitRows.{foreign_calls}
use Rattle.asm_lang_valid.specs.Refusal as text
use Rattle.asm2wasm_lang.specs.Tables.{entries_of}

-- an export, after so many imported functions
abbrev pub export_given : ℕ → text.Exported → Exported
export_given imported e = record { name = e.key; kind = exports.Func (imported + e.function) }

-- the entries of all tables
abbrev pub element_for : Module → ElementSegment
element_for m = record { table = 0; offset = plain (const32 0) ∷ end_mark ∷ []; functions = map (λ i. length (foreign_calls m) + i) (entries_of m) }
