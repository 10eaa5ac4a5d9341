-- Rows of fields by their kinds.
use Rattle.std.specs.Prelude.{Bool, ◌&&◌, not, List, []}
use Rattle.wasm_lang.specs.Limits.{most_params}
use Rattle.wasm_lang.specs.Modules.{FunctionType}
use Rattle.wat_lang.specs.declared.parts.Space.{Space}
use Rattle.wat_lang.specs.declared.parts.Part.TheVariants.{Param}
use Rattle.wat_lang.specs.declared.parts.FieldKind.{FieldKind}
use Rattle.wat_lang.specs.declared.parts.FieldKind.TheVariants as kinds
use Rattle.wat_lang.specs.Names.{Names, Field, entry_of, all_with, types_part}
use Rattle.wat_lang.specs.Rows.{Refusal, same_signature, from_count, function_rows, imported_rows}

-- parameters or results are written, and they aren't those of the type
abbrev pub differs : FunctionType → FunctionType → Bool
differs written type = not (same_signature written (record { params = []; results = [] })) && not (same_signature written type)

-- the rows of a field but those of its uses
abbrev pub rows_by_kind : (Space → Names) → List FunctionType → Field → List Refusal
rows_by_kind names types f = by f.kind
  where
    by : FieldKind → List Refusal
    by kinds.Type = from_count most_params 0 (all_with (types_part Param) f.parts)
    by kinds.Func = function_rows names types f.at f.parts
    by kinds.Import = imported_rows names types f.parts (entry_of f)
    by _ = []
