-- The flat code of a module.
use Rattle.std.specs.Prelude.{[], length, map, reverse}
use Rattle.std.specs.Option.{unwrap_or}
use Rattle.asm_lang.specs.Modules.{Function, Variable, Module}
use Rattle.asm_lang_valid.specs.Typed.{scope_of}
use Rattle.asm2wasm_lang.specs.Tables.{members_of}
use Rattle.asm_run_code.specs.Machine.{Flat, Codes}
use Rattle.asm_run_code.specs.Names.{member_name}
use Rattle.asm_run_code.specs.Bodies.{first_word, body}

abbrev pub flat : Module → Function → Flat
flat m f = record { params = length f.params; firsts = map (first_word (scope_of m f)) f.locals; code = reverse (body (scope_of m f)) }

abbrev pub codes_of : Module → Codes
codes_of m = record {
  functions = map (flat m) m.functions;
  tables = map (members_of m) m.tables;
  members = map (λ (v : Variable). unwrap_or (member_name v.init) []) m.globals;
}
