-- Where reading stops.
use Rattle.std.specs.Prelude.{List, Result, Err}
use Rattle.asm_lang.specs.Lexemes.{Lexeme}
use Rattle.asm_lang.specs.Trees.{ModuleTree}
use Rattle.asm_lang.specs.Machine.{Fault}
use Rattle.asm_laws_height.specs.Peaks.{Stop, refused}

abbrev pub stopped : Fault → List Lexeme → Result ModuleTree Stop
stopped f rest = Err (refused (record { fault = f; rest = rest }))
