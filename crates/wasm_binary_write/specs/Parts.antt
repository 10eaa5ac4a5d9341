-- A module's spelling before and behind its imports.
use Rattle.std.specs.Prelude.{ℕ, List, ◌++◌}
use Rattle.wasm_lang.specs.Modules.{WasmModule}
use Rattle.wasm_lang.specs.Grammar.{header}
use Rattle.wasm_binary_write.specs.Spelling.{section, start_section, function_type, unsigned, table, limits, global, exported, element, sized, body, segment}

abbrev pub before_imports : WasmModule → List ℕ
before_imports m = header ++ section 1 function_type m.types

abbrev pub after_imports : WasmModule → List ℕ
after_imports m =
    section 3 unsigned m.functions
    ++ (section 4 table m.tables
    ++ (section 5 limits m.memories
    ++ (section 6 global m.globals
    ++ (section 7 exported m.exports
    ++ (start_section m.start
    ++ (section 9 element m.elements
    ++ (section 10 (λ b. sized (body b)) m.bodies
    ++ section 11 segment m.segments)))))))
