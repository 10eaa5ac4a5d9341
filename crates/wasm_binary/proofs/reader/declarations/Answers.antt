use Rattle.std.proofs.Common.{[]}
use Rattle.wasm_lang.specs.Reading.{vec_field}
use Rattle.wasm_lang.specs.ReadingModule.{functions_content, table_field, memory_field, globals_content}
use Rattle.wasm_tree.specs.Inputs.{input_of}
use Rattle.wasm_tree.proofs.Slices.{stands_trans}
use Rattle.wasm_binary_entries.specs.Views.{imports_of}
use Rattle.wasm_binary.proofs.LentModules.{declarations_read, past_is, lent_as}
use Rattle.wasm_binary.proofs.reader.declarations.Goals as goal

pub returns-clause-lent : goal.returns-clause-lent
returns-clause-lent c = λ source is imports follows.
    let past_functions = past_is 3 [] (functions_content (imports_of c.args.imports)) (input_of c.args.input) _ c.in_ok-functions.ensures.value in
    let past_tables = past_is 4 [] (vec_field table_field) (input_of c.in_ok-functions.rest) _ c.in_ok-tables.ensures.value in
    let past_memories = past_is 5 [] (vec_field memory_field) (input_of c.in_ok-tables.rest) _ c.in_ok-memories.ensures.value in
    let past_globals = past_is 6 [] (globals_content (imports_of c.args.imports)) (input_of c.in_ok-memories.rest) _ c.in_ok-globals.ensures.value in
    lent_as source _
    (declarations_read is (input_of c.args.input) (input_of c.in_ok-functions.rest) (input_of c.in_ok-tables.rest) (input_of c.in_ok-memories.rest) (input_of c.in_ok-globals.rest) past_functions past_tables past_memories past_globals)
    (c.in_ok-definitions.ensures.lent source is imports
    (stands_trans c.in_ok-globals.ensures.follows (stands_trans c.in_ok-memories.ensures.follows (stands_trans c.in_ok-tables.ensures.follows (stands_trans c.in_ok-functions.ensures.follows follows)))))
