use Rattle.std.proofs.Common.{[]}
use Rattle.wasm_lang.specs.ReadingModule.{types_content}
use Rattle.wasm_tree.specs.Inputs.{input_of}
use Rattle.wasm_tree.proofs.Slices.{stands_trans}
use Rattle.wasm_binary_entries.specs.Lent.{source_of, IsLentImport}
use Rattle.wasm_binary_entries.proofs.Lending.{each_from, import_from}
use Rattle.wasm_binary.proofs.LentModules.{sections_read, past_is, lent_as}
use Rattle.wasm_binary.proofs.reader.sections.Goals as goal

pub returns-clause-lent : goal.returns-clause-lent
returns-clause-lent c = λ source follows.
    let imports = c.in_ok-imports.ensures.lent in
    let past_types = past_is 1 [] types_content (input_of c.args.input) _ c.in_ok-types.ensures.value in
    let after_types = stands_trans c.in_ok-types.ensures.follows follows in
    lent_as source _
    (sections_read (input_of c.args.input) (input_of c.in_ok-types.rest) (input_of c.in_ok-imports.rest) imports.place past_types imports.read)
    (c.in_ok-declarations.ensures.lent source imports.place
    (each_from (IsLentImport (source_of c.in_ok-types.rest)) (IsLentImport source) (λ p i h. import_from (source_of c.in_ok-types.rest) source after_types p i h) imports.place _ imports.stands)
    (stands_trans c.in_ok-imports.ensures.follows after_types))
