use Rattle.std.proofs.Common.{[]}
use Rattle.std.specs.Prelude.{Some, None}
use Rattle.wasm_lang.specs.Reading.{onto, u32, vec_field}
use Rattle.wasm_lang.specs.ReadingModule.{element_field}
use Rattle.wasm_tree.specs.Inputs.{input_of}
use Rattle.wasm_tree.proofs.Slices.{stands_trans}
use Rattle.wasm_binary_entries.specs.Lent.{source_of, IsLentExport}
use Rattle.wasm_binary_entries.proofs.Lending.{each_from, lent_from}
use Rattle.wasm_binary.proofs.LentModules.{definitions_read, past_is, lent_as}
use Rattle.wasm_binary.proofs.reader.definitions.Goals as goal

pub returns-clause-lent : goal.returns-clause-lent
returns-clause-lent c = λ source is imports follows.
    let exports = c.in_ok-exports.ensures.lent in
    let past_start = past_is 8 None (λ i. onto Some (u32 i)) (input_of c.in_ok-exports.rest) _ c.in_ok-start.ensures.value in
    let past_elements = past_is 9 [] (vec_field element_field) (input_of c.in_ok-start.rest) _ c.in_ok-elements.ensures.value in
    let past_count = past_is 12 None (λ i. onto Some (u32 i)) (input_of c.in_ok-elements.rest) _ c.in_ok-counted.ensures.value in
    lent_as source _
    (definitions_read is (input_of c.args.input) (input_of c.in_ok-exports.rest) (input_of c.in_ok-start.rest) (input_of c.in_ok-elements.rest) (input_of c.in_ok-counted.rest) exports.place exports.read past_start past_elements past_count)
    (c.in_ok-contents.ensures.lent source is exports.place imports
    (each_from (IsLentExport (source_of c.args.input)) (IsLentExport source) (λ p e h. lent_from (source_of c.args.input) source follows p e.name h) exports.place _ exports.stands)
    (stands_trans c.in_ok-counted.ensures.follows (stands_trans c.in_ok-elements.ensures.follows (stands_trans c.in_ok-start.ensures.follows (stands_trans c.in_ok-exports.ensures.follows follows)))))
