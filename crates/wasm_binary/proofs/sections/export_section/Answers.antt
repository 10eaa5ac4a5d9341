use Rattle.std.proofs.Common.{◌≡◌}
use Rattle.std.specs.Prelude.{Ok}
use Rattle.wasm_tree.specs.Inputs.{input_of, Continues}
use Rattle.wasm_tree.proofs.Slices.{stands_trans}
use Rattle.wasm_binary_entries.specs.Lent.{source_of, IsLentExport}
use Rattle.wasm_binary_entries.specs.Places.{export_place}
use Rattle.wasm_binary_entries.proofs.Lending.{lent_from}
use Rattle.wasm_binary.specs.Parts.{part_head, found_part}
use Rattle.wasm_binary.proofs.LentModules.{found_lent}
use Rattle.wasm_binary.proofs.sections.export_section.Goals as goal

pub returns-in_ok-nothing_left-in-Found-clause-lent : goal.returns-in_ok-nothing_left-in-Found-clause-lent
returns-in_ok-nothing_left-in-Found-clause-lent c =
    let parts : Continues c.in-Found.content c.args.input × Continues c.in-Found.after c.args.input = rw c.in-Found.is at c.in_ok-rest.ensures.follows in
    let head : part_head 7 (input_of c.args.input) ≡ Ok (found_part (input_of c.in-Found.content) (input_of c.in-Found.after)) = rw c.in-Found.is at c.in_ok-rest.ensures.value in
    let follows = stands_trans c.in_ok-n-in-Found.ensures.follows parts.0 in
    found_lent 7 export_place (input_of c.args.input) (input_of c.in-Found.content) (input_of c.in_ok-n-in-Found.rest) (input_of c.in_ok-items-in-Found.rest) (input_of c.in-Found.after) c.in_ok-n-in-Found.n
    (IsLentExport (source_of c.in_ok-n-in-Found.rest)) (IsLentExport (source_of c.args.input)) _ (λ p x h. lent_from (source_of c.in_ok-n-in-Found.rest) (source_of c.args.input) follows p x.name h)
    head c.in_ok-n-in-Found.ensures.value c.in_ok-nothing_left-in-Found.ensures c.in_ok-items-in-Found.ensures.lent
