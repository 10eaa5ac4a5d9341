use Rattle.std.proofs.Common.{◌≡◌, length, ap, ◌∙◌, arith}
use Rattle.std.proofs.lemmas.Grind.{common_steps}
use Rattle.std.specs.Prelude.{Ok}
use Rattle.wasm_tree.specs.Inputs.{input_of, Continues}
use Rattle.wasm_tree.proofs.Slices.{stands_trans}
use Rattle.wasm_binary_entries.specs.Lent.{source_of, IsLentBody}
use Rattle.wasm_binary_entries.specs.Places.{body_place}
use Rattle.wasm_binary_entries.proofs.Lending.{code_from}
use Rattle.wasm_binary.specs.Parts.{part_head, found_part}
use Rattle.wasm_binary.proofs.LentModules.{found_lent}
use Rattle.wasm_binary.proofs.sections.body_section.Goals as goal

pub returns-in_ok-nothing_left-in-Found-clause-lent : goal.returns-in_ok-nothing_left-in-Found-clause-lent
returns-in_ok-nothing_left-in-Found-clause-lent c =
    let parts : Continues c.in-Found.content c.args.input × Continues c.in-Found.after c.args.input = rw c.in-Found.is at c.in_ok-rest.ensures.follows in
    let head : part_head 10 (input_of c.args.input) ≡ Ok (found_part (input_of c.in-Found.content) (input_of c.in-Found.after)) = rw c.in-Found.is at c.in_ok-rest.ensures.value in
    let follows = stands_trans c.in_ok-n-in-Found.ensures.follows parts.0 in
    let agree = c.in_ok-expect_count-in-Found.ensures in
    let same : c.in_ok-n-in-Found.n ≡ length c.as_slice-in-Found.result.now = grind (arith, common_steps, agree) in
    found_lent 10 body_place (input_of c.args.input) (input_of c.in-Found.content) (input_of c.in_ok-n-in-Found.rest) (input_of c.in_ok-items-in-Found.rest) (input_of c.in-Found.after) (length c.as_slice-in-Found.result.now)
    (IsLentBody (source_of c.in_ok-n-in-Found.rest)) (IsLentBody (source_of c.args.input)) _ (λ p x h. code_from (source_of c.in_ok-n-in-Found.rest) (source_of c.args.input) follows p x.code h)
    head (c.in_ok-n-in-Found.ensures.value ∙ ap (λ n. Ok (n, input_of c.in_ok-n-in-Found.rest)) same) c.in_ok-nothing_left-in-Found.ensures c.in_ok-items-in-Found.ensures.lent
