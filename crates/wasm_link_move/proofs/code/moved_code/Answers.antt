use Rattle.std.proofs.Common.{ap, ◌∙◌, map}
use Rattle.std.specs.List.{flat_map}
use Rattle.wasm_tree.specs.Views.{code_of, instr_of}
use Rattle.wasm_link_move.specs.Moved.{pushed, side_of}
use Rattle.wasm_link_move.proofs.Pushed.{all_moved}
use Rattle.wasm_link_move.proofs.code.moved_code.Goals as goal

pub returns-clause-made : goal.returns-clause-made
returns-clause-made c =
    let push = pushed c.args.numbers.now (side_of c.args.side) c.args.scratch in
    c.in_ok-moved.ensures ∙ ap (λ l. flat_map push (map instr_of l)) c.into_vec.ensures ∙ ap (flat_map push) c.in_ok-code.ensures.value

pub returns-clause-moved : goal.returns-clause-moved
returns-clause-moved c = λ fits.
    let push = pushed c.args.numbers.now (side_of c.args.side) c.args.scratch in
    c.in_ok-moved.ensures ∙ ap (λ l. flat_map push (map instr_of l)) c.into_vec.ensures ∙ ap (flat_map push) c.in_ok-code.ensures.value
    ∙ all_moved c.args.numbers.now (side_of c.args.side) c.args.scratch (code_of c.args.code.now) fits
