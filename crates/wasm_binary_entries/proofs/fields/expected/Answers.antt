use Rattle.std.proofs.Common.{◌≡◌, ◌∙◌, arith, get_or, true}
use Rattle.std.specs.Prelude.{◌==◌}
use Rattle.std.proofs.lemmas.Grind.{common_steps}
use Rattle.wasm_tree.specs.Inputs.{input_of}
use Rattle.wasm_tree.proofs.Slices.{stands_trans}
use Rattle.wasm_binary_entries.proofs.Header.{header_stop, header_step}
use Rattle.wasm_binary_entries.proofs.fields.expected.Goals as goal

pub returns-in_err-found-clause-value : goal.returns-in_err-found-clause-value
returns-in_err-found-clause-value c =
    let stop = c.loop-byte.invariant.value ∙ header_stop c.args.row c.args.bytes.now c.loop-byte.byte-index (input_of c.loop-byte.rest) _ c.loop-byte-test.true c.in_err-found.ensures.value in
    grind (arith, common_steps, stop)

pub loop-byte-preserved : goal.loop-byte-preserved
loop-byte-preserved c =
    let same : (c.in_ok-found.found == get_or c.args.bytes.now c.loop-byte.byte-index 0) ≡ true = grind (arith, common_steps, c.if-found-byte.false) in
    record {
      value = c.loop-byte.invariant.value ∙ header_step c.args.row c.args.bytes.now c.loop-byte.byte-index (input_of c.loop-byte.rest) (input_of c.in_ok-found.after) c.in_ok-found.found c.loop-byte-test.true c.in_ok-found.ensures.value same;
      follows = stands_trans c.in_ok-found.ensures.follows c.loop-byte.invariant.follows;
    }
