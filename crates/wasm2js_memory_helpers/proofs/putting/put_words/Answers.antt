use Rattle.std.proofs.Common.{◌++◌}
use Rattle.std.proofs.lemmas.Result.{IfOk-equal}
use Rattle.wasm2js_translation.specs.Helpers as helpers
use Rattle.wasm2js_build.specs.Blocks.{statements_of}
use Rattle.wasm2js_memory_helpers.proofs.Added.{four_after}
use Rattle.wasm2js_memory_helpers.proofs.putting.put_words.Goals as goal

pub returns : goal.returns
returns c =
    let old = statements_of c.args.block.now in
    let one = statements_of c.put_four.new.block in
    let two = statements_of c.put_four-2.new.block in
    let three = statements_of c.put_four-3.new.block in
    let last = helpers.put_four 48 13 in
    IfOk-equal c.put_four-4.result (statements_of c.put_four-4.new.block) (three ++ last) (old ++ helpers.put_body) c.put_four-4.ensures
    (four_after old (helpers.put_four 0 1) (helpers.put_four 16 5) (helpers.put_four 32 9) last one two three c.in_ok-put_four.ensures c.in_ok-put_four-2.ensures c.in_ok-put_four-3.ensures)
