use Rattle.std.proofs.Common.{sym, arith}
use Rattle.std.proofs.lemmas.List.{length-take-le}
use Rattle.wasm2js_jumps.proofs.IndexLemmas.{take_all}
use Rattle.wasm2js_jumps.proofs.switches.near.Goals as goal

pub slice_bounds-result-end : goal.slice_bounds-result-end
slice_bounds-result-end c = let h = c.if-labels-most.true in sym (length-take-le 4294967296 c.args.labels.now (omega arith))

pub returns-else-labels-most : goal.returns-else-labels-most
returns-else-labels-most c = let h = c.if-labels-most.false in sym (take_all 4294967296 c.args.labels.now (omega arith))
