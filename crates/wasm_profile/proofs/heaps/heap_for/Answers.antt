use Rattle.std.proofs.Common.{◌≡◌, ◌*◌, drop, sym, ◌∙◌, ap, arith}
use Rattle.wasm_profile.proofs.Lengths.{first_length, lengths, by_lengths, no_less, further, past_all}
use Rattle.wasm_profile.proofs.heaps.heap_for.Goals as goal

pub returns-then-bytes-length : goal.returns-then-bytes-length
returns-then-bytes-length c = sym (by_lengths c.args.pages ∙ c.loop-length.invariant ∙ no_less lengths (c.args.pages * 65536) c.loop-length.length-index c.loop-length-test.true c.if-bytes-length.true)

pub loop-length-preserved : goal.loop-length-preserved
loop-length-preserved c = c.loop-length.invariant ∙ further lengths (c.args.pages * 65536) c.loop-length.length-index c.loop-length-test.true c.if-bytes-length.false

pub returns : goal.returns
returns c =
    let n = c.args.pages * 65536 in
    let end : c.loop-length.length-index ≡ 12 = omega arith in
    sym (by_lengths c.args.pages ∙ c.loop-length.invariant ∙ ap (λ i. first_length (drop i lengths) n) end ∙ past_all n)
