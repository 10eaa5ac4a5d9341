use Rattle.std.proofs.Common.{◌≡◌, suc, ◌+◌, ◌-◌, ◌++◌, take, drop, sym, ap, ◌∙◌, append_assoc, arith}
use Rattle.wasm2js_build.specs.Blocks.{statements_of}
use Rattle.wasm2js_translation.specs.Modules.{chunk_stmts, waits_from, put_chunks}
use Rattle.wasm2js_sections.proofs.Chunks.{chunk_next}
use Rattle.wasm2js_sections.proofs.segments.put_chunks.Goals as goal

pub loop-left-preserved : goal.loop-left-preserved
loop-left-preserved c =
    let i = c.loop-left.done in
    let k = c.loop-left.left - 1 in
    let at = c.args.at in
    let bytes = c.args.bytes.now in
    let from = c.loop-left.from in
    let chunk = take (i + 64 - i) (drop i bytes) in
    let before = statements_of c.loop-left.body in
    let inside = c.loop-left.invariant.0 in
    let one : c.loop-left.left ≡ suc k = omega arith in
    let further = put_chunks k (waits_from from (at + i) chunk) (at + (i + 64)) (drop (i + 64) bytes) in
    let pushed : statements_of c.put_one.new.body ≡ before ++ chunk_stmts from (at + i) chunk = c.in_ok-from.ensures.puts in
    let next = c.in_ok-from.ensures.waits in (
      omega (arith, inside),
      ap (λ from. statements_of c.put_one.new.body ++ put_chunks k from (at + (i + 64)) (drop (i + 64) bytes)) next
          ∙ ap (λ ss. ss ++ further) pushed
          ∙ append_assoc before (chunk_stmts from (at + i) chunk) further
          ∙ ap (λ ss. before ++ ss) (sym (chunk_next k from at bytes i (i + 64 - i) (omega arith)))
          ∙ ap (λ n. before ++ put_chunks n from (at + i) (drop i bytes)) (sym one)
          ∙ c.loop-left.invariant.1,
    )
