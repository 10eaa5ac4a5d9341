use Rattle.std.proofs.Common.{ℕ, ◌++◌, drop, ap, ◌∙◌}
use Rattle.std.specs.Prelude.{slice_get}
use Rattle.wasm2js_translation.specs.Actions.{under}
use Rattle.wasm2js_translation.specs.Bodies.{branch, label_of, by_index, signed_word}
use Rattle.wasm2js_build.specs.Blocks.{statements_of}
use Rattle.wasm2js_jumps.specs.Aims.{aims_view}
use Rattle.wasm2js_operands.specs.Operands.{over}
use Rattle.wasm2js_bodies.proofs.branches.branch_by_index.Goals as goal

pub returns-clause-value : goal.returns-clause-value
returns-clause-value c =
    let ls = aims_view c.args.aims.now in
    let depth = c.under.ensures ∙ ap (under 1 c.args.base) c.remove.ensures.value in
    c.in_ok-by_index.ensures
    ∙ ap (λ (d : ℕ). statements_of c.args.block.now ++ by_index (λ k. branch (slice_get ls k) (label_of ls k) d) (signed_word c.under-subject.result) c.args.labels.now c.args.default) depth
    ∙ ap (λ (d : ℕ). statements_of c.args.block.now ++ by_index (λ k. branch (slice_get ls k) (label_of ls k) (under 1 c.args.base (drop 1 (over c.args.base c.args.types.now.items)))) (signed_word d) c.args.labels.now c.args.default) c.under-subject.ensures
