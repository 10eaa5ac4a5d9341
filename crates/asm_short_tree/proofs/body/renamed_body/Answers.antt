use Rattle.std.proofs.Common.{ap, sym, ◌+◌, ◌≡◌, length, ◌∙◌, map, arith}
use Rattle.asm_tree.specs.Views.{stmts_view}
use Rattle.asm_short_lang.specs.Sequence.{numbered, first_names}
use Rattle.asm_short_lang.specs.Renaming.{labels_in_all, stmts_with}
use Rattle.std.specs.Prelude.{[]}
use Rattle.asm_short_tree.specs.Looking.{look_by}
use Rattle.asm_short_tree.proofs.Around.{labels_view-Nothing}
use Rattle.asm_short_tree.proofs.Bare.{enough}
use Rattle.asm_short_tree.proofs.body.renamed_body.Goals as goal

pub renamed_stmts-requires : goal.renamed_stmts-requires
renamed_stmts-requires c =
    let count = enough c.in_ok-numbers.numbers.items (labels_in_all (stmts_view c.args.body.now)) c.in_ok-numbers.ensures in
    let same = ap length c.as_slice.ensures.value in
    omega arith

pub returns : goal.returns
returns c =
    let fresh : map numbered c.as_slice.result.now ≡ first_names [] (labels_in_all (stmts_view c.args.body.now)) = ap (map numbered) c.as_slice.ensures.value ∙ c.in_ok-numbers.ensures in
    c.in_ok-list.ensures.renamed ∙ (λ k. stmts_with (look_by c.args.look.now) (fresh k) (labels_view-Nothing k) 0 (stmts_view c.args.body.now))
