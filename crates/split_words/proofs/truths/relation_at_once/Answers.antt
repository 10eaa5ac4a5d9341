use Rattle.wasm2js_nodes.specs.Names.{name_view}
use Rattle.wasm2js_translation.specs.Wide.{wide_compare}
use Rattle.wasm2js_build.specs.Blocks.{statements_of}
use Rattle.wasm2js_build.specs.Growing.{state_of}
use Rattle.split_words.specs.Views.{pair_view}
use Rattle.split_words.proofs.AtOnce.{told_at_once}
use Rattle.split_words.proofs.truths.relation_at_once.Goals as goal

pub returns : goal.returns
returns c =
    told_at_once (state_of c.at_once-straight.result) (state_of c.put_relation.new.straight) (statements_of c.args.block.now) (statements_of c.into_block.result)
    (wide_compare c.args.op (pair_view c.args.a) (pair_view c.args.b) (name_view c.args.to)) c.at_once-straight.ensures c.in_ok-put_relation.ensures c.into_block.ensures
