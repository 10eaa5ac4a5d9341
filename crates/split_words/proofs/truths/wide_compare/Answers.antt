use Rattle.wasm2js_translation.specs.Words.{simple_statements}
use Rattle.wasm2js_translation.specs.Wide.{wide_compare}
use Rattle.wasm2js_translation.specs.Helpers.{wide_helpers}
use Rattle.wasm2js_build.specs.Blocks.{statements_of}
use Rattle.wasm2js_lang.specs.SplitWords.{ComputesRelation}
use Rattle.wasm2js_laws_wide.proofs.Compared.{relations_compute}
use Rattle.split_words.specs.Views.{pair_view, halves_of}
use Rattle.wasm2js_nodes.specs.Names.{name_view}
use Rattle.wasm2js_translation.specs.Names.{spelled}
use Rattle.split_words.proofs.Gained.{gained}
use Rattle.split_words.proofs.truths.wide_compare.Goals as goal

pub returns-clause-computes : goal.returns-clause-computes
returns-clause-computes c =
    gained c.relation_at_once.result (statements_of c.args.block.now) (statements_of c.relation_at_once.new.block) (simple_statements (wide_compare c.args.op (pair_view c.args.a) (pair_view c.args.b) (name_view c.args.to)))
    (λ ss. ComputesRelation wide_helpers ss c.args.op (halves_of c.args.a) (halves_of c.args.b) (spelled (name_view c.args.to)))
    (relations_compute c.args.op (pair_view c.args.a) (pair_view c.args.b) (name_view c.args.to)) c.relation_at_once.ensures
