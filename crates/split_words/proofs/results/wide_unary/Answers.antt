use Rattle.wasm2js_translation.specs.Words.{simple_statements}
use Rattle.wasm2js_translation.specs.Wide.{wide_unary}
use Rattle.wasm2js_translation.specs.Helpers.{wide_helpers}
use Rattle.wasm2js_build.specs.Blocks.{statements_of}
use Rattle.wasm2js_lang.specs.SplitWords.{ComputesUnary}
use Rattle.wasm2js_laws_wide.proofs.Each.{unaries_compute}
use Rattle.split_words.specs.Views.{pair_view, halves_of}
use Rattle.split_words.proofs.Gained.{gained}
use Rattle.split_words.proofs.results.wide_unary.Goals as goal

pub returns-clause-computes : goal.returns-clause-computes
returns-clause-computes c =
    gained c.unary_at_once.result (statements_of c.args.block.now) (statements_of c.unary_at_once.new.block) (simple_statements (wide_unary c.args.op (pair_view c.args.a) (pair_view c.args.to)))
    (λ ss. ComputesUnary wide_helpers ss c.args.op (halves_of c.args.a) (halves_of c.args.to))
    (unaries_compute c.args.op (pair_view c.args.a) (pair_view c.args.to)) c.unary_at_once.ensures
