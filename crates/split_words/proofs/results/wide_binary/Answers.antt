use Rattle.wasm2js_translation.specs.Words.{simple_statements}
use Rattle.wasm2js_translation.specs.Wide.{wide_binary}
use Rattle.wasm2js_translation.specs.Helpers.{wide_helpers}
use Rattle.wasm2js_build.specs.Blocks.{statements_of}
use Rattle.wasm2js_lang.specs.SplitWords.{ComputesBinary}
use Rattle.wasm2js_laws_wide.proofs.Each.{binaries_compute}
use Rattle.split_words.specs.Views.{pair_view, halves_of}
use Rattle.split_words.proofs.Gained.{gained}
use Rattle.split_words.proofs.results.wide_binary.Goals as goal

pub returns-clause-computes : goal.returns-clause-computes
returns-clause-computes c =
    gained c.binary_at_once.result (statements_of c.args.block.now) (statements_of c.binary_at_once.new.block) (simple_statements (wide_binary c.args.op (pair_view c.args.a) (pair_view c.args.b) (pair_view c.args.to)))
    (λ ss. ComputesBinary wide_helpers ss c.args.op (halves_of c.args.a) (halves_of c.args.b) (halves_of c.args.to))
    (binaries_compute c.args.op (pair_view c.args.a) (pair_view c.args.b) (pair_view c.args.to) c.requires.translated) c.binary_at_once.ensures
