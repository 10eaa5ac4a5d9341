use Rattle.wasm2js_translation.specs.Words.{simple_statements}
use Rattle.wasm2js_translation.specs.Wide.{wide_extend}
use Rattle.wasm2js_translation.specs.Helpers.{wide_helpers}
use Rattle.wasm2js_build.specs.Blocks.{statements_of}
use Rattle.wasm2js_lang.specs.SplitWords.{ComputesExtension}
use Rattle.wasm2js_laws_wide.proofs.Extended.{extensions_compute}
use Rattle.split_words.specs.Views.{pair_view, halves_of}
use Rattle.split_words.proofs.Gained.{gained}
use Rattle.split_words.proofs.results.wide_extend.Goals as goal

pub returns-clause-computes : goal.returns-clause-computes
returns-clause-computes c = λ h.
    gained c.extended_at_once.result (statements_of c.args.block.now) (statements_of c.extended_at_once.new.block) (simple_statements (wide_extend c.args.bits (pair_view c.args.a) (pair_view c.args.to)))
    (λ ss. ComputesExtension wide_helpers ss c.args.bits (halves_of c.args.a) (halves_of c.args.to))
    (extensions_compute c.args.bits (pair_view c.args.a) (pair_view c.args.to) h) c.extended_at_once.ensures
