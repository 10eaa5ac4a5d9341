use Rattle.std.proofs.Common.{[], ◌∷◌}
use Rattle.wasm2js_translation.specs.Words.{put, simple_statements}
use Rattle.wasm2js_translation.specs.Wide.{is_wide_zero}
use Rattle.wasm2js_translation.specs.Helpers.{wide_helpers}
use Rattle.wasm2js_build.specs.Blocks.{statements_of}
use Rattle.wasm2js_lang.specs.SplitWords.{ComputesZero}
use Rattle.wasm2js_laws_wide.proofs.Compared.{zero_tests_compute}
use Rattle.split_words.specs.Views.{pair_view, halves_of}
use Rattle.wasm2js_nodes.specs.Names.{name_view}
use Rattle.wasm2js_translation.specs.Names.{spelled}
use Rattle.split_words.proofs.Gained.{gained}
use Rattle.split_words.proofs.truths.wide_zero.Goals as goal

pub returns-clause-computes : goal.returns-clause-computes
returns-clause-computes c =
    gained c.zero_test_at_once.result (statements_of c.args.block.now) (statements_of c.zero_test_at_once.new.block) (simple_statements (put (name_view c.args.to) (is_wide_zero (pair_view c.args.a)) ∷ []))
    (λ ss. ComputesZero wide_helpers ss (halves_of c.args.a) (spelled (name_view c.args.to)))
    (zero_tests_compute (pair_view c.args.a) (name_view c.args.to)) c.zero_test_at_once.ensures
