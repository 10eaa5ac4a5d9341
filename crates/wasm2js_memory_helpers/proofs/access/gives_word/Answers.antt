use Rattle.std.proofs.Common.{◌++◌, [], ◌∷◌, ap}
use Rattle.std.proofs.lemmas.Result.{IfOk-equal}
use Rattle.wasm2js_translation.specs.Helpers as helpers
use Rattle.wasm2js_terms.specs.Views.{term_view}
use Rattle.wasm2js_build.specs.Blocks.{statements_of}
use Rattle.wasm2js_memory_helpers.specs.Pieces.{bytes_together, word_of}
use Rattle.wasm2js_memory_helpers.proofs.Words.{same_word}
use Rattle.wasm2js_memory_helpers.proofs.access.gives_word.Goals as goal

pub returns : goal.returns
returns c =
    let old = statements_of c.args.block.now in
    let a = term_view c.args.a.now in
    let b = term_view c.args.b.now in
    let d = term_view c.args.c.now in
    let e = term_view c.args.d.now in
    let p = term_view c.byte-first.result in
    let q = term_view c.byte-second.result in
    let r = term_view c.byte-third.result in
    let s = term_view c.byte-fourth.result in
    IfOk-equal c.gives_bytes.result (statements_of c.gives_bytes.new.block) (old ++ helpers.gives (bytes_together p q r s) ∷ []) (old ++ helpers.gives (word_of a b d e) ∷ []) c.gives_bytes.ensures
    (ap (λ x. old ++ helpers.gives x ∷ []) (same_word a b d e p q r s c.byte-first.ensures c.byte-second.ensures c.byte-third.ensures c.byte-fourth.ensures))
