use Rattle.std.proofs.Common.{◌++◌, [], ◌∷◌, ap}
use Rattle.std.proofs.lemmas.Result.{IfOk-equal}
use Rattle.wasm2js_translation.specs.Helpers as helpers
use Rattle.wasm2js_nodes.specs.Names.{name_view}
use Rattle.wasm2js_terms.specs.Views.{term_view}
use Rattle.wasm2js_build.specs.Blocks.{statements_of}
use Rattle.wasm2js_memory_helpers.specs.Pieces.{bytes_together, word_of}
use Rattle.wasm2js_memory_helpers.proofs.Words.{same_word}
use Rattle.wasm2js_memory_helpers.proofs.access.put_word.Goals as goal

pub returns : goal.returns
returns c =
    let old = statements_of c.args.block.now in
    let a = term_view c.args.a.now in
    let b = term_view c.args.b.now in
    let d = term_view c.args.c.now in
    let e = term_view c.args.d.now in
    let p = term_view c.byte-first.result in
    let q = term_view c.byte-second.result in
    let r = term_view c.byte-third.result in
    let s = term_view c.byte-fourth.result in
    IfOk-equal c.put_bytes.result (statements_of c.put_bytes.new.block) (old ++ helpers.sets (name_view c.args.to) (bytes_together p q r s) ∷ []) (old ++ helpers.sets (name_view c.args.to) (word_of a b d e) ∷ []) c.put_bytes.ensures
    (ap (λ x. old ++ helpers.sets (name_view c.args.to) x ∷ []) (same_word a b d e p q r s c.byte-first.ensures c.byte-second.ensures c.byte-third.ensures c.byte-fourth.ensures))
