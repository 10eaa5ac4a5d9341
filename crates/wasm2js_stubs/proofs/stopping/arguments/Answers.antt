use Rattle.std.proofs.Common.{◌++◌, [], ◌∷◌, map, sym, ap, ◌∙◌, arith}
use Rattle.std.proofs.lemmas.List.{map-append}
use Rattle.std.proofs.lemmas.List.FromFn.{map-range_with_len_more}
use Rattle.wasm2js_translation.specs.Helpers as helpers
use Rattle.wasm2js_nodes.specs.Names.{name_view}
use Rattle.wasm2js_stubs.proofs.stopping.arguments.Goals as goal

pub loop-number-preserved : goal.loop-number-preserved
loop-number-preserved c =
    let n = c.loop-number.number in
    ap (map name_view) c.in_ok-push.ensures.items
    ∙ map-append name_view c.loop-number.names.items _
    ∙ ap (λ names. names ++ helpers.argument n ∷ []) c.loop-number.invariant
    ∙ sym (map-range_with_len_more helpers.argument 0 n n (omega arith))
