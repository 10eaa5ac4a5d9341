use Rattle.std.proofs.Common.{map, ap, ◌∙◌}
use Rattle.std.specs.List.{list_any}
use Rattle.wasm_lang.specs.Modules.{FunctionBody}
use Rattle.wasm_tree.specs.Views.{body_of, module_of, segment_of}
use Rattle.wasm2js_lang.specs.Parts.Functions.{is_long, has_long_segments}
use Rattle.wasm2js_needs.specs.Needs.{none, noted}
use Rattle.wasm2js_needs.proofs.needs.needs_of.Goals as goal

pub returns : goal.returns
returns c =
    let m = module_of c.args.«module».now in
    let long = c.any_long-long.ensures ∙ ap (λ ss. list_any is_long (map segment_of ss)) c.as_slice.ensures in
    c.in_ok-needs.ensures
    ∙ ap (λ n. noted n (λ is_one. list_any (λ (b : FunctionBody). list_any is_one b.code) (map body_of c.as_slice-2.result.now))) (c.of_segments.ensures ∙ ap none long)
    ∙ ap (λ bs. noted (none (has_long_segments m)) (λ is_one. list_any (λ (b : FunctionBody). list_any is_one b.code) (map body_of bs))) c.as_slice-2.ensures
