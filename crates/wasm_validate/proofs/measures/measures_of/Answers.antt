use Rattle.std.proofs.Common.{[], map, refl, ap, ◌∙◌}
use Rattle.wasm_tree.specs.Views.{import_of, module_of}
use Rattle.wasm_lang_valid.specs.Measures.{called_types, first_mixed}
use Rattle.wasm_validate.proofs.Counting.{all_counted, all_called}
use Rattle.wasm_validate.proofs.measures.measures_of.Goals as goal

pub returns-clause-exactly : goal.returns-clause-exactly
returns-clause-exactly c =
    let m = module_of c.args.«module».now in
    let all = all_called m c.args.counts.now c.requires in
    let mixed = c.in_ok-mixed.ensures ∙ ap (λ l. first_mixed [] 0 (map import_of l)) c.as_slice.ensures in
    all_counted m c.args.counts.now _ c.requires refl refl (c.count.ensures.counted m.types (called_types m.types m.bodies) all) mixed refl

pub returns-clause-few : goal.returns-clause-few
returns-clause-few c = let m = module_of c.args.«module».now in c.count.ensures.few m.types (called_types m.types m.bodies) (all_called m c.args.counts.now c.requires)
