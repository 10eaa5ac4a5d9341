use Rattle.std.proofs.Common.{◌≡◌, ◌++◌, map, sym, ap, ◌∙◌, subst}
use Rattle.std.specs.Prelude.{IfOk}
use Rattle.sem_words.specs.Lists.{list_items}
use Rattle.asm_tree.specs.Views.{function_view}
use Rattle.wasm2js_tables.specs.Views.{masked_view}
use Rattle.wasm2js_stubs.specs.Few.{TakeFew}
use Rattle.wasm2js_stubs.specs.Needs.{AreNeeds, functions_from}
use Rattle.wasm2js_stubs.proofs.Noted.{stubs_are}
use Rattle.wasm2js_stubs.proofs.Profile.{types_take_few, types_are}
use Rattle.wasm2js_stubs.proofs.stopping.push_stubs.Goals as goal

pub needs_of-requires : goal.needs_of-requires
needs_of-requires c =
    subst TakeFew (sym (types_are c.module.result.now c.args.valid.now c.as_slice-types.result.now c.as_slice-types.ensures c.module.ensures.given)) (types_take_few c.args.valid.now c.requires.profile)

pub returns : goal.returns
returns c =
    let m = c.args.valid.now in
    let e = types_are c.module.result.now m c.as_slice-types.result.now c.as_slice-types.ensures c.module.ensures.given in
    let needs = c.in_ok-needs.needs.items in
    let are = subst (λ ts. AreNeeds 4002 m.types ts needs) c.requires.masked (subst (λ types. AreNeeds 4002 types (map masked_view c.args.masked.now) needs) e c.in_ok-needs.ensures) in
    let all = ap (functions_from 0) c.as_slice.ensures.value ∙ stubs_are m needs are in
    subst (λ more. IfOk c.push_all.result (λ _. map function_view (list_items c.push_all.new.functions) ≡ map function_view (list_items c.args.functions.now) ++ more)) all c.push_all.ensures
