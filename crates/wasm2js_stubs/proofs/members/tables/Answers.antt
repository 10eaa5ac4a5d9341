use Rattle.std.proofs.Common.{◌≡◌, map, sym, ap, ◌∙◌, subst}
use Rattle.std.specs.Prelude.{IfOk}
use Rattle.sem_words.specs.Lists.{list_items}
use Rattle.asm_tree.specs.Views.{table_view}
use Rattle.wasm2js_tables.specs.Views.{masked_view}
use Rattle.wasm2js_stubs.specs.Few.{TakeFew}
use Rattle.wasm2js_stubs.specs.Members.{table_in}
use Rattle.wasm2js_stubs.proofs.Profile.{types_take_few, types_are}
use Rattle.wasm2js_stubs.proofs.members.tables.Goals as goal

pub tables_of-requires : goal.tables_of-requires
tables_of-requires c =
    subst TakeFew (sym (types_are c.module.result.now c.args.valid.now c.as_slice-types.result.now c.as_slice-types.ensures c.module.ensures.given)) (types_take_few c.args.valid.now c.requires.profile)

pub returns : goal.returns
returns c =
    let m = c.args.valid.now in
    let ts = map masked_view c.args.masked.now in
    let e = types_are c.module.result.now m c.as_slice-types.result.now c.as_slice-types.ensures c.module.ensures.given in
    subst (λ more. IfOk c.tables_of.result (λ tables. map table_view (list_items tables) ≡ more)) (ap (λ types. map (table_in types) ts) e ∙ ap (map (table_in m.types)) c.requires.masked) c.tables_of.ensures
