use Rattle.std.proofs.Common.{[], ◌∷◌, ◌++◌, map, ap}
use Rattle.std.proofs.lemmas.Result.{on_ok_weaker}
use Rattle.wasm_tree.specs.Views as views
use Rattle.wat_read_names.specs.Bound.{space_names}
use Rattle.wat_read_fields.specs.Lists.{HasLists}
use Rattle.wat_read_fields.proofs.OneMore.{is_described, is_listed, described_stay, listed_stay}
use Rattle.wat_read_fields.proofs.lists.Lists.add_function.Goals as goal

pub returns : goal.returns
returns c = λ fs f h is e code.
    let names_of = space_names c.args.context.spaces.now in
    let types = map views.type_of c.args.context.types.now in
    let old = c.args.self.now in
    on_ok_weaker {Q = HasLists names_of types (record { described = old.described; listed = old.listed; functions = c.add.new.self }) (fs ++ f ∷ [])} _ (λ x. record {
      described = described_stay names_of old.described fs f (ap is_described is) h.described;
      listed = listed_stay names_of old.listed fs f (ap is_listed is) h.listed;
      functions = x;
    }) (c.add.ensures fs f h.functions is e code)
