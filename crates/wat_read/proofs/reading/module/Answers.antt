use Rattle.std.proofs.Common.{◌≡◌, List, map, ap, subst}
use Rattle.std.proofs.lemmas.Result.{IfOk-weaker, IfErr-weaker}
use Rattle.wasm_lang.specs.Modules.{FunctionType}
use Rattle.wasm_tree.specs.Views as views
use Rattle.wat_lang.specs.Grammar.{Marked}
use Rattle.wat_read_names.specs.Bound.{space_names}
use Rattle.wat_read.specs.Making.{HasClosed}
use Rattle.wat_read.proofs.Said.{one_marking, says, refused}
use Rattle.wat_read.proofs.reading.module.Goals as goal

-- what was made is of the marks of which the outline is
closed : (c : goal.After-judged) → HasClosed (space_names c.in_ok-outlined.outlined.names.spaces) (map views.type_of c.in_ok-outlined.outlined.names.types.items) c.in_ok-made.made c.in_ok-outlined.ensures.found.0
closed c =
    let o = c.in_ok-outlined.ensures.found in
    let m = c.in_ok-made.ensures.found in
    let names_of = space_names c.in_ok-outlined.outlined.names.spaces in
    let same : m.0 ≡ o.0 = one_marking c.args.source.now m.0 o.0 m.1 o.1 in
    subst (λ (types : List FunctionType). HasClosed names_of types c.in_ok-made.made o.0) (ap (map views.type_of) c.as_slice.ensures.value)
    (subst (λ (ks : List Marked). HasClosed names_of (map views.type_of c.as_slice.result.now) c.in_ok-made.made ks) same m.2)

pub returns-clause-found : goal.returns-clause-found
returns-clause-found c =
    let o = c.in_ok-outlined.ensures.found in
    IfOk-weaker c.judged.result _ _ (λ x s. says c.args.source.now o.0 (views.module_of x) o.1 s) (c.judged.ensures.found o.0 o.2 (closed c))

pub returns-clause-fault : goal.returns-clause-fault
returns-clause-fault c =
    let o = c.in_ok-outlined.ensures.found in
    IfErr-weaker c.judged.result _ _ (λ e s. refused c.args.source.now o.0 e o.1 s) (c.judged.ensures.fault o.0 o.2 (closed c))
