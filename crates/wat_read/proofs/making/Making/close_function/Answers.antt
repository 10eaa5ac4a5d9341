use Rattle.std.proofs.Common.{[], ◌∷◌, ◌++◌, refl}
use Rattle.wat_read_fields.specs.Contexts.{module_names, module_types}
use Rattle.wat_read.proofs.OpenFields.{field_closed}
use Rattle.wat_read.proofs.making.Making.close_function.Goals as goal

pub returns : goal.returns
returns c = λ ks h.
    let before = h.stands.before ++ h.stands.first ∷ [] in
    field_closed (module_names c.args.context) (module_types c.args.context) _ ks h.whole h.field h.field h.stands refl
    (c.in_ok-end.ensures.rows h.field before h.whole h.judged h.at)
    (λ first. c.in_ok-end.ensures.lists h.field before h.whole h.judged (h.lists first))
    (c.in_ok-end.ensures.empty h.field before h.whole h.judged) h.parts
