use Rattle.std.proofs.Common.{[], ◌∷◌, ◌++◌, refl, sym, subst}
use Rattle.std.proofs.lemmas.Result.{on_ok_weaker}
use Rattle.wat_marks.specs.Views.{marked_of}
use Rattle.wat_read_fields.specs.Contexts.{module_names, module_types}
use Rattle.wat_read.specs.Making.{by_open, HasMade}
use Rattle.wat_read.proofs.OpenFields.{none_longer, parts_longer, parts_by_kind, by_other_kind}
use Rattle.wat_read.proofs.making.Making.add_part.Goals as goal

pub returns-in-None : goal.returns-in-None
returns-in-None c = λ ks h leads.
    let names_of = module_names c.args.context in
    let types = module_types c.args.context in
    let old = c.args.self.now in
    let new = record old { parts = c.keep.new.parts } in
    let m = marked_of c.args.token.now in
    on_ok_weaker {Q = HasMade names_of types new (ks ++ m ∷ [])} _
    (λ put. subst (by_open names_of types new (ks ++ m ∷ [])) (sym c.in-None.is)
    (none_longer names_of types old new ks m (subst (by_open names_of types old ks) c.in-None.is h) c.requires put refl refl refl)) c.keep.ensures

pub returns-in_default : goal.returns-in_default
returns-in_default c = λ ks h leads.
    let names_of = module_names c.args.context in
    let types = module_types c.args.context in
    let old = c.args.self.now in
    let new = record old { parts = c.keep-in_default.new.parts } in
    let b = c.in-Some.begun in
    let m = marked_of c.args.token.now in
    on_ok_weaker {Q = HasMade names_of types new (ks ++ m ∷ [])} _
    (λ put. subst (by_open names_of types new (ks ++ m ∷ [])) (sym c.in-Some.is)
    (by_other_kind names_of types new b (ks ++ m ∷ []) c.in_default.not-Func
    (parts_longer names_of types old new b ks m (parts_by_kind names_of types old b ks c.in_default.not-Func (subst (by_open names_of types old ks) c.in-Some.is h)) c.requires put refl refl refl)))
    c.keep-in_default.ensures
