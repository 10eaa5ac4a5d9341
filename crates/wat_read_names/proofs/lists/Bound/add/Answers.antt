use Rattle.std.proofs.Common.{[], ◌∷◌, ◌++◌, refl, sym, ap, ◌∙◌}
use Rattle.std.proofs.lemmas.Result.{on_ok_weaker}
use Rattle.wat_read_names.specs.Fields.{field_of}
use Rattle.wat_read_names.specs.Bound.{IsBound}
use Rattle.wat_read_names.proofs.Passing.{import_more, defined_more}
use Rattle.wat_read_names.proofs.lists.Bound.add.Goals as goal

pub returns-then-is_import : goal.returns-then-is_import
returns-then-is_import c = λ fs h.
    let old = c.args.self.now in
    let new = record old { imported = c.push.new.self } in
    let f = field_of c.args.field.now in
    on_ok_weaker {Q = IsBound new c.args.space (fs ++ f ∷ [])} _ (λ e.
    import_more c.args.space fs f old new c.requires (sym c.is_import.ensures ∙ c.if-is_import.true) (e ∙ ap (λ n. old.imported ++ n ∷ []) c.id_bound-name.ensures) refl h) c.push.ensures

pub returns-else-is_import : goal.returns-else-is_import
returns-else-is_import c = λ fs h.
    let old = c.args.self.now in
    let new = record old { defined = c.push-else-is_import.new.self } in
    let f = field_of c.args.field.now in
    on_ok_weaker {Q = IsBound new c.args.space (fs ++ f ∷ [])} _ (λ e.
    defined_more c.args.space fs f old new c.requires (sym c.is_import.ensures ∙ c.if-is_import.false) refl (e ∙ ap (λ n. old.defined ++ n ∷ []) c.id_bound-name.ensures) h) c.push-else-is_import.ensures
