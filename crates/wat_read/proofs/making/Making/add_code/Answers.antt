use Rattle.std.proofs.Common.{false, [], ◌∷◌, ◌++◌, refl, sym, ◌∙◌}
use Rattle.wat_laws_kept.proofs.Heads.{no_head_behind_code}
use Rattle.wat_marks.specs.Views.{marked_of}
use Rattle.wat_read_fields.specs.Contexts.{module_names, module_types}
use Rattle.wat_read.proofs.OpenFields.{code_longer}
use Rattle.wat_read.proofs.making.Making.add_code.Goals as goal

pub returns-clause-code : goal.returns-clause-code
returns-clause-code c = λ ks h leads.
    let m = marked_of c.args.token.now in
    code_longer (module_names c.args.context) (module_types c.args.context) c.args.self.now _ c.args.begun ks m h c.requires.part
    (c.in_ok-add.ensures.judged h.field (h.stands.before ++ h.stands.first ∷ []) h.whole h.judged (λ t. no_head_behind_code false ks m leads (sym h.code ∙ t)))
    c.in_ok-add.ensures.in_code refl refl
