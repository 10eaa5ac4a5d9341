use Rattle.std.proofs.Common.{◌≡◌, Some, refl, ap, ◌∙◌}
use Rattle.sem_words.specs.Lists.{text_bytes}
use Rattle.asm_tree.specs.Views.{module_view}
use Rattle.asm_names.specs.declared.meaning.Meaning.{Meaning}
use Rattle.asm_names.specs.declared.meaning.Meaning.TheVariants as meanings
use Rattle.asm_run_names.proofs.Called.{by_meaning, foreign_called}
use Rattle.asm_run_names.proofs.callee.called.Goals as goal

pub returns-in-Some-Foreign : goal.returns-in-Some-Foreign
returns-in-Some-Foreign c =
    let foreign = rw c.in-Some-Foreign.is at c.in-Some-Foreign.field-0-is in
    let is : c.args.meaning ≡ Some (meanings.Foreign c.in-Some-Foreign.member) = c.in-Some-Foreign.is ∙ ap (λ (m : Meaning). Some m) foreign in
    foreign_called c.foreign.result (module_view c.args.home.now) (text_bytes c.args.name.now) c.args.meaning c.in-Some-Foreign.member is c.requires c.foreign.ensures

pub returns-in-Some-Function : goal.returns-in-Some-Function
returns-in-Some-Function c =
    let own = rw c.in-Some-Function.is at c.in-Some-Function.field-0-is in
    let is : c.args.meaning ≡ Some (meanings.Function c.in-Some-Function.field-0-0) = c.in-Some-Function.is ∙ ap (λ (m : Meaning). Some m) own in
    by_meaning c.own.result (module_view c.args.home.now) (text_bytes c.args.name.now) c.args.meaning (Some (meanings.Function c.in-Some-Function.field-0-0)) _ is refl c.own.ensures
