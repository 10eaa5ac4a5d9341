use Rattle.std.proofs.Common.{sym, ◌∙◌}
use Rattle.indexmap.proofs.CallerLemmas.{insert_entry-new}
use Rattle.wasm_tree.specs.Views.{type_of}
use Rattle.wasm2js_functions.proofs.Firsts.{noted_known, noted_new}
use Rattle.wasm2js_functions.proofs.forms.first_number.Goals as goal

pub returns-in-Some-clause-noted : goal.returns-in-Some-clause-noted
returns-in-Some-clause-noted c = λ u. noted_known c.args.numbers.now.entries c.in_ok-form.form.items (type_of c.args.t.now) u c.in-Some.first.now c.in_ok-form.ensures c.in-Some.ensures.value

pub returns-in_ok-insert-in-None-clause-noted : goal.returns-in_ok-insert-in-None-clause-noted
returns-in_ok-insert-in-None-clause-noted c = λ u.
    noted_new c.args.numbers.now.entries c.insert.new.self.entries c.in_ok-form.form (type_of c.args.t.now) u c.args.number c.in_ok-form.ensures c.in-None.ensures.value
    (c.in_ok-insert-in-None.ensures.entries ∙ insert_entry-new _ c.args.numbers.now c.in_ok-form.form c.args.number (sym c.in-None.ensures.value))
