use Rattle.std.proofs.Common.{true, false, subst}
use Rattle.wasm_tree.specs.Views.{type_of}
use Rattle.wasm_validate_bodies.specs.Calls.{IsNoted}
use Rattle.wasm2js_tables.proofs.Noted.{called_and_new, forms_more}
use Rattle.wasm2js_tables.proofs.types.is_wanted.Goals as goal

pub returns-then-is_called-clause-wanted : goal.returns-then-is_called-clause-wanted
returns-then-is_called-clause-wanted c =
    called_and_new c.args.called.now c.args.before.now.keys (type_of c.args.t.now) c.in_ok-form.form.items true c.in_ok-is_new.is_new c.in_ok-form.ensures c.if-is_called.ensures c.in_ok-is_new.ensures.is_new

pub returns-then-is_called-clause-noted : goal.returns-then-is_called-clause-noted
returns-then-is_called-clause-noted c =
    let noted = subst (λ f. IsNoted f c.args.before.now.keys c.note.new.forms.keys) c.in_ok-form.ensures c.in_ok-is_new.ensures.noted in
    λ others are. forms_more (type_of c.args.t.now) others c.args.before.now.keys c.note.new.forms.keys noted are

pub returns-else-is_called-clause-wanted : goal.returns-else-is_called-clause-wanted
returns-else-is_called-clause-wanted c =
    called_and_new c.args.called.now c.args.before.now.keys (type_of c.args.t.now) c.in_ok-form.form.items false c.in_ok-is_new.is_new c.in_ok-form.ensures c.if-is_called.ensures c.in_ok-is_new.ensures.is_new

pub returns-else-is_called-clause-noted : goal.returns-else-is_called-clause-noted
returns-else-is_called-clause-noted c =
    let noted = subst (λ f. IsNoted f c.args.before.now.keys c.note.new.forms.keys) c.in_ok-form.ensures c.in_ok-is_new.ensures.noted in
    λ others are. forms_more (type_of c.args.t.now) others c.args.before.now.keys c.note.new.forms.keys noted are
