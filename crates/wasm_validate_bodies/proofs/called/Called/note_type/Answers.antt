use Rattle.std.proofs.Common.{nat_eq, refl, sym, ap, ◌∙◌, subst}
use Rattle.std.specs.List.{list_any, IsDistinct}
use Rattle.wasm_tree.specs.Views.{type_of}
use Rattle.wasm_validate_bodies.proofs.Calls.{both_ok, keys_longer, keys_same, seen, unseen}
use Rattle.wasm_validate_bodies.proofs.called.Called.note_type.Goals as goal

pub returns-in-Ok-true : goal.returns-in-Ok-true
returns-in-Ok-true c =
    let n = c.args.number in
    let keys = c.args.self.now.numbers.keys in
    let longer = keys_longer (list_any (nat_eq n) keys) c.in-Ok-true.field-0 keys c.insert.new.self.keys n c.in-Ok-true.ensures.added c.in-Ok-true.field-0-test c.in-Ok-true.ensures.keys in
    both_ok c.note_form.result c.note_form.ensures.numbers c.note_form.ensures.forms
    (λ x numbers forms types before stands is. unseen types before n (type_of c.args.called.now) stands c.args.self.now c.note_form.new.self c.ranges.number.fits (subst (λ s. IsDistinct nat_eq s.keys) (sym numbers) c.insert.ensures.unique) (ap (λ s. s.keys) numbers ∙ longer) forms is)

pub returns-in-Ok-false : goal.returns-in-Ok-false
returns-in-Ok-false c =
    let n = c.args.number in
    let keys = c.args.self.now.numbers.keys in
    let same = keys_same (list_any (nat_eq n) keys) c.in-Ok-false.field-0 keys c.insert.new.self.keys n c.in-Ok-false.ensures.added c.in-Ok-false.field-0-test c.in-Ok-false.ensures.keys in
    λ types before stands is. seen types before n (type_of c.args.called.now) stands c.args.self.now _ same.0 same.1 refl is
