use Rattle.std.proofs.Common.{◌+◌, ◌++◌, map, drop, sym, ap, ◌∙◌}
use Rattle.wasm_tree.specs.Views.{type_of}
use Rattle.wasm2js_translation.specs.Bodies.{form_number}
use Rattle.wasm2js_functions.specs.Forms.{number_in}
use Rattle.wasm2js_functions.proofs.Firsts.{all_noted, one_form}
use Rattle.wasm2js_functions.proofs.forms.forms_of.Goals as goal

pub loop-number-preserved : goal.loop-number-preserved
loop-number-preserved c =
    let types = c.args.types.now in
    let n = c.loop-number.number in
    let at = c.index-types-number.result in
    let is = c.index-types-number.is in
    let low = c.loop-number-test.true in
    let old = number_in c.loop-number.numbers in
    let new = number_in c.first_number.new.numbers in
    let first = c.in_ok-first.first in
    let known = c.loop-number.invariant.noted in
    let value = c.in_ok-first.ensures.first in
    record {
      noted = all_noted types n at is low old new first known value c.in_ok-first.ensures.noted;
      forms = one_form types n at is low old new first known value c.loop-number.forms.items c.loop-number.invariant.forms
          ∙ sym (ap (λ l. l ++ map (form_number (map type_of types)) (map type_of (drop (n + 1) types))) c.in_ok-push.ensures.items);
    }
