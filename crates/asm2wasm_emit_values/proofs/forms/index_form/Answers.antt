use Rattle.std.proofs.Common.{◌≡◌, rules, refl, subst}
use Rattle.sem_words.specs.declared.js_value.JsOp.TheVariants.{Sar}
use Rattle.asm_lang.specs.Modules.{binary}
use Rattle.asm_tree.specs.Views.{expr_view}
use Rattle.asm_validate_limits.proofs.Shapes.{binary_is}
use Rattle.asm2wasm_emit_values.proofs.forms.index_form.Goals as goal

pub returns-then-eq : goal.returns-then-eq
returns-then-eq c =
    let shift : c.in-Binary.op ≡ Sar = search rules in
    let right = c.in-Binary.field-2.value in
    let is = binary_is c.args.index.now c.in-Binary.op c.in-Binary.left c.in-Binary.field-2 c.deref.result.now right c.in-Binary.is c.deref.ensures refl in
    (expr_view right, subst (λ op. expr_view c.args.index.now ≡ binary op (expr_view c.deref.result.now) (expr_view right)) shift is)
