use Rattle.std.proofs.Common.{ap, ◌∙◌}
use Rattle.wat_lang.specs.Names as names
use Rattle.wat_read_names.specs.Fields.{field_of}
use Rattle.wat_read_fields.specs.Contexts.{module_names, module_types}
use Rattle.wat_read.proofs.OpenFunctions.{by_heads}
use Rattle.wat_read.proofs.functions.OpenFunction.begin_code.Goals as goal

pub returns-clause-function : goal.returns-clause-function
returns-clause-function c = λ f done h.
    let g : names.Field = field_of c.field.result in
    let kind = ap (λ (x : names.Field). x.kind) c.field.ensures ∙ c.requires in
    let parts = ap (λ (x : names.Field). x.parts) c.field.ensures ∙ h.heads in
    record {
      is_function = h.is_function;
      parts = h.parts;
      heads = h.heads;
      alone = h.alone;
      front = h.front;
      before = λ n. absurd cc;
      locals = λ t. c.in_ok-self.ensures ∙ by_heads (module_names c.args.context) (module_types c.args.context) f g h.is_function kind parts;
      made = h.made;
    }
