use Rattle.std.proofs.Common.{ap, ◌∙◌, ℕ}
use Rattle.wasm_lang.specs.Limits.{most_locals}
use Rattle.wat_lang.specs.declared.parts.Part.TheVariants.{Local}
use Rattle.wat_lang.specs.Names.{types_part, all_with}
use Rattle.wat_lang.specs.Rows as spec
use Rattle.wat_read_tokens.specs.Marks.{marks_of}
use Rattle.wat_read_refusals.specs.Joined.{join}
use Rattle.wat_read_refusals.proofs.Joins.{then_both}
use Rattle.wat_read_rows.proofs.fields.function_rows.Goals as goal

pub returns : goal.returns
returns c =
    then_both _ _ _ _ _ c.in_ok-head_rows.ensures
    (c.from_count.ensures ∙ ap (λ (b : ℕ). join c.head_rows.new.least (spec.least (spec.from_count most_locals b (all_with (types_part Local) (marks_of c.args.field.now.parts.now))))) c.params_in.ensures)
