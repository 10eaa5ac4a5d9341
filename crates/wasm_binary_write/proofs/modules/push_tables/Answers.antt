use Rattle.std.proofs.Common.{◌≡◌, ◌++◌, subst, OnOk, ap, ◌∙◌}
use Rattle.wasm_binary_write.specs.Spelling.{table, section}
use Rattle.wasm_binary_write.specs.Views.{limits_of}
use Rattle.wasm_binary_write.proofs.Spelled.{section_viewed, take_past}
use Rattle.wasm_binary_write.proofs.modules.push_tables.Goals as goal

pub returns : goal.returns
returns c =
    subst (λ own. OnOk c.push_section.result (c.push_section.new.out.items ≡ c.args.out.now.items ++ own))
    (section_viewed 4 table limits_of _ _ c.deref.ensures.value ∙ ap (λ l. section 4 table l) (c.loop-limits.invariant ∙ take_past c.args.tables.now c.loop-limits.limits-index c.loop-limits-test.false))
    c.push_section.ensures
