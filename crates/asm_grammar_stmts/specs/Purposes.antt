-- How high what ends with an expression is, by what the expression is for.
use Rattle.asm_laws_height.specs.Rises.{Rise, level, rise_after, one_more, capped_rise}
use Rattle.asm_grammar_stmts.specs.declared.state.Purpose.{Purpose}
use Rattle.asm_grammar_stmts.specs.declared.state.Purpose.TheVariants as purposes

abbrev pub purpose_rise : Purpose → Rise → Rise
purpose_rise (purposes.Plain at) r = rise_after r (one_more 0)
purpose_rise (purposes.Returned at) r = rise_after r (one_more 0)
purpose_rise (purposes.Condition c) r = level
purpose_rise (purposes.For at p) r = level

-- as the code counts
abbrev pub counted_purpose : Purpose → Rise → Rise
counted_purpose (purposes.Plain at) r = capped_rise 1001 (rise_after r (capped_rise 1001 (one_more 0)))
counted_purpose (purposes.Returned at) r = capped_rise 1001 (rise_after r (capped_rise 1001 (one_more 0)))
counted_purpose (purposes.Condition c) r = level
counted_purpose (purposes.For at p) r = level
