use Rattle.std.proofs.Common.{List}
use Rattle.wat_lang.specs.Grammar.{Marked}
use Rattle.wat_marks.specs.Readings.{HasRead, left_of}
use Rattle.wat_read_fields.specs.Contexts.{module_names, module_types}
use Rattle.wat_read.specs.Making.{HasMade}
use Rattle.wat_read.proofs.making.making_of.Given as goal

abbrev pub invariant-loop-making : goal.invariant-loop-making
invariant-loop-making l = (ks : List Marked) × HasRead l.source l.reader ks × HasMade (module_names l.context) (module_types l.context) l.making ks

abbrev pub decreases-loop-making : goal.decreases-loop-making
decreases-loop-making l = left_of l.reader
