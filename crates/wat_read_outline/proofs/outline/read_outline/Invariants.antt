use Rattle.std.proofs.Common.{List}
use Rattle.wat_lang.specs.Grammar.{Marked}
use Rattle.wat_marks.specs.Readings.{HasRead, left_of}
use Rattle.wat_read_outline.specs.Outlines.{HasOutlined}
use Rattle.wat_read_outline.proofs.outline.read_outline.Given as goal

abbrev pub invariant-loop-outline : goal.invariant-loop-outline
invariant-loop-outline l = (ks : List Marked) × HasRead l.source l.reader ks × HasOutlined l.outline ks

abbrev pub decreases-loop-outline : goal.decreases-loop-outline
decreases-loop-outline l = left_of l.reader
