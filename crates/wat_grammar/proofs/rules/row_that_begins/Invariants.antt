use Rattle.std.proofs.Common.{◌≡◌, map, drop}
use Rattle.wat_grammar.specs.Views.{class_of, next_in, row_of}
use Rattle.wat_grammar.proofs.rules.row_that_begins.Given as goal

abbrev pub invariant-loop-row : goal.invariant-loop-row
invariant-loop-row l = next_in (map row_of (drop l.row-index l.rows)) (class_of l.lexeme) ≡ next_in (map row_of l.rows) (class_of l.lexeme)
