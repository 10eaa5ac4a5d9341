use Rattle.std.proofs.Common.{◌≡◌, ◌++◌, ◌-◌}
use Rattle.gen_lang.specs.Recipe.{lines_from}
use Rattle.cmd_gen.proofs.text.push_lines.Given as goal

-- with the lines that are still to come these are all lines
abbrev pub invariant-loop-number : goal.invariant-loop-number
invariant-loop-number l = l.text.items ++ lines_from l.number (l.functions - l.number) ≡ l.fn.text.items ++ lines_from 0 l.functions
