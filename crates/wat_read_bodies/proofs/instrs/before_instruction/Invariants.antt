use Rattle.std.proofs.Common.{◌≡◌, ◌-◌, ◌≤◌, ◌++◌, length, take, drop}
use Rattle.wat_lang.specs.Modules.{immediates_in}
use Rattle.wat_read_tokens.specs.Marks.{marks_of}
use Rattle.wat_read_bodies.proofs.instrs.before_instruction.Given as goal

abbrev pub invariant-loop-n : goal.invariant-loop-n
invariant-loop-n l = record {
  within : l.n ≤ length l.parts;
  goes_on : marks_of (take l.n l.parts) ++ immediates_in (marks_of (drop l.n l.parts)) ≡ immediates_in (marks_of l.parts);
}

abbrev pub decreases-loop-n : goal.decreases-loop-n
decreases-loop-n l = length l.parts - l.n
