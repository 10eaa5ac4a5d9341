use Rattle.std.proofs.Common.{◌≡◌, ◌≤◌, ◌+◌, length}
use Rattle.session_lang.specs.Views.{script_of}
use Rattle.script_read.specs.Cuts.{rest_of, lines_after, length_left}
use Rattle.script_lang.specs.Reading.{said_script, items_of}
use Rattle.script_read.specs.Collecting.{put_before}
use Rattle.script_read.proofs.reading.read_script.Given as goal

-- a line takes one byte at least, but for the last
abbrev pub invariant-loop-left : goal.invariant-loop-left
invariant-loop-left l = record {
  said : said_script l.text ≡ put_before (script_of l.script) (items_of l.line (lines_after (rest_of l.left)));
  few : l.line + length_left (rest_of l.left) ≤ length l.text + 2;
}

abbrev pub decreases-loop-left : goal.decreases-loop-left
decreases-loop-left l = length_left (rest_of l.left)
