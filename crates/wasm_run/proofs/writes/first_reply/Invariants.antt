use Rattle.std.proofs.Common.{◌≡◌, drop, map}
use Rattle.std.specs.List.{list_all}
use Rattle.session_lang.specs.Script.{ReplyLinePlain}
use Rattle.session_lang.specs.Views.{reply_line_of}
use Rattle.session_lang.specs.Fits.{writes_of, lines_of, least}
use Rattle.wasm_lang_exec.specs.Fits.{lies_in}
use Rattle.session_lang.specs.Earlier.{earlier}
use Rattle.wasm_run.proofs.writes.first_reply.Given as goal

abbrev pub invariant-loop-line : goal.invariant-loop-line
invariant-loop-line l =
    least (lines_of (λ (r : ReplyLinePlain). list_all (lies_in l.pages) (writes_of r.reply)) (λ r. r.line) (map reply_line_of l.replies))
    ≡ earlier l.first (least (lines_of (λ (r : ReplyLinePlain). list_all (lies_in l.pages) (writes_of r.reply)) (λ r. r.line) (map reply_line_of (drop l.line-index l.replies))))
