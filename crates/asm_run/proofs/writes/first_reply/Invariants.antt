use Rattle.std.proofs.Common.{◌≡◌, drop, map}
use Rattle.session_lang.specs.Script.{ReplyLinePlain}
use Rattle.session_lang.specs.Views.{reply_line_of}
use Rattle.asm_tree.specs.Views.{module_view}
use Rattle.session_lang.specs.Fits.{lines_of, least}
use Rattle.asm_lang_exec.specs.Fits.{fits_reply}
use Rattle.session_lang.specs.Earlier.{earlier}
use Rattle.asm_run.proofs.writes.first_reply.Given as goal

abbrev pub invariant-loop-line : goal.invariant-loop-line
invariant-loop-line l =
    least (lines_of (λ (r : ReplyLinePlain). fits_reply (module_view l.checked) l.heap_len r.reply) (λ r. r.line) (map reply_line_of l.replies))
    ≡ earlier l.first (least (lines_of (λ (r : ReplyLinePlain). fits_reply (module_view l.checked) l.heap_len r.reply) (λ r. r.line) (map reply_line_of (drop l.line-index l.replies))))
