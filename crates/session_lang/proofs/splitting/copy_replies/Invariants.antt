use Rattle.std.proofs.Common.{◌≡◌, take, map}
use Rattle.session_lang.specs.Views.{reply_line_of}
use Rattle.session_lang.proofs.splitting.copy_replies.Given as goal

abbrev pub invariant-loop-reply : goal.invariant-loop-reply
invariant-loop-reply l = map reply_line_of l.copies.items ≡ map reply_line_of (take l.reply-index l.replies)
