use Rattle.std.proofs.Common.{◌≡◌, ◌++◌, drop}
use Rattle.session_lang.specs.CallingForms.{split_args}
use Rattle.session_lang.proofs.splitting.split_args.Given as goal

abbrev pub invariant-loop-i : goal.invariant-loop-i
invariant-loop-i l = l.words.items ++ split_args (drop l.i l.wide) (drop l.i l.args) ≡ split_args l.wide l.args
