use Rattle.std.proofs.Common.{◌≡◌, ◌++◌, OnOk, sym, subst}
use Rattle.session_lang.specs.declared.observation.End.{End}
use Rattle.session_lang.specs.Views.{end_of}
use Rattle.script_lang.specs.Texts.{end_line}
use Rattle.session_print.proofs.lines.push_end.Goals as goal

pub returns-in-NoReply : goal.returns-in-NoReply
returns-in-NoReply c =
    subst (λ (e : End). OnOk c.push_call-in-NoReply.result (c.push_call-in-NoReply.new.out.items ≡ c.args.out.now.items ++ end_line (end_of e))) (sym c.in-NoReply.is) c.push_call-in-NoReply.ensures
