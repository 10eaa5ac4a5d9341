use Rattle.std.proofs.Common.{◌≡◌, subst, Option, option_map, IfOk}
use Rattle.session_lang.specs.Script.{WritePlain}
use Rattle.session_lang.specs.Views.{write_of}
use Rattle.script_read.proofs.ItemLemmas.{write_at_equals, no_equals}
use Rattle.script_read.proofs.items.write_word.Goals as goal

pub returns-in-Some : goal.returns-in-Some
returns-in-Some c =
    subst (λ (x : Option WritePlain). IfOk c.write.result (λ w. option_map write_of w ≡ x)) (write_at_equals c.args.line c.args.word.now c.in-Some.at c.in-Some.ensures) c.write.ensures

pub returns-in-None : goal.returns-in-None
returns-in-None c = no_equals c.args.line c.args.word.now c.in-None.ensures
