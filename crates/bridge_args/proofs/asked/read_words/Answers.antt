use Rattle.std.proofs.Common.{map, string_bytes}
use Rattle.clap.specs.Matches.{found_of}
use Rattle.bridge_args.specs.Answer.{given_texts}
use Rattle.bridge_args.proofs.AskedLemmas.{found_is, none_is, passed_up, same_answer}
use Rattle.bridge_args.proofs.asked.read_words.Goals as goal

pub returns-in_err-matches : goal.returns-in_err-matches
returns-in_err-matches c =
    passed_up (map string_bytes c.args.words.now) c.in_err-matches.field-0.0 c.from_residual.result c.from_residual.ensures.1 c.in_err-matches.ensures.refused

pub returns-in-Some : goal.returns-in-Some
returns-in-Some c =
    let words = map string_bytes c.args.words.now in
    same_answer words _ c.asked_for.result
    (found_is words (found_of c.in_ok-matches.matches) c.in-Some.name.now (given_texts c.given_of.result) c.in_ok-matches.ensures.read c.in_ok-matches.ensures.rows c.in-Some.ensures c.given_of.ensures)
    c.asked_for.ensures

pub returns : goal.returns
returns c =
    none_is (map string_bytes c.args.words.now) (found_of c.in_ok-matches.matches) c.in_ok-matches.ensures.read c.in_ok-matches.ensures.rows c.in-None.ensures
