use Rattle.bridge_args.proofs.AskedLemmas.{given_is}
use Rattle.clap.specs.Matches.{found_of}
use Rattle.bridge_args.proofs.command.given_of.Goals as goal

pub returns : goal.returns
returns c = given_is (found_of c.args.matches.now) _ c.get_raw.ensures c.get_str.ensures c.get_str-2.ensures
