use Rattle.std.proofs.Common.{map, string_bytes, ◌∙◌}
use Rattle.clap.specs.Words.{app_of}
use Rattle.bridge_args.proofs.AppLemmas.{read_here, refused_here, rows_here}
use Rattle.bridge_args.proofs.command.matches_for.Goals as goal

pub returns-in-Ok-try_get_matches_from-clause-read :
    goal.returns-in-Ok-try_get_matches_from-clause-read
returns-in-Ok-try_get_matches_from-clause-read c =
    read_here (app_of c.in-Ok.command) (map string_bytes c.args.words.now) c.in-Ok.ensures c.in-Ok-try_get_matches_from.ensures.kinds

pub returns-in-Ok-try_get_matches_from-clause-rows :
    goal.returns-in-Ok-try_get_matches_from-clause-rows
returns-in-Ok-try_get_matches_from-clause-rows c =
    rows_here (app_of c.in-Ok.command) (map string_bytes c.args.words.now) c.in-Ok-try_get_matches_from.matches c.in-Ok.ensures c.in-Ok-try_get_matches_from.ensures.matches

pub returns : goal.returns
returns c = record {
  read = tt;
  rows = tt;
  refused = λ u. let h = c.in_default-kind in refused_here (app_of c.in-Ok.command) (map string_bytes c.args.words.now) c.in-Err.error c.in-Ok.ensures
      c.in-Err.ensures.kinds (λ memory. h.not-OutOfMemory (c.kind.ensures ∙ memory));
}
