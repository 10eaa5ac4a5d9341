use Rattle.std.proofs.Common.{ℕ, List, sym, ap, ◌∙◌}
use Rattle.std.specs.Borrow.{Bor}
use Rattle.std.specs.Prelude.{Option, Some, option_map, if◌then◌else◌}
use Rattle.std.specs.Str.{bytes_eq}
use Rattle.wat_lang.specs.Names.{is_named}
use Rattle.wat_read_labels.specs.Levels.{found, level_known}
use Rattle.wat_read_labels.proofs.Opened.{known_put}
use Rattle.wat_read_labels.proofs.labels.put_back.Goals as goal

pub returns-in_ok-insert-in-Some-clause-ok : goal.returns-in_ok-insert-in-Some-clause-ok
returns-in_ok-insert-in-Some-clause-ok c = λ id.
    known_put c.args.known.now c.insert.new.self c.in-Some.name.now id c.args.level.hidden
    (c.in_ok-insert-in-Some.ensures.updates.0 id ∙ ap (λ (k : List ℕ). if bytes_eq k id then Some c.args.level.hidden else found c.args.known.now id) c.of.ensures)
    ∙ ap (λ (n : Option (List ℕ)). if is_named id n then c.args.level.hidden else level_known c.args.known.now id) (sym (ap (option_map (λ (b : Bor (List ℕ)). b.now)) c.in-Some.is))
