use Rattle.std.proofs.Common.{[], ◌∷◌, ◌++◌}
use Rattle.std.proofs.lemmas.Result.{on_ok_weaker}
use Rattle.wat_marks.specs.Views.{marked_of}
use Rattle.wat_read_outline.specs.Outlines.{HasNoted}
use Rattle.wat_read_outline.proofs.Outlining.{token_more}
use Rattle.wat_read_outline.proofs.outline.TokenNotes.note.Goals as goal

pub returns : goal.returns
returns c = λ ks h.
    let m = marked_of c.args.token.now in
    on_ok_weaker {Q = HasNoted (record { seed = c.add_id.new.seed; bindings = c.push_binding.new.found; names = c.note_name.new.least; entries = c.note_entries.new.least }) (ks ++ m ∷ [])} _
    (λ e. token_more c.args.self.now _ ks m h c.add_id.ensures c.in_ok-push_binding.ensures e c.note_entries.ensures) c.note_name.ensures
