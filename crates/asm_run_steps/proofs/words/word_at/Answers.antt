use Rattle.std.proofs.Common.{length, refl, sym}
use Rattle.std.proofs.lemmas.Option.{slice_get_read}
use Rattle.asm_run_steps.proofs.Slots.{get_here}
use Rattle.asm_run_steps.proofs.words.word_at.Goals as goal

pub returns-in-Some : goal.returns-in-Some
returns-in-Some c =
    let words = c.args.words.now in
    sym (get_here words c.args.at c.in-Some.word.now (slice_get_read words (length words) c.args.at c.in-Some.word.now refl c.in-Some.ensures.lookup.3.0 c.in-Some.ensures.lookup.1))
