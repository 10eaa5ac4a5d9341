use Rattle.std.proofs.Common.{ap, ◌∙◌, ◌+◌, ℕ}
use Rattle.std.proofs.lemmas.Option.{IfSome_then}
use Rattle.wat_read_tokens.specs.Marks.{marks_of}
use Rattle.wat_read_names.proofs.Counts.{sum_of, none_named}
use Rattle.wat_read_names.proofs.heads.unnamed_in.Goals as goal

pub returns-in-Some : goal.returns-in-Some
returns-in-Some c =
    let n = c.in-Some.counts in
    IfSome_then c.checked_add.result (sum_of c.checked_add.result _ _ c.checked_add.ensures)
    (λ sum e. none_named c.args.params sum n (marks_of c.args.parts.now) c.in-Some.ensures (e ∙ ap (λ (k : ℕ). k + n.locals) c.params_or.ensures))
