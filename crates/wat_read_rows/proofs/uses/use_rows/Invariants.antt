use Rattle.std.proofs.Common.{◌≡◌, drop}
use Rattle.wat_lang.specs.Names.{names_at}
use Rattle.wat_lang.specs.Rows as spec
use Rattle.wat_laws_kept.specs.Groups.{labels_behind}
use Rattle.wat_read_names.specs.Bound.{space_names}
use Rattle.wat_read_tokens.specs.Marks.{marks_of}
use Rattle.wat_read_refusals.specs.Joined.{join}
use Rattle.wat_read_rows.proofs.uses.use_rows.Given as goal

abbrev pub invariant-loop-token : goal.invariant-loop-token
invariant-loop-token l =
    (join l.least (spec.least (spec.use_rows (names_at (space_names l.spaces) l.locals) l.labels (marks_of (drop l.token-index l.parts))))
    ≡ join l.initial.least (spec.least (spec.use_rows (names_at (space_names l.spaces) l.locals) l.initial.labels (marks_of l.parts))))
    × (labels_behind l.labels (marks_of (drop l.token-index l.parts)) ≡ labels_behind l.initial.labels (marks_of l.parts))
