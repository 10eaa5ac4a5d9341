use Rattle.wat_read_outline.proofs.outline.outline_of.Goals as goal

pub returns-clause-found : goal.returns-clause-found
returns-clause-found c =
    let w = c.in_ok-outline.ensures.found in
    (w.0, w.1, c.in_ok-outlined.ensures w.0 w.2)
