use Rattle.wat_read_outline.proofs.outline.Outline.close.Goals as goal

pub returns-clause-whole : goal.returns-clause-whole
returns-clause-whole c = λ ks h.
    let w = c.in_ok-note_open.ensures ks h in
    record { tokens = w.tokens; fields = w.fields }
