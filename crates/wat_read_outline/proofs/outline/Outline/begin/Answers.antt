use Rattle.wat_read_outline.specs.declared.outline.Begun.{Begun}
use Rattle.wat_read_outline.proofs.Outlining.{field_silent, silent_more, field_begun}
use Rattle.wat_read_outline.proofs.outline.Outline.begin.Goals as goal

pub returns : goal.returns
returns c = λ ks m h is there.
    let w = c.in_ok-close.ensures.whole ks h in
    let b : Begun = record { kind = c.args.kind; at = c.args.at } in
    record {
      tokens = silent_more c.close.new.self.tokens ks m (field_silent m c.args.kind is) w.tokens;
      opened = field_begun _ b ks m w.fields c.in_ok-close.ensures.heads is there;
    }
