use Rattle.std.proofs.Common.{ℕ, List, Bor, refl, ap}
use Rattle.wat_marks.proofs.Keeping.{keeps_start}
use Rattle.wat_marks.proofs.reading.MarkReader.new.Goals as goal

pub returns : goal.returns
returns c = record {
  is_source = refl;
  stack = c.in_ok-new.field-0;
  has_stack = refl;
  keeping = keeps_start c.args.source.now c.new.result c.in_ok-new.field-0 c.new.ensures.at (ap (λ (b : Bor (List ℕ)). b.now) c.new.ensures.rest) c.in_ok-new.ensures;
  leads = refl;
}
