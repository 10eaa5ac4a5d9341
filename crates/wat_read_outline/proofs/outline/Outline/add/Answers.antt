use Rattle.std.proofs.Common.{Bool, refl, sym, ap, ◌∙◌, ◌++◌, append-nil}
use Rattle.wat_grammar.specs.Views.{mark_of}
use Rattle.wat_marks.specs.Views.{marked_of}
use Rattle.wat_read_tokens.specs.Marks.{marks_of, only}
use Rattle.wat_read_outline.proofs.Outlining.{says_nothing_silent, silent_more, no_part, no_head, part_more}
use Rattle.wat_read_outline.proofs.outline.Outline.add.Goals as goal

pub returns-in-Field : goal.returns-in-Field
returns-in-Field c = λ ks h. c.begin.ensures ks (marked_of c.args.token.now) h (ap mark_of c.in-Field.is) refl

pub returns-then-says_nothing : goal.returns-then-says_nothing
returns-then-says_nothing c = λ ks h.
    let n = c.args.self.now in
    let m = marked_of c.args.token.now in
    let none = sym c.says_nothing.ensures ∙ c.if-says_nothing.true in
    record {
      tokens = silent_more n.tokens ks m (says_nothing_silent m none) h.tokens;
      opened = part_more n n ks m h.opened (no_part m.mark none) refl refl
          (sym (ap (λ (b : Bool). marks_of n.heads.items ++ only b m) (no_head m.mark none) ∙ append-nil (marks_of n.heads.items)));
    }
