use Rattle.std.proofs.Common.{Bool, refl, sym, ap, ◌∙◌, ◌++◌, [], ◌∷◌, append-nil}
use Rattle.std.proofs.lemmas.List.{map-append}
use Rattle.wat_marks.specs.Views.{marked_of}
use Rattle.wat_read_tokens.specs.Marks.{marks_of, only}
use Rattle.wat_read_outline.proofs.Outlining.{part_more}
use Rattle.wat_read_outline.proofs.outline.Outline.add_part.Goals as goal

pub returns-then-not-is_head : goal.returns-then-not-is_head
returns-then-not-is_head c = λ ks h.
    let n = c.args.self.now in
    let m = marked_of c.args.token.now in
    record {
      tokens = c.in_ok-note.ensures ks h.tokens;
      opened = part_more n _ ks m h.opened c.requires refl refl
          (sym (ap (λ (b : Bool). marks_of n.heads.items ++ only b m) (sym c.is_head.ensures ∙ c.if-not-is_head.true) ∙ append-nil (marks_of n.heads.items)));
    }

pub returns : goal.returns
returns c = λ ks h.
    let n = c.args.self.now in
    let m = marked_of c.args.token.now in
    record {
      tokens = c.in_ok-note.ensures ks h.tokens;
      opened = part_more n _ ks m h.opened c.requires refl refl
          (ap marks_of c.in_ok-push.ensures.items ∙ map-append marked_of n.heads.items (c.args.token.now ∷ [])
          ∙ sym (ap (λ (b : Bool). marks_of n.heads.items ++ only b m) (sym c.is_head.ensures ∙ c.if-not-is_head.false)));
    }
