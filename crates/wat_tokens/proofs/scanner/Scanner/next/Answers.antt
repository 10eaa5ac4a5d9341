use Rattle.std.proofs.Common.{sym, subst, arith}
use Rattle.wat_tokens.specs.Left.{IsNext}
use Rattle.wat_tokens.specs.declared.scanner.Next.{Next}
use Rattle.wat_tokens.proofs.GoingOn.{blanks_passed, cut_at}
use Rattle.wat_tokens.proofs.scanner.Scanner.next.Goals as goal

pub returns : goal.returns
returns c =
    let up_to = c.in-Some.ensures in
    let blanks = blanks_passed c.args.self.now c.blank_len-n.result (omega (arith, c.blank_len-n.ensures.value)) in
    subst (λ (x : Next). IsNext x c.args.self.now c.cut.new.self) (sym c.cut.ensures.token)
    (cut_at c.args.self.now c.cut.new.self c.blank_len-n.result c.in-Some.end c.in-Some.class blanks up_to.0 up_to.1 up_to.2 c.cut.ensures.at c.cut.ensures.rest)
