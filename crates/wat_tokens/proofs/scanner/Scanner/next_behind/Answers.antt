use Rattle.std.proofs.Common.{◌≡◌, ◌+◌, ◌-◌, ◌≤◌, length, Ok, [], refl, sym, ap, ◌∙◌, subst, arith}
use Rattle.std.proofs.lemmas.List.{take_rest, length-drop}
use Rattle.std.proofs.lemmas.List.Sums.{prefix_len-le-length}
use Rattle.wat_lang.specs.Tokens.{is_blank, token, front_of}
use Rattle.wat_tokens.specs.Views.{class_of}
use Rattle.wat_tokens.specs.Left.{IsLeft, IsFirstFault, IsNext}
use Rattle.wat_tokens.specs.declared.scanner.Scanner.{Scanner}
use Rattle.wat_tokens.specs.declared.scanner.Next.{Next}
use Rattle.wat_tokens.proofs.GoingOn.{blanks_passed, gap_at, cut_at, fault_there, end_there}
use Rattle.wat_tokens.proofs.scanner.Scanner.next_behind.Goals as goal

pub loop-n-init : goal.loop-n-init
loop-n-init c =
    let bound = prefix_len-le-length is_blank c.args.self.now.rest.now in
    (refl, omega (arith, bound, c.requires), blanks_passed c.args.self.now c.args.blanks c.requires)

pub loop-n-preserved : goal.loop-n-preserved
loop-n-preserved c =
    let text = c.loop-n.self.rest.now in
    let rest = take_rest text c.loop-n.n in
    let long = ap length rest in
    let left = length-drop c.loop-n.n text in
    let fits : c.loop-n.n + c.in-Gap.len ≤ length text = omega (arith, c.in-Gap.ensures.inside.1, long, left, c.loop-n-test.true) in
    (c.loop-n.invariant.0, fits, gap_at c.loop-n.self c.loop-n.n c.in-Gap.len c.loop-n.invariant.2 c.loop-n-test.true fits (c.in-Gap.ensures.front ∙ ap front_of rest))

pub returns-in-Token : goal.returns-in-Token
returns-in-Token c =
    let text = c.loop-n.self.rest.now in
    let n = c.loop-n.n in
    let rest = take_rest text n in
    let long = ap length rest in
    let left = length-drop n text in
    let len : (n + c.in-Token.len) - n ≡ c.in-Token.len = omega arith in
    let next = cut_at c.loop-n.self c.cut.new.self n (n + c.in-Token.len) c.in-Token.class c.loop-n.invariant.2
    (ap (token (class_of c.in-Token.class)) len ∙ (c.in-Token.ensures.front ∙ ap front_of rest)) (omega (arith, c.in-Token.ensures.inside.0))
    (omega (arith, c.in-Token.ensures.inside.1, long, left, c.loop-n-test.true)) c.cut.ensures.at c.cut.ensures.rest in
    subst (λ (s : Scanner). IsNext c.cut.result s c.cut.new.self) c.loop-n.invariant.0 (subst (λ (x : Next). IsNext x c.loop-n.self c.cut.new.self) (sym c.cut.ensures.token) next)

pub returns-in-Nothing : goal.returns-in-Nothing
returns-in-Nothing c =
    subst (λ (s : Scanner). IsFirstFault s (c.loop-n.self.at + c.loop-n.n)) c.loop-n.invariant.0
    (fault_there c.loop-n.self c.loop-n.n c.loop-n.invariant.2 c.loop-n-test.true (c.in-Nothing.ensures.front ∙ ap front_of (take_rest c.loop-n.self.rest.now c.loop-n.n)))

pub returns : goal.returns
returns c = subst (λ (s : Scanner). IsLeft s (Ok [])) c.loop-n.invariant.0 (end_there c.loop-n.self c.loop-n.n c.loop-n.invariant.2 c.loop-n-test.false)
