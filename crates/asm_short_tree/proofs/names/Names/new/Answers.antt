use Rattle.std.proofs.Common.{◌≡◌, ◌⊎◌, ◌-◌, ◌≤◌, None, length, inl, inr, rules, arith}
use Rattle.std.proofs.lemmas.Bool.{cases_lt}
use Rattle.asm_short_tree.specs.Looking.{found_in}
use Rattle.asm_short_tree.proofs.Given.{none_given, one_given, same_within}
use Rattle.asm_short_tree.proofs.names.Names.new.Goals as goal

pub loop-i-init : goal.loop-i-init
loop-i-init c =
    let olds = c.args.olds.now in
    let news = c.args.news.now in
    let least = c.min-i.ensures in
    let past : length olds ≤ c.min-i.result ⊎ length news ≤ c.min-i.result = elim (cases_lt (length olds) (length news)) [ inl h ↦ inl (omega arith) | inr h ↦ inr (omega arith) ] in
    record {
      within = omega arith;
      inside = omega arith;
      given = λ n. let none : found_in c.args.kept.now c.in_ok-given.given n ≡ None = search rules in none_given c.args.kept.now olds news c.min-i.result n _ past none;
    }

pub loop-i-preserved : goal.loop-i-preserved
loop-i-preserved c =
    let olds = c.args.olds.now in
    let news = c.args.news.now in
    let kept = c.args.kept.now in
    let i = c.loop-i.i in
    let positive = c.loop-i-test.true in
    let within = c.loop-i.invariant.within in
    let inside = c.loop-i.invariant.inside in
    record {
      within = omega arith;
      inside = omega arith;
      given = λ n. one_given kept olds news (i - 1) i _ _ n _ _ (omega arith) (omega arith) (omega arith) (same_within olds (i - 1) _ _ (omega arith)) (same_within news (i - 1) _ _ (omega arith)) (c.in_ok-put.ensures kept n) (c.loop-i.invariant.given n);
    }
