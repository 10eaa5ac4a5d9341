use Rattle.std.proofs.Common.{refl}
use Rattle.wat_marks.specs.Views.{marked_of}
use Rattle.wat_read.proofs.OpenFunctions.{part_more, pushed}
use Rattle.wat_read.proofs.functions.OpenFunction.add_part.Goals as goal

pub returns-clause-judged : goal.returns-clause-judged
returns-clause-judged c = λ names_of types rows f before whole h head.
    part_more names_of types c.args.self.now _ rows f (marked_of c.args.token.now) before whole h c.requires head c.in_ok-keep_head.ensures
    (pushed c.args.self.now.group.items c.push.new.self.items c.args.token.now c.in_ok-push.ensures.items) refl refl refl
