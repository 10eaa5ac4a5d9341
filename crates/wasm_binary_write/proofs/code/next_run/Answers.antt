use Rattle.std.proofs.Common.{map, sym, ◌∙◌}
use Rattle.wasm_binary_write.specs.Views.{joined_of}
use Rattle.wasm_binary_write.proofs.Joining.{runs_begun, runs_joined, runs_ended}
use Rattle.wasm_binary_write.proofs.code.next_run.Goals as goal

pub returns-in_default-clause-value : goal.returns-in_default-clause-value
returns-in_default-clause-value c = λ rest.
    rw (c.from.ensures, c.in_default.is) (runs_begun (map joined_of c.args.done.now.items) c.args.run c.if-run-eq0.false rest)

pub returns-then-is_same-clause-value : goal.returns-then-is_same-clause-value
returns-then-is_same-clause-value c = λ rest.
    rw (c.from.ensures, c.in-Some.is) (runs_joined (map joined_of c.args.done.now.items) c.in-Some.last c.args.run (sym c.is_same.ensures ∙ c.if-is_same.true) rest)

pub returns-clause-value : goal.returns-clause-value
returns-clause-value c = λ rest.
    rw (c.from.ensures, c.in-Some.is) (runs_ended c.args.done.now.items c.push.new.self.items c.in-Some.last c.args.run c.in_ok-push.ensures.items c.if-run-eq0.false (sym c.is_same.ensures ∙ c.if-is_same.false) rest)
