use Rattle.std.proofs.Common.{sym, ◌∙◌, arith}
use Rattle.asm_run_names.proofs.Declarations.{variable_more, no_variable, no_global, slots_are}
use Rattle.name_slots.specs.Names.{names_in}
use Rattle.asm_run_names.proofs.names.global_slots.Goals as goal
use Rattle.asm_run_names.proofs.names.global_slots.Goals.{then-makes_variable+in_ok-push, else-makes_variable}

pub loop-global-preserved : goal.loop-global-preserved
loop-global-preserved c =
    elim c.if-makes_variable.branch [
      | then-makes_variable+in_ok-push w ↦
          let one = variable_more c.loop-global.names.items w.as_bytes.result c.args.globals.now c.loop-global.global-index c.global-item.result c.loop-global-test.true c.global-item.is (sym w.if-makes_variable.true ∙ c.makes_variable.ensures) w.as_bytes.ensures in
          let kept = c.loop-global.invariant in
          cc (w.names-is, w.in_ok-push.ensures.items)
      | else-makes_variable w ↦
          let one = no_variable c.loop-global.names.items c.args.globals.now c.loop-global.global-index c.global-item.result c.loop-global-test.true c.global-item.is (sym w.if-makes_variable.false ∙ c.makes_variable.ensures) in
          let kept = c.loop-global.invariant in
          cc (w.names-is)
    ]

pub returns : goal.returns
returns c = slots_are c.new.result _ _ (no_global (names_in c.loop-global.names.items) c.args.globals.now c.loop-global.global-index _ (omega arith) c.loop-global.invariant) c.new.ensures
