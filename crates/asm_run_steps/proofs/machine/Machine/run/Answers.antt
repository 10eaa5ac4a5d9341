use Rattle.std.proofs.Common.{◌≡◌, length, Option, Some, None, refl, sym, ap, ◌∙◌, subst}
use Rattle.std.proofs.lemmas.Option.{slice_get-map, slice_get_read, slice_get_past}
use Rattle.std.specs.Prelude.{slice_get, option_map}
use Rattle.session_lang.specs.Views.{end_of}
use Rattle.asm_run_steps.specs.declared.world.World.{World}
use Rattle.asm_run_steps.specs.Worlds.{world_of}
use Rattle.asm_run_steps.specs.declared.ended.Ended.{Ended}
use Rattle.asm_run_steps.specs.Linked.{codes_in, flat_of}
use Rattle.asm_run_steps.specs.States.{callers_of, state_in, state_of}
use Rattle.asm_run_steps.specs.Flows.{left_to, resumed}
use Rattle.asm_run_steps.specs.Runs.{CameTo}
use Rattle.asm_run_steps.proofs.Led.{is_lost_nowhere, goes_on, ends_so}
use Rattle.asm_run_steps.proofs.machine.Machine.run.Goals as goal

pub returns-in_default : goal.returns-in_default
returns-in_default c = λ r ended leads.
    let functions = c.args.linked.functions.now in
    let s = c.functions.self in
    is_lost_nowhere (codes_in c.args.linked) (state_of s) r
    (slice_get-map flat_of functions s.function ∙ ap (option_map flat_of) (slice_get_past functions s.function c.in_default.ensures.lookup.3)) ended (c.functions.invariant r ended leads)

pub functions-preserved : goal.functions-preserved
functions-preserved c = λ r ended leads.
    let codes = codes_in c.args.linked in
    let functions = c.args.linked.functions.now in
    let s = c.functions.self in
    let f = c.in-Some.function.now in
    let found = slice_get-map flat_of functions s.function ∙ ap (option_map flat_of) (slice_get_read functions (length functions) s.function f refl c.in-Some.ensures.lookup.3.0 c.in-Some.ensures.lookup.1) in
    let e = end_of c.run_ops.new.world.ending in
    let left = state_in s.function c.in_ok-left.left.at (callers_of s.callers.items) c.run_ops.new.words (world_of c.run_ops.new.world) in
    let next = state_of c.resume.new.self in
    goes_on codes (left_to codes c.in_ok-left.left.how e left) r next (sym (ap (λ (o : Option Ended). resumed o e next) c.in_default-2.is) ∙ c.in_ok-ended.ensures.came)
    (c.in_ok-left.ensures.shown s.function (callers_of s.callers.items) (flat_of f) r found refl ended (c.functions.invariant r ended leads))

pub returns-in-Some-2 : goal.returns-in-Some-2
returns-in-Some-2 c = λ r ended leads.
    let codes = codes_in c.args.linked in
    let functions = c.args.linked.functions.now in
    let s = c.functions.self in
    let f = c.in-Some.function.now in
    let found = slice_get-map flat_of functions s.function ∙ ap (option_map flat_of) (slice_get_read functions (length functions) s.function f refl c.in-Some.ensures.lookup.3.0 c.in-Some.ensures.lookup.1) in
    let e = end_of c.run_ops.new.world.ending in
    let left = state_in s.function c.in_ok-left.left.at (callers_of s.callers.items) c.run_ops.new.words (world_of c.run_ops.new.world) in
    let next = state_of c.resume.new.self in
    subst (λ (w : World). CameTo c.in-Some-2.ended (end_of w.ending) next r) (sym c.in_ok-ended.ensures.world)
    (ends_so codes c.in-Some-2.ended e next (left_to codes c.in_ok-left.left.how e left) r (sym (ap (λ (o : Option Ended). resumed o e next) c.in-Some-2.is) ∙ c.in_ok-ended.ensures.came)
    (c.in_ok-left.ensures.shown s.function (callers_of s.callers.items) (flat_of f) r found refl ended (c.functions.invariant r ended leads)))
