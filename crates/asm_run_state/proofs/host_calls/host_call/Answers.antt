use Rattle.std.proofs.Common.{◌∷◌, ◌++◌, [], map, sym, ap, subst, ◌∙◌}
use Rattle.sem_words.specs.Words.{word_of}
use Rattle.session_lang.specs.Observation.{EventPlain}
use Rattle.session_lang.specs.Views.{call_of, end_of}
use Rattle.asm_tree.specs.Views.{function_view, module_view}
use Rattle.asm_run_code.specs.Machine.{Codes, State}
use Rattle.asm_run_code.specs.Sessions.{begins}
use Rattle.asm_run_steps.specs.Worlds.{WorldPlain, world_of}
use Rattle.asm_run_steps.specs.States.{callers_of, state_in, state_of}
use Rattle.asm_run_steps.specs.Runs.{Comes}
use Rattle.asm_run_state.proofs.Hosting.{no_number, no_function, call_goes, call_ends, call_stops, call_is_wrong}
use Rattle.asm_run_state.proofs.host_calls.host_call.Goals as goal

pub returns-in_default : goal.returns-in_default
returns-in_default c =
    no_number (module_view c.args.«module».now) (call_of c.args.call.now) (state_of c.args.machine.now) (end_of c.args.machine.now.world.ending) (state_of c.args.machine.now)
    (sym c.in_default.is ∙ c.requires.callee)

pub returns-in_default-function_at : goal.returns-in_default-function_at
returns-in_default-function_at c =
    no_function (module_view c.args.«module».now) (call_of c.args.call.now) (state_of c.args.machine.now) c.in-Some.number (end_of c.args.machine.now.world.ending) (state_of c.args.machine.now)
    (sym c.in-Some.is ∙ c.requires.callee) c.in_default-function_at.ensures

pub returns-in-Halted : goal.returns-in-Halted
returns-in-Halted c =
    let m = module_view c.args.«module».now in
    let call = call_of c.args.call.now in
    let old = state_of c.args.machine.now in
    let n = c.in-Some.number in
    let args = c.as_slice-2.result.now in
    let machine = c.call.new.self in
    let words = c.as_slice-2.ensures.value ∙ c.in_ok-arguments.ensures ∙ ap (map (word_of 32)) c.as_slice.ensures in
    call_ends m call old n (function_view c.in-Some-function_at.function.now) args c.in_ok-word.field-0 (end_of machine.world.ending) (state_of machine) (sym c.in-Some.is ∙ c.requires.callee) c.in-Some-function_at.ensures words
    (λ r ended comes. c.in_ok-word.ensures r ended (subst (λ (k : Codes). Comes k (begins k n args old) r) (sym c.requires.codes) comes)) c.in-Halted.is

pub returns-in-Unpaid : goal.returns-in-Unpaid
returns-in-Unpaid c =
    let m = module_view c.args.«module».now in
    let call = call_of c.args.call.now in
    let old = state_of c.args.machine.now in
    let n = c.in-Some.number in
    let args = c.as_slice-2.result.now in
    let machine = c.call.new.self in
    let words = c.as_slice-2.ensures.value ∙ c.in_ok-arguments.ensures ∙ ap (map (word_of 32)) c.as_slice.ensures in
    call_stops m call old n (function_view c.in-Some-function_at.function.now) args c.in_ok-word.field-0 (end_of machine.world.ending) (state_of machine) (sym c.in-Some.is ∙ c.requires.callee) c.in-Some-function_at.ensures words
    (λ r ended comes. c.in_ok-word.ensures r ended (subst (λ (k : Codes). Comes k (begins k n args old) r) (sym c.requires.codes) comes)) c.in-Unpaid.is

pub returns-in-Back : goal.returns-in-Back
returns-in-Back c =
    let m = module_view c.args.«module».now in
    let call = call_of c.args.call.now in
    let old = state_of c.args.machine.now in
    let n = c.in-Some.number in
    let args = c.as_slice-2.result.now in
    let machine = c.call.new.self in
    let words = c.as_slice-2.ensures.value ∙ c.in_ok-arguments.ensures ∙ ap (map (word_of 32)) c.as_slice.ensures in
    let place : WorldPlain → State = λ v. state_in machine.function machine.at (callers_of machine.callers.items) machine.words v in
    let before = state_of machine in
    let added = ap place c.in_ok-add_event-in-Back.ensures ∙ ap (λ (e : EventPlain). record before { events = before.events ++ e ∷ [] }) c.result_event.ensures in
    call_goes m call old n (function_view c.in-Some-function_at.function.now) args c.in_ok-word.field-0 (end_of machine.world.ending) (state_of machine) (sym c.in-Some.is ∙ c.requires.callee) c.in-Some-function_at.ensures words
    (λ r ended comes. c.in_ok-word.ensures r ended (subst (λ (k : Codes). Comes k (begins k n args old) r) (sym c.requires.codes) comes)) c.in-Back.word (end_of c.add_event.new.self.ending) (place (world_of c.add_event.new.self)) c.in-Back.is added

pub returns : goal.returns
returns c =
    let m = module_view c.args.«module».now in
    let call = call_of c.args.call.now in
    let old = state_of c.args.machine.now in
    let n = c.in-Some.number in
    let args = c.as_slice-2.result.now in
    let machine = c.call.new.self in
    let words = c.as_slice-2.ensures.value ∙ c.in_ok-arguments.ensures ∙ ap (map (word_of 32)) c.as_slice.ensures in
    call_is_wrong m call old n (function_view c.in-Some-function_at.function.now) args c.in_ok-word.field-0 (end_of machine.world.ending) (state_of machine) (sym c.in-Some.is ∙ c.requires.callee) c.in-Some-function_at.ensures words
    (λ r ended comes. c.in_ok-word.ensures r ended (subst (λ (k : Codes). Comes k (begins k n args old) r) (sym c.requires.codes) comes)) c.in-Lost.is
