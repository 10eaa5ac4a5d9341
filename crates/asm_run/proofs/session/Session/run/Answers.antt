use Rattle.std.proofs.Common.{List, map, refl, sym, ap, subst, ◌∙◌}
use Rattle.session_lang.specs.declared.script.CallLine.{CallLine}
use Rattle.session_lang.specs.Views.{call_of, script_of}
use Rattle.asm_tree.specs.declared.tree.Module.{Module as Tree}
use Rattle.asm_tree.specs.Views.{module_view}
use Rattle.sem_words.specs.Lists.{list_items}
use Rattle.asm_run_code.specs.Modules.{codes_of}
use Rattle.asm_run_steps.specs.declared.world.World.{World}
use Rattle.asm_run_steps.specs.Worlds.{world_of}
use Rattle.asm_run_emit_bodies.specs.Flats.{flat_view}
use Rattle.asm_run_steps.specs.Linked.{flat_of, names_of}
use Rattle.asm_run_state.specs.Session.{callees_of, seen_option, IsSession}
use Rattle.asm_run.proofs.Fitting.{never_wrong_here, types_hold_here, means, is_one}
use Rattle.asm_run.proofs.session.Session.run.Goals as goal

pub run_linked-requires-clause-functions : goal.run_linked-requires-clause-functions
run_linked-requires-clause-functions c =
    ap (map flat_of) c.as_slice-2.ensures.value
    ∙ c.in_ok-functions.ensures
    ∙ ap (map flat_view) c.as_slice.ensures
    ∙ c.self.invariant.functions
    ∙ ap (λ (t : Tree). (codes_of (module_view t)).functions) (sym c.module-module.ensures.given)

pub run_linked-requires-clause-tables : goal.run_linked-requires-clause-tables
run_linked-requires-clause-tables c =
    ap (map list_items) c.as_slice-3.ensures ∙ c.self.invariant.tables ∙ ap (λ (t : Tree). (codes_of (module_view t)).tables) (sym c.module-module.ensures.given)

pub run_linked-requires-clause-members : goal.run_linked-requires-clause-members
run_linked-requires-clause-members c =
    ap names_of c.as_slice-4.ensures.value ∙ c.self.invariant.members_are ∙ ap (λ (t : Tree). (codes_of (module_view t)).members) (sym c.module-module.ensures.given)

pub run_linked-requires-clause-callees : goal.run_linked-requires-clause-callees
run_linked-requires-clause-callees c =
    c.as_slice-5.ensures.value
    ∙ c.self.invariant.callees_are
    ∙ ap (λ (t : Tree). callees_of (module_view t) (script_of c.self.inside.script.now).calls) (sym c.module-module.ensures.given)
    ∙ ap (λ (l : List CallLine). callees_of (module_view c.module-module.result.now) (map call_of l)) (sym c.as_slice-6.ensures)

pub returns-in_err-functions-clause-never_wrong : goal.returns-in_err-functions-clause-never_wrong
returns-in_err-functions-clause-never_wrong c =
    let s = c.self.inside in
    never_wrong_here c.args.self s.checked.now s.heap_len s.script.now s.flat s.members.items s.callees.items s.world c.self.view_is c.self.invariant c.accepted_modules.ensures.never_wrong c.args.budget

pub returns-in_err-functions-clause-types_hold : goal.returns-in_err-functions-clause-types_hold
returns-in_err-functions-clause-types_hold c =
    let s = c.self.inside in
    types_hold_here c.args.self s.checked.now s.heap_len s.script.now s.flat s.members.items s.callees.items s.world c.self.view_is c.self.invariant c.accepted_modules.ensures.types_hold c.args.budget

pub returns-in_err-seen-clause-never_wrong : goal.returns-in_err-seen-clause-never_wrong
returns-in_err-seen-clause-never_wrong c =
    let s = c.self.inside in
    never_wrong_here c.args.self s.checked.now s.heap_len s.script.now s.flat s.members.items s.callees.items s.world c.self.view_is c.self.invariant c.accepted_modules.ensures.never_wrong c.args.budget

pub returns-in_err-seen-clause-types_hold : goal.returns-in_err-seen-clause-types_hold
returns-in_err-seen-clause-types_hold c =
    let s = c.self.inside in
    types_hold_here c.args.self s.checked.now s.heap_len s.script.now s.flat s.members.items s.callees.items s.world c.self.view_is c.self.invariant c.accepted_modules.ensures.types_hold c.args.budget

pub unreachable-requires : goal.unreachable-requires
unreachable-requires c =
    let s = c.self.inside in
    let world : World = record s.world { units = c.args.budget } in
    is_one c.args.self s.checked.now s.heap_len s.script.now s.flat s.members.items s.callees.items s.world c.self.view_is c.self.invariant
    c.flat_sessions.ensures c.accepted_modules.ensures.never_wrong (world_of world) c.args.budget c.as_slice-6.result.now c.in_ok-seen.seen refl c.as_slice-6.ensures
    (subst (λ (t : Tree). IsSession (module_view t) (map call_of c.as_slice-6.result.now) (world_of world) c.in_ok-seen.seen) c.module-module.ensures.given c.in_ok-seen.ensures)
    c.in-None.is

pub returns-clause-meaning : goal.returns-clause-meaning
returns-clause-meaning c =
    let s = c.self.inside in
    let world : World = record s.world { units = c.args.budget } in
    sym (means c.args.self s.checked.now s.heap_len s.script.now s.flat s.members.items s.callees.items s.world c.self.view_is c.self.invariant
    c.flat_sessions.ensures c.accepted_modules.ensures.never_wrong (world_of world) c.args.budget c.as_slice-6.result.now c.in_ok-seen.seen refl c.as_slice-6.ensures
    (subst (λ (t : Tree). IsSession (module_view t) (map call_of c.as_slice-6.result.now) (world_of world) c.in_ok-seen.seen) c.module-module.ensures.given c.in_ok-seen.ensures))
    ∙ ap seen_option c.in-Some.is

pub returns-clause-never_wrong : goal.returns-clause-never_wrong
returns-clause-never_wrong c =
    let s = c.self.inside in
    never_wrong_here c.args.self s.checked.now s.heap_len s.script.now s.flat s.members.items s.callees.items s.world c.self.view_is c.self.invariant c.accepted_modules.ensures.never_wrong c.args.budget

pub returns-clause-types_hold : goal.returns-clause-types_hold
returns-clause-types_hold c =
    let s = c.self.inside in
    types_hold_here c.args.self s.checked.now s.heap_len s.script.now s.flat s.members.items s.callees.items s.world c.self.view_is c.self.invariant c.accepted_modules.ensures.types_hold c.args.budget
