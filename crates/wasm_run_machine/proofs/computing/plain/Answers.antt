use Rattle.std.proofs.Common.{◌≡◌, ◌++◌, List, length, take, drop, map, ap, ◌∙◌, arith}
use Rattle.sem_words.specs.declared.word.Word.{Word}
use Rattle.sem_words.specs.Lists.{list_items}
use Rattle.session_lang.specs.Views.{event_of}
use Rattle.session_replies.specs.Answers.{replies_of}
use Rattle.wasm_lang_exec.specs.Plain.{goes}
use Rattle.wasm_run_operands.specs.Effects.{store_of}
use Rattle.wasm_run_plain.specs.Forms.{instruction_effect}
use Rattle.wasm_tree.specs.Views.{instr_of}
use Rattle.wasm_run_frames.specs.Views.{machine_of}
use Rattle.wasm_run_machine.proofs.Plains.{goes_on, traps_there, sticks_there, refilled}
use Rattle.wasm_run_machine.proofs.computing.plain.Goals as goal

pub returns-in-Goes : goal.returns-in-Goes
returns-in-Goes c = λ bodies m n r same got s.
    let v = machine_of c.args.machine.now in
    let events = map event_of (list_items c.args.machine.now.events) in
    let replies = replies_of c.args.machine.now.replies in
    let store = store_of c.do_plain.new.state events replies in
    let values = c.do_plain.new.operands.values in
    let is : c.deref_mut.result.now ≡ c.args.machine.now.locals.items = cc (c.deref_mut.ensures.value) in
    let long : length c.do_plain.new.locals ≡ c.args.machine.now.locals.len = omega (arith, c.do_plain.auto.locals, c.deref_mut.ensures.len) in
    let locals = take c.args.machine.now.locals.len (c.do_plain.new.locals ++ drop (length c.do_plain.new.locals) c.args.machine.now.locals.items) in
    let whole : locals ≡ c.do_plain.new.locals = refilled c.args.machine.now.locals.len c.do_plain.new.locals c.args.machine.now.locals.items long in
    let does = rw c.in-Goes.is at (c.in_ok-effect.ensures.effect events replies) in
    goes_on bodies m v n r c.args.body.now (instr_of c.args.instr.now) values c.do_plain.new.operands.below locals store c.requires.paid
    (ap (λ (ls : List Word). goes values ls store) whole ∙ does ∙ ap (λ (ls : List Word). instruction_effect (instr_of c.args.instr.now) v.values ls v.store) is)
    c.do_plain.ensures.below same got s

pub returns-in-Traps : goal.returns-in-Traps
returns-in-Traps c = λ bodies m n r same got s.
    let v = machine_of c.args.machine.now in
    let events = map event_of (list_items c.args.machine.now.events) in
    let replies = replies_of c.args.machine.now.replies in
    let is : c.deref_mut.result.now ≡ c.args.machine.now.locals.items = cc (c.deref_mut.ensures.value) in
    let does = rw c.in-Traps.is at (c.in_ok-effect.ensures.effect events replies) in
    let keeps = rw c.in-Traps.is at (c.in_ok-effect.ensures.keeps events replies) in
    traps_there bodies m v n r c.args.body.now (instr_of c.args.instr.now) c.in-Traps.kind (store_of c.do_plain.new.state events replies) c.requires.paid
    (does ∙ ap (λ (ls : List Word). instruction_effect (instr_of c.args.instr.now) v.values ls v.store) is) keeps same got s

pub returns-in-Sticks : goal.returns-in-Sticks
returns-in-Sticks c = λ bodies m n r same got s.
    let v = machine_of c.args.machine.now in
    let events = map event_of (list_items c.args.machine.now.events) in
    let replies = replies_of c.args.machine.now.replies in
    let is : c.deref_mut.result.now ≡ c.args.machine.now.locals.items = cc (c.deref_mut.ensures.value) in
    let does = rw c.in-Sticks.is at (c.in_ok-effect.ensures.effect events replies) in
    let keeps = rw c.in-Sticks.is at (c.in_ok-effect.ensures.keeps events replies) in
    sticks_there bodies m v n r c.args.body.now (instr_of c.args.instr.now) (store_of c.do_plain.new.state events replies) c.requires.paid
    (does ∙ ap (λ (ls : List Word). instruction_effect (instr_of c.args.instr.now) v.values ls v.store) is) keeps same got s
