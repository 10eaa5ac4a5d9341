use Rattle.std.proofs.Common.{◌≡◌, ℕ, List, Option, None, Some, sym, ap, ◌∙◌}
use Rattle.std.specs.Prelude.{slice_get}
use Rattle.wasm_tree.specs.Views.{module_of}
use Rattle.wasm_run_frames.specs.Views.{machine_of}
use Rattle.wasm_run_machine.specs.Functions.{bodies_of}
use Rattle.wasm_run_machine.specs.Kinds.{found_entry}
use Rattle.wasm_run_machine.proofs.Done.{indirect_is_stuck, no_entry_does, other_entry_does, entry_calls, entry_is}
use Rattle.wasm_run_machine.proofs.steps.call_by_entry.Goals as goal

pub returns-in_default : goal.returns-in_default
returns-in_default c = λ are n r same got s. indirect_is_stuck (bodies_of c.args.functions.now) (module_of c.args.«module».now) (machine_of c.args.machine.now) n c.args.kind r c.args.body.now c.in_default.ensures.number same got s

pub returns-in_default-entry_at : goal.returns-in_default-entry_at
returns-in_default-entry_at c = λ are n r same got s.
    let table : c.deref.result.now ≡ c.args.machine.now.state.table.items = cc (c.deref.ensures.value) in
    let none : found_entry (slice_get c.args.machine.now.state.table.items c.in-Some.index) ≡ None =
    ap (λ (t : List (Option ℕ)). found_entry (slice_get t c.in-Some.index)) (sym table) ∙ sym c.entry_at.ensures ∙ c.in_default-entry_at.is in
    no_entry_does (bodies_of c.args.functions.now) (module_of c.args.«module».now) (machine_of c.args.machine.now) n c.args.kind c.in-Some.index r c.args.body.now c.pop32.new.self.values
    c.in-Some.ensures.number none same got s

pub returns-then-not-has_type : goal.returns-then-not-has_type
returns-then-not-has_type c = λ are n r same got s.
    let table : c.deref.result.now ≡ c.args.machine.now.state.table.items = cc (c.deref.ensures.value) in
    let entry : found_entry (slice_get c.args.machine.now.state.table.items c.in-Some.index) ≡ Some c.in-Some-entry_at.function =
    ap (λ (t : List (Option ℕ)). found_entry (slice_get t c.in-Some.index)) (sym table) ∙ sym c.entry_at.ensures ∙ c.in-Some-entry_at.is in
    other_entry_does (bodies_of c.args.functions.now) (module_of c.args.«module».now) (machine_of c.args.machine.now) n c.args.kind c.in-Some.index c.in-Some-entry_at.function r c.args.body.now
    c.pop32.new.self.values c.in-Some.ensures.number (entry_is (bodies_of c.args.functions.now) (module_of c.args.«module».now) (slice_get c.args.machine.now.state.table.items c.in-Some.index) c.in-Some-entry_at.function entry)
    (sym (c.if-not-has_type.ensures are)) same got s

pub returns : goal.returns
returns c = λ are n r same got s.
    let table : c.deref.result.now ≡ c.args.machine.now.state.table.items = cc (c.deref.ensures.value) in
    let entry : found_entry (slice_get c.args.machine.now.state.table.items c.in-Some.index) ≡ Some c.in-Some-entry_at.function =
    ap (λ (t : List (Option ℕ)). found_entry (slice_get t c.in-Some.index)) (sym table) ∙ sym c.entry_at.ensures ∙ c.in-Some-entry_at.is in
    c.in_ok-flow.ensures n r are
    (entry_calls (bodies_of c.args.functions.now) (module_of c.args.«module».now) (machine_of c.args.machine.now) n c.args.kind c.in-Some.index c.in-Some-entry_at.function r c.args.body.now
    c.pop32.new.self.values c.pop32.new.self.below c.in-Some.ensures.number c.pop32.ensures.below
    (entry_is (bodies_of c.args.functions.now) (module_of c.args.«module».now) (slice_get c.args.machine.now.state.table.items c.in-Some.index) c.in-Some-entry_at.function entry) (sym (c.if-not-has_type.ensures are)) same got s)
