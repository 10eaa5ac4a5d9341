-- All code is kept, by induction on its tree, where its instructions are.
use Rattle.std.proofs.Common.{◌≡◌, ℕ, Bool, true, false, refl}
use Rattle.wasm_lang.specs.Instructions.{Plain}
use Rattle.wasm_lang_exec.specs.Code.{unreachable, block, loop, if_block, br, br_if, br_table, return, call, call_indirect, plain, Trees, ε, ◌▹◌}
use Rattle.wasm2js_laws_preservation.specs.ControlControl.{Function}
use Rattle.wasm2js_laws_preservation.specs.ControlLaws.{IsKeptFirst}
use Rattle.wasm2js_laws_preservation.proofs.ControlKept.{Kept, none_kept, block_kept, loop_kept, if_kept, late_kept, other_kept, entry_kept}
use Rattle.wasm2js_laws_preservation.proofs.BranchesLeaving.{branches_are_kept}
use Rattle.wasm2js_laws_preservation.proofs.SwitchesTabled.{indexed_branches_are_kept}
use Rattle.wasm2js_laws_preservation.specs.ComputedLaws.{accesses_memory, IsHelped}
use Rattle.wasm2js_laws_preservation.proofs.ComputedEach.{each_is_kept}
use Rattle.wasm2js_laws_preservation.specs.OccurringLaws.{AllPlain, AccessIsKept, OccurringAreKept}

module _ (f : Function) (helped : IsHelped f) (calls : (g : ℕ) → IsKeptFirst f (call g)) (entries : (t : ℕ) → IsKeptFirst f (call_indirect t)) where
  either_kept : (p : Plain) (access : Bool) → accesses_memory p ≡ access → AccessIsKept f p → IsKeptFirst f (plain p)
  either_kept p true e h = h e
  either_kept p false e h = each_is_kept f helped p e

  all_kept : (code : Trees) → AllPlain (AccessIsKept f) code → Kept f helped.fair code
  all_kept ε h = none_kept f helped.fair
  all_kept (block r body ▹ code) h = block_kept f helped.fair r body code (all_kept body h.0) (all_kept code h.1)
  all_kept (loop r body ▹ code) h = loop_kept f helped.fair r body code (all_kept body h.0) (all_kept code h.1)
  all_kept (if_block r x y ▹ code) h = if_kept f helped.fair r x y code (all_kept x h.0) (all_kept y h.1) (all_kept code h.2)
  all_kept (unreachable ▹ code) h = other_kept f helped.fair unreachable code (λ ls b ts ds ks. refl) (branches_are_kept f helped.fair helped.fair.provides.fixed.traps unreachable tt) (all_kept code h)
  all_kept (br k ▹ code) h = other_kept f helped.fair (br k) code (λ ls b ts ds ks. refl) (branches_are_kept f helped.fair helped.fair.provides.fixed.traps (br k) tt) (all_kept code h)
  all_kept (br_if k ▹ code) h = late_kept f helped.fair (br_if k) code (branches_are_kept f helped.fair helped.fair.provides.fixed.traps (br_if k) tt) (all_kept code h)
  all_kept (br_table ks d ▹ code) h = other_kept f helped.fair (br_table ks d) code (λ ls b ts ds ks. refl) (indexed_branches_are_kept f helped.fair ks d) (all_kept code h)
  all_kept (return ▹ code) h = late_kept f helped.fair return code (branches_are_kept f helped.fair helped.fair.provides.fixed.traps return tt) (all_kept code h)
  all_kept (call g ▹ code) h = late_kept f helped.fair (call g) code (calls g) (all_kept code h)
  all_kept (call_indirect t ▹ code) h = entry_kept f helped.fair t code (entries t) (all_kept code h)
  all_kept (plain p ▹ code) h = late_kept f helped.fair (plain p) code (either_kept p (accesses_memory p) refl h.0) (all_kept code h.1)

pub occurring_are_kept : OccurringAreKept
occurring_are_kept f helped calls entries most code ls b ts after around before next accesses = all_kept f helped calls entries code accesses most ls b ts after around before next
