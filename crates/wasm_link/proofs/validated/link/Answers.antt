use Rattle.std.proofs.Common.{◌≡◌, sym, subst, ap, ◌∙◌}
use Rattle.std.specs.Prelude.{None}
use Rattle.wasm_lang.specs.Limits.{IsWithinReader}
use Rattle.wasm_lang.specs.Shape.{IsShaped, IsWritable}
use Rattle.wasm_lang_valid.specs.Runnable.{not_runnable}
use Rattle.wasm_lang_valid.specs.Validity.{IsValidModule}
use Rattle.wasm_link_lang.specs.Allowed.{IsAllowed, IsBounded}
use Rattle.wasm_link_laws_writable.specs.Laws.{IsSpelledShort}
use Rattle.wasm_link.proofs.Stands.{linkable}
use Rattle.wasm_link_lang.specs.Pairs.{Pair}
use Rattle.wasm_link_lang.specs.Refusal.{refusal}
use Rattle.wasm_link_code.specs.Linked.{linked}
use Rattle.wasm_link.proofs.validated.link.Goals as goal

pub valid_with-requires-clause-first : goal.valid_with-requires-clause-first
valid_with-requires-clause-first c = subst (λ (w : Pair). IsValidModule w.first) (sym c.in_ok-numbers.ensures.exactly.1) c.module-first.ensures.valid

pub valid_with-requires-clause-second : goal.valid_with-requires-clause-second
valid_with-requires-clause-second c = subst (λ (w : Pair). IsValidModule w.second) (sym c.in_ok-numbers.ensures.exactly.1) c.module-second.ensures.valid

pub valid_with-requires-clause-first_shaped : goal.valid_with-requires-clause-first_shaped
valid_with-requires-clause-first_shaped c = subst (λ (w : Pair). IsShaped w.first) (sym c.in_ok-numbers.ensures.exactly.1) c.module-first.ensures.shaped

pub valid_with-requires-clause-second_shaped : goal.valid_with-requires-clause-second_shaped
valid_with-requires-clause-second_shaped c = subst (λ (w : Pair). IsShaped w.second) (sym c.in_ok-numbers.ensures.exactly.1) c.module-second.ensures.shaped

pub valid_with-requires-clause-linked : goal.valid_with-requires-clause-linked
valid_with-requires-clause-linked c = subst (λ (w : Pair). refusal w ≡ None) (sym c.in_ok-numbers.ensures.exactly.1) c.in_ok-numbers.ensures.exactly.0

pub returns : goal.returns
returns c =
    let w : Pair = record { first = c.args.first.now; second = c.args.second.now } in
    let none = c.in_ok-numbers.ensures.exactly.0 in
    let is = c.in_ok-valid.ensures ∙ ap linked c.in_ok-numbers.ensures.exactly.1 in
    let it = linkable w c.module-first.ensures.valid c.module-second.ensures.valid c.module-first.ensures.shaped c.module-second.ensures.shaped none in
    record {
      exactly = (none, is);
      allowed = subst (IsAllowed w) (sym is) (c.sessions.ensures.allowed w it);
      bounded = subst (IsBounded w) (sym is) (c.sessions.ensures.bounded w it);
      within = subst (λ m. IsWithinReader w.first → IsWithinReader w.second → IsWithinReader m) (sym is) (c.limits.ensures.reader w it);
      writable = subst (λ m. IsSpelledShort w.first → IsSpelledShort w.second → IsWritable m) (sym is) (c.writable.ensures.writable w it);
      runs = subst (λ m. not_runnable m ≡ None) (sym is) (c.limits.ensures.run w it);
    }
