use Rattle.std.proofs.Common.{◌≡◌, ℕ, Bool, true, false, not, ◌||◌, List, refl, ap, ◌∙◌}
use Rattle.std.specs.Prelude.{if◌then◌else◌}
use Rattle.std.specs.Str.{bytes_eq}
use Rattle.std.specs.Cmp.Lexicographic.{nat_list_eq_equiv}
use Rattle.wat_read_refusals.specs.Seen.{has_seen}
use Rattle.wat_read_refusals.proofs.taken.is_again.Goals as goal

not_not : (b : Bool) → not (not b) ≡ b
not_not true = refl
not_not false = refl

or_is : (b r : Bool) → (if b then true else r) ≡ (b || r)
or_is true r = refl
or_is false r = refl

pub returns-clause-again : goal.returns-clause-again
returns-clause-again c =
    ap not c.in_ok-is_new.ensures.added ∙ not_not (has_seen c.args.seen.now c.of.result) ∙ ap (has_seen c.args.seen.now) c.of.ensures

pub returns-clause-added : goal.returns-clause-added
returns-clause-added c = λ n.
    c.in_ok-is_new.ensures.updates.0 n
    ∙ ap (λ (k : List ℕ). if bytes_eq k n then true else has_seen c.args.seen.now n) c.of.ensures
    ∙ or_is (bytes_eq c.args.id.now n) (has_seen c.args.seen.now n)
    ∙ ap (λ (b : Bool). b || has_seen c.args.seen.now n) (nat_list_eq_equiv.symm c.args.id.now n)
