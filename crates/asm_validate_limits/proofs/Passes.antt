-- Passes over marks, one after another.
use Rattle.std.proofs.Common.{◌≡◌, ℕ, ◌+◌, Bool, true, false, List, [], ◌∷◌, ◌++◌, Some, Result, Ok, Err, refl, sym, ap, ◌∙◌, append_assoc, subst, arith}
use Rattle.std.specs.Prelude.{if◌then◌else◌, nat_lt, length}
use Rattle.asm_lang_valid.specs.declared.rule.Met.{Met}
use Rattle.asm_lang_valid.specs.declared.rule.Rule.TheVariants.{PastLimit}
use Rattle.asm_lang_valid.specs.Rows.{first, need}
use Rattle.asm_lang_valid.specs.LimitRows.{ForeignCall, Mark, a_row, a_use, rows_of, is_among, distinct_after, rows_after, most_foreign_calls}
use Rattle.asm_validate_names.specs.declared.refusal.AsmRefusal.{AsmRefusal}
use Rattle.asm_validate_names.specs.declared.refusal.AsmRefusal.TheVariants.{Refused, Memory}
use Rattle.asm_validate_limits.specs.declared.tally.Tally.{Tally}
use Rattle.asm_validate_limits.specs.Passes.{calls_of, IsOf, Passed, IsFault, Tallied, limited}

pub distinct-append : (s : List ForeignCall) (ms ns : List Mark) → distinct_after s (ms ++ ns) ≡ distinct_after (distinct_after s ms) ns
distinct-append s [] ns = refl
distinct-append s (a_row x ∷ ms) ns = distinct-append s ms ns
distinct-append s (a_use f at ∷ ms) ns =
    elim (is_among f s) as (λ b. (if b then distinct_after s (ms ++ ns) else distinct_after (s ++ f ∷ []) (ms ++ ns)) ≡ distinct_after (if b then distinct_after s ms else distinct_after (s ++ f ∷ []) ms) ns) [
      | true ↦ distinct-append s ms ns
      | false ↦ distinct-append (s ++ f ∷ []) ms ns
    ]

pub rows-append : (s : List ForeignCall) (ms ns : List Mark) → rows_after s (ms ++ ns) ≡ rows_after s ms ++ rows_after (distinct_after s ms) ns
rows-append s [] ns = refl
rows-append s (a_row x ∷ ms) ns = ap (λ l. x ∷ l) (rows-append s ms ns)
rows-append s (a_use f at ∷ ms) ns =
    let here = need (nat_lt (length s) most_foreign_calls) PastLimit at in
    elim (is_among f s) as (λ b. (if b then rows_after s (ms ++ ns) else here ++ rows_after (s ++ f ∷ []) (ms ++ ns)) ≡ (if b then rows_after s ms else here ++ rows_after (s ++ f ∷ []) ms) ++ rows_after (if b then distinct_after s ms else distinct_after (s ++ f ∷ []) ms) ns) [
      | true ↦ rows-append s ms ns
      | false ↦ ap (λ l. here ++ l) (rows-append (s ++ f ∷ []) ms ns) ∙ sym (append_assoc here (rows_after (s ++ f ∷ []) ms) (rows_after (distinct_after (s ++ f ∷ []) ms) ns))
    ]

first_before : (xs ys : List Met) (x : Met) → first xs ≡ Some x → first (xs ++ ys) ≡ Some x
first_before [] ys x h = cc
first_before (y ∷ xs) ys x h = h

pub stop : (ms ns : List Mark) (s : List ForeignCall) (x : AsmRefusal) → IsFault ms s x → IsFault (ms ++ ns) s x
stop ms ns s (Refused r n) h = ap first (rows-append s ms ns) ∙ first_before (rows_after s ms) (rows_after (distinct_after s ms) ns) _ h
stop ms ns s Memory h = tt

pub then_ : (ms ns : List Mark) (n k : ℕ) (a b c : Tally) (r : Result (Unit {0}) AsmRefusal) → Passed ms n a b → Tallied ns k b c r → Tallied (ms ++ ns) (n + k) a c r
then_ ms ns n k a b c (Ok u) p h =
    let m = p.counted in
    let o = h.counted in
    record {
      none = rows-append (calls_of a) ms ns ∙ ap (λ l. l ++ rows_after (distinct_after (calls_of a) ms) ns) p.none ∙ ap (λ s. rows_after s ns) (sym p.calls) ∙ h.none;
      calls = h.calls ∙ ap (λ s. distinct_after s ns) p.calls ∙ sym (distinct-append (calls_of a) ms ns);
      counted = omega arith;
      of = λ m o. h.of m (p.of m o);
    }
then_ ms ns n k a b c (Err (Refused r x)) p h =
    ap first (rows-append (calls_of a) ms ns ∙ ap (λ l. l ++ rows_after (distinct_after (calls_of a) ms) ns) p.none ∙ ap (λ s. rows_after s ns) (sym p.calls)) ∙ h
then_ ms ns n k a b c (Err Memory) p h = tt

-- .. where the later marks go on at the next node
pub then_at : (ms : List Mark) (ns : ℕ → List Mark) (n k : ℕ) (a b c : Tally) (r : Result (Unit {0}) AsmRefusal) → Passed ms n a b → Tallied (ns b.at) k b c r → Tallied (ms ++ ns (a.at + n)) (n + k) a c r
then_at ms ns n k a b c r p h = then_ ms (ns (a.at + n)) n k a b c r p (subst (λ t. Tallied (ns t) k b c r) p.counted h)

pub same : (ms ks : List Mark) (n k : ℕ) (a c : Tally) (r : Result (Unit {0}) AsmRefusal) → ms ≡ ks → n ≡ k → Tallied ks k a c r → Tallied ms n a c r
same ms ks n k a c r e d h = subst (λ l. Tallied l n a c r) (sym e) (subst (λ m. Tallied ks m a c r) (sym d) h)

-- so many nodes, and then those after them
pub moved : (ms : List Mark) (n k : ℕ) (a b c : Tally) (r : Result (Unit {0}) AsmRefusal) → b ≡ record { home = a.home; calls = a.calls; at = b.at } → b.at ≡ a.at + k → Tallied ms n b c r → Tallied ms (k + n) a c r
moved ms n k a b c (Ok u) like at h =
    let o = h.counted in
    let calls : calls_of b ≡ calls_of a = ap calls_of like in
    record {
      none = ap (λ s. rows_after s ms) (sym calls) ∙ h.none;
      calls = h.calls ∙ ap (λ s. distinct_after s ms) calls;
      counted = omega arith;
      of = λ m o. h.of m (subst (IsOf m) (sym like) o);
    }
moved ms n k a b c (Err (Refused r x)) like at h = ap first (ap (λ s. rows_after s ms) (sym (ap calls_of like))) ∙ h
moved ms n k a b c (Err Memory) like at h = tt

-- a node's own number, and then its parts
pub into : (ms ks : List Mark) (n k : ℕ) (a b c : Tally) (r : Result (Unit {0}) AsmRefusal) → b ≡ record { home = a.home; calls = a.calls; at = b.at } → b.at ≡ a.at + 1 → ms ≡ ks → n ≡ 1 + k → Tallied ks k b c r → Tallied ms n a c r
into ms ks n k a b c r like at e d h = same ms ks n (1 + k) a c r e d (moved ks k 1 a b c r like at h)

pub nothing : (a : Tally) → Passed [] 0 a a
nothing a = record { none = refl; calls = refl; counted = omega arith; of = λ m o. o }

pub from_err : (ms : List Mark) (n : ℕ) (a c : Tally) (r : Result (Unit {0}) AsmRefusal) (x : AsmRefusal) → r ≡ Err x → IsFault ms (calls_of a) x → Tallied ms n a c r
from_err ms n a c r x e h = subst (λ r. Tallied ms n a c r) (sym e) h

pub from_ok : (ms : List Mark) (n : ℕ) (a c : Tally) (r : Result (Unit {0}) AsmRefusal) → r ≡ Ok tt → Passed ms n a c → Tallied ms n a c r
from_ok ms n a c r e h = subst (λ r. Tallied ms n a c r) (sym e) h

pub err_first : (ms ns : List Mark) (n : ℕ) (a c : Tally) (r : Result (Unit {0}) AsmRefusal) (x : AsmRefusal) → r ≡ Err x → IsFault ms (calls_of a) x → Tallied (ms ++ ns) n a c r
err_first ms ns n a c r x e h = from_err (ms ++ ns) n a c r x e (stop ms ns (calls_of a) x h)

-- ---- what has to hold at a node

pub need_err : (b : Bool) (node : ℕ) (a : Tally) (x : AsmRefusal) → Err x ≡ limited b node → IsFault (rows_of (need b PastLimit node)) (calls_of a) x
need_err true node a x h = cc
need_err false node a x h = let is : Refused PastLimit node ≡ x = cc in subst (λ y. IsFault (rows_of (need false PastLimit node)) (calls_of a) y) is refl

pub need_ok : (b : Bool) (node : ℕ) (a : Tally) → Ok tt ≡ limited b node → Passed (rows_of (need b PastLimit node)) 0 a a
need_ok true node a h = nothing a
need_ok false node a h = cc

pub needed : (b : Bool) (node : ℕ) (a : Tally) (r : Result (Unit {0}) AsmRefusal) → r ≡ limited b node → Tallied (rows_of (need b PastLimit node)) 0 a a r
needed true node a r h = subst (λ r. Tallied [] 0 a a r) (sym h) (nothing a)
needed false node a r h = subst (λ r. Tallied (rows_of (need false PastLimit node)) 0 a a r) (sym h) refl

-- marks of a node that takes no node of its own, and then others
pub after_none : (ms ns : List Mark) (k : ℕ) (a c : Tally) (r : Result (Unit {0}) AsmRefusal) → Passed ms 0 a a → Tallied ns k a c r → Tallied (ms ++ ns) k a c r
after_none ms ns k a c r p h =
    let none : k ≡ 0 + k = omega arith in
    same (ms ++ ns) (ms ++ ns) k (0 + k) a c r refl none (then_ ms ns 0 k a a c r p h)
