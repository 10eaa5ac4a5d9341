-- What is seen earlier or later: prefixes, below, and the two sides of a comparison.
use Rattle.std.proofs.Common.{◌≡◌, ℕ, zero, suc, ◌≤◌, List, [], ◌++◌, Option, Some, None, option_map, refl, sym, ap, ◌∙◌, subst, ⊎_elim, arith}
use Rattle.std.proofs.lemmas.Bool.{cases_lt}
use Rattle.std.proofs.lemmas.List.{append-nil, append_assoc}
use Rattle.session_lang.specs.Observation.{EventPlain, EndPlain, ObservationPlain, as_stop, IsPrefix, IsSame, BelowFrom, IsBelow}
use Rattle.session_lang.specs.Laws.{BelowIsReflexive, BelowIsTransitive, MonotoneSessionsGrow}

-- ---- prefixes

pub prefix_same : (xs ys : List EventPlain) → xs ≡ ys → IsPrefix xs ys
prefix_same xs ys e = ([], sym e ∙ sym (append-nil xs))

pub prefix_trans : (xs ys zs : List EventPlain) → IsPrefix xs ys → IsPrefix ys zs → IsPrefix xs zs
prefix_trans xs ys zs p q = (p.0 ++ q.0, q.1 ∙ ap (λ l. l ++ q.0) p.1 ∙ append_assoc xs p.0 q.0)

-- ---- ends

-- where one of two ends that are compared is there, so is the other
pub ended_too : {A B : Type 0} (f : A → EndPlain) (g : B → EndPlain) (a : Option A) (b : Option B) (e : A) → option_map f a ≡ option_map g b → a ≡ Some e → (e' : B) × (b ≡ Some e')
ended_too f g (Some x) (Some y) e same is = (y, refl)
ended_too f g (Some x) None e same is = cc same
ended_too f g None b e same is = cc is

-- ends that are the same stop go over to ends that are the same stop
pub stops_go_over : (f g : EndPlain → EndPlain) → ((e : EndPlain) → as_stop (g (as_stop e)) ≡ as_stop (g e)) → (a b : Option EndPlain)
    → option_map (λ e. as_stop (f e)) a ≡ option_map as_stop b → option_map (λ e. as_stop (g (f e))) a ≡ option_map (λ e. as_stop (g e)) b
stops_go_over f g trap (Some x) (Some y) same =
    let e : as_stop (f x) ≡ as_stop y = cc same in
    ap Some (sym (trap (f x)) ∙ ap (λ s. as_stop (g s)) e ∙ trap y)
stops_go_over f g trap (Some x) None same = cc same
stops_go_over f g trap None (Some y) same = cc same
stops_go_over f g trap None None same = refl

-- ---- below

pub below_from : (x y : ObservationPlain) → (x.end ≡ None → IsPrefix x.events y.events) → ((e : EndPlain) → x.end ≡ Some e → IsSame x y) → IsBelow x y
below_from x y runs ends = go x.end refl
  where
    go : (o : Option EndPlain) → x.end ≡ o → BelowFrom o x y
    go None is = runs is
    go (Some e) is = ends e is

pub below_ended : (x y : ObservationPlain) (e : EndPlain) → IsBelow x y → x.end ≡ Some e → IsSame x y
below_ended x y e h is = subst (λ o. BelowFrom o x y) is h

pub below_prefix : (x y : ObservationPlain) → IsBelow x y → IsPrefix x.events y.events
below_prefix x y = go x.end
  where
    go : (o : Option EndPlain) → BelowFrom o x y → IsPrefix x.events y.events
    go None p = p
    go (Some e) s = prefix_same x.events y.events s.events

same_trans : (x y z : ObservationPlain) → IsSame x y → IsSame y z → IsSame x z
same_trans x y z s t = record { events = s.events ∙ t.events; end = s.end ∙ t.end; heap = s.heap ∙ t.heap }

pub below_is_reflexive : BelowIsReflexive
below_is_reflexive x = below_from x x (λ is. prefix_same x.events x.events refl) (λ e is. record { events = refl; end = refl; heap = refl })

pub below_is_transitive : BelowIsTransitive
below_is_transitive x y z h k =
    below_from x z
    (λ is. prefix_trans x.events y.events z.events (below_prefix x y h) (below_prefix y z k))
    (λ e is.
    let s = below_ended x y e h is in
    let there = ended_too as_stop as_stop x.end y.end e s.end is in
    same_trans x y z s (below_ended y z there.0 k there.1))

pub monotone_sessions_grow : MonotoneSessionsGrow
monotone_sessions_grow session monotone n m le = go m le
  where
    go : (m : ℕ) → n ≤ m → IsBelow (session n) (session m)
    go zero le =
        let e : n ≡ zero = omega arith in
        subst (λ k. IsBelow (session n) (session k)) e (below_is_reflexive (session n))
    go (suc m) le =
        ⊎_elim
        (λ lt. below_is_transitive (session n) (session m) (session (suc m)) (go m (omega arith)) (monotone m))
        (λ ge.
        let e : n ≡ suc m = omega arith in
        subst (λ k. IsBelow (session n) (session k)) e (below_is_reflexive (session n)))
        (cases_lt n (suc m))
