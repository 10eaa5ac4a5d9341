-- Where reading stops is the first place that breaks the grammar.
use Rattle.std.proofs.Common.{◌≡◌, ℕ, suc, ◌+◌, ◌<◌, ◌≤◌, List, [], ◌∷◌, ◌++◌, length, take, Option, Some, None, option_map, refl, sym, ap, ◌∙◌, subst, arith, suc-le-suc, zero-le, le_of_suc-le-suc, lt_of_not-le, ◌⊎◌, inl, inr, drop, take-take, take-append-drop, append_assoc}
use Rattle.wat_lang.specs.Tokens.{Token}
use Rattle.wat_lang.specs.Grammar.{Item, Marked, marked, Derives, IsGrammatical, IsViable, IsFirstFault, may_end}
use Rattle.wat_laws_grammar.specs.Machine.{Taken, feed, run_on, run, fed_on, fed, start}
use Rattle.wat_laws_grammar.proofs.Machine.{complete, sound, fed_derives}
use Rattle.wat_laws_grammar.proofs.Ahead.{Fits, stays_fit}
use Rattle.wat_laws_grammar.proofs.Ends.{ending}

-- some tokens of the items begin with these
abbrev Leads : List Item → List Token → Type 0
Leads is ts = (more : List Token) × (ms : List Marked) × Derives is ms (ts ++ more)

within : (is : List Item) (ts : List Token) → fed is ts ≤ length ts
within is [] = zero-le
within is (t ∷ ts) = by (λ js. within js ts) (feed is t.class)
  where
    by : ((js : List Item) → fed js ts ≤ length ts) → (x : Option Taken) → fed_on x (λ js. fed js ts) ≤ length (t ∷ ts)
    by below None = zero-le
    by below (Some f) = suc-le-suc (below f.left)

leads_before : (is : List Item) (ts : List Token) → Fits is → Leads is (take (fed is ts) ts)
leads_before is [] h = let e = ending is h in (e.tokens, e.marks, e.derived)
leads_before is (t ∷ ts) h = by (λ js k. leads_before js ts k) (feed is t.class) refl
  where
    by : ((js : List Item) → Fits js → Leads js (take (fed js ts) ts)) → (x : Option Taken) → feed is t.class ≡ x → Leads is (take (fed_on x (λ js. fed js ts)) (t ∷ ts))
    by below None ex = let e = ending is h in (e.tokens, e.marks, e.derived)
    by below (Some f) ex =
        let l = below f.left (stays_fit is t.class f h ex) in
        (l.0, marked f.mark t ∷ l.1, fed_derives is t f l.1 (take (fed f.left ts) ts ++ l.0) ex l.2)

-- what is derived behind a token that is taken
rest_derived : (is : List Item) (t : Token) (f : Taken) (ms : List Marked) (ts : List Token) → feed is t.class ≡ Some f → Derives is ms (t ∷ ts) → (ns : List Marked) × Derives f.left ns ts
rest_derived is t f ms ts ex d = by (run f.left ts) refl (sym (ap (λ (x : Option Taken). run_on t x (λ js. run js ts)) ex) ∙ complete d)
  where
    by : (y : Option (List Marked)) → run f.left ts ≡ y → option_map (λ ns. marked f.mark t ∷ ns) y ≡ Some ms → (ns : List Marked) × Derives f.left ns ts
    by None ey e = absurd cc
    by (Some ns) ey e = (ns, sound f.left ts ns ey)

not_taken : (is : List Item) (t : Token) (ms : List Marked) (ts : List Token) → feed is t.class ≡ None → ¬ Derives is ms (t ∷ ts)
not_taken is t ms ts ex d =
    let e : (let x : Option (List Marked) = None in x) ≡ Some ms = sym (ap (λ (x : Option Taken). run_on t x (λ js. run js ts)) ex) ∙ complete d in absurd cc

leads_no_further : (is : List Item) (ts : List Token) → fed is ts < length ts → ¬ Leads is (take (suc (fed is ts)) ts)
leads_no_further is [] lt l = absurd (omega (arith, lt))
leads_no_further is (t ∷ ts) lt l = by (λ js k m. leads_no_further js ts k m) (feed is t.class) refl lt l
  where
    by : ((js : List Item) → fed js ts < length ts → ¬ Leads js (take (suc (fed js ts)) ts)) → (x : Option Taken) → feed is t.class ≡ x → fed_on x (λ js. fed js ts) < length (t ∷ ts) → ¬ Leads is (take (suc (fed_on x (λ js. fed js ts))) (t ∷ ts))
    by below None ex lt l = not_taken is t l.1 l.0 ex l.2
    by below (Some f) ex lt l =
        let r = rest_derived is t f l.1 (take (suc (fed f.left ts)) ts ++ l.0) ex l.2 in
        below f.left (le_of_suc-le-suc lt) (l.0, r.0, r.1)

grammar_fits : Fits start
unfolding may_end
grammar_fits = refl

pub first_fault : (ts : List Token) → run start ts ≡ None → IsFirstFault ts (fed start ts)
first_fault ts e = record {
  within = within start ts;
  before = leads_before start ts grammar_fits;
  here = λ lt v. leads_no_further start ts lt (subst (λ (k : ℕ). Leads start (take k ts)) (let q : fed start ts + 1 ≡ suc (fed start ts) = omega arith in q) v);
  whole = λ ms d. let f : (let x : Option (List Marked) = None in x) ≡ Some ms = sym e ∙ complete d in absurd cc;
}

-- tokens are a module, or break the grammar at a place
pub verdict : (ts : List Token) → ((ms : List Marked) × IsGrammatical ms ts) ⊎ ((k : ℕ) × IsFirstFault ts k)
verdict ts = by (run start ts) refl
  where
    by : (x : Option (List Marked)) → run start ts ≡ x → ((ms : List Marked) × IsGrammatical ms ts) ⊎ ((k : ℕ) × IsFirstFault ts k)
    by None e = inr (fed start ts, first_fault ts e)
    by (Some ms) e = inl (ms, sound start ts ms e)

-- ---- one place

longer : (j k : ℕ) (ts : List Token) → j ≤ k → take j ts ++ drop j (take k ts) ≡ take k ts
longer j k ts le = ap (λ (xs : List Token). xs ++ drop j (take k ts)) (sym (take-take j k ts le)) ∙ take-append-drop j (take k ts)

shorter_is_viable : (j k : ℕ) (ts : List Token) → j ≤ k → IsViable (take k ts) → IsViable (take j ts)
shorter_is_viable j k ts le v =
    let same : take j ts ++ (drop j (take k ts) ++ v.0) ≡ take k ts ++ v.0 = sym (append_assoc (take j ts) (drop j (take k ts)) v.0) ∙ ap (λ (xs : List Token). xs ++ v.0) (longer j k ts le) in
    (drop j (take k ts) ++ v.0, v.1, subst (λ (xs : List Token). IsGrammatical v.1 xs) (sym same) v.2)

not_before : (ts : List Token) (j k : ℕ) → IsFirstFault ts j → IsFirstFault ts k → ¬ (j < k)
not_before ts j k f g lt =
    let end = g.within in
    let next : j + 1 ≤ k = omega (arith, lt) in
    f.here (omega (arith, lt, end)) (shorter_is_viable (j + 1) k ts next g.before)

pub one_place : (ts : List Token) (j k : ℕ) → IsFirstFault ts j → IsFirstFault ts k → j ≡ k
one_place ts j k f g =
    let a = lt_of_not-le (not_before ts j k f g) in
    let b = lt_of_not-le (not_before ts k j g f) in
    omega (arith, a, b)
