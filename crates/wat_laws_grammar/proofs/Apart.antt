-- The rows of a rule begin apart: a token begins one of them at most.
use Rattle.std.proofs.Common.{◌≡◌, ℕ, Bool, true, false, not, ◌&&◌, ◌||◌, List, [], ◌∷◌, Some, is_some, codes, bytes_eq, refl, sym, ap, ◌∙◌, subst}
use Rattle.std.proofs.lemmas.Bool.{and_parts}
use Rattle.std.proofs.lemmas.Slice.Eq.{bytes_eq-Decides}
use Rattle.wat_lang.specs.declared.parts.Rule.{Rule}
use Rattle.wat_lang.specs.declared.parts.Rule.TheVariants as rules
use Rattle.wat_lang.specs.declared.parts.Part.TheVariants.{Param, Result, Local}
use Rattle.wat_lang.specs.Tokens.{Class, opens, atom}
use Rattle.wat_lang.specs.Grammar.{Want, an_opening, a_value_type, a_word, meets, value_type_of, value_type_by, Row, rows, IsOneOf, first, later}
use Rattle.wat_laws_grammar.specs.Machine.{pick, pick_by}

-- ---- wants that no token meets both

-- the classes that meet a want, where they are few
abbrev few : Want → List Class
few an_opening = opens ∷ []
few (a_word w) = atom w ∷ []
few a_value_type = atom (codes "i32") ∷ atom (codes "i64") ∷ []
few w = []

abbrev is_few : Want → Bool
is_few an_opening = true
is_few (a_word w) = true
is_few a_value_type = true
is_few w = false

abbrev none_meets : Want → List Class → Bool
none_meets v [] = true
none_meets v (c ∷ cs) = not (meets v c) && none_meets v cs

-- no token meets v and w
abbrev pub excludes : Want → Want → Bool
excludes v w = (is_few w && none_meets v (few w)) || (is_few v && none_meets w (few v))

data Among (c : Class) : List Class → Type 0 where
  at_first : {cs : List Class} → Among c (c ∷ cs)
  at_later : {d : Class} {cs : List Class} → Among c cs → Among c (d ∷ cs)

not_true : (b : Bool) → not b ≡ true → b ≡ false
not_true true h = absurd cc
not_true false h = refl

same_bytes : (xs ys : List ℕ) → bytes_eq xs ys ≡ true → ys ≡ xs
same_bytes xs ys e = sym ((bytes_eq-Decides xs ys).0 e)

of_types : (bs : List ℕ) → is_some (value_type_of bs) ≡ true → Among (atom bs) (few a_value_type)
of_types bs e = by (bytes_eq (codes "i32") bs) (bytes_eq (codes "i64") bs) refl refl e
  where
    by : (t u : Bool) → bytes_eq (codes "i32") bs ≡ t → bytes_eq (codes "i64") bs ≡ u → is_some (value_type_by t u) ≡ true → Among (atom bs) (few a_value_type)
    by true u et eu e = subst (λ (xs : List ℕ). Among (atom bs) (atom xs ∷ atom (codes "i64") ∷ [])) (same_bytes (codes "i32") bs et) at_first
    by false true et eu e = subst (λ (xs : List ℕ). Among (atom bs) (atom (codes "i32") ∷ atom xs ∷ [])) (same_bytes (codes "i64") bs eu) (at_later at_first)
    by false false et eu e = absurd cc

among_few : (w : Want) (c : Class) → is_few w ≡ true → meets w c ≡ true → Among c (few w)
among_few an_opening opens i e = at_first
among_few an_opening c i e = absurd cc
among_few (a_word w) (atom bs) i e = subst (λ (xs : List ℕ). Among (atom bs) (atom xs ∷ [])) (same_bytes w bs e) at_first
among_few (a_word w) c i e = absurd cc
among_few a_value_type (atom bs) i e = of_types bs e
among_few a_value_type c i e = absurd cc
among_few w c i e = absurd cc

none_of : (v : Want) {c : Class} {cs : List Class} → Among c cs → none_meets v cs ≡ true → meets v c ≡ false
none_of v (at_first {cs = cs}) e = not_true _ (and_parts (not (meets v _)) (none_meets v cs) e).0
none_of v (at_later {d = d} {cs = cs} a) e = none_of v a (and_parts (not (meets v d)) (none_meets v cs) e).1

excludes_meets : (v w : Want) (c : Class) → excludes v w ≡ true → meets w c ≡ true → meets v c ≡ false
excludes_meets v w c x e = by (is_few w && none_meets v (few w)) (is_few v && none_meets w (few v)) refl refl x
  where
    by : (t u : Bool) → (is_few w && none_meets v (few w)) ≡ t → (is_few v && none_meets w (few v)) ≡ u → t || u ≡ true → meets v c ≡ false
    by true u et eu x = let parts = and_parts (is_few w) (none_meets v (few w)) et in none_of v (among_few w c parts.0 e) parts.1
    by false true et eu x =
        let parts = and_parts (is_few v) (none_meets w (few v)) eu in
        unmet (meets v c) refl (λ h. none_of w (among_few v c parts.0 h) parts.1)
      where
        unmet : (t : Bool) → meets v c ≡ t → (meets v c ≡ true → meets w c ≡ false) → meets v c ≡ false
        unmet true h k = let f = k h in absurd cc
        unmet false h k = h
    by false false et eu x = absurd cc

-- ---- rows

abbrev excludes_all : Want → List Row → Bool
excludes_all v [] = true
excludes_all v (w ∷ ws) = excludes v w.want && excludes_all v ws

abbrev apart : List Row → Bool
apart [] = true
apart (v ∷ ws) = excludes_all v.want ws && apart ws

excludes_one : (v : Want) {w : Row} {ws : List Row} → IsOneOf w ws → excludes_all v ws ≡ true → excludes v w.want ≡ true
excludes_one v (first {w = w} {ws = ws}) e = (and_parts (excludes v w.want) (excludes_all v ws) e).0
excludes_one v (later {v = u} {ws = ws} i) e = excludes_one v i (and_parts (excludes v u.want) (excludes_all v ws) e).1

picked : (c : Class) {w : Row} {ws : List Row} → IsOneOf w ws → apart ws ≡ true → meets w.want c ≡ true → pick ws c ≡ Some w
picked c (first {w = w} {ws = ws}) a e = ap (pick_by w (pick ws c)) e
picked c (later {w = w} {v = v} {ws = ws} i) a e =
    let parts = and_parts (excludes_all v.want ws) (apart ws) a in
    ap (pick_by v (pick ws c)) (excludes_meets v.want w.want c (excludes_one v.want i parts.0) e) ∙ picked c i parts.1 e

-- the test, over the whole table
rows_apart : (r : Rule) → apart (rows r) ≡ true
unfolding rows
rows_apart rules.Grammar = refl
rows_apart rules.Name = refl
rows_apart (rules.Bound s) = refl
rows_apart rules.Fields = refl
rows_apart rules.Field = refl
rows_apart rules.Described = refl
rows_apart rules.Exported = refl
rows_apart (rules.Heads l p) = refl
rows_apart (rules.Head true Param) = refl
rows_apart (rules.Head true Result) = refl
rows_apart (rules.Head true Local) = refl
rows_apart (rules.Head false Param) = refl
rows_apart (rules.Head false Result) = refl
rows_apart (rules.Head false Local) = refl
rows_apart (rules.Types Param) = refl
rows_apart (rules.Types Result) = refl
rows_apart (rules.Types Local) = refl
rows_apart (rules.More p) = refl
rows_apart rules.TableEnd = refl
rows_apart rules.Maximum = refl
rows_apart rules.Kind = refl
rows_apart rules.Constant = refl
rows_apart rules.Functions = refl
rows_apart rules.Labels = refl
rows_apart rules.Strings = refl
rows_apart rules.FuncWord = refl
rows_apart rules.Code = refl
rows_apart rules.Label = refl
rows_apart rules.BlockResult = refl
rows_apart rules.Arms = refl
rows_apart rules.Offset = refl
rows_apart rules.Align = refl

pub row_is_picked : (r : Rule) (w : Row) (c : Class) → IsOneOf w (rows r) → meets w.want c ≡ true → pick (rows r) c ≡ Some w
row_is_picked r w c i e = picked c i (rows_apart r) e
