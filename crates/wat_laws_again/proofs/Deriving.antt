-- Derivations of tokens with their marks, at whatever places.
use Rattle.std.proofs.Common.{◌≡◌, ℕ, true, false, List, [], ◌∷◌, ◌++◌, map, drop, None, ap}
use Rattle.wat_lang.specs.declared.parts.Rule.{Rule}
use Rattle.wat_lang.specs.Tokens.{Class, Token}
use Rattle.wat_lang.specs.Grammar.{Want, Mark, Item, token, rule, Row, meets, rows, may_end, Marked, IsOneOf, BeginsNone, Derives, all_done, one_token, goes_on, ends}
use Rattle.wat_laws_grammar.specs.Machine.{pick, pick_by}
use Rattle.wat_laws_grammar.proofs.Machine.{none_begins}
use Rattle.wat_laws_again.specs.Signs.{Sign, placed}

abbrev pub tokens_of : List Marked → List Token
tokens_of ms = map (λ (m : Marked). m.token) ms

-- the signs are of these items, wherever they stand
pub record Fits (is : List Item) (ss : List Sign) : Type 0 where
  pub derived : (ns : List ℕ) → Derives is (placed ns ss) (tokens_of (placed ns ss))

pub fits_end : Fits [] []
fits_end = record { derived = λ ns. all_done }

pub fits_token : {w : Want} {m : Mark} {c : Class} {is : List Item} {ss : List Sign} → meets w c ≡ true → Fits is ss → Fits (token w m ∷ is) ((m, c) ∷ ss)
fits_token e d = record { derived = λ ns. one_token e (d.derived (drop 1 ns)) }

pub fits_row : (r : Rule) {w : Want} {m : Mark} {next : List Item} {c : Class} {is : List Item} {ss : List Sign} → IsOneOf (record { want = w; mark = m; next = next }) (rows r) → meets w c ≡ true
    → Fits (next ++ is) ss → Fits (rule r ∷ is) ((m, c) ∷ ss)
fits_row r {w = w} {m = m} {next = next} i e d = record { derived = λ ns. goes_on {w = record { want = w; mark = m; next = next }} i e (d.derived (drop 1 ns)) }

-- the first sign, if there is one, begins no row of the rule
abbrev pub Skips : Rule → List Sign → Type 0
Skips r [] = Unit {0}
Skips r (s ∷ ss) = pick (rows r) s.1 ≡ None

begins_none : (r : Rule) (ss : List Sign) → Skips r ss → (ns : List ℕ) → BeginsNone (rows r) (tokens_of (placed ns ss))
begins_none r [] s ns = tt
begins_none r (x ∷ ss) s ns = λ w i. none_begins x.1 i s

pub fits_left : (r : Rule) (is : List Item) (ss : List Sign) → may_end r ≡ true → Skips r ss → Fits is ss → Fits (rule r ∷ is) ss
fits_left r is ss m s d = record { derived = λ ns. ends m (begins_none r ss s ns) (d.derived ns) }

-- a rule with one row
pub one_row : (w : Row) (c : Class) → meets w.want c ≡ false → pick (w ∷ []) c ≡ None
one_row w c e = ap (pick_by w None) e
