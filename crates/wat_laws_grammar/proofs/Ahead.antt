-- What stands next in a shortest text of what may still come, and that no rule that may end begins with it.
use Rattle.std.proofs.Common.{◌≡◌, Bool, true, false, ◌&&◌, List, [], ◌∷◌, ◌++◌, Option, Some, None, is_none, codes, bytes_eq, refl, ap, ◌∙◌, subst}
use Rattle.std.proofs.lemmas.Bool.{and_parts, and_from}
use Rattle.wat_lang.specs.declared.parts.Part.{Part}
use Rattle.wat_lang.specs.declared.parts.Part.TheVariants.{Param, Result, Local}
use Rattle.wat_lang.specs.declared.parts.Rule.{Rule}
use Rattle.wat_lang.specs.declared.parts.Rule.TheVariants as rules
use Rattle.wat_lang.specs.Tokens.{Class, opens, closes, atom}
use Rattle.wat_lang.specs.Grammar.{Want, an_opening, a_closing, a_number, a_value_type, a_word, Item, token, rule, Row, rows, may_end, meets, IsOneOf, first, later}
use Rattle.wat_laws_grammar.specs.Machine.{pick, Taken, taken, if_true, by_row, feed}
use Rattle.wat_laws_grammar.proofs.Machine.{pick_begins}

-- the first token of a shortest text; `a_bracket` is `)`, also where nothing comes any more
pub data Ahead : Type 0 where
  a_bracket an_open_bracket an_end a_numeral a_type_name any_other : Ahead

abbrev pub ahead_of_want : Want → Ahead
ahead_of_want an_opening = an_open_bracket
ahead_of_want a_closing = a_bracket
ahead_of_want a_number = a_numeral
ahead_of_want a_value_type = a_type_name
ahead_of_want (a_word w) = elim (bytes_eq (codes "end") w) [ true ↦ an_end | false ↦ any_other ]
ahead_of_want w = any_other

-- of a rule that may not end
abbrev pub ahead_of_rule : Rule → Ahead
ahead_of_rule rules.Grammar = an_open_bracket
ahead_of_rule rules.Kind = a_type_name
ahead_of_rule rules.Arms = an_end
ahead_of_rule r = any_other

abbrev pub ahead_by : Ahead → Rule → Bool → Ahead
ahead_by a r true = a
ahead_by a r false = ahead_of_rule r

-- what stands next, where a stands behind the items
abbrev pub ahead : List Item → Ahead → Ahead
ahead [] a = a
ahead (token w m ∷ is) a = ahead_of_want w
ahead (rule r ∷ is) a = ahead_by (ahead is a) r (may_end r)

-- what may stand behind a rule
abbrev after_instructions : Ahead → Bool
after_instructions a_bracket = true
after_instructions an_end = true
after_instructions a = false

abbrev only_bracket : Ahead → Bool
only_bracket a_bracket = true
only_bracket a = false

abbrev after_bound : Ahead → Bool
after_bound any_other = false
after_bound a = true

abbrev after_kind : Ahead → Bool
after_kind a_bracket = true
after_kind an_open_bracket = true
after_kind a = false

-- There is no list of locals where there are no locals.
abbrev after_head : Bool → Part → Ahead → Bool
after_head false Local a = false
after_head l p a = only_bracket a

abbrev pub follows : Rule → Ahead → Bool
follows (rules.Bound s) a = after_bound a
follows (rules.Heads l p) a = after_head l p a
follows (rules.Head l p) a = after_head l p a
follows rules.Kind a = after_kind a
follows rules.Labels a = after_instructions a
follows rules.Code a = after_instructions a
follows rules.Label a = after_instructions a
follows rules.BlockResult a = after_instructions a
follows rules.Arms a = after_instructions a
follows rules.Offset a = after_instructions a
follows rules.Align a = after_instructions a
follows r a = only_bracket a

-- each rule among the items has behind it what may stand there
abbrev pub fits : List Item → Ahead → Bool
fits [] a = true
fits (token w m ∷ is) a = fits is a
fits (rule r ∷ is) a = follows r (ahead is a) && fits is a

abbrev pub all_fit : List Row → Ahead → Bool
all_fit [] a = true
all_fit (w ∷ ws) a = fits w.next a && all_fit ws a

-- ---- the test over the whole table

-- a token that stands ahead
abbrev pub class_of : Ahead → Class
class_of a_bracket = closes
class_of an_open_bracket = opens
class_of an_end = atom (codes "end")
class_of a_numeral = atom (codes "0")
class_of a_type_name = atom (codes "i32")
class_of any_other = atom []

abbrev pub is_known : Ahead → Bool
is_known any_other = false
is_known a = true

abbrev implies : Bool → Bool → Bool
implies true b = b
implies false b = true

-- what stands ahead begins no row of a rule that may end
abbrev lets_end : Rule → Ahead → Bool
lets_end r a = implies (may_end r) (is_known a && is_none (pick (rows r) (class_of a)))

abbrev passes : Rule → Ahead → Bool
passes r a = implies (follows r a) (all_fit (rows r) a && lets_end r a)

abbrev passes_all : Rule → Bool
passes_all r = passes r a_bracket && (passes r an_open_bracket && (passes r an_end && (passes r a_numeral && (passes r a_type_name && passes r any_other))))

table_passes : (r : Rule) → passes_all r ≡ true
unfolding rows may_end
table_passes rules.Grammar = refl
table_passes rules.Name = refl
table_passes (rules.Bound s) = refl
table_passes rules.Fields = refl
table_passes rules.Field = refl
table_passes rules.Described = refl
table_passes rules.Exported = refl
table_passes (rules.Heads true Param) = refl
table_passes (rules.Heads true Result) = refl
table_passes (rules.Heads true Local) = refl
table_passes (rules.Heads false Param) = refl
table_passes (rules.Heads false Result) = refl
table_passes (rules.Heads false Local) = refl
table_passes (rules.Head true Param) = refl
table_passes (rules.Head true Result) = refl
table_passes (rules.Head true Local) = refl
table_passes (rules.Head false Param) = refl
table_passes (rules.Head false Result) = refl
table_passes (rules.Head false Local) = refl
table_passes (rules.Types Param) = refl
table_passes (rules.Types Result) = refl
table_passes (rules.Types Local) = refl
table_passes (rules.More p) = refl
table_passes rules.TableEnd = refl
table_passes rules.Maximum = refl
table_passes rules.Kind = refl
table_passes rules.Constant = refl
table_passes rules.Functions = refl
table_passes rules.Labels = refl
table_passes rules.Strings = refl
table_passes rules.FuncWord = refl
table_passes rules.Code = refl
table_passes rules.Label = refl
table_passes rules.BlockResult = refl
table_passes rules.Arms = refl
table_passes rules.Offset = refl
table_passes rules.Align = refl

-- the test at what stands ahead
passes_at : (r : Rule) (a : Ahead) → passes r a ≡ true
passes_at r a =
    let p1 = and_parts (passes r a_bracket) (passes r an_open_bracket && (passes r an_end && (passes r a_numeral && (passes r a_type_name && passes r any_other)))) (table_passes r) in
    let p2 = and_parts (passes r an_open_bracket) (passes r an_end && (passes r a_numeral && (passes r a_type_name && passes r any_other))) p1.1 in
    let p3 = and_parts (passes r an_end) (passes r a_numeral && (passes r a_type_name && passes r any_other)) p2.1 in
    let p4 = and_parts (passes r a_numeral) (passes r a_type_name && passes r any_other) p3.1 in
    let p5 = and_parts (passes r a_type_name) (passes r any_other) p4.1 in
    by a p1.0 p2.0 p3.0 p4.0 p5.0 p5.1
  where
    by : (a : Ahead) → passes r a_bracket ≡ true → passes r an_open_bracket ≡ true → passes r an_end ≡ true → passes r a_numeral ≡ true → passes r a_type_name ≡ true → passes r any_other ≡ true → passes r a ≡ true
    by a_bracket e1 e2 e3 e4 e5 e6 = e1
    by an_open_bracket e1 e2 e3 e4 e5 e6 = e2
    by an_end e1 e2 e3 e4 e5 e6 = e3
    by a_numeral e1 e2 e3 e4 e5 e6 = e4
    by a_type_name e1 e2 e3 e4 e5 e6 = e5
    by any_other e1 e2 e3 e4 e5 e6 = e6

implied : (b c : Bool) → implies b c ≡ true → b ≡ true → c ≡ true
implied true c e h = e
implied false c e h = absurd cc

both_at : (r : Rule) (a : Ahead) → follows r a ≡ true → (all_fit (rows r) a ≡ true) × (lets_end r a ≡ true)
both_at r a f = and_parts (all_fit (rows r) a) (lets_end r a) (implied (follows r a) (all_fit (rows r) a && lets_end r a) (passes_at r a) f)

is_none_is : {X : Type 0} (x : Option X) → is_none x ≡ true → x ≡ None
is_none_is None e = refl
is_none_is (Some x) e = absurd cc

-- where a rule may end, what may stand behind it is known and begins no row of it
pub may_leave : (r : Rule) (a : Ahead) → may_end r ≡ true → follows r a ≡ true → (is_known a ≡ true) × (pick (rows r) (class_of a) ≡ None)
may_leave r a m f =
    let parts = and_parts (is_known a) (is_none (pick (rows r) (class_of a))) (implied (may_end r) (is_known a && is_none (pick (rows r) (class_of a))) (both_at r a f).1 m) in
    (parts.0, is_none_is (pick (rows r) (class_of a)) parts.1)

-- ---- items behind items

ahead_joined : (is js : List Item) (a : Ahead) → ahead (is ++ js) a ≡ ahead is (ahead js a)
ahead_joined [] js a = refl
ahead_joined (token w m ∷ is) js a = refl
ahead_joined (rule r ∷ is) js a = ap (λ b. ahead_by b r (may_end r)) (ahead_joined is js a)

fits_joined : (is js : List Item) (a : Ahead) → fits is (ahead js a) ≡ true → fits js a ≡ true → fits (is ++ js) a ≡ true
fits_joined [] js a f g = g
fits_joined (token w m ∷ is) js a f g = fits_joined is js a f g
fits_joined (rule r ∷ is) js a f g =
    let parts = and_parts (follows r (ahead is (ahead js a))) (fits is (ahead js a)) f in
    and_from (follows r (ahead (is ++ js) a)) (fits (is ++ js) a) (ap (follows r) (ahead_joined is js a) ∙ parts.0) (fits_joined is js a parts.1 g)

row_fits : (a : Ahead) {w : Row} {ws : List Row} → IsOneOf w ws → all_fit ws a ≡ true → fits w.next a ≡ true
row_fits a (first {w = w} {ws = ws}) e = (and_parts (fits w.next a) (all_fit ws a) e).0
row_fits a (later {v = v} {ws = ws} i) e = row_fits a i (and_parts (fits v.next a) (all_fit ws a) e).1

-- ---- what is left behind a token

abbrev pub Fits : List Item → Type 0
Fits is = fits is a_bracket ≡ true

pub stays_fit : (is : List Item) (c : Class) (f : Taken) → Fits is → feed is c ≡ Some f → Fits f.left
stays_fit [] c f h e = absurd cc
stays_fit (token w m ∷ is) c f h e = by (meets w c) e
  where
    by : (b : Bool) → if_true (Some (taken m is)) b ≡ Some f → Fits f.left
    by true e = let same : taken m is ≡ f = cc in subst (λ (x : Taken). Fits x.left) same h
    by false e = absurd cc
stays_fit (rule r ∷ is) c f h e =
    let parts = and_parts (follows r (ahead is a_bracket)) (fits is a_bracket) h in
    by (λ g. stays_fit is c f parts.1 g) parts.0 parts.1 (pick (rows r) c) (may_end r) refl e
  where
    by : (feed is c ≡ Some f → Fits f.left) → follows r (ahead is a_bracket) ≡ true → Fits is → (x : Option Row) (b : Bool) → pick (rows r) c ≡ x → by_row is (if_true (feed is c) b) x ≡ Some f → Fits f.left
    by below fo fi (Some w) b ep e =
        let same : taken w.mark (w.next ++ is) ≡ f = cc in
        let in_row = row_fits (ahead is a_bracket) (pick_begins (rows r) c w ep).0 (both_at r (ahead is a_bracket) fo).0 in
        subst (λ (x : Taken). Fits x.left) same (fits_joined w.next is a_bracket in_row fi)
    by below fo fi None true ep e = below e
    by below fo fi None false ep e = absurd cc
