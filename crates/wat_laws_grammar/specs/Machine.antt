-- Reading tokens one by one, with a stack of what may still come. No contract of a public function names this.
use Rattle.std.specs.Prelude.{ℕ, suc, Bool, true, false, ◌&&◌, List, [], ◌∷◌, ◌++◌, Option, Some, None, option_map}
use Rattle.wat_lang.specs.declared.parts.Rule.TheVariants as rules
use Rattle.wat_lang.specs.Tokens.{Class, Token}
use Rattle.wat_lang.specs.Grammar.{Item, token, rule, Row, Mark, Marked, marked, meets, rows, may_end}

abbrev pub pick_by : Row → Option Row → Bool → Option Row
pick_by w others true = Some w
pick_by w others false = others

-- the first row that a token of the class begins
abbrev pub pick : List Row → Class → Option Row
pick [] c = None
pick (w ∷ ws) c = pick_by w (pick ws c) (meets w.want c)

-- a token is taken: its mark, and what may come behind it
pub record Taken : Type 0 where
  pub mark : Mark
  pub left : List Item

abbrev pub taken : Mark → List Item → Taken
taken m is = record { mark = m; left = is }

abbrev pub if_true : {X : Type 0} → Option X → Bool → Option X
if_true x true = x
if_true x false = None

abbrev pub by_row : List Item → Option Taken → Option Row → Option Taken
by_row is others (Some w) = Some (taken w.mark (w.next ++ is))
by_row is others None = others

abbrev pub feed : List Item → Class → Option Taken
feed [] c = None
feed (token w m ∷ is) c = if_true (Some (taken m is)) (meets w c)
feed (rule r ∷ is) c = by_row is (if_true (feed is c) (may_end r)) (pick (rows r) c)

-- the items may stand for no token
abbrev pub may_stop : List Item → Bool
may_stop [] = true
may_stop (token w m ∷ is) = false
may_stop (rule r ∷ is) = may_end r && may_stop is

abbrev pub run_on : Token → Option Taken → (List Item → Option (List Marked)) → Option (List Marked)
run_on t None k = None
run_on t (Some f) k = option_map (λ ms. marked f.mark t ∷ ms) (k f.left)

-- the marks of the tokens, if all are taken and nothing has to come behind them
abbrev pub run : List Item → List Token → Option (List Marked)
run is [] = if_true (Some []) (may_stop is)
run is (t ∷ ts) = run_on t (feed is t.class) (λ js. run js ts)

abbrev pub fed_on : Option Taken → (List Item → ℕ) → ℕ
fed_on None k = 0
fed_on (Some f) k = suc (k f.left)

-- how many tokens are taken before one that isn't, or before the end
abbrev pub fed : List Item → List Token → ℕ
fed is [] = 0
fed is (t ∷ ts) = fed_on (feed is t.class) (λ js. fed js ts)

-- what has to come at the start of a text
abbrev pub start : List Item
start = rule rules.Grammar ∷ []
