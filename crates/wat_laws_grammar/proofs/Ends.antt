-- Each stack that is met leads to an end: some tokens are derived of it.
use Rattle.std.proofs.Common.{◌≡◌, ℕ, Bool, true, false, List, [], ◌∷◌, None, codes, bytes_eq, refl, sym, ap, ◌∙◌, subst}
use Rattle.std.proofs.lemmas.Bool.{and_parts}
use Rattle.std.proofs.lemmas.Slice.Eq.{bytes_eq-Decides}
use Rattle.wat_lang.specs.declared.parts.Space.TheVariants as spaces
use Rattle.wat_lang.specs.declared.parts.Part.{Part}
use Rattle.wat_lang.specs.declared.parts.Part.TheVariants.{Param, Result, Local}
use Rattle.wat_lang.specs.declared.parts.Rule.{Rule}
use Rattle.wat_lang.specs.declared.parts.Rule.TheVariants as rules
use Rattle.wat_lang.specs.Tokens.{Class, opens, closes, string, atom, Token}
use Rattle.wat_lang.specs.Grammar.{Want, an_opening, a_closing, a_string, a_number, an_id, an_index, a_value_type, offset_atom, alignment_atom, a_word, meets, Item, token, rule, Row, rows, may_end, Marked, IsOneOf, first, later, BeginsNone, Derives, all_done, one_token, goes_on, ends}
use Rattle.wat_laws_grammar.specs.Machine.{pick}
use Rattle.wat_laws_grammar.proofs.Machine.{none_begins}
use Rattle.wat_laws_grammar.proofs.Ahead.{Ahead, a_bracket, an_open_bracket, an_end, a_numeral, a_type_name, any_other, is_known, class_of, ahead_of_want, ahead_of_rule, ahead_by, ahead, follows, fits, Fits, may_leave}

-- the tokens begin with what stands ahead
abbrev Begins : Ahead → List Token → Type 0
Begins a [] = Unit {0}
Begins any_other (t ∷ ts) = Unit {0}
Begins a (t ∷ ts) = t.class ≡ class_of a

-- some tokens that are derived of the items, and begin with what stands ahead
pub record Ending (is : List Item) : Type 0 where
  pub tokens : List Token
  pub marks : List Marked
  pub begins : Begins (ahead is a_bracket) tokens
  pub derived : Derives is marks tokens

abbrev spelled : Class → Token
spelled c = record { class = c; at = 0 }

-- ---- a token

abbrev sample : Want → Class
sample an_opening = opens
sample a_closing = closes
sample a_string = string []
sample a_number = atom (codes "0")
sample an_id = atom (codes "$a")
sample an_index = atom (codes "0")
sample a_value_type = atom (codes "i32")
sample offset_atom = atom (codes "offset=0")
sample alignment_atom = atom (codes "align=1")
sample (a_word w) = atom w

sample_meets : (w : Want) → meets w (sample w) ≡ true
sample_meets (a_word w) = (bytes_eq-Decides w w).1 refl
sample_meets an_opening = refl
sample_meets a_closing = refl
sample_meets a_string = refl
sample_meets a_number = refl
sample_meets an_id = refl
sample_meets an_index = refl
sample_meets a_value_type = refl
sample_meets offset_atom = refl
sample_meets alignment_atom = refl

sample_begins : (w : Want) (ts : List Token) → Begins (ahead_of_want w) (spelled (sample w) ∷ ts)
sample_begins (a_word w) ts = by (bytes_eq (codes "end") w) refl
  where
    by : (t : Bool) → bytes_eq (codes "end") w ≡ t → Begins (elim t [ true ↦ an_end | false ↦ any_other ]) (spelled (atom w) ∷ ts)
    by true e = ap atom (sym ((bytes_eq-Decides (codes "end") w).0 e))
    by false e = tt
sample_begins an_opening ts = refl
sample_begins a_closing ts = refl
sample_begins a_string ts = tt
sample_begins a_number ts = refl
sample_begins an_id ts = tt
sample_begins an_index ts = tt
sample_begins a_value_type ts = refl
sample_begins offset_atom ts = tt
sample_begins alignment_atom ts = tt

-- ---- a rule that ends

none_of_class : (r : Rule) (c : Class) → pick (rows r) c ≡ None → (d : Class) → d ≡ c → (w : Row) → IsOneOf w (rows r) → meets w.want d ≡ false
none_of_class r c e d is w i = ap (meets w.want) is ∙ none_begins c i e

leaves : (r : Rule) (a : Ahead) (ts : List Token) → may_end r ≡ true → follows r a ≡ true → Begins a ts → BeginsNone (rows r) ts
leaves r a [] m f b = tt
leaves r a (t ∷ ts) m f b = let l = may_leave r a m f in by a l.0 l.1 b
  where
    by : (a : Ahead) → is_known a ≡ true → pick (rows r) (class_of a) ≡ None → Begins a (t ∷ ts) → (w : Row) → IsOneOf w (rows r) → meets w.want t.class ≡ false
    by any_other k e b = absurd cc
    by a_bracket k e b = none_of_class r closes e t.class b
    by an_open_bracket k e b = none_of_class r opens e t.class b
    by an_end k e b = none_of_class r (atom (codes "end")) e t.class b
    by a_numeral k e b = none_of_class r (atom (codes "0")) e t.class b
    by a_type_name k e b = none_of_class r (atom (codes "i32")) e t.class b

-- ---- a shortest text of a rule that may not end

record Spelled (r : Rule) (is : List Item) (ms : List Marked) (ts : List Token) : Type 0 where
  tokens : List Token
  marks : List Marked
  begins : Begins (ahead_of_rule r) tokens
  derived : Derives (rule r ∷ is) marks tokens

abbrev word : List ℕ → Token
word w = spelled (atom w)

module _ {is : List Item} {ms : List Marked} {ts : List Token} (d : Derives is ms ts) (a : Ahead) (b : Begins a ts) where
  grammar_spelled : Spelled rules.Grammar is ms ts
  unfolding rows may_end
  grammar_spelled = record {
    tokens = spelled opens ∷ word (codes "module") ∷ spelled closes ∷ ts;
    marks = _;
    begins = refl;
    derived = goes_on first refl (one_token refl (ends refl (leaves rules.Name a_bracket (spelled closes ∷ ts) refl refl refl)
        (ends refl (leaves rules.Fields a_bracket (spelled closes ∷ ts) refl refl refl) (one_token refl d))));
  }

  field_spelled : Spelled rules.Field is ms ts
  unfolding rows may_end
  field_spelled = record {
    tokens = word (codes "start") ∷ word (codes "0") ∷ ts;
    marks = _;
    begins = tt;
    derived = goes_on (later (later (later (later (later (later (later first))))))) refl (one_token refl d);
  }

  described_spelled : Spelled rules.Described is ms ts
  unfolding rows may_end
  described_spelled = record {
    tokens = word (codes "global") ∷ word (codes "i32") ∷ ts;
    marks = _;
    begins = tt;
    derived = goes_on (later (later (later first))) refl (ends refl (leaves (rules.Bound spaces.Global) a_type_name (word (codes "i32") ∷ ts) refl refl refl) (goes_on first refl d));
  }

  exported_spelled : Spelled rules.Exported is ms ts
  unfolding rows may_end
  exported_spelled = record {
    tokens = word (codes "func") ∷ word (codes "0") ∷ ts;
    marks = _;
    begins = tt;
    derived = goes_on first refl (one_token refl d);
  }

  table_end_spelled : Spelled rules.TableEnd is ms ts
  unfolding rows may_end
  table_end_spelled = record { tokens = word (codes "funcref") ∷ ts; marks = _; begins = tt; derived = goes_on (later first) refl d }

  kind_spelled : Spelled rules.Kind is ms ts
  unfolding rows may_end
  kind_spelled = record { tokens = word (codes "i32") ∷ ts; marks = _; begins = refl; derived = goes_on first refl d }

  constant_spelled : Spelled rules.Constant is ms ts
  unfolding rows may_end
  constant_spelled = record {
    tokens = word (codes "i32.const") ∷ word (codes "0") ∷ spelled closes ∷ ts;
    marks = _;
    begins = tt;
    derived = goes_on first refl (one_token refl (one_token refl d));
  }

  arms_spelled : Spelled rules.Arms is ms ts
  unfolding rows may_end
  arms_spelled = record { tokens = word (codes "end") ∷ ts; marks = _; begins = refl; derived = goes_on (later first) refl d }

  -- `result` or `local` without types
  head_spelled : (l : Bool) (p : Part) → follows (rules.Head l p) a ≡ true → Spelled (rules.Head l p) is ms ts
  unfolding rows may_end
  head_spelled true Param f = record {
    tokens = word (codes "result") ∷ spelled closes ∷ ts;
    marks = _;
    begins = tt;
    derived = goes_on (later first) refl (ends refl (leaves (rules.Types Result) a_bracket (spelled closes ∷ ts) refl refl refl) (one_token refl (ends refl (leaves (rules.Heads true Result) a ts refl f b) d)));
  }
  head_spelled false Param f = record {
    tokens = word (codes "result") ∷ spelled closes ∷ ts;
    marks = _;
    begins = tt;
    derived = goes_on (later first) refl (ends refl (leaves (rules.Types Result) a_bracket (spelled closes ∷ ts) refl refl refl) (one_token refl (ends refl (leaves (rules.Heads false Result) a ts refl f b) d)));
  }
  head_spelled true Result f = record {
    tokens = word (codes "result") ∷ spelled closes ∷ ts;
    marks = _;
    begins = tt;
    derived = goes_on first refl (ends refl (leaves (rules.Types Result) a_bracket (spelled closes ∷ ts) refl refl refl) (one_token refl (ends refl (leaves (rules.Heads true Result) a ts refl f b) d)));
  }
  head_spelled false Result f = record {
    tokens = word (codes "result") ∷ spelled closes ∷ ts;
    marks = _;
    begins = tt;
    derived = goes_on first refl (ends refl (leaves (rules.Types Result) a_bracket (spelled closes ∷ ts) refl refl refl) (one_token refl (ends refl (leaves (rules.Heads false Result) a ts refl f b) d)));
  }
  head_spelled true Local f = record {
    tokens = word (codes "local") ∷ spelled closes ∷ ts;
    marks = _;
    begins = tt;
    derived = goes_on first refl (ends refl (leaves (rules.Types Local) a_bracket (spelled closes ∷ ts) refl refl refl) (one_token refl (ends refl (leaves (rules.Heads true Local) a ts refl f b) d)));
  }
  head_spelled false Local f = absurd cc

  rule_spelled : (r : Rule) → may_end r ≡ false → follows r a ≡ true → Spelled r is ms ts
  unfolding may_end
  rule_spelled rules.Grammar m f = grammar_spelled
  rule_spelled rules.Field m f = field_spelled
  rule_spelled rules.Described m f = described_spelled
  rule_spelled rules.Exported m f = exported_spelled
  rule_spelled (rules.Head l p) m f = head_spelled l p f
  rule_spelled rules.TableEnd m f = table_end_spelled
  rule_spelled rules.Kind m f = kind_spelled
  rule_spelled rules.Constant m f = constant_spelled
  rule_spelled rules.Arms m f = arms_spelled
  rule_spelled r m f = absurd cc

-- ---- all items

pub ending : (is : List Item) → Fits is → Ending is
ending [] h = record { tokens = []; marks = []; begins = tt; derived = all_done }
ending (token w m ∷ is) h =
    let e = ending is h in
    record { tokens = spelled (sample w) ∷ e.tokens; marks = _; begins = sample_begins w e.tokens; derived = one_token (sample_meets w) e.derived }
ending (rule r ∷ is) h =
    let parts = and_parts (follows r (ahead is a_bracket)) (fits is a_bracket) h in
    by (may_end r) refl parts.0 (ending is parts.1)
  where
    by : (t : Bool) → may_end r ≡ t → follows r (ahead is a_bracket) ≡ true → Ending is → Ending (rule r ∷ is)
    by true et f e = record {
      tokens = e.tokens;
      marks = e.marks;
      begins = subst (λ (x : Ahead). Begins x e.tokens) (sym (ap (ahead_by (ahead is a_bracket) r) et)) e.begins;
      derived = ends et (leaves r (ahead is a_bracket) e.tokens et f e.begins) e.derived;
    }
    by false et f e =
        let s = rule_spelled e.derived (ahead is a_bracket) e.begins r et f in
        record {
          tokens = s.tokens;
          marks = s.marks;
          begins = subst (λ (x : Ahead). Begins x s.tokens) (sym (ap (ahead_by (ahead is a_bracket) r) et)) s.begins;
          derived = s.derived;
        }
