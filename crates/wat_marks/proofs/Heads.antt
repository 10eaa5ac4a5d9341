-- Where the mark of an instruction may come, no head may come behind it but in another field.
use Rattle.std.proofs.Common.{◌≡◌, ℕ, Bool, true, false, cond, ◌&&◌, ◌||◌, not, List, [], ◌∷◌, ◌++◌, Option, Some, None, refl, sym, ap, ◌∙◌, subst}
use Rattle.std.specs.List.{list_all}
use Rattle.std.proofs.lemmas.Bool.{and_parts}
use Rattle.wasm_lang.specs.Instructions.{Plain, local_get, local_set, local_tee, global_get, global_set, load, store, const32, const64, Instruction, block, loop, if_block, br, br_if, br_table, call, call_indirect, plain}
use Rattle.wat_lang.specs.declared.parts.Rule.{Rule}
use Rattle.wat_lang.specs.declared.parts.Rule.TheVariants as rules
use Rattle.wat_lang.specs.declared.parts.Part.TheVariants.{Param, Result, Local}
use Rattle.wat_lang.specs.Tokens.{Token, Class}
use Rattle.wat_lang.specs.Words.{instruction_names}
use Rattle.wat_lang.specs.Grammar.{Want, Mark, a_field, an_instruction, Marked, marked, Item, token, rule, Row, rows, may_end, meets, immediates, plain_immediates, instruction_row}
use Rattle.wat_lang.specs.Modules.{is_instruction}
use Rattle.wat_laws_grammar.specs.Machine.{pick, Taken, taken, if_true, by_row, feed}
use Rattle.wat_laws_kept.specs.FieldByField.{is_field}
use Rattle.wat_laws_kept.specs.Heads.{is_head, code_after, in_code, heads_lead}
use Rattle.wat_marks.specs.Readings.{AreTaken, none_taken, one_taken}
use Rattle.wat_marks.proofs.Marks.{code_more, leads_more}
use Rattle.wat_marks.proofs.Rows.{both, all_on, picked, named_rows}

-- ---- items

-- no head comes from it, but in a field that it begins
abbrev rule_is_safe : Rule → Bool
rule_is_safe (rules.Bound s) = false
rule_is_safe rules.Described = false
rule_is_safe (rules.Heads locals part) = false
rule_is_safe (rules.Head locals part) = false
rule_is_safe (rules.Types part) = false
rule_is_safe (rules.More part) = false
rule_is_safe r = true

-- no instruction comes from it
abbrev rule_is_quiet : Rule → Bool
rule_is_quiet rules.Grammar = false
rule_is_quiet rules.Fields = false
rule_is_quiet rules.Field = false
rule_is_quiet rules.Constant = false
rule_is_quiet rules.Code = false
rule_is_quiet rules.Arms = false
rule_is_quiet r = true

abbrev is_safe : Item → Bool
is_safe (token w m) = not (is_head m)
is_safe (rule r) = rule_is_safe r

abbrev is_quiet : Item → Bool
is_quiet (token w m) = not (is_instruction m)
is_quiet (rule r) = rule_is_quiet r

abbrev pub all_safe : List Item → Bool
all_safe is = list_all is_safe is

abbrev all_quiet : List Item → Bool
all_quiet is = list_all is_quiet is

-- behind an item that an instruction may come from all are safe
abbrev pub is_ordered : List Item → Bool
is_ordered [] = true
is_ordered (i ∷ is) = cond (is_quiet i) (is_ordered is) (all_safe is)

safe_is_ordered : (is : List Item) → all_safe is ≡ true → is_ordered is ≡ true
safe_is_ordered [] h = refl
safe_is_ordered (i ∷ is) h = let below = (and_parts (is_safe i) (all_safe is) h).1 in by below (safe_is_ordered is below) (is_quiet i)
  where
    by : all_safe is ≡ true → is_ordered is ≡ true → (b : Bool) → cond b (is_ordered is) (all_safe is) ≡ true
    by safe ordered true = ordered
    by safe ordered false = safe

ordered_below : (i : Item) (is : List Item) → is_ordered (i ∷ is) ≡ true → is_ordered is ≡ true
ordered_below i is h = by (is_quiet i) h
  where
    by : (b : Bool) → cond b (is_ordered is) (all_safe is) ≡ true → is_ordered is ≡ true
    by true h = h
    by false h = safe_is_ordered is h

ordered_before_safe : (is js : List Item) → is_ordered is ≡ true → all_safe js ≡ true → is_ordered (is ++ js) ≡ true
ordered_before_safe [] js h k = safe_is_ordered js k
ordered_before_safe (i ∷ is) js h k = by (λ h. ordered_before_safe is js h k) (is_quiet i) h
  where
    by : (is_ordered is ≡ true → is_ordered (is ++ js) ≡ true) → (b : Bool) → cond b (is_ordered is) (all_safe is) ≡ true → cond b (is_ordered (is ++ js)) (all_safe (is ++ js)) ≡ true
    by below true h = below h
    by below false h = all_on is_safe is js h k

quiet_before_ordered : (is js : List Item) → all_quiet is ≡ true → is_ordered js ≡ true → is_ordered (is ++ js) ≡ true
quiet_before_ordered [] js h k = k
quiet_before_ordered (i ∷ is) js h k =
    let parts = and_parts (is_quiet i) (all_quiet is) h in
    ap (λ b. cond b (is_ordered (is ++ js)) (all_safe (is ++ js))) parts.0 ∙ quiet_before_ordered is js parts.1 k

-- ---- the table

-- what a mark and the items behind it are, where they come from a safe item
abbrev pub goes_safely : Mark → List Item → Bool
goes_safely m is = is_field m || (not (is_head m) && all_safe is)

-- .. from a quiet one
abbrev goes_quietly : Mark → List Item → Bool
goes_quietly m is = not (is_instruction m) && all_quiet is

-- .. and from one that isn't
abbrev goes_orderly : Mark → List Item → Bool
goes_orderly m is = cond (is_instruction m) (all_safe is) (is_ordered is)

abbrev row_is_safe : Bool → Row → Bool
row_is_safe safe w = cond safe (goes_safely w.mark w.next) true

abbrev row_is_orderly : Bool → Row → Bool
row_is_orderly quiet w = cond quiet (goes_quietly w.mark w.next) (goes_orderly w.mark w.next)

abbrev is_row_of : Rule → Row → Bool
is_row_of r w = row_is_safe (rule_is_safe r) w && row_is_orderly (rule_is_quiet r) w

plain_safe : (p : Plain) → all_safe (plain_immediates p) ≡ true
plain_safe (local_get x) = refl
plain_safe (local_set x) = refl
plain_safe (local_tee x) = refl
plain_safe (global_get x) = refl
plain_safe (global_set x) = refl
plain_safe (load op align offset) = refl
plain_safe (store op align offset) = refl
plain_safe (const32 word) = refl
plain_safe (const64 word) = refl
plain_safe p = refl

immediates_safe : (i : Instruction) → all_safe (immediates i) ≡ true
immediates_safe (block r) = refl
immediates_safe (loop r) = refl
immediates_safe (if_block r) = refl
immediates_safe (br l) = refl
immediates_safe (br_if l) = refl
immediates_safe (br_table ls l) = refl
immediates_safe (call f) = refl
immediates_safe (call_indirect t) = refl
immediates_safe (plain p) = plain_safe p
immediates_safe i = refl

named_row : (w : List ℕ × Instruction) → is_row_of rules.Code (instruction_row w) ≡ true
named_row w =
    let next = immediates w.1 ++ rule rules.Code ∷ [] in
    let safe : all_safe next ≡ true = all_on is_safe (immediates w.1) (rule rules.Code ∷ []) (immediates_safe w.1) refl in
    both (all_safe next) (all_safe next) safe safe

table_rows : (r : Rule) → list_all (is_row_of r) (rows r) ≡ true
unfolding rows
table_rows rules.Grammar = refl
table_rows rules.Name = refl
table_rows (rules.Bound s) = refl
table_rows rules.Fields = refl
table_rows rules.Field = refl
table_rows rules.Described = refl
table_rows rules.Exported = refl
table_rows (rules.Heads l p) = refl
table_rows (rules.Head true Param) = refl
table_rows (rules.Head true Result) = refl
table_rows (rules.Head true Local) = refl
table_rows (rules.Head false Param) = refl
table_rows (rules.Head false Result) = refl
table_rows (rules.Head false Local) = refl
table_rows (rules.Types Param) = refl
table_rows (rules.Types Result) = refl
table_rows (rules.Types Local) = refl
table_rows (rules.More p) = refl
table_rows rules.TableEnd = refl
table_rows rules.Maximum = refl
table_rows rules.Kind = refl
table_rows rules.Constant = refl
table_rows rules.Functions = refl
table_rows rules.Labels = refl
table_rows rules.Strings = refl
table_rows rules.FuncWord = refl
table_rows rules.Code = named_rows (is_row_of rules.Code) named_row instruction_names
table_rows rules.Label = refl
table_rows rules.BlockResult = refl
table_rows rules.Arms = refl
table_rows rules.Offset = refl
table_rows rules.Align = refl

-- ---- a token more

pub record InOrder (m : Mark) (is : List Item) : Type 0 where
  pub ordered : is_ordered is ≡ true
  pub code : is_instruction m ≡ true → all_safe is ≡ true

-- what a token leads to from items that are ordered
pub record Leads (is : List Item) (f : Taken) : Type 0 where
  pub safely : all_safe is ≡ true → goes_safely f.mark f.left ≡ true
  pub in_order : InOrder f.mark f.left

clash : {X : Type 0} (b : Bool) → not b ≡ true → b ≡ true → X
clash true h e = absurd cc
clash false h e = absurd cc

or_right : (a b : Bool) → b ≡ true → (a || b) ≡ true
or_right true b h = refl
or_right false b h = h

token_leads : (w : Want) (m : Mark) (is : List Item) → is_ordered (token w m ∷ is) ≡ true → Leads (token w m ∷ is) (taken m is)
token_leads w m is h = record {
  safely = λ s. or_right (is_field m) (not (is_head m) && all_safe is) s;
  in_order = record {
    ordered = ordered_below (token w m) is h;
    code = λ e. subst (λ b. cond (not b) (is_ordered is) (all_safe is) ≡ true) e h;
  };
}

safely_on : (m : Mark) (is js : List Item) → goes_safely m is ≡ true → all_safe js ≡ true → goes_safely m (is ++ js) ≡ true
safely_on m is js h k = by (is_field m) h
  where
    by : (b : Bool) → (b || (not (is_head m) && all_safe is)) ≡ true → (b || (not (is_head m) && all_safe (is ++ js))) ≡ true
    by true h = refl
    by false h = let parts = and_parts (not (is_head m)) (all_safe is) h in both (not (is_head m)) (all_safe (is ++ js)) parts.0 (all_on is_safe is js parts.1 k)

row_goes_safely : (w : Row) (is : List Item) (safe : Bool) → row_is_safe safe w ≡ true → (safe && all_safe is) ≡ true → goes_safely w.mark (w.next ++ is) ≡ true
row_goes_safely w is true h k = safely_on w.mark w.next is h k
row_goes_safely w is false h k = absurd cc

quietly_on : (m : Mark) (is js : List Item) → goes_quietly m is ≡ true → is_ordered js ≡ true → InOrder m (is ++ js)
quietly_on m is js h k =
    let parts = and_parts (not (is_instruction m)) (all_quiet is) h in record {
      ordered = quiet_before_ordered is js parts.1 k;
      code = λ e. clash (is_instruction m) parts.0 e;
    }

orderly_on : (m : Mark) (is js : List Item) → goes_orderly m is ≡ true → all_safe js ≡ true → InOrder m (is ++ js)
orderly_on m is js h k = by (is_instruction m) refl h
  where
    by : (b : Bool) → is_instruction m ≡ b → cond b (all_safe is) (is_ordered is) ≡ true → InOrder m (is ++ js)
    by true e h = let safe = all_on is_safe is js h k in record { ordered = safe_is_ordered (is ++ js) safe; code = λ _. safe }
    by false e h = record { ordered = ordered_before_safe is js h k; code = λ c. clash (is_instruction m) (ap not e) c }

row_goes_orderly : (w : Row) (is : List Item) (quiet : Bool) → row_is_orderly quiet w ≡ true → cond quiet (is_ordered is) (all_safe is) ≡ true → InOrder w.mark (w.next ++ is)
row_goes_orderly w is true h k = quietly_on w.mark w.next is h k
row_goes_orderly w is false h k = orderly_on w.mark w.next is h k

row_leads : (r : Rule) (w : Row) (is : List Item) → is_ordered (rule r ∷ is) ≡ true → is_row_of r w ≡ true → Leads (rule r ∷ is) (taken w.mark (w.next ++ is))
row_leads r w is h k =
    let parts = and_parts (row_is_safe (rule_is_safe r) w) (row_is_orderly (rule_is_quiet r) w) k in record {
      safely = λ s. row_goes_safely w is (rule_is_safe r) parts.0 s;
      in_order = row_goes_orderly w is (rule_is_quiet r) parts.1 h;
    }

ended_leads : (r : Rule) (is : List Item) (f : Taken) → Leads is f → Leads (rule r ∷ is) f
ended_leads r is f h = record { safely = λ s. h.safely (and_parts (rule_is_safe r) (all_safe is) s).1; in_order = h.in_order }

pub feed_leads : (is : List Item) (c : Class) (f : Taken) → is_ordered is ≡ true → feed is c ≡ Some f → Leads is f
feed_leads [] c f h e = absurd cc
feed_leads (token w m ∷ is) c f h e = by (meets w c) e
  where
    by : (b : Bool) → if_true (Some (taken m is)) b ≡ Some f → Leads (token w m ∷ is) f
    by true e =
        let is_that : taken m is ≡ f = cc in
        subst (Leads (token w m ∷ is)) is_that (token_leads w m is h)
    by false e = absurd cc
feed_leads (rule r ∷ is) c f h e = by (feed_leads is c f (ordered_below (rule r) is h)) (pick (rows r) c) (may_end r) refl e
  where
    by : (feed is c ≡ Some f → Leads is f) → (x : Option Row) (b : Bool) → pick (rows r) c ≡ x → by_row is (if_true (feed is c) b) x ≡ Some f → Leads (rule r ∷ is) f
    by below (Some w) b ep e =
        let is_that : taken w.mark (w.next ++ is) ≡ f = cc in
        subst (Leads (rule r ∷ is)) is_that (row_leads r w is h (picked (is_row_of r) (rows r) c w (table_rows r) ep).0)
    by below None true ep e = ended_leads r is f (below e)
    by below None false ep e = absurd cc

-- ---- tokens that are taken

-- what may still come behind marks
record Standing (ms : List Marked) (is : List Item) : Type 0 where
  pub ordered : is_ordered is ≡ true
  pub code : in_code false ms ≡ true → all_safe is ≡ true
  pub leads : heads_lead false ms ≡ true

safely_no_head : (m : Mark) (is : List Item) → goes_safely m is ≡ true → is_head m ≡ false
safely_no_head (a_field k) is h = refl
safely_no_head m is h = by (is_head m) (and_parts (not (is_head m)) (all_safe is) h).0
  where
    by : (b : Bool) → not b ≡ true → b ≡ false
    by true e = absurd cc
    by false e = refl

code_behind : (b : Bool) (m : Mark) (is : List Item) → (b ≡ true → goes_safely m is ≡ true) → (is_instruction m ≡ true → all_safe is ≡ true) → code_after b m ≡ true → all_safe is ≡ true
code_behind b (a_field k) is old new e = absurd cc
code_behind b (an_instruction i) is old new e = new refl
code_behind b m is old new e = (and_parts (not (is_head m)) (all_safe is) (old e)).1

stands_on : (ms : List Marked) (is js : List Item) (m : Marked) → Standing ms is → Leads is (taken m.mark js) → Standing (ms ++ m ∷ []) js
stands_on ms is js m h l = record {
  ordered = l.in_order.ordered;
  code = λ e. code_behind (in_code false ms) m.mark js (λ c. l.safely (h.code c)) l.in_order.code (sym (code_more false ms m) ∙ e);
  leads = leads_more false ms m h.leads (λ c. safely_no_head m.mark js (l.safely (h.code c)));
}

stands : (ts : List Token) (ms : List Marked) (is : List Item) → AreTaken ts ms is → Standing ms is
stands ts ms is none_taken = record { ordered = refl; code = λ _. refl; leads = refl }
stands us ns js (one_taken {ts = ts} {ms = ms} {is = is} {m = m} t h e) =
    let before = stands ts ms is h in
    stands_on ms is js (marked m t) before (feed_leads is t.class (taken m js) before.ordered e)

-- In no field of the marks of tokens that are taken a head stands behind an instruction.
pub taken_leads : (ts : List Token) (ms : List Marked) (is : List Item) → AreTaken ts ms is → heads_lead false ms ≡ true
taken_leads ts ms is h = (stands ts ms is h).leads
