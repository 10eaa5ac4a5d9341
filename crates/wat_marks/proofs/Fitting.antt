-- A token that the grammar marks is a string exactly where its mark is that of one.
use Rattle.std.proofs.Common.{◌≡◌, ℕ, Bool, true, false, ◌&&◌, List, [], ◌∷◌, ◌++◌, Option, Some, None, refl, ◌∙◌, subst}
use Rattle.std.specs.List.{list_all}
use Rattle.std.proofs.lemmas.Bool.{and_parts}
use Rattle.wasm_lang.specs.Instructions.{Plain, local_get, local_set, local_tee, global_get, global_set, load, store, const32, const64, Instruction, block, loop, if_block, br, br_if, br_table, call, call_indirect, plain}
use Rattle.wat_lang.specs.declared.parts.Rule.{Rule}
use Rattle.wat_lang.specs.declared.parts.Rule.TheVariants as rules
use Rattle.wat_lang.specs.declared.parts.Part.TheVariants.{Param, Result, Local}
use Rattle.wat_lang.specs.Tokens.{Class, string}
use Rattle.wat_lang.specs.Words.{instruction_names}
use Rattle.wat_lang.specs.Grammar.{Want, a_string, Mark, Item, token, rule, Row, rows, may_end, meets, is_string, immediates, plain_immediates, instruction_row}
use Rattle.wat_laws_grammar.specs.Machine.{pick, Taken, taken, if_true, by_row, feed}
use Rattle.wat_marks.specs.Strings.{reads_string, wants_string, same, item_fits, all_fit}
use Rattle.wat_marks.proofs.Rows.{all_on, picked, named_rows}

abbrev row_fits : Row → Bool
row_fits w = same (wants_string w.want) (reads_string w.mark) && all_fit w.next

same_is : (a b : Bool) → same a b ≡ true → a ≡ b
same_is true true h = refl
same_is false false h = refl
same_is true false h = absurd cc
same_is false true h = absurd cc

meets_string : (w : Want) (c : Class) → meets w c ≡ true → is_string c ≡ wants_string w
meets_string a_string (string v) h = refl
meets_string a_string c h = absurd cc
meets_string w (string v) h = absurd cc
meets_string w c h = refl

-- ---- the table

plain_fit : (p : Plain) → all_fit (plain_immediates p) ≡ true
plain_fit (local_get x) = refl
plain_fit (local_set x) = refl
plain_fit (local_tee x) = refl
plain_fit (global_get x) = refl
plain_fit (global_set x) = refl
plain_fit (load op align offset) = refl
plain_fit (store op align offset) = refl
plain_fit (const32 word) = refl
plain_fit (const64 word) = refl
plain_fit p = refl

immediates_fit : (i : Instruction) → all_fit (immediates i) ≡ true
immediates_fit (block r) = refl
immediates_fit (loop r) = refl
immediates_fit (if_block r) = refl
immediates_fit (br l) = refl
immediates_fit (br_if l) = refl
immediates_fit (br_table ls l) = refl
immediates_fit (call f) = refl
immediates_fit (call_indirect t) = refl
immediates_fit (plain p) = plain_fit p
immediates_fit i = refl

named_fits : (w : List ℕ × Instruction) → row_fits (instruction_row w) ≡ true
named_fits w = all_on item_fits (immediates w.1) (rule rules.Code ∷ []) (immediates_fit w.1) refl

table_fits : (r : Rule) → list_all row_fits (rows r) ≡ true
unfolding rows
table_fits rules.Grammar = refl
table_fits rules.Name = refl
table_fits (rules.Bound s) = refl
table_fits rules.Fields = refl
table_fits rules.Field = refl
table_fits rules.Described = refl
table_fits rules.Exported = refl
table_fits (rules.Heads l p) = refl
table_fits (rules.Head true Param) = refl
table_fits (rules.Head true Result) = refl
table_fits (rules.Head true Local) = refl
table_fits (rules.Head false Param) = refl
table_fits (rules.Head false Result) = refl
table_fits (rules.Head false Local) = refl
table_fits (rules.Types Param) = refl
table_fits (rules.Types Result) = refl
table_fits (rules.Types Local) = refl
table_fits (rules.More p) = refl
table_fits rules.TableEnd = refl
table_fits rules.Maximum = refl
table_fits rules.Kind = refl
table_fits rules.Constant = refl
table_fits rules.Functions = refl
table_fits rules.Labels = refl
table_fits rules.Strings = refl
table_fits rules.FuncWord = refl
table_fits rules.Code = named_rows row_fits named_fits instruction_names
table_fits rules.Label = refl
table_fits rules.BlockResult = refl
table_fits rules.Arms = refl
table_fits rules.Offset = refl
table_fits rules.Align = refl

-- ---- a token more

-- what a token of the class leads to
pub record Fits (c : Class) (f : Taken) : Type 0 where
  pub mark : is_string c ≡ reads_string f.mark
  pub left : all_fit f.left ≡ true

at_mark : (w : Want) (m : Mark) (c : Class) → same (wants_string w) (reads_string m) ≡ true → meets w c ≡ true → is_string c ≡ reads_string m
at_mark w m c h e = meets_string w c e ∙ same_is (wants_string w) (reads_string m) h

pub feed_fits : (is : List Item) (c : Class) (f : Taken) → all_fit is ≡ true → feed is c ≡ Some f → Fits c f
feed_fits [] c f h e = absurd cc
feed_fits (token w m ∷ is) c f h e = by (meets w c) refl e
  where
    by : (b : Bool) → meets w c ≡ b → if_true (Some (taken m is)) b ≡ Some f → Fits c f
    by true eb e =
        let parts = and_parts (same (wants_string w) (reads_string m)) (all_fit is) h in
        let is_that : taken m is ≡ f = cc in
        subst (Fits c) is_that (record { mark = at_mark w m c parts.0 eb; left = parts.1 })
    by false eb e = absurd cc
feed_fits (rule r ∷ is) c f h e = by (feed_fits is c f h) (pick (rows r) c) (may_end r) refl e
  where
    by : (feed is c ≡ Some f → Fits c f) → (x : Option Row) (b : Bool) → pick (rows r) c ≡ x → by_row is (if_true (feed is c) b) x ≡ Some f → Fits c f
    by below (Some w) b ep e =
        let at = picked row_fits (rows r) c w (table_fits r) ep in
        let parts = and_parts (same (wants_string w.want) (reads_string w.mark)) (all_fit w.next) at.0 in
        let is_that : taken w.mark (w.next ++ is) ≡ f = cc in
        subst (Fits c) is_that (record { mark = at_mark w.want w.mark c parts.0 at.1; left = all_on item_fits w.next is parts.1 h })
    by below None true ep e = below e
    by below None false ep e = absurd cc
