-- A script, line by line.
use Rattle.std.proofs.Common.{◌≡◌, ◌∙◌, ℕ, suc, ◌+◌, Bool, true, false, cond, refl, sym, ap, arith, List, [], ◌∷◌, ◌++◌, Option, Some, None, Result, Ok, Err, append_assoc, subst}
use Rattle.std.specs.Prelude.{MatchResult}
use Rattle.std.proofs.lemmas.List.{append-nil, map_push}
use Rattle.sem_words.specs.Lists.{list_items}
use Rattle.sem_words.specs.declared.list.List.{List as Listed}
use Rattle.session_lang.specs.declared.script.Script.{Script}
use Rattle.session_lang.specs.declared.script.GlobalLine.{GlobalLine}
use Rattle.session_lang.specs.declared.script.WriteLine.{WriteLine}
use Rattle.session_lang.specs.declared.script.CallLine.{CallLine}
use Rattle.session_lang.specs.declared.script.ReplyLine.{ReplyLine}
use Rattle.session_lang.specs.Views.{script_of, global_of, write_of, call_of, reply_line_of}
use Rattle.session_lang.specs.Script.{ScriptPlain}
use Rattle.script_read.specs.declared.fault.ScriptFault.{ScriptFault}
use Rattle.script_read.specs.declared.fault.ScriptFault.TheVariants.{Refused, Memory}
use Rattle.script_lang.specs.Lines.{lines_of, words_of, is_passed_over}
use Rattle.script_lang.specs.Items.{Item, a_global, a_write, a_call, a_reply, item_of}
use Rattle.script_lang.specs.Reading.{said_script, items_of, then_items, collected, if_all}
use Rattle.script_read.specs.Collecting.{no_script, with_item, with_item_of, after_line, joined, put_before, IsRefusal}

before_all : (r : Result (List Item) ℕ) → if_all r ≡ put_before no_script r
before_all (Ok is) = refl
before_all (Err line) = refl

pub begins : (text : List ℕ) → said_script text ≡ put_before no_script (items_of 1 (lines_of text))
unfolding said_script
begins text = before_all (items_of 1 (lines_of text))

pub ends : (s : ScriptPlain) (line : ℕ) → put_before s (items_of line []) ≡ Ok s
ends s line = rw (append-nil s.globals, append-nil s.writes, append-nil s.calls, append-nil s.replies) refl

one_more : {A : Type 0} (xs : List A) (x : A) (ys : List A) → xs ++ x ∷ ys ≡ (xs ++ x ∷ []) ++ ys
one_more xs x ys = sym (append_assoc xs (x ∷ []) ys)

item_before : (s : ScriptPlain) (i : Item) (is : List Item) → joined s (collected (i ∷ is)) ≡ joined (with_item s i) (collected is)
item_before s (a_global g) is = rw (one_more s.globals g (collected is).globals) refl
item_before s (a_write w) is = rw (one_more s.writes w (collected is).writes) refl
item_before s (a_call c) is = rw (one_more s.calls c (collected is).calls) refl
item_before s (a_reply r) is = rw (one_more s.replies r (collected is).replies) refl

-- ---- one line, by whether it is passed over and what it says

goes_by : (skipped : Bool) (item : Option Item) (line : ℕ) (s t : ScriptPlain) (rest : Result (List Item) ℕ)
    → cond skipped (Ok s) (with_item_of line s item) ≡ Ok t → put_before s (cond skipped rest (then_items line item rest)) ≡ put_before t rest
goes_by true item line s t rest e = let same : s ≡ t = cc in ap (λ x. put_before x rest) same
goes_by false None line s t rest e = absurd (cc)
goes_by false (Some i) line s t (Ok is) e = let same : with_item s i ≡ t = cc in ap Ok (item_before s i is) ∙ ap (λ x. Ok (joined x (collected is))) same
goes_by false (Some i) line s t (Err n) e = refl

stops_by : (skipped : Bool) (item : Option Item) (line n : ℕ) (s : ScriptPlain) (rest : Result (List Item) ℕ)
    → cond skipped (Ok s) (with_item_of line s item) ≡ Err n → put_before s (cond skipped rest (then_items line item rest)) ≡ Err n
stops_by true item line n s rest e = absurd (cc)
stops_by false None line n s rest e = cc
stops_by false (Some i) line n s rest e = absurd (cc)

one_on : (line : ℕ) → line + 1 ≡ suc line
one_on line = omega arith

pub goes_on : (said : Result ScriptPlain ℕ) (line : ℕ) (s t : ScriptPlain) (lines : List (List ℕ)) (l : List ℕ) (ls : List (List ℕ))
    → said ≡ put_before s (items_of line lines) → lines ≡ l ∷ ls → after_line line (words_of l) s ≡ Ok t → said ≡ put_before t (items_of (line + 1) ls)
goes_on said line s t lines l ls so cut e =
    rw (one_on line) (so ∙ ap (λ x. put_before s (items_of line x)) cut ∙ goes_by (is_passed_over (words_of l)) (item_of line (words_of l)) line s t (items_of (suc line) ls) e)

pub stops : (said : Result ScriptPlain ℕ) (line : ℕ) (s : ScriptPlain) (lines : List (List ℕ)) (l : List ℕ) (ls : List (List ℕ)) (f : ScriptFault)
    → said ≡ put_before s (items_of line lines) → lines ≡ l ∷ ls → IsRefusal (after_line line (words_of l) s) f → IsRefusal said f
stops said line s lines l ls (Refused n) so cut e =
    so ∙ ap (λ x. put_before s (items_of line x)) cut ∙ stops_by (is_passed_over (words_of l)) (item_of line (words_of l)) line n s (items_of (suc line) ls) e
stops said line s lines l ls Memory so cut e = tt

-- ---- a script with one more line

pub global_pushed : (s : Script) (l : Listed GlobalLine) (g : GlobalLine) → list_items l ≡ list_items s.globals ++ g ∷ []
    → script_of (record { globals = l; writes = s.writes; calls = s.calls; replies = s.replies }) ≡ with_item (script_of s) (a_global (global_of g))
global_pushed s l g e = rw (e, map_push global_of (list_items s.globals) g) refl

pub write_pushed : (s : Script) (l : Listed WriteLine) (w : WriteLine) → list_items l ≡ list_items s.writes ++ w ∷ []
    → script_of (record { globals = s.globals; writes = l; calls = s.calls; replies = s.replies }) ≡ with_item (script_of s) (a_write (write_of w))
write_pushed s l w e = rw (e, map_push write_of (list_items s.writes) w) refl

pub call_pushed : (s : Script) (l : Listed CallLine) (c : CallLine) → list_items l ≡ list_items s.calls ++ c ∷ []
    → script_of (record { globals = s.globals; writes = s.writes; calls = l; replies = s.replies }) ≡ with_item (script_of s) (a_call (call_of c))
call_pushed s l c e = rw (e, map_push call_of (list_items s.calls) c) refl

pub reply_pushed : (s : Script) (l : Listed ReplyLine) (r : ReplyLine) → list_items l ≡ list_items s.replies ++ r ∷ []
    → script_of (record { globals = s.globals; writes = s.writes; calls = s.calls; replies = l }) ≡ with_item (script_of s) (a_reply (reply_line_of r))
reply_pushed s l r e = rw (e, map_push reply_line_of (list_items s.replies) r) refl

-- ---- a line by its words

pub passed_over : (line : ℕ) (ws : List (List ℕ)) (s : ScriptPlain) → is_passed_over ws ≡ true → after_line line ws s ≡ Ok s
passed_over line ws s skipped = rw skipped refl

pub taken : (line : ℕ) (ws : List (List ℕ)) (s t : ScriptPlain) (i : Item) → is_passed_over ws ≡ false → Some i ≡ item_of line ws → t ≡ with_item s i
    → after_line line ws s ≡ Ok t
taken line ws s t i says is new = rw (says, ← is, new) refl

pub refused : (line : ℕ) (ws : List (List ℕ)) (s : ScriptPlain) → is_passed_over ws ≡ false → None ≡ item_of line ws → after_line line ws s ≡ Err line
refused line ws s says is = rw (says, ← is) refl

-- ---- as the code answers

pub err_script : (r : Result Script ScriptFault) (said : Result ScriptPlain ℕ) (f : ScriptFault) → r ≡ Err f → IsRefusal said f
    → MatchResult r (λ s. said ≡ Ok (script_of s)) (IsRefusal said)
err_script r said f is told = subst (λ (x : Result Script ScriptFault). MatchResult x (λ s. said ≡ Ok (script_of s)) (IsRefusal said)) (sym is) told
