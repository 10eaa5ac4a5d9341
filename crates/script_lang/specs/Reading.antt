-- A script, or the first line that says nothing of its grammar.
use Rattle.std.specs.Prelude.{ℕ, suc, List, [], ◌∷◌, Option, Some, None, Result, Ok, Err, if◌then◌else◌}
use Rattle.session_lang.specs.Script.{GlobalPlain, WritePlain, CallPlain, ReplyLinePlain, ScriptPlain}
use Rattle.script_lang.specs.Lines.{lines_of, words_of, is_passed_over}
use Rattle.script_lang.specs.Items.{Item, a_global, a_write, a_call, a_reply, item_of}

abbrev pub then_items : ℕ → Option Item → Result (List Item) ℕ → Result (List Item) ℕ
then_items line None items = Err line
then_items line (Some i) (Ok is) = Ok (i ∷ is)
then_items line (Some i) (Err e) = Err e

-- the items of lines of which the first has this number, or the number of the first that isn't in the grammar
abbrev pub items_of : ℕ → List (List ℕ) → Result (List Item) ℕ
items_of line [] = Ok []
items_of line (l ∷ ls) =
    if is_passed_over (words_of l) then items_of (suc line) ls else then_items line (item_of line (words_of l)) (items_of (suc line) ls)

-- ---- by their kinds, each in the order of the lines

abbrev pub globals_of : List Item → List GlobalPlain
globals_of [] = []
globals_of (a_global g ∷ is) = g ∷ globals_of is
globals_of (_ ∷ is) = globals_of is

abbrev pub writes_of : List Item → List WritePlain
writes_of [] = []
writes_of (a_write w ∷ is) = w ∷ writes_of is
writes_of (_ ∷ is) = writes_of is

abbrev pub calls_of : List Item → List CallPlain
calls_of [] = []
calls_of (a_call c ∷ is) = c ∷ calls_of is
calls_of (_ ∷ is) = calls_of is

abbrev pub replies_of : List Item → List ReplyLinePlain
replies_of [] = []
replies_of (a_reply r ∷ is) = r ∷ replies_of is
replies_of (_ ∷ is) = replies_of is

abbrev pub collected : List Item → ScriptPlain
collected is = record { globals = globals_of is; writes = writes_of is; calls = calls_of is; replies = replies_of is }

abbrev pub if_all : Result (List Item) ℕ → Result ScriptPlain ℕ
if_all (Ok is) = Ok (collected is)
if_all (Err line) = Err line

-- the script that a text says, or the first line that isn't in the grammar; lines count from 1
unfoldable pub said_script : List ℕ → Result ScriptPlain ℕ
said_script text = if_all (items_of 1 (lines_of text))
