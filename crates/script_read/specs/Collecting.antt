-- A script as far as it is read, before what is still to come.
use Rattle.std.specs.Prelude.{ℕ, List, [], ◌∷◌, ◌++◌, Option, Some, None, Result, Ok, Err, ◌≡◌, if◌then◌else◌}
use Rattle.session_lang.specs.Script.{ScriptPlain}
use Rattle.script_read.specs.declared.fault.ScriptFault.{ScriptFault}
use Rattle.script_read.specs.declared.fault.ScriptFault.TheVariants.{Refused, Memory}
use Rattle.script_lang.specs.Lines.{is_passed_over}
use Rattle.script_lang.specs.Items.{Item, a_global, a_write, a_call, a_reply, item_of}
use Rattle.script_lang.specs.Reading.{collected}

abbrev pub no_script : ScriptPlain
no_script = record { globals = []; writes = []; calls = []; replies = [] }

-- the script with one more line of its kind
abbrev pub with_item : ScriptPlain → Item → ScriptPlain
with_item s (a_global g) = record { globals = s.globals ++ g ∷ []; writes = s.writes; calls = s.calls; replies = s.replies }
with_item s (a_write w) = record { globals = s.globals; writes = s.writes ++ w ∷ []; calls = s.calls; replies = s.replies }
with_item s (a_call c) = record { globals = s.globals; writes = s.writes; calls = s.calls ++ c ∷ []; replies = s.replies }
with_item s (a_reply r) = record { globals = s.globals; writes = s.writes; calls = s.calls; replies = s.replies ++ r ∷ [] }

abbrev pub with_item_of : ℕ → ScriptPlain → Option Item → Result ScriptPlain ℕ
with_item_of line s None = Err line
with_item_of line s (Some i) = Ok (with_item s i)

-- the script after one more line, of which these are the words
abbrev pub after_line : ℕ → List (List ℕ) → ScriptPlain → Result ScriptPlain ℕ
after_line line words s = if is_passed_over words then Ok s else with_item_of line s (item_of line words)

abbrev pub joined : ScriptPlain → ScriptPlain → ScriptPlain
joined s t = record { globals = s.globals ++ t.globals; writes = s.writes ++ t.writes; calls = s.calls ++ t.calls; replies = s.replies ++ t.replies }

-- what is read so far, before what is still to come
abbrev pub put_before : ScriptPlain → Result (List Item) ℕ → Result ScriptPlain ℕ
put_before s (Ok is) = Ok (joined s (collected is))
put_before s (Err line) = Err line

-- a refusal names the first line that isn't in the grammar
abbrev pub IsRefusal : Result ScriptPlain ℕ → ScriptFault → Type 0
IsRefusal said (Refused line) = said ≡ Err line
IsRefusal said Memory = Unit {0}
