-- How a call of an import is answered, in both languages.
use Rattle.std.specs.Prelude.{ℕ, ◌/◌, ◌%◌, ◌^◌, List, [], ◌∷◌, if◌then◌else◌, codes, map}
use Rattle.std.specs.Str.{bytes_eq}
use Rattle.sem_words.specs.declared.word.Word.{Word}
use Rattle.session_lang.specs.Script.{WritePlain, ReplyPlain, give, throw, ScriptPlain}
use Rattle.session_lang.specs.Observation.{EventPlain, import_called, EndPlain, stopped, no_reply, trap_name}

-- the low and the high 32 bits of a 64-bit word
abbrev pub low_word : ℕ → ℕ
low_word word = word % 2 ^ 32

abbrev pub high_word : ℕ → ℕ
high_word word = word / 2 ^ 32

-- the import that gives the high bits of the last reply
abbrev pub high_name : List ℕ
high_name = codes "$high"

-- the replies that are left, and the last word that one gave, which is 0 where none was given
pub record Replies : Type 0 where
  pub left : List ReplyPlain
  pub last : ℕ

-- a session's replies as it begins
abbrev pub first_replies : ScriptPlain → Replies
first_replies script = record { left = map (λ r. r.reply) script.replies; last = 0 }

-- the caller goes on: the byte writes are made first, in order, then the events are added; of the word the caller gets its low 32 bits, all its bits or nothing, by its signature
pub record Given : Type 0 where
  pub word : ℕ
  pub writes : List WritePlain
  pub events : List EventPlain
  pub replies : Replies

pub data ImportAnswer : Type 0 where
  goes_on : Given → ImportAnswer
  ends : EndPlain → ImportAnswer

-- an import without a fixed name takes the next reply
abbrev pub take_reply : List ℕ → List Word → List ReplyPlain → ImportAnswer
take_reply name args [] = ends (no_reply name args)
take_reply name args (throw ∷ left) = ends (stopped name args)
take_reply name args (give word writes ∷ left) =
    goes_on (record { word = word; writes = writes; events = import_called name args ∷ []; replies = record { left = left; last = word } })

-- `$trap` ends the session; `$high` gives the high bits of the last reply and isn't an event; neither takes a reply
abbrev pub answer_import : List ℕ → List Word → Replies → ImportAnswer
answer_import name args replies =
    if bytes_eq name trap_name then ends (stopped name args)
    else if bytes_eq name high_name then goes_on (record { word = high_word replies.last; writes = []; events = []; replies = replies })
    else take_reply name args replies.left
