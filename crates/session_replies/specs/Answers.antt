-- What the code says of replies and answers, as the plain values of `session_lang`.
use Rattle.std.specs.Prelude.{◌≡◌, List, [], ◌∷◌, Option, Some, None, map}
use Rattle.session_lang.specs.declared.observation.Event.{Event}
use Rattle.session_lang.specs.Script.{ReplyLinePlain}
use Rattle.session_lang.specs.Observation.{EventPlain}
use Rattle.session_lang.specs.Imports as imports
use Rattle.session_lang.specs.Imports.{ImportAnswer, goes_on, ends}
use Rattle.session_lang.specs.Views.{write_of, reply_line_of, event_of, end_of}
use Rattle.session_replies.specs.declared.answering.Replies.{Replies}
use Rattle.session_replies.specs.declared.answering.Given.{Given}
use Rattle.session_replies.specs.declared.answering.Answer.{Answer}
use Rattle.session_replies.specs.declared.answering.Answer.TheVariants.{Goes, Ends}

-- the replies that are left, and the last word that one gave
abbrev pub replies_of : Replies → imports.Replies
replies_of r = record { left = map (λ (l : ReplyLinePlain). l.reply) (map reply_line_of r.left.now); last = r.last }

abbrev pub events_of : Option Event → List EventPlain
events_of None = []
events_of (Some e) = event_of e ∷ []

abbrev pub given_of : Given → imports.Replies → imports.Given
given_of g after = record { word = g.word; writes = map write_of g.writes.now; events = events_of g.event; replies = after }

-- an answer, with the replies after it
abbrev pub answer_of : Answer → imports.Replies → ImportAnswer
answer_of (Goes g) after = goes_on (given_of g after)
answer_of (Ends e) after = ends (end_of e)

-- an answer that ends the session takes no reply
abbrev pub KeepsAtEnd : Answer → imports.Replies → imports.Replies → Type 0
KeepsAtEnd (Goes g) before after = Unit {0}
KeepsAtEnd (Ends e) before after = after ≡ before
