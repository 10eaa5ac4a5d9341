-- A script whose heap line writes 256 doesn't write bytes, nor does one whose reply does.
use Rattle.std.proofs.Common.{◌<◌, [], ◌∷◌, arith}
use Rattle.std.proofs.lemmas.List.Elements.{All-head}
use Rattle.heap_lang.specs.Numbers.{IsBytes}
use Rattle.session_lang.specs.Script.{WritePlain, give, ReplyLinePlain, ScriptPlain}
use Rattle.session_lang.specs.Fits.{writes_of as replied_writes}
use Rattle.session_lang.specs.Written.{AreBytes, WritesBytes}

abbrev too_large : WritePlain
too_large = record { at = 0; bytes = 256 ∷ []; line = 1 }

abbrev by_a_line : ScriptPlain
by_a_line = record { globals = []; writes = too_large ∷ []; calls = []; replies = [] }

abbrev by_a_reply : ScriptPlain
by_a_reply = record { globals = []; writes = []; calls = []; replies = record { reply = give 0 (too_large ∷ []); line = 1 } ∷ [] }

no_byte : AreBytes (too_large ∷ []) → ⊥
no_byte h = let lt = All-head (λ b. b < 256) 256 [] (All-head (λ (w : WritePlain). IsBytes w.bytes) too_large [] h) in omega (arith, lt)

no_line : WritesBytes by_a_line → ⊥
no_line h = no_byte h.before

no_reply : WritesBytes by_a_reply → ⊥
no_reply h = no_byte (All-head (λ (r : ReplyLinePlain). AreBytes (replied_writes r.reply)) (record { reply = give 0 (too_large ∷ []); line = 1 }) [] h.replied)
