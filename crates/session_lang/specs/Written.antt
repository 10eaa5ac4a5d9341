-- What a script writes that fits a module: bytes, where the module's tests ask for them.
use Rattle.std.specs.Prelude.{◌≡◌, List, true, None, All}
use Rattle.std.specs.List.{list_all}
use Rattle.heap_lang.specs.Numbers.{IsBytes}
use Rattle.session_lang.specs.Script.{WritePlain, ReplyPlain, ReplyLinePlain, ScriptPlain}
use Rattle.session_lang.specs.Fits.{Tests, writes_of, are_bytes, misfit}

abbrev pub AreBytes : List WritePlain → Type 0
AreBytes ws = All (λ (w : WritePlain). IsBytes w.bytes) ws

-- by its lines and by its replies
pub record WritesBytes (s : ScriptPlain) : Type 0 where
  pub before : AreBytes s.writes
  pub replied : All (λ (r : ReplyLinePlain). AreBytes (writes_of r.reply)) s.replies

pub record AskForBytes (tests : Tests) : Type 0 where
  pub of_write : (w : WritePlain) → tests.fits_write w ≡ true → are_bytes w.bytes ≡ true
  pub of_reply : (r : ReplyPlain) → tests.fits_reply r ≡ true → list_all (λ (w : WritePlain). are_bytes w.bytes) (writes_of r) ≡ true

abbrev pub WhatFitsWritesBytes : Type 0
WhatFitsWritesBytes = (tests : Tests) (s : ScriptPlain) → AskForBytes tests → misfit tests s ≡ None → WritesBytes s
