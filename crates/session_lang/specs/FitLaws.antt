-- What a misfit is, of each part of a script by itself.
use Rattle.std.specs.Prelude.{◌≡◌, ◌⊎◌, ℕ, ◌≤◌, List, true, false, Some, None, take, slice_get}
use Rattle.session_lang.specs.Script.{GlobalPlain, WritePlain, CallPlain, ReplyLinePlain, ScriptPlain}
use Rattle.session_lang.specs.Fits.{Tests, is_given, misfit}

-- a part of the script on this line doesn't fit
pub data IsUnfit (tests : Tests) (s : ScriptPlain) : ℕ → Type 0 where
  a_global : (i : ℕ) (g : GlobalPlain) → slice_get s.globals i ≡ Some g → tests.fits_global (take i s.globals) g ≡ false → IsUnfit tests s g.line
  a_write : (i : ℕ) (w : WritePlain) → slice_get s.writes i ≡ Some w → tests.fits_write w ≡ false → IsUnfit tests s w.line
  a_call : (i : ℕ) (c : CallPlain) → slice_get s.calls i ≡ Some c → tests.fits_call c ≡ false → IsUnfit tests s c.line
  a_reply : (i : ℕ) (r : ReplyLinePlain) → slice_get s.replies i ≡ Some r → tests.fits_reply r.reply ≡ false → IsUnfit tests s r.line

-- all parts fit, and each imported global has a line
pub record Fits (tests : Tests) (s : ScriptPlain) : Type 0 where
  pub all_fit : (line : ℕ) → IsUnfit tests s line → ⊥
  pub all_given : (i : ℕ) (name : List ℕ) → slice_get tests.imports i ≡ Some name → is_given s.globals name ≡ true

-- no part that doesn't fit is on an earlier line
pub record IsFirstUnfit (tests : Tests) (s : ScriptPlain) (line : ℕ) : Type 0 where
  pub is_unfit : IsUnfit tests s line
  pub is_first : (other : ℕ) → IsUnfit tests s other → line ≤ other

-- all parts fit, and an imported global has no line
pub record HasMissing (tests : Tests) (s : ScriptPlain) : Type 0 where
  pub all_fit : (line : ℕ) → IsUnfit tests s line → ⊥
  pub place : ℕ
  pub name : List ℕ
  pub is_imported : slice_get tests.imports place ≡ Some name
  pub is_missing : is_given s.globals name ≡ false

abbrev pub NoMisfitFits : Type 0
NoMisfitFits = (tests : Tests) (s : ScriptPlain) → misfit tests s ≡ None → Fits tests s

abbrev pub WhatFitsHasNoMisfit : Type 0
WhatFitsHasNoMisfit = (tests : Tests) (s : ScriptPlain) → Fits tests s → misfit tests s ≡ None

abbrev pub MisfitIsFirst : Type 0
MisfitIsFirst = (tests : Tests) (s : ScriptPlain) (line : ℕ) → misfit tests s ≡ Some line → IsFirstUnfit tests s line ⊎ ((line ≡ 0) × HasMissing tests s)
