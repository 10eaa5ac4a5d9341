-- A script that fits writes bytes, where the module's tests ask for them.
use Rattle.std.proofs.Common.{◌≡◌, ℕ, suc, ◌<◌, Bool, true, false, List, [], ◌∷◌, Some, refl, arith}
use Rattle.std.proofs.lemmas.Bool.Decides.{nat_tests}
use Rattle.std.specs.Prelude.{All, slice_get, nat_lt}
use Rattle.std.specs.List.{AllByRecursion, list_all}
use Rattle.std.proofs.lemmas.List.Elements.{All-nil, All-cons, recursion_from_All}
use Rattle.heap_lang.specs.Numbers.{IsBytes}
use Rattle.session_lang.specs.Script.{WritePlain, ReplyLinePlain, ScriptPlain}
use Rattle.session_lang.specs.Fits.{Tests, writes_of, are_bytes}
use Rattle.session_lang.specs.FitLaws.{a_write, a_reply, Fits}
use Rattle.session_lang.specs.Written.{AreBytes, WritesBytes, AskForBytes, WhatFitsWritesBytes}
use Rattle.session_lang.proofs.Misfits.{both, both_first, both_second, no_misfit_fits}

byte_is : (b : ℕ) → nat_lt b 256 ≡ true → b < 256
byte_is b h = grind (arith, nat_tests)

bytes_are : (bs : List ℕ) → are_bytes bs ≡ true → IsBytes bs
bytes_are [] h = All-nil (λ b. b < 256)
bytes_are (b ∷ bs) h = All-cons (λ b. b < 256) b bs (byte_is b (both_first (nat_lt b 256) (are_bytes bs) h)) (bytes_are bs (both_second (nat_lt b 256) (are_bytes bs) h))

test_of_byte : (b : ℕ) → b < 256 → nat_lt b 256 ≡ true
test_of_byte b h = grind (arith, nat_tests)

pub test_of_bytes : (bs : List ℕ) → All (λ b. b < 256) bs → are_bytes bs ≡ true
test_of_bytes bs h = by bs (recursion_from_All (λ b. b < 256) bs h)
  where
    by : (bs : List ℕ) → AllByRecursion (λ b. b < 256) bs → are_bytes bs ≡ true
    by [] h = refl
    by (b ∷ bs) h = both (nat_lt b 256) (are_bytes bs) (test_of_byte b h.0) (by bs h.1)

writes_are : (ws : List WritePlain) → list_all (λ (w : WritePlain). are_bytes w.bytes) ws ≡ true → AreBytes ws
writes_are [] h = All-nil (λ (w : WritePlain). IsBytes w.bytes)
writes_are (w ∷ ws) h =
    All-cons (λ (w : WritePlain). IsBytes w.bytes) w ws (bytes_are w.bytes (both_first (are_bytes w.bytes) (list_all (λ (w : WritePlain). are_bytes w.bytes) ws) h))
    (writes_are ws (both_second (are_bytes w.bytes) (list_all (λ (w : WritePlain). are_bytes w.bytes) ws) h))

-- what holds at each place holds of all
at_places : {A : Type 0} → (P : A → Type 0) (xs : List A) → ((i : ℕ) (x : A) → slice_get xs i ≡ Some x → P x) → All P xs
at_places P [] h = All-nil P
at_places P (x ∷ xs) h = All-cons P x xs (h 0 x refl) (at_places P xs (λ i y e. h (suc i) y e))

not_false : (b : Bool) → (b ≡ false → ⊥) → b ≡ true
not_false true h = refl
not_false false h = absurd (h refl)

module _ (tests : Tests) (s : ScriptPlain) (ask : AskForBytes tests) (fits : Fits tests s) where
  write_is : (i : ℕ) (w : WritePlain) → slice_get s.writes i ≡ Some w → IsBytes w.bytes
  write_is i w there = bytes_are w.bytes (ask.of_write w (not_false (tests.fits_write w) (λ h. fits.all_fit w.line (a_write i w there h))))

  reply_is : (i : ℕ) (r : ReplyLinePlain) → slice_get s.replies i ≡ Some r → AreBytes (writes_of r.reply)
  reply_is i r there = writes_are (writes_of r.reply) (ask.of_reply r.reply (not_false (tests.fits_reply r.reply) (λ h. fits.all_fit r.line (a_reply i r there h))))

  fitting_writes : WritesBytes s
  fitting_writes = record {
    before = at_places (λ (w : WritePlain). IsBytes w.bytes) s.writes write_is;
    replied = at_places (λ (r : ReplyLinePlain). AreBytes (writes_of r.reply)) s.replies reply_is;
  }

pub what_fits_writes_bytes : WhatFitsWritesBytes
what_fits_writes_bytes tests s ask none = fitting_writes tests s ask (no_misfit_fits tests s none)
