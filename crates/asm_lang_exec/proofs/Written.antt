-- A script that fits a module of asm.js writes bytes.
use Rattle.std.proofs.Common.{◌≡◌, ℕ, true, List, [], ◌∷◌, None, refl}
use Rattle.std.specs.Prelude.{◌+◌, ◌&&◌, length, nat_le}
use Rattle.std.specs.List.{list_all}
use Rattle.session_lang.specs.Script.{WritePlain, ReplyPlain, ScriptPlain}
use Rattle.session_lang.specs.Fits.{writes_of, are_bytes}
use Rattle.session_lang.specs.Written.{WritesBytes, AskForBytes}
use Rattle.session_lang.proofs.Misfits.{both, both_first, both_second}
use Rattle.session_lang.proofs.Written.{what_fits_writes_bytes}
use Rattle.asm_lang.specs.Modules.{Module}
use Rattle.asm_lang_valid.specs.Refusal.{has_heap}
use Rattle.asm_lang_exec.specs.Fits.{fits_write, tests, misfit}

module _ (m : Module) (size : ℕ) where
  of_write : (w : WritePlain) → fits_write m size w ≡ true → are_bytes w.bytes ≡ true
  of_write w h = both_first (are_bytes w.bytes) (has_heap m && nat_le (w.at + length w.bytes) size) h

  of_writes : (ws : List WritePlain) → list_all (fits_write m size) ws ≡ true → list_all (λ (w : WritePlain). are_bytes w.bytes) ws ≡ true
  of_writes [] h = refl
  of_writes (w ∷ ws) h =
      both (are_bytes w.bytes) (list_all (λ (w : WritePlain). are_bytes w.bytes) ws)
      (of_write w (both_first (fits_write m size w) (list_all (fits_write m size) ws) h)) (of_writes ws (both_second (fits_write m size w) (list_all (fits_write m size) ws) h))

  ask : AskForBytes (tests m size)
  ask = record { of_write = of_write; of_reply = λ (r : ReplyPlain) h. of_writes (writes_of r) h }

pub fitting_writes : (m : Module) (size : ℕ) (s : ScriptPlain) → misfit m size s ≡ None → WritesBytes s
fitting_writes m size s h = what_fits_writes_bytes (tests m size) s (ask m size) h
