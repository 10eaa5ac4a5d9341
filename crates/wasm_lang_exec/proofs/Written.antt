-- A script that fits a module of WebAssembly writes bytes.
use Rattle.std.proofs.Common.{◌≡◌, ℕ, true, List, [], ◌∷◌, Option, Some, None, refl}
use Rattle.std.specs.Prelude.{◌+◌, ◌*◌, length, nat_le}
use Rattle.std.specs.List.{list_all}
use Rattle.session_lang.specs.Script.{WritePlain, ReplyPlain, ScriptPlain}
use Rattle.session_lang.specs.Fits.{writes_of, are_bytes}
use Rattle.session_lang.specs.Written.{WritesBytes, AskForBytes}
use Rattle.session_lang.proofs.Misfits.{both, both_first, both_second}
use Rattle.session_lang.proofs.Written.{what_fits_writes_bytes}
use Rattle.wasm_lang.specs.Modules.{WasmModule}
use Rattle.wasm_lang_valid.specs.Runnable.{imported_pages, pages}
use Rattle.wasm_lang_exec.specs.Store.{page}
use Rattle.wasm_lang_exec.specs.Fits.{lies_in, tests, misfit}

of_write : (pages : Option ℕ) (w : WritePlain) → lies_in pages w ≡ true → are_bytes w.bytes ≡ true
of_write None w h = cc h
of_write (Some n) w h = both_first (are_bytes w.bytes) (nat_le (w.at + length w.bytes) (n * page)) h

of_writes : (pages : Option ℕ) (ws : List WritePlain) → list_all (lies_in pages) ws ≡ true → list_all (λ (w : WritePlain). are_bytes w.bytes) ws ≡ true
of_writes pages [] h = refl
of_writes pages (w ∷ ws) h =
    both (are_bytes w.bytes) (list_all (λ (w : WritePlain). are_bytes w.bytes) ws)
    (of_write pages w (both_first (lies_in pages w) (list_all (lies_in pages) ws) h)) (of_writes pages ws (both_second (lies_in pages w) (list_all (lies_in pages) ws) h))

ask : (m : WasmModule) → AskForBytes (tests m)
ask m = record { of_write = of_write (imported_pages m.imports); of_reply = λ (r : ReplyPlain) h. of_writes (pages m) (writes_of r) h }

pub fitting_writes : (m : WasmModule) (s : ScriptPlain) → misfit m s ≡ None → WritesBytes s
fitting_writes m s h = what_fits_writes_bytes (tests m) s (ask m) h
