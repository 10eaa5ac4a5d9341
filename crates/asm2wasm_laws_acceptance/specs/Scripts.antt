-- A script for the translation of a module, as one for the module itself.
use Rattle.std.specs.Prelude.{◌≡◌, ℕ, ◌+◌, ◌≤◌, List, [], ◌∷◌, length, map, All, None, bytes_eq, if◌then◌else◌}
use Rattle.session_lang.specs.Script.{GlobalPlain, WritePlain, ReplyPlain, give, throw, ReplyLinePlain, ScriptPlain}
use Rattle.session_lang.specs.CallingForms.{foreign_import, global_to_wasm}
use Rattle.session_lang.specs.Fits.{writes_of}
use Rattle.wasm_lang_valid.specs.Runnable.{pages}
use Rattle.wasm_lang_exec.specs.Session.{bytes_in}
use Rattle.wasm_lang_exec.specs.Fits as machine
use Rattle.asm_lang_exec.specs.Fits as source
use Rattle.asm_lang_exec.specs.Session.{heap_length}
use Rattle.asm_lang.specs.Heights.{IsWellFormed}
use Rattle.asm_lang.specs.Modules.{Module}
use Rattle.asm_lang_valid.specs.Refusal.{foreign_globals}
use Rattle.asm2wasm_translation.specs.Modules.{translation}
use Rattle.asm2wasm_laws_heap.specs.Guards.{part_in}

-- the first of these names that is imported under this one
abbrev pub name_of_import : List (List ℕ) → List ℕ → List ℕ
name_of_import [] n = n
name_of_import (x ∷ xs) n = if bytes_eq (foreign_import x) n then x else name_of_import xs n

abbrev pub text_global : Module → GlobalPlain → GlobalPlain
text_global m g = record g { name = name_of_import (foreign_globals m) g.name }

-- of each byte write the part in a heap of this length
abbrev pub text_reply : ℕ → ReplyPlain → ReplyPlain
text_reply long (give word ws) = give word (map (part_in long) ws)
text_reply long throw = throw

abbrev pub text_line : ℕ → ReplyLinePlain → ReplyLinePlain
text_line long r = record r { reply = text_reply long r.reply }

abbrev pub text_script : Module → ℕ → ScriptPlain → ScriptPlain
text_script m size s = let long = heap_length m size in record s {
  globals = map (text_global m) s.globals;
  writes = map (part_in long) s.writes;
  replies = map (text_line long) s.replies;
}

-- it lies in a memory of so many bytes
abbrev pub EndsBy : ℕ → WritePlain → Type 0
EndsBy end w = w.at + length w.bytes ≤ end

-- it fits the text, and gives the same values to the same imports; what the script itself writes lies in the memory
pub record FitsText (m : Module) (size : ℕ) (s : ScriptPlain) : Type 0 where
  pub fits : source.misfit m size (text_script m size s) ≡ None
  pub globals : s.globals ≡ map global_to_wasm (text_script m size s).globals
  pub writes : All (EndsBy (bytes_in (pages (translation m size)))) s.writes
  pub replies : All (λ (r : ReplyLinePlain). All (EndsBy (bytes_in (pages (translation m size)))) (writes_of r.reply)) s.replies

abbrev pub ScriptsFitBack : Type 0
ScriptsFitBack = (m : Module) (size : ℕ) (s : ScriptPlain) → IsWellFormed m → machine.misfit (translation m size) s ≡ None → FitsText m size s
