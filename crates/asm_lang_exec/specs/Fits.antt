-- Which scripts fit a module of asm.js with a heap of some length, and the line of the first part of a script that doesn't.
use Rattle.std.specs.Prelude.{ℕ, ◌+◌, ◌-◌, ◌^◌, Bool, false, not, ◌&&◌, List, length, Option, Some, None, ℤ, pos, negsuc, int_le, int_lt, nat_le, ◌==◌}
use Rattle.std.specs.List.{list_all}
use Rattle.session_lang.specs.Script.{GlobalPlain, WritePlain, CallPlain, ReplyPlain, ScriptPlain}
use Rattle.session_lang.specs.Fits as parts
use Rattle.session_lang.specs.Fits.{Tests, is_given, writes_of, are_bytes}
use Rattle.asm_lang.specs.Modules.{Function, Module}
use Rattle.asm_lang_valid.specs.Scope.{is_in}
use Rattle.asm_lang_valid.specs.Refusal.{foreign_globals, has_heap}
use Rattle.asm_lang_exec.specs.Session.{exported_function}

-- a number lies in [-2^31, 2^32): the signed and unsigned readings of a word
abbrev pub in_range : ℤ → Bool
in_range z = int_le (negsuc (2 ^ 31 - 1)) z && int_lt z (pos (2 ^ 32))

-- ---- globals

-- it names a foreign member that is imported as an int, with a value in range, and no line before it does
abbrev pub fits_global : Module → (before : List GlobalPlain) → GlobalPlain → Bool
fits_global m before g = is_in g.name (foreign_globals m) && in_range g.value && not (is_given before g.name)

-- ---- bytes

-- bytes are put into the heap; a module without one has none at all
abbrev pub fits_write : Module → ℕ → WritePlain → Bool
fits_write m size w = are_bytes w.bytes && (has_heap m && nat_le (w.at + length w.bytes) size)

abbrev pub fits_reply : Module → ℕ → ReplyPlain → Bool
fits_reply m size r = list_all (fits_write m size) (writes_of r)

-- ---- calls

-- it names an exported function, with as many arguments as parameters, each in range
abbrev pub takes : Option Function → List ℤ → Bool
takes None zs = false
takes (Some f) zs = (length zs == length f.params) && list_all in_range zs

abbrev pub fits_call : Module → CallPlain → Bool
fits_call m c = takes (exported_function m c.name) c.args

-- ---- the whole

-- the module's tests, with a heap of so many bytes
abbrev pub tests : Module → (heap_length : ℕ) → Tests
tests m size = record {
  imports = foreign_globals m;
  fits_global = fits_global m;
  fits_write = fits_write m size;
  fits_call = fits_call m;
  fits_reply = fits_reply m size;
}

-- the first line of what doesn't fit, else 0 for an imported name without a line, else none: the script fits
abbrev pub misfit : Module → (heap_length : ℕ) → ScriptPlain → Option ℕ
misfit m size = parts.misfit (tests m size)
