-- Which scripts fit a module, by its tests of each part, and the line of the first part of a script that doesn't.
use Rattle.std.specs.Prelude.{ℕ, min, Bool, true, false, List, [], ◌∷◌, ◌++◌, Option, Some, None, Result, Ok, Err, bytes_eq, nat_lt}
use Rattle.std.specs.List.{list_all, list_any}
use Rattle.session_lang.specs.Script.{GlobalPlain, WritePlain, CallPlain, ReplyPlain, give, throw, ReplyLinePlain, ScriptPlain}

-- what a module asks of a script
pub record Tests : Type 0 where
  -- the names of its imported globals
  pub imports : List (List ℕ)
  -- the value of a global, after the lines of globals before it
  pub fits_global : (before : List GlobalPlain) → GlobalPlain → Bool
  pub fits_write : WritePlain → Bool
  pub fits_call : CallPlain → Bool
  pub fits_reply : ReplyPlain → Bool

-- ---- words for the tests

-- one of the lines gives a value to the name
abbrev pub is_given : List GlobalPlain → List ℕ → Bool
is_given gs name = list_any (λ (g : GlobalPlain). bytes_eq name g.name) gs

abbrev pub writes_of : ReplyPlain → List WritePlain
writes_of (give word writes) = writes
writes_of throw = []

-- each of the numbers that are written is a byte
abbrev pub are_bytes : List ℕ → Bool
are_bytes = list_all (λ b. nat_lt b 256)

-- ---- the lines of what doesn't fit

abbrev pub unless : Bool → ℕ → List ℕ → List ℕ
unless true line lines = lines
unless false line lines = line ∷ lines

abbrev pub global_lines : (fits : List GlobalPlain → GlobalPlain → Bool) → (before globals : List GlobalPlain) → List ℕ
global_lines fits before [] = []
global_lines fits before (g ∷ gs) = unless (fits before g) g.line (global_lines fits (before ++ g ∷ []) gs)

abbrev pub lines_of : {A : Type 0} → (fits : A → Bool) → (line : A → ℕ) → List A → List ℕ
lines_of fits line [] = []
lines_of fits line (x ∷ xs) = unless (fits x) (line x) (lines_of fits line xs)

-- of all parts of a script
abbrev pub unfit_lines : Tests → ScriptPlain → List ℕ
unfit_lines tests s =
    global_lines tests.fits_global [] s.globals
    ++ lines_of tests.fits_write (λ (w : WritePlain). w.line) s.writes
    ++ lines_of tests.fits_call (λ (c : CallPlain). c.line) s.calls
    ++ lines_of (λ (r : ReplyLinePlain). tests.fits_reply r.reply) (λ r. r.line) s.replies

-- ---- the first of them

abbrev pub lesser : ℕ → Option ℕ → Option ℕ
lesser n None = Some n
lesser n (Some k) = Some (min n k)

abbrev pub least : List ℕ → Option ℕ
least [] = None
least (n ∷ ns) = lesser n (least ns)

abbrev pub or_else : Option ℕ → Option ℕ → Option ℕ
or_else None other = other
or_else (Some line) other = Some line

-- each of the names has a line
abbrev pub are_given : (names : List (List ℕ)) → List GlobalPlain → Bool
are_given names globals = list_all (is_given globals) names

abbrev pub missing_line : Bool → Option ℕ
missing_line true = None
missing_line false = Some 0

-- the first line of what doesn't fit, else 0 for an imported global without a line, else none: the script fits
abbrev pub misfit : Tests → ScriptPlain → Option ℕ
misfit tests s = or_else (least (unfit_lines tests s)) (missing_line (are_given tests.imports s.globals))

-- ---- scripts that were read

abbrev pub unless_misfit : ScriptPlain → Option ℕ → Result ScriptPlain ℕ
unless_misfit script None = Ok script
unless_misfit script (Some line) = Err line

-- the script that was read, where it has no misfit; or the line that it was refused for, or else the misfit's
abbrev pub fitting : (misfit : ScriptPlain → Option ℕ) → Result ScriptPlain ℕ → Result ScriptPlain ℕ
fitting misfit (Ok script) = unless_misfit script (misfit script)
fitting misfit (Err line) = Err line
