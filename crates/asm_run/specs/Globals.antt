-- Lines of globals that fit.
use Rattle.std.specs.Prelude.{ℕ, Bool, not, ◌&&◌, List}
use Rattle.session_lang.specs.Script.{GlobalPlain}
use Rattle.asm_lang_valid.specs.Scope.{is_in}
use Rattle.session_lang.specs.Fits.{is_given}
use Rattle.asm_lang_exec.specs.Fits.{in_range}

-- a line fits imported globals of these names, after the lines before it
abbrev pub fits_line : (imported : List (List ℕ)) → (before : List GlobalPlain) → GlobalPlain → Bool
fits_line names before g = is_in g.name names && in_range g.value && not (is_given before g.name)
