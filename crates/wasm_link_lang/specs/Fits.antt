-- Which scripts fit a pair: as for one module with the exports and the globals of both.
use Rattle.std.specs.Prelude.{ℕ, Bool, not, ◌&&◌, List, ◌++◌, Option, Some, None}
use Rattle.std.specs.List.{list_all}
use Rattle.session_lang.specs.Script.{GlobalPlain, CallPlain, ReplyPlain, ScriptPlain}
use Rattle.session_lang.specs.Fits as parts
use Rattle.session_lang.specs.Fits.{Tests, is_given, writes_of}
use Rattle.wasm_lang.specs.Modules.{FunctionType}
use Rattle.wasm_lang_exec.specs.Session.{function_named}
use Rattle.wasm_lang_exec.specs.Fits.{GlobalImport, global_imports, global_names, is_imported, has_range, lies_in, takes, type_at}
use Rattle.wasm_link_lang.specs.Pairs.{Pair}
use Rattle.wasm_link_lang.specs.Session.{pages}

-- the imported globals of both
abbrev pub pair_globals : Pair → List GlobalImport
pair_globals w = global_imports w.first.imports ++ global_imports w.second.imports

abbrev pub fits_global : Pair → (before : List GlobalPlain) → GlobalPlain → Bool
fits_global w before g = is_imported (pair_globals w) g.name && has_range (pair_globals w) g.name g.value && not (is_given before g.name)

-- the declared type of the function that the first exports under a name, else of the one that the second does
abbrev pub named_type : Pair → List ℕ → Option ℕ → Option FunctionType
named_type w name (Some f) = type_at w.first (Some f)
named_type w name None = type_at w.second (function_named w.second.exports name)

abbrev pub fits_call : Pair → CallPlain → Bool
fits_call w c = takes (named_type w c.name (function_named w.first.exports c.name)) c.args

abbrev pub tests : Pair → Tests
tests w = record {
  imports = global_names (pair_globals w);
  fits_global = fits_global w;
  fits_write = lies_in (pages w);
  fits_call = fits_call w;
  fits_reply = λ (r : ReplyPlain). list_all (lies_in (pages w)) (writes_of r);
}

-- the first line of what doesn't fit, else 0 for an imported global without a line, else none: the script fits
abbrev pub misfit : Pair → ScriptPlain → Option ℕ
misfit w = parts.misfit (tests w)
