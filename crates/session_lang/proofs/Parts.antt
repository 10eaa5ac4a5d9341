-- What the parts of a script come to.
use Rattle.std.proofs.Common.{◌≡◌, ℕ, zero, suc, ◌+◌, ◌<◌, Bool, List, [], ◌∷◌, ◌++◌, length, map, take, get_or, Option, Some, None, sym, ap, ◌∙◌, arith}
use Rattle.session_lang.specs.Script.{WritePlain, CallPlain, ReplyLinePlain, ScriptPlain}
use Rattle.session_lang.specs.declared.script.GlobalLine.{GlobalLine}
use Rattle.session_lang.specs.Views.{global_of}
use Rattle.session_lang.specs.Fits.{Tests, global_lines, lines_of, unfit_lines, least, are_given, missing_line, or_else, misfit}
use Rattle.session_lang.specs.Earlier.{earlier}
use Rattle.session_lang.proofs.FirstLines.{least_append}

module _ (tests : Tests) (s : ScriptPlain) where
  abbrev of_globals : List ℕ
  of_globals = global_lines tests.fits_global [] s.globals

  abbrev of_writes : List ℕ
  of_writes = lines_of tests.fits_write (λ (w : WritePlain). w.line) s.writes

  abbrev of_calls : List ℕ
  of_calls = lines_of tests.fits_call (λ (c : CallPlain). c.line) s.calls

  abbrev of_replies : List ℕ
  of_replies = lines_of (λ (r : ReplyLinePlain). tests.fits_reply r.reply) (λ r. r.line) s.replies

  -- the first line, by the kinds of parts
  least_four : least (unfit_lines tests s) ≡ earlier (earlier (earlier (least of_globals) (least of_writes)) (least of_calls)) (least of_replies)
  least_four =
      least_append (of_globals ++ of_writes ++ of_calls) of_replies
      ∙ ap (λ o. earlier o (least of_replies)) (least_append (of_globals ++ of_writes) of_calls ∙ ap (λ o. earlier o (least of_calls)) (least_append of_globals of_writes))

  -- the first lines of the kinds, put together
  pub four : (a b c d ab abc abcd : Option ℕ)
      → a ≡ least (global_lines tests.fits_global [] s.globals)
      → b ≡ least (lines_of tests.fits_write (λ (w : WritePlain). w.line) s.writes)
      → c ≡ least (lines_of tests.fits_call (λ (c : CallPlain). c.line) s.calls)
      → d ≡ least (lines_of (λ (r : ReplyLinePlain). tests.fits_reply r.reply) (λ r. r.line) s.replies)
      → ab ≡ earlier a b → abc ≡ earlier ab c → abcd ≡ earlier abc d → abcd ≡ least (unfit_lines tests s)
  four a b c d ab abc abcd ea eb ec ed eab eabc eabcd =
      let one : ab ≡ earlier (least of_globals) (least of_writes) = eab ∙ ap (λ a. earlier a b) ea ∙ ap (earlier (least of_globals)) eb in
      let two : abc ≡ earlier (earlier (least of_globals) (least of_writes)) (least of_calls) = eabc ∙ ap (λ x. earlier x c) one ∙ ap (earlier (earlier (least of_globals) (least of_writes))) ec in
      eabcd ∙ ap (λ x. earlier x d) two ∙ ap (earlier (earlier (earlier (least of_globals) (least of_writes)) (least of_calls))) ed ∙ sym least_four

  pub misfit_some : (line : ℕ) → least (unfit_lines tests s) ≡ Some line → misfit tests s ≡ Some line
  misfit_some line e = ap (λ o. or_else o (missing_line (are_given tests.imports s.globals))) e

  pub misfit_none : (given : Bool) → least (unfit_lines tests s) ≡ None → given ≡ are_given tests.imports s.globals → misfit tests s ≡ missing_line given
  misfit_none given e is = ap (λ o. or_else o (missing_line (are_given tests.imports s.globals))) e ∙ ap missing_line (sym is)

-- the lines before one more
pub one_more : (gs : List GlobalLine) (i : ℕ) (x : GlobalLine) → x ≡ get_or gs i x → i < length gs → map global_of (take (i + 1) gs) ≡ map global_of (take i gs) ++ global_of x ∷ []
one_more [] i x is h = absurd (omega arith)
one_more (g ∷ gs) zero x is h = ap (λ g. global_of g ∷ []) (sym is)
one_more (g ∷ gs) (suc i) x is h =
    let e : suc i + 1 ≡ suc (i + 1) = omega arith in
    ap (λ n. map global_of (take n (g ∷ gs))) e ∙ ap (λ l. global_of g ∷ l) (one_more gs i x is (omega arith))
