-- A misfit is the first of what doesn't fit, and there is none where all fit.
use Rattle.std.proofs.Common.{◌≡◌, ◌⊎◌, inl, inr, ℕ, zero, suc, Bool, true, false, List, [], ◌∷◌, ◌++◌, Option, Some, None, refl, sym, ap, ◌∙◌, subst, ⊎_elim}
use Rattle.std.specs.Prelude.{slice_get, ◌&&◌}
use Rattle.session_lang.specs.Script.{WritePlain, CallPlain, ReplyLinePlain, ScriptPlain}
use Rattle.session_lang.specs.Fits.{Tests, or_else, is_given, are_given, global_lines, lines_of, unfit_lines, least, missing_line}
use Rattle.session_lang.specs.FitLaws.{IsUnfit, a_global, a_write, a_call, a_reply, Fits, IsFirstUnfit, HasMissing, NoMisfitFits, WhatFitsHasNoMisfit, MisfitIsFirst}
use Rattle.session_lang.proofs.UnfitLines.{IsIn, in_front, in_back, in_either, least_none, least_some, item_of_line, line_of_item, global_of_line, line_of_global}

pub both_first : (a b : Bool) → (a && b) ≡ true → a ≡ true
both_first true b e = refl
both_first false b e = cc e

pub both_second : (a b : Bool) → (a && b) ≡ true → b ≡ true
both_second true b e = e
both_second false b e = cc e

pub both : (a b : Bool) → a ≡ true → b ≡ true → (a && b) ≡ true
both true b e h = h
both false b e h = cc e

module _ (tests : Tests) (s : ScriptPlain) where
  abbrev lines_of_globals : List ℕ
  lines_of_globals = global_lines tests.fits_global [] s.globals

  abbrev lines_of_writes : List ℕ
  lines_of_writes = lines_of tests.fits_write (λ (w : WritePlain). w.line) s.writes

  abbrev lines_of_calls : List ℕ
  lines_of_calls = lines_of tests.fits_call (λ (c : CallPlain). c.line) s.calls

  abbrev lines_of_replies : List ℕ
  lines_of_replies = lines_of (λ (r : ReplyLinePlain). tests.fits_reply r.reply) (λ r. r.line) s.replies

  unfit_of_line : (n : ℕ) → IsIn n (unfit_lines tests s) → IsUnfit tests s n
  unfit_of_line n h =
      ⊎_elim
      (λ h. ⊎_elim
      (λ h. ⊎_elim
      (λ h. let it = global_of_line tests.fits_global [] s.globals n h in subst (IsUnfit tests s) (sym it.is_line) (a_global it.place it.item it.is_there it.is_unfit))
      (λ h. let it = item_of_line tests.fits_write (λ (w : WritePlain). w.line) s.writes n h in subst (IsUnfit tests s) (sym it.is_line) (a_write it.place it.item it.is_there it.is_unfit))
      (in_either n lines_of_globals lines_of_writes h))
      (λ h. let it = item_of_line tests.fits_call (λ (c : CallPlain). c.line) s.calls n h in subst (IsUnfit tests s) (sym it.is_line) (a_call it.place it.item it.is_there it.is_unfit))
      (in_either n (lines_of_globals ++ lines_of_writes) lines_of_calls h))
      (λ h. let it = item_of_line (λ (r : ReplyLinePlain). tests.fits_reply r.reply) (λ r. r.line) s.replies n h in subst (IsUnfit tests s) (sym it.is_line) (a_reply it.place it.item it.is_there it.is_unfit))
      (in_either n (lines_of_globals ++ lines_of_writes ++ lines_of_calls) lines_of_replies h)

  line_of_unfit : (n : ℕ) → IsUnfit tests s n → IsIn n (unfit_lines tests s)
  line_of_unfit _ (a_global i g there unfit) =
      in_front g.line (lines_of_globals ++ lines_of_writes ++ lines_of_calls) lines_of_replies
      (in_front g.line (lines_of_globals ++ lines_of_writes) lines_of_calls
      (in_front g.line lines_of_globals lines_of_writes (line_of_global tests.fits_global [] s.globals i g there unfit)))
  line_of_unfit _ (a_write i w there unfit) =
      in_front w.line (lines_of_globals ++ lines_of_writes ++ lines_of_calls) lines_of_replies
      (in_front w.line (lines_of_globals ++ lines_of_writes) lines_of_calls
      (in_back w.line lines_of_globals lines_of_writes (line_of_item tests.fits_write (λ (w : WritePlain). w.line) s.writes i w there unfit)))
  line_of_unfit _ (a_call i c there unfit) =
      in_front c.line (lines_of_globals ++ lines_of_writes ++ lines_of_calls) lines_of_replies
      (in_back c.line (lines_of_globals ++ lines_of_writes) lines_of_calls (line_of_item tests.fits_call (λ (c : CallPlain). c.line) s.calls i c there unfit))
  line_of_unfit _ (a_reply i r there unfit) =
      in_back r.line (lines_of_globals ++ lines_of_writes ++ lines_of_calls) lines_of_replies
      (line_of_item (λ (r : ReplyLinePlain). tests.fits_reply r.reply) (λ r. r.line) s.replies i r there unfit)

  -- ---- imported globals

  given_each : (gs : List (List ℕ)) → are_given gs s.globals ≡ true → (i : ℕ) (g : List ℕ) → slice_get gs i ≡ Some g → is_given s.globals g ≡ true
  given_each [] all i g there = cc there
  given_each (x ∷ xs) all zero g there =
      let same : x ≡ g = cc there in
      subst (λ z. is_given s.globals z ≡ true) same (both_first (is_given s.globals x) (are_given xs s.globals) all)
  given_each (x ∷ xs) all (suc i) g there = given_each xs (both_second (is_given s.globals x) (are_given xs s.globals) all) i g there

  given_all : (gs : List (List ℕ)) → ((i : ℕ) (g : List ℕ) → slice_get gs i ≡ Some g → is_given s.globals g ≡ true) → are_given gs s.globals ≡ true
  given_all [] each = refl
  given_all (x ∷ xs) each = both (is_given s.globals x) (are_given xs s.globals) (each 0 x refl) (given_all xs (λ i g there. each (suc i) g there))

  -- one that has no line
  pub record IsMissing (gs : List (List ℕ)) : Type 0 where
    pub place : ℕ
    pub name : List ℕ
    pub is_imported : slice_get gs place ≡ Some name
    pub is_missing : is_given s.globals name ≡ false

  missing_cases : (x : List ℕ) (xs : List (List ℕ)) (b : Bool) → is_given s.globals x ≡ b → (are_given xs s.globals ≡ false → IsMissing xs) → (b && are_given xs s.globals) ≡ false → IsMissing (x ∷ xs)
  missing_cases x xs true is rest e = let it = rest e in record { place = suc it.place; name = it.name; is_imported = it.is_imported; is_missing = it.is_missing }
  missing_cases x xs false is rest e = record { place = zero; name = x; is_imported = refl; is_missing = is }

  missing_one : (gs : List (List ℕ)) → are_given gs s.globals ≡ false → IsMissing gs
  missing_one [] e = cc e
  missing_one (x ∷ xs) e = missing_cases x xs (is_given s.globals x) refl (missing_one xs) e

  -- ---- misfits

  none_unfit : least (unfit_lines tests s) ≡ None → (n : ℕ) → IsUnfit tests s n → ⊥
  none_unfit none n h = least_none (unfit_lines tests s) none n (line_of_unfit n h)

  none_least : (ns : List ℕ) → ((n : ℕ) → IsIn n ns → ⊥) → least ns ≡ None
  none_least [] none = refl
  none_least (n ∷ ns) none = absurd (none n (inl refl))

  fits_by : (o : Option ℕ) (given : Bool) → least (unfit_lines tests s) ≡ o → are_given tests.imports s.globals ≡ given → or_else o (missing_line given) ≡ None → Fits tests s
  fits_by (Some n) given none all e = cc e
  fits_by None false none all e = cc e
  fits_by None true none all e = record { all_fit = none_unfit none; all_given = given_each tests.imports all }

  first_by : (line : ℕ) (o : Option ℕ) (given : Bool) → least (unfit_lines tests s) ≡ o → are_given tests.imports s.globals ≡ given
      → or_else o (missing_line given) ≡ Some line → IsFirstUnfit tests s line ⊎ ((line ≡ 0) × HasMissing tests s)
  first_by line (Some n) given some all e =
      let same : n ≡ line = cc e in
      let it = least_some (unfit_lines tests s) line (some ∙ ap Some same) in
      inl (record { is_unfit = unfit_of_line line it.is_in; is_first = λ other h. it.is_least other (line_of_unfit other h) })
  first_by line None false none all e =
      let same : 0 ≡ line = cc e in
      let it = missing_one tests.imports all in
      inr (sym same, record { all_fit = none_unfit none; place = it.place; name = it.name; is_imported = it.is_imported; is_missing = it.is_missing })
  first_by line None true none all e = cc e

pub no_misfit_fits : NoMisfitFits
no_misfit_fits tests s e = fits_by tests s (least (unfit_lines tests s)) (are_given tests.imports s.globals) refl refl e

pub what_fits_has_no_misfit : WhatFitsHasNoMisfit
what_fits_has_no_misfit tests s fits =
    ap (λ o. or_else o (missing_line (are_given tests.imports s.globals))) (none_least tests s (unfit_lines tests s) (λ n h. fits.all_fit n (unfit_of_line tests s n h)))
    ∙ ap missing_line (given_all tests s tests.imports fits.all_given)

pub misfit_is_first : MisfitIsFirst
misfit_is_first tests s line e = first_by tests s line (least (unfit_lines tests s)) (are_given tests.imports s.globals) refl refl e
