-- The first row of rows after one another, where memory may be wanting.
use Rattle.std.proofs.Common.{◌≡◌, List, ◌++◌, None, Result, Ok, Err, sym, ◌∙◌, subst}
use Rattle.std.specs.Prelude.{IfOk, MatchResult}
use Rattle.asm_lang_valid.specs.declared.rule.Met.{Met}
use Rattle.asm_lang_valid.specs.Rows.{first}
use Rattle.asm_validate_names.specs.declared.refusal.AsmRefusal.{AsmRefusal}
use Rattle.asm_validate_names.specs.declared.refusal.AsmRefusal.TheVariants.{Refused, Memory}
use Rattle.asm_validate_names.specs.Refusals.{IsRow}
use Rattle.asm_validate_names.proofs.Found.{first_before, first_after}

pub row_before : (xs ys : List Met) (f : AsmRefusal) → IsRow xs f → IsRow (xs ++ ys) f
row_before xs ys (Refused r n) h = first_before xs ys _ h
row_before xs ys Memory h = tt

pub row_same : (xs ys : List Met) (f : AsmRefusal) → first xs ≡ first ys → IsRow ys f → IsRow xs f
row_same xs ys (Refused r n) e h = e ∙ h
row_same xs ys Memory e h = tt

pub row_rest : (all xs ys : List Met) (f : AsmRefusal) → first all ≡ first (xs ++ ys) → IsRow xs f → IsRow all f
row_rest all xs ys f e h = row_same all (xs ++ ys) f e (row_before xs ys f h)

pub none_rest : (all xs ys : List Met) → first all ≡ first (xs ++ ys) → first xs ≡ None → first all ≡ first ys
none_rest all xs ys e h = e ∙ first_after xs ys h

pub err_row : (r : Result (Unit {0}) AsmRefusal) (rows : List Met) (f : AsmRefusal) → r ≡ Err f → IsRow rows f → MatchResult r (λ u. first rows ≡ None) (IsRow rows)
err_row r rows f h k = subst (λ r. MatchResult r (λ u. first rows ≡ None) (IsRow rows)) (sym h) k

pub same_rows : (r : Result (Unit {0}) AsmRefusal) (xs ys : List Met) → first xs ≡ first ys → MatchResult r (λ u. first ys ≡ None) (IsRow ys) → MatchResult r (λ u. first xs ≡ None) (IsRow xs)
same_rows (Ok u) xs ys e h = e ∙ h
same_rows (Err f) xs ys e h = row_same xs ys f e h

-- what holds in any case, holds of success
pub ok_row : {P : Type 0} (r : Result (Unit {0}) AsmRefusal) → P → IfOk r (λ u. P)
ok_row (Ok u) p = p
ok_row (Err f) p = tt
