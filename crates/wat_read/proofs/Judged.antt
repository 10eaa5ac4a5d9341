-- What one field more adds to the first refusals.
use Rattle.std.proofs.Common.{◌≡◌, false, List, [], ◌∷◌, ◌++◌, Option, None, refl, sym, ap, ◌∙◌, append-nil}
use Rattle.std.proofs.lemmas.Grind.{flat_map-append}
use Rattle.std.specs.Prelude.{flat_map}
use Rattle.wasm_lang.specs.Modules.{FunctionType}
use Rattle.wat_lang.specs.declared.parts.Space.{Space}
use Rattle.wat_lang.specs.declared.parts.FieldKind.{FieldKind}
use Rattle.wat_lang.specs.declared.parts.FieldKind.TheVariants as kinds
use Rattle.wat_lang.specs.Grammar.{Marked}
use Rattle.wat_lang.specs.Names.{Names, Field, names_at}
use Rattle.wat_lang.specs.Rows.{Refusal, number_rows, use_rows, local_spaces, locals_of, field_rows, least}
use Rattle.wat_laws_kept.proofs.Groups.{numbers_joined}
use Rattle.wat_read_refusals.specs.Joined.{join}
use Rattle.wat_read_refusals.proofs.Joins.{then_both}
use Rattle.wat_read_rows.specs.Heads.{rows_by_kind}
use Rattle.wat_read.specs.declared.judging.FieldRows.{FieldRows}
use Rattle.wat_read_fields.specs.Fit.{is_function}
use Rattle.wat_read.specs.Judged.{HasRows}
use Rattle.wat_read_outline.proofs.Outlining.{field}

pub one_more : {X : Type 0} (f : X → List Refusal) (xs : List X) (x : X) → flat_map f xs ++ f x ≡ flat_map f (xs ++ x ∷ [])
one_more f xs x = sym (flat_map-append f xs (x ∷ []) ∙ ap (λ (rs : List Refusal). flat_map f xs ++ rs) (append-nil (f x)))

no_locals : (names : Space → Names) (types : List FunctionType) (f : Field) → is_function f.kind ≡ false → locals_of names types f ≡ []
no_locals names types f e = by f.kind e
  where
    by : (kind : FieldKind) → is_function kind ≡ false → locals_of names types (field kind f.at f.parts) ≡ []
    by kinds.Func e = absurd cc
    by kind e = refl

-- the rows of a field that is no function
pub plain_rows : (names : Space → Names) (types : List FunctionType) (f : Field) → is_function f.kind ≡ false
    → use_rows (names_at names []) [] f.parts ++ rows_by_kind names types f ≡ field_rows names types f
plain_rows names types f e = ap (λ (ls : Names). use_rows (names_at names ls) [] f.parts ++ rows_by_kind names types f) (sym (no_locals names types f e))

pub field_more : (names : Space → Names) (types : List FunctionType) (old new : FieldRows) (used : Option Refusal) (ks : List Marked) (fs : List Field) (f : Field)
    → is_function f.kind ≡ false → HasRows names types old ks fs [] → new.numbers ≡ join old.numbers (least (number_rows f.parts))
    → new.locals ≡ join old.locals (least (local_spaces f)) → used ≡ join old.fields (least (use_rows (names_at names []) [] f.parts))
    → new.fields ≡ join used (least (rows_by_kind names types f)) → HasRows names types new (ks ++ f.parts) (fs ++ f ∷ []) []
field_more names types old new used ks fs f e h numbers locals uses kind =
    let before : List Refusal = flat_map (field_rows names types) fs in
    let here : old.fields ≡ least before = h.fields ∙ ap least (append-nil before) in
    let row : new.fields ≡ join old.fields (least (field_rows names types f)) =
    then_both old.fields used new.fields (use_rows (names_at names []) [] f.parts) (rows_by_kind names types f) uses kind
    ∙ ap (λ (rs : List Refusal). join old.fields (least rs)) (plain_rows names types f e) in
    record {
      numbers = then_both None old.numbers new.numbers (number_rows ks) (number_rows f.parts) h.numbers numbers ∙ ap least (sym (numbers_joined ks f.parts));
      locals = then_both None old.locals new.locals (flat_map local_spaces fs) (local_spaces f) h.locals locals ∙ ap least (one_more local_spaces fs f);
      fields =
          then_both None old.fields new.fields before (field_rows names types f) here row
          ∙ ap least (one_more (field_rows names types) fs f ∙ sym (append-nil (flat_map (field_rows names types) (fs ++ f ∷ []))));
    }
