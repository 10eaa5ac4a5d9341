-- What one field adds to the rows of a list.
use Rattle.std.proofs.Common.{◌≡◌, ℕ, Bool, true, false, List, [], ◌∷◌, ◌++◌, Option, Some, None, refl}
use Rattle.std.specs.Prelude.{is_some, if◌then◌else◌}
use Rattle.wat_lang.specs.declared.parts.Space.{Space}
use Rattle.wat_lang.specs.Names.{same_space, Field, Entry, entry_of}
use Rattle.wat_lang.specs.Rows.{entries_in, entries_from}
use Rattle.wat_read_refusals.proofs.Fronts.{after}
use Rattle.wat_read_rows.specs.Single.{place_in, over_row}

pub entries_front : (s : Space) (most before : ℕ) (f : Field) (fs : List Field) → entries_from most before (entries_in s (f ∷ fs))
    ≡ over_row most before (place_in s (entry_of f)) ++ entries_from most (after (is_some (place_in s (entry_of f))) before) (entries_in s fs)
entries_front s most before f fs = by (entry_of f)
  where
    among : (e : Entry) (b : Bool) → entries_from most before ((if b then e ∷ [] else []) ++ entries_in s fs)
        ≡ over_row most before (if b then Some e.at else None) ++ entries_from most (after (is_some (if b then Some e.at else None)) before) (entries_in s fs)
    among e true = refl
    among e false = refl

    entries_by : Option Entry → List Entry
    entries_by None = []
    entries_by (Some e) = if same_space s e.space then e ∷ [] else []

    by : (o : Option Entry) → entries_from most before (entries_by o ++ entries_in s fs) ≡ over_row most before (place_in s o) ++ entries_from most (after (is_some (place_in s o)) before) (entries_in s fs)
    by None = refl
    by (Some e) = among e (same_space s e.space)
