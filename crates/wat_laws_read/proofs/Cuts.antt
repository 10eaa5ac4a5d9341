-- The fields of a list of marks, and what holds of all parts of them.
use Rattle.std.proofs.Common.{◌≡◌, List, [], ◌∷◌, refl}
use Rattle.std.specs.List.{AllByRecursion}
use Rattle.wat_lang.specs.declared.parts.FieldKind.{FieldKind}
use Rattle.wat_lang.specs.Grammar.{Mark, a_field, Marked}
use Rattle.wat_lang.specs.Names.{Field, Cut, cut_at, cut}

-- a mark begins a field, or is a part of what stands before
pub cut_cases : (m : Marked) (c : Cut) (P : Cut → Type 0) → ((kind : FieldKind) → m.mark ≡ a_field kind → P ([], record { kind = kind; at = m.token.at; parts = c.0 } ∷ c.1)) → P (m ∷ c.0, c.1) → P (cut_at m c m.mark)
cut_cases m c P field part = by m.mark refl
  where
    by : (k : Mark) → m.mark ≡ k → P (cut_at m c k)
    by (a_field kind) e = field kind e
    by _ e = part

pub parts_hold : (P : Marked → Type 0) (ms : List Marked) → AllByRecursion P ms → AllByRecursion P (cut ms).0 × AllByRecursion (λ (f : Field). AllByRecursion P f.parts) (cut ms).1
parts_hold P [] all = (tt, tt)
parts_hold P (m ∷ ms) all =
    let more = parts_hold P ms all.1 in
    cut_cases m (cut ms) (λ (c : Cut). AllByRecursion P c.0 × AllByRecursion (λ (f : Field). AllByRecursion P f.parts) c.1) (λ kind e. (tt, (more.0, more.1))) ((all.0, more.0), more.1)
