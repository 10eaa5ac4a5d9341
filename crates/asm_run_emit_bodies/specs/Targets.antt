-- Where jumps go by their labels, the innermost place first.
use Rattle.std.specs.Prelude.{◌≡◌, ℕ, Bool, List, [], ◌∷◌, map, Option, Some, None, if◌then◌else◌}
use Rattle.std.specs.Borrow.{Bor}
use Rattle.std.specs.Option.{option_eq}
use Rattle.std.specs.Str.{bytes_eq}
use Rattle.indexmap.specs.IndexMap.{IndexMap, get}
use Rattle.asm_run_emit_bodies.specs.declared.targets.Opened.{Opened}

-- where jumps with a label go, or those without one
pub record Target : Type 0 where
  pub label : Option (List ℕ)
  pub at : ℕ

abbrev pub is_label : Option (List ℕ) → Option (List ℕ) → Bool
is_label = option_eq bytes_eq

abbrev pub found : List Target → Option (List ℕ) → Option ℕ
found [] l = None
found (t ∷ ts) l = if is_label l t.label then Some t.at else found ts l

-- with a place for each of these labels inside the others
abbrev pub those : List (List ℕ) → (at : ℕ) → List Target → List Target
those [] at ts = ts
those (n ∷ ns) at ts = those ns at (record { label = Some n; at = at } ∷ ts)

-- ---- as the code holds them

abbrev pub bytes_option : Option (Bor (List ℕ)) → Option (List ℕ)
bytes_option None = None
bytes_option (Some b) = Some b.now

abbrev pub target_of : Opened → Target
target_of o = record { label = bytes_option o.label; at = o.at }

abbrev pub targets_of : List Opened → List Target
targets_of os = map target_of os

-- each has what its label meant before
abbrev pub AreKept : List Opened → Type 0
AreKept [] = Unit {0}
AreKept (o ∷ os) = (o.before ≡ found (targets_of os) (bytes_option o.label)) × AreKept os

-- a map has what each label means
pub record AreInnermost {S : Type 0} (m : IndexMap (Option (List ℕ)) ℕ S) (os : List Opened) : Type 0 where
  pub all : (l : Option (List ℕ)) → get is_label m l ≡ found (targets_of os) l
  pub kept : AreKept os
