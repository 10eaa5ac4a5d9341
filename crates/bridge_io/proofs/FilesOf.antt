-- What is told of the files that a map holds.
use Rattle.std.proofs.Common.{◌≡◌, ℕ, List, [], ◌∷◌, Bool, true, false, cond, Some, refl, sym, ap, subst, ◌∙◌, map, Vec}
use Rattle.std.specs.Prelude.{String}
use Rattle.std.specs.Option.{option_map}
use Rattle.std.specs.BTreeMap.{BTreeMap, get_by_text, Updates, is_at}
use Rattle.std.specs.Map.{lookup}
use Rattle.std.specs.Cmp.Lexicographic.{slice_cmp}
use Rattle.std.specs.Ordering.{nat_cmp}
use Rattle.std.specs.String.{string_cmp, string_bytes}
use Rattle.std.specs.Str.{bytes_eq}
use Rattle.std.specs.declared.alloc.Global.{Global}
use Rattle.std.proofs.lemmas.Map.Text.{is_eq-slice_cmp, btree_map_updates_text}
use Rattle.std.proofs.lemmas.Slice.Eq.{bytes_eq-Decides}
use Rattle.std.proofs.lemmas.Bool.{false_from_ne_true}
use Rattle.bridge_io.specs.Outside.{content_of}
use Rattle.bridge_io.specs.InMemory.{files_of}

content-entries : (entries : List (String Global × Vec ℕ Global)) (name : List ℕ) →
    content_of (map (λ entry. (string_bytes entry.0, entry.1.items)) entries) name
    ≡ option_map (λ content. content.items) (lookup (is_at (λ key. slice_cmp nat_cmp name (string_bytes key))) entries)
content-entries [] name = refl
content-entries (entry ∷ entries) name =
    let P : Bool → Type 0 = λ found. cond (bytes_eq name (string_bytes entry.0)) (Some entry.1.items) (content_of (map (λ entry. (string_bytes entry.0, entry.1.items)) entries) name)
    ≡ option_map (λ content. content.items) (cond found (Some entry.1) (lookup (is_at (λ key. slice_cmp nat_cmp name (string_bytes key))) entries)) in
    subst P (sym (is_eq-slice_cmp name (string_bytes entry.0)))
    (elim (bytes_eq name (string_bytes entry.0))
    as (λ found. cond found (Some entry.1.items) (content_of (map (λ entry. (string_bytes entry.0, entry.1.items)) entries) name)
    ≡ option_map (λ content. content.items) (cond found (Some entry.1) (lookup (is_at (λ key. slice_cmp nat_cmp name (string_bytes key))) entries)))
    [ true ↦ refl | false ↦ content-entries entries name ])

-- the content told under a name is what the map has there
pub content-files_of : (stored : BTreeMap (String Global) (Vec ℕ Global)) (name : List ℕ) →
    content_of (files_of stored) name ≡ option_map (λ content. content.items) (get_by_text stored name)
content-files_of stored name = content-entries stored.entries name

-- the content told under each name after a file is put
pub content-put : (old new : BTreeMap (String Global) (Vec ℕ Global)) (key : String Global) (content : Vec ℕ Global) →
    Updates string_cmp old new key (Some content) → (name : List ℕ) →
    content_of (files_of new) name ≡ cond (bytes_eq (string_bytes key) name) (Some content.items) (content_of (files_of old) name)
content-put old new key content put name =
    content-files_of new name
    ∙ (ap (option_map (λ content. content.items)) (btree_map_updates_text (string_bytes key) old new (Some content) put name)
    ∙ rw (content-files_of old name) (elim (bytes_eq (string_bytes key) name)
    as (λ found. option_map (λ content. content.items) (cond found (Some content) (get_by_text old name))
    ≡ cond found (Some content.items) (option_map (λ content. content.items) (get_by_text old name)))
    [ true ↦ refl | false ↦ refl ]))

-- the file that was put has its bytes
pub content-put_same : (old new : BTreeMap (String Global) (Vec ℕ Global)) (key : String Global) (content : Vec ℕ Global) →
    Updates string_cmp old new key (Some content) → (name bytes : List ℕ) → string_bytes key ≡ name → content.items ≡ bytes →
    content_of (files_of new) name ≡ Some bytes
content-put_same old new key content put name bytes named is =
    rw (content-put old new key content put name, (bytes_eq-Decides (string_bytes key) name).1 named, is) refl

-- and each other name has what it had
pub content-put_other : (old new : BTreeMap (String Global) (Vec ℕ Global)) (key : String Global) (content : Vec ℕ Global) →
    Updates string_cmp old new key (Some content) → (name other : List ℕ) → string_bytes key ≡ name → (other ≡ name → ⊥) →
    content_of (files_of new) other ≡ content_of (files_of old) other
content-put_other old new key content put name other named apart =
    rw (
      content-put old new key content put other,
      false_from_ne_true (bytes_eq (string_bytes key) other)
          (λ same. apart (sym ((bytes_eq-Decides (string_bytes key) other).0 same) ∙ named)),
    ) refl
