-- Names are plain, different names stay different, and the fixed names are kept.
use Rattle.std.proofs.Common.{◌≡◌, ◌≢◌, ℕ, suc, ◌/◌, ◌%◌, ◌<◌, ◌==◌, nat_eq, Bool, true, false, ◌&&◌, not, if◌then◌else◌, List, [], ◌∷◌, ◌++◌, drop, slice_index, codes, refl, sym, ap, ◌∙◌, arith}
use Rattle.std.specs.List.{list_all, starts_with}
use Rattle.std.specs.Str.{bytes_eq}
use Rattle.std.proofs.lemmas.Bool.{and_parts, false≢true}
use Rattle.std.proofs.lemmas.List.{append_assoc}
use Rattle.std.proofs.lemmas.List.Folds.{list_all-append}
use Rattle.std.proofs.lemmas.List.Sums.{AllPass-from_list_all}
use Rattle.std.proofs.lemmas.Slice.Eq.{bytes_eq-Decides}
use Rattle.hex.specs.Hex.{IsBytes, lower_digits, encode_with, encode_lower, decode_of}
use Rattle.hex.proofs.HexLemmas.{decode_of-encode_lower}
use Rattle.session_lang.specs.Observation.{trap_name}
use Rattle.session_lang.specs.Imports.{high_name}
use Rattle.session_lang.specs.Names.{is_name_part, is_plain_name, import_name, export_name}
use Rattle.session_lang.specs.Laws.{DifferentImportsHaveDifferentNames, DifferentExportsHaveDifferentNames, NamesArePlain, FixedNamesAreKept}

-- ---- tests

both : (a b : Bool) → a ≡ true → b ≡ true → (a && b) ≡ true
both a b p q = ap (λ x. x && b) p ∙ q

not_false : (b : Bool) → not b ≡ true → b ≡ true → ⊥
not_false true h e = false≢true h
not_false false h e = false≢true e

-- what holds of both answers holds of the one that a test picks
of_both : (P : List ℕ → Type 0) (test : Bool) (x y : List ℕ) → (test ≡ true → P x) → (test ≡ false → P y) → P (if test then x else y)
of_both P true x y here there = here refl
of_both P false x y here there = there refl

-- ---- hex digits

digit_passes : (test : ℕ → Bool) → list_all test lower_digits ≡ true → (d : ℕ) → d < 16 → test (slice_index lower_digits d) ≡ true
digit_passes test h d lt = AllPass-from_list_all test lower_digits h d 0 lt

-- what the sixteen digits pass, the hex of bytes passes
hex_passes : (test : ℕ → Bool) → list_all test lower_digits ≡ true → (xs : List ℕ) → IsBytes xs → list_all test (encode_lower xs) ≡ true
unfolding encode_with
hex_passes test h [] bytes = refl
hex_passes test h (b ∷ rest) bytes =
    let fits : b < 256 = bytes 0 in
    both _ _ (digit_passes test h (b / 16) (omega arith)) (both _ _ (digit_passes test h (b % 16) (omega arith)) (hex_passes test h rest (λ k. bytes (suc k))))

-- bytes are read back from their hex
hex_injective : (xs ys : List ℕ) → IsBytes xs → IsBytes ys → encode_lower xs ≡ encode_lower ys → xs ≡ ys
hex_injective xs ys bx by e =
    let same = sym (decode_of-encode_lower xs bx) ∙ ap decode_of e ∙ decode_of-encode_lower ys by in
    cc same

-- a byte that isn't `$`
abbrev is_no_dollar : ℕ → Bool
is_no_dollar b = not (b == 36)

-- what stands before the first `$`, and what after it
split_at_dollar : (xs ys us vs : List ℕ) → list_all is_no_dollar xs ≡ true → list_all is_no_dollar ys ≡ true → xs ++ (36 ∷ us) ≡ ys ++ (36 ∷ vs) → (xs ≡ ys) × (us ≡ vs)
split_at_dollar [] [] us vs px py e = (refl, cc e)
split_at_dollar [] (y ∷ ys) us vs px py e =
    let first : 36 ≡ y = cc e in
    absurd (false≢true (ap is_no_dollar first ∙ (and_parts (is_no_dollar y) (list_all is_no_dollar ys) py).0))
split_at_dollar (x ∷ xs) [] us vs px py e =
    let first : 36 ≡ x = cc e in
    absurd (false≢true (ap is_no_dollar first ∙ (and_parts (is_no_dollar x) (list_all is_no_dollar xs) px).0))
split_at_dollar (x ∷ xs) (y ∷ ys) us vs px py e =
    let first : x ≡ y = cc e in
    let rest : xs ++ (36 ∷ us) ≡ ys ++ (36 ∷ vs) = cc e in
    let parts = split_at_dollar xs ys us vs (and_parts (is_no_dollar x) (list_all is_no_dollar xs) px).1 (and_parts (is_no_dollar y) (list_all is_no_dollar ys) py).1 rest in
    let same : xs ≡ ys = parts.0 in
    (cc, parts.1)

-- ---- imports

abbrev marked_import : List ℕ → List ℕ → List ℕ
marked_import m f = codes "$x" ++ encode_lower m ++ codes "$" ++ encode_lower f

abbrev is_own_name : List ℕ → List ℕ → Bool
is_own_name m f = bytes_eq m (codes "env") && is_plain_name f && not (starts_with nat_eq f (codes "$x"))

-- what the test of an import that keeps its field's name says
record IsOwnName (m f : List ℕ) : Type 0 where
  from_env : m ≡ codes "env"
  plain : is_plain_name f ≡ true
  unmarked : starts_with nat_eq f (codes "$x") ≡ true → ⊥

own_name : (m f : List ℕ) → is_own_name m f ≡ true → IsOwnName m f
own_name m f h =
    let outer = and_parts (bytes_eq m (codes "env") && is_plain_name f) (not (starts_with nat_eq f (codes "$x"))) h in
    let inner = and_parts (bytes_eq m (codes "env")) (is_plain_name f) outer.0 in
    record {
      from_env = (bytes_eq-Decides m (codes "env")).0 inner.0;
      plain = inner.1;
      unmarked = not_false (starts_with nat_eq f (codes "$x")) outer.1;
    }

-- a marked name begins with `$x`
marked_starts : (m f name : List ℕ) → name ≡ marked_import m f → starts_with nat_eq name (codes "$x") ≡ true
marked_starts m f name e = ap (λ n. starts_with nat_eq n (codes "$x")) e

marked_injective : (m f m' f' : List ℕ) → IsBytes m → IsBytes f → IsBytes m' → IsBytes f' → marked_import m f ≡ marked_import m' f' → (m ≡ m') × (f ≡ f')
marked_injective m f m' f' bm bf bm' bf' e =
    let rest : encode_lower m ++ (36 ∷ encode_lower f) ≡ encode_lower m' ++ (36 ∷ encode_lower f') =
    sym (append_assoc (encode_lower m) (36 ∷ []) (encode_lower f)) ∙ ap (drop 2) e ∙ append_assoc (encode_lower m') (36 ∷ []) (encode_lower f') in
    let parts = split_at_dollar (encode_lower m) (encode_lower m') (encode_lower f) (encode_lower f') (hex_passes is_no_dollar refl m bm) (hex_passes is_no_dollar refl m' bm') rest in
    (hex_injective m m' bm bm' parts.0, hex_injective f f' bf bf' parts.1)

pub different_imports_have_different_names : DifferentImportsHaveDifferentNames
different_imports_have_different_names m f m' f' bm bf bm' bf' =
    of_both (λ name. name ≡ import_name m' f' → (m ≡ m') × (f ≡ f')) (is_own_name m f) f (marked_import m f)
    (λ own.
    of_both (λ name. f ≡ name → (m ≡ m') × (f ≡ f')) (is_own_name m' f') f' (marked_import m' f')
    (λ other e. ((own_name m f own).from_env ∙ sym (own_name m' f' other).from_env, e))
    (λ other e. absurd ((own_name m f own).unmarked (marked_starts m' f' f e))))
    (λ own.
    of_both (λ name. marked_import m f ≡ name → (m ≡ m') × (f ≡ f')) (is_own_name m' f') f' (marked_import m' f')
    (λ other e. absurd ((own_name m' f' other).unmarked (marked_starts m f f' (sym e))))
    (λ other e. marked_injective m f m' f' bm bf bm' bf' e))

-- ---- exports

abbrev marked_export : List ℕ → List ℕ
marked_export name = codes "$x" ++ encode_lower name

abbrev is_own_export : List ℕ → Bool
is_own_export name = is_plain_name name && not (starts_with nat_eq name (codes "$"))

own_export : (name : List ℕ) → is_own_export name ≡ true → (is_plain_name name ≡ true) × (starts_with nat_eq name (codes "$") ≡ true → ⊥)
own_export name h =
    let parts = and_parts (is_plain_name name) (not (starts_with nat_eq name (codes "$"))) h in
    (parts.0, not_false (starts_with nat_eq name (codes "$")) parts.1)

pub different_exports_have_different_names : DifferentExportsHaveDifferentNames
different_exports_have_different_names n n' b b' =
    of_both (λ name. name ≡ export_name n' → n ≡ n') (is_own_export n) n (marked_export n)
    (λ own.
    of_both (λ name. n ≡ name → n ≡ n') (is_own_export n') n' (marked_export n')
    (λ other e. e)
    (λ other e. absurd ((own_export n own).1 (ap (λ name. starts_with nat_eq name (codes "$")) e))))
    (λ own.
    of_both (λ name. marked_export n ≡ name → n ≡ n') (is_own_export n') n' (marked_export n')
    (λ other e. absurd ((own_export n' other).1 (ap (λ name. starts_with nat_eq name (codes "$")) (sym e))))
    (λ other e. hex_injective n n' b b' (ap (drop 2) e)))

-- ---- plain names

marked_import_is_plain : (m f : List ℕ) → IsBytes m → IsBytes f → is_plain_name (marked_import m f) ≡ true
marked_import_is_plain m f bm bf =
    let front : list_all is_name_part (encode_lower m ++ codes "$") ≡ true =
    list_all-append is_name_part (encode_lower m) (codes "$") ∙ both _ _ (hex_passes is_name_part refl m bm) refl in
    let parts : list_all is_name_part (encode_lower m ++ codes "$" ++ encode_lower f) ≡ true =
    list_all-append is_name_part (encode_lower m ++ codes "$") (encode_lower f) ∙ both _ _ front (hex_passes is_name_part refl f bf) in
    both _ _ parts refl

marked_export_is_plain : (name : List ℕ) → IsBytes name → is_plain_name (marked_export name) ≡ true
marked_export_is_plain name b = both _ _ (hex_passes is_name_part refl name b) refl

pub names_are_plain : NamesArePlain
names_are_plain = record {
  imports = λ m f bm bf. of_both (λ name. is_plain_name name ≡ true) (is_own_name m f) f (marked_import m f) (λ own. (own_name m f own).plain) (λ other. marked_import_is_plain m f bm bf);
  exports = λ name b. of_both (λ n. is_plain_name n ≡ true) (is_own_export name) name (marked_export name) (λ own. (own_export name own).0) (λ other. marked_export_is_plain name b);
}

-- ---- fixed names

-- a name that begins with `$` but not with `$x` isn't that of an export
no_export : (fixed : List ℕ) → starts_with nat_eq fixed (codes "$") ≡ true → slice_index fixed 1 ≢ 120 → (name : List ℕ) → export_name name ≢ fixed
no_export fixed dollar other name =
    of_both (λ n. n ≡ fixed → ⊥) (is_own_export name) name (marked_export name)
    (λ own e. (own_export name own).1 (ap (λ n. starts_with nat_eq n (codes "$")) e ∙ dollar))
    (λ own e. other (sym (ap (λ n. slice_index n 1) e)))

-- a name that doesn't begin with `$x` is that of one import alone
one_import : (fixed : List ℕ) → slice_index fixed 1 ≢ 120 → (m f : List ℕ) → import_name m f ≡ fixed → (m ≡ codes "env") × (f ≡ fixed)
one_import fixed other m f =
    of_both (λ n. n ≡ fixed → (m ≡ codes "env") × (f ≡ fixed)) (is_own_name m f) f (marked_import m f)
    (λ own e. ((own_name m f own).from_env, e))
    (λ own e. absurd (other (sym (ap (λ n. slice_index n 1) e))))

pub fixed_names_are_kept : FixedNamesAreKept
fixed_names_are_kept = record {
  init = no_export (codes "$init") refl (λ e. absurd (omega arith));
  hi = no_export (codes "$hi") refl (λ e. absurd (omega arith));
  trap = one_import trap_name (λ e. absurd (omega arith));
  high = one_import high_name (λ e. absurd (omega arith));
}
