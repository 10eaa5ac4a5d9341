-- What no row on single tokens refuses.
use Rattle.std.proofs.Common.{◌≡◌, ℕ, ◌+◌, ◌-◌, ◌^◌, ◌<◌, ◌≤◌, min, Bool, true, false, ◌&&◌, not, cond, List, [], ◌∷◌, ◌++◌, drop, Option, Some, is_none, codes, decimal, ℤ, pos, negsuc, ◌-ℤ◌, refl, ap, ◌∙◌, arith}
use Rattle.std.specs.Prelude.{flat_map, nat_lt, int_le, int_lt, neg_ℤ, if◌then◌else◌}
use Rattle.std.specs.List.{AllByRecursion}
use Rattle.std.specs.Fmt.{signed_decimal}
use Rattle.std.specs.Str.{IsUtf8, is_utf8}
use Rattle.std.proofs.lemmas.Bool.{and_from, lt-ltb, le-ltb, le-leb, ltb-false}
use Rattle.std.proofs.lemmas.Str.{is_utf8-from_IsUtf8}
use Rattle.sem_words.specs.Words.{signed_of}
use Rattle.wasm_lang.specs.Limits.{most_entries}
use Rattle.wat_lang.specs.declared.parts.Space.{Space}
use Rattle.wat_lang.specs.declared.parts.Space.TheVariants as spaces
use Rattle.wat_lang.specs.declared.fault.Row.TheVariants as rows
use Rattle.wat_lang.specs.Tokens.{Class, atom, Token}
use Rattle.wat_lang.specs.Numbers.{number_of, is_id, access_of}
use Rattle.wat_lang.specs.Grammar.{Mark, binds, uses, a_type_use, a_minimum, a_maximum, a_module_name, a_field_name, an_export_name, a_word_32, a_word_64, an_offset, an_alignment, Marked, marked}
use Rattle.wat_lang.specs.Names.{bytes_of, text_of, binds_in, all_with, Names, place_of_id, Field}
use Rattle.wat_lang.specs.Modules.{natural_or_0, exponent_of}
use Rattle.wat_lang.specs.Rows.{Refusal, where_holds, is_out, is_out_32, is_bad_number, number_rows, is_name, utf8_rows, taken_again, taken_in, has_locals, local_spaces, taken_rows, is_unknown_use, is_table_minimum, entry_rows}
use Rattle.wat_laws_print.proofs.ReadNumbers.{decimal_read, decimal_no_id, signed_read, word_32_short, word_64_short, keyed_read, positive, negative}
use Rattle.wat_laws_again.specs.Signs.{Sign, placed}
use Rattle.wat_laws_again.proofs.CodeBack.{alignment_some}

-- ---- single tokens

abbrev pub IsIndex : Class → Type 0
IsIndex c = (n : ℕ) × (c ≡ atom (decimal n)) × (n < 2 ^ 32)

abbrev pub IsFlatAs : Mark → Class → Type 0
IsFlatAs (binds s) c = ⊥
IsFlatAs (uses s) c = IsIndex c
IsFlatAs a_type_use c = IsIndex c
IsFlatAs (a_minimum spaces.Table) c = (n : ℕ) × (c ≡ atom (decimal n)) × (n < 2 ^ 32) × (n ≤ most_entries)
IsFlatAs (a_minimum s) c = IsIndex c
IsFlatAs a_maximum c = IsIndex c
IsFlatAs a_module_name c = IsUtf8 (bytes_of c)
IsFlatAs a_field_name c = IsUtf8 (bytes_of c)
IsFlatAs an_export_name c = IsUtf8 (bytes_of c)
IsFlatAs a_word_32 c = (w : ℕ) × (c ≡ atom (signed_decimal (signed_of 32 w))) × (w < 2 ^ 32)
IsFlatAs a_word_64 c = (w : ℕ) × (c ≡ atom (signed_decimal (signed_of 64 w))) × (w < 2 ^ 64)
IsFlatAs an_offset c = (n : ℕ) × (c ≡ atom (codes "offset=" ++ decimal n)) × (n < 2 ^ 32)
IsFlatAs an_alignment c = (a : ℕ) × (c ≡ atom (codes "align=" ++ decimal (2 ^ min a 63))) × (a < 32)
IsFlatAs m c = Unit {0}

abbrev pub IsFlat : Sign → Type 0
IsFlat s = IsFlatAs s.0 s.1

abbrev pub IsFlatMark : Marked → Type 0
IsFlatMark m = IsFlatAs m.mark m.token.class

pub placed_flat : (ns : List ℕ) (ss : List Sign) → AllByRecursion IsFlat ss → AllByRecursion IsFlatMark (placed ns ss)
placed_flat ns [] all = tt
placed_flat ns (s ∷ ss) all = (all.0, placed_flat (drop 1 ns) ss all.1)

-- ---- numbers

between : (lo hi z : ℤ) → int_le lo z ≡ true → int_lt z hi ≡ true → is_out lo hi (Some z) ≡ false
between lo hi z p q = ap not (and_from (int_le lo z) (int_lt z hi) p q)

index_in : (n : ℕ) → n < 2 ^ 32 → is_out_32 (Some (pos n)) ≡ false
index_in n h = between (pos 0) (pos (2 ^ 32)) (pos n) (le-leb 0 n (omega arith)) (lt-ltb n (2 ^ 32) h)

index_fine : (c : Class) → IsIndex c → is_out_32 (number_of (bytes_of c)) ≡ false
index_fine c h = ap (λ (x : Class). is_out_32 (number_of (bytes_of x))) h.1 ∙ ap is_out_32 (decimal_read h.0 (let low = h.2 in omega (arith, low))) ∙ index_in h.0 h.2

-- the signed reading of a word is in its range
signed_in : (half whole top a : ℕ) → whole ≡ half + half → half ≡ top + 1 → a < whole → is_out (negsuc top) (pos whole) (Some (if nat_lt a half then pos a else pos a -ℤ pos whole)) ≡ false
signed_in half whole top a e f lt = by (nat_lt a half) refl
  where
    by : (t : Bool) → nat_lt a half ≡ t → is_out (negsuc top) (pos whole) (Some (if nat_lt a half then pos a else pos a -ℤ pos whole)) ≡ false
    by true t =
        ap (λ (z : ℤ). is_out (negsuc top) (pos whole) (Some z)) (positive half whole a e (omega (arith, f)) lt t) ∙ between (negsuc top) (pos whole) (pos a) refl (lt-ltb a whole lt)
    by false t =
        let high = ltb-false a half t in
        ap (λ (z : ℤ). is_out (negsuc top) (pos whole) (Some z)) (negative half whole a e (omega (arith, f)) lt t)
        ∙ between (negsuc top) (pos whole) (negsuc (whole - a - 1)) (le-leb (whole - a - 1) top (omega (arith, e, f, high, lt))) refl

word_32_fine : (c : Class) → IsFlatAs a_word_32 c → is_out (neg_ℤ (pos (2 ^ 31))) (pos (2 ^ 32)) (number_of (bytes_of c)) ≡ false
word_32_fine c h =
    ap (λ (x : Class). is_out (neg_ℤ (pos (2 ^ 31))) (pos (2 ^ 32)) (number_of (bytes_of x))) h.1
    ∙ ap (is_out (neg_ℤ (pos (2 ^ 31))) (pos (2 ^ 32))) (signed_read (signed_of 32 h.0) (word_32_short h.0 h.2)) ∙ signed_in (2 ^ 31) (2 ^ 32) 2147483647 h.0 refl refl h.2

word_64_fine : (c : Class) → IsFlatAs a_word_64 c → is_out (neg_ℤ (pos (2 ^ 63))) (pos (2 ^ 64)) (number_of (bytes_of c)) ≡ false
word_64_fine c h =
    ap (λ (x : Class). is_out (neg_ℤ (pos (2 ^ 63))) (pos (2 ^ 64)) (number_of (bytes_of x))) h.1
    ∙ ap (is_out (neg_ℤ (pos (2 ^ 63))) (pos (2 ^ 64))) (signed_read (signed_of 64 h.0) (word_64_short h.0 h.2)) ∙ signed_in (2 ^ 63) (2 ^ 64) 9223372036854775807 h.0 refl refl h.2

offset_fine : (c : Class) → IsFlatAs an_offset c → is_out_32 (access_of (codes "offset=") (bytes_of c)) ≡ false
offset_fine c h = ap (λ (x : Class). is_out_32 (access_of (codes "offset=") (bytes_of x))) h.1 ∙ ap is_out_32 (keyed_read (codes "offset=") h.0 (let low = h.2 in omega (arith, low))) ∙ index_in h.0 h.2

alignment_fine : (c : Class) → IsFlatAs an_alignment c → is_none (exponent_of (natural_or_0 (access_of (codes "align=") (bytes_of c)))) ≡ false
alignment_fine c h = ap (λ (x : Class). is_none (exponent_of (natural_or_0 (access_of (codes "align=") (bytes_of x))))) h.1 ∙ alignment_some h.0 h.2

fine : (k : Mark) (t : Token) → IsFlatAs k t.class → is_bad_number (marked k t) ≡ false
fine (uses s) t h = index_fine t.class h
fine a_type_use t h = index_fine t.class h
fine (a_minimum spaces.Table) t h = index_fine t.class (h.0, h.1, h.2)
fine (a_minimum s) t h = index_fine t.class h
fine a_maximum t h = index_fine t.class h
fine a_word_32 t h = word_32_fine t.class h
fine a_word_64 t h = word_64_fine t.class h
fine an_offset t h = offset_fine t.class h
fine an_alignment t h = alignment_fine t.class h
fine _ t h = refl

pub no_number_rows : (ms : List Marked) → AllByRecursion IsFlatMark ms → number_rows ms ≡ []
no_number_rows [] all = refl
no_number_rows (m ∷ ms) all = ap (λ (b : Bool). where_holds b rows.Number m.token.at ++ number_rows ms) (fine m.mark m.token all.0) ∙ no_number_rows ms all.1

-- ---- names

name_fine : (k : Mark) (t : Token) → is_name k ≡ true → IsFlatAs k t.class → is_utf8 (text_of (marked k t)) ≡ true
name_fine a_module_name t e h = is_utf8-from_IsUtf8 (bytes_of t.class) h
name_fine a_field_name t e h = is_utf8-from_IsUtf8 (bytes_of t.class) h
name_fine an_export_name t e h = is_utf8-from_IsUtf8 (bytes_of t.class) h
name_fine _ t e h = absurd cc

pub no_utf8_rows : (ms : List Marked) → AllByRecursion IsFlatMark ms → utf8_rows ms ≡ []
no_utf8_rows [] all = refl
no_utf8_rows (m ∷ ms) all = by (is_name m.mark) refl (no_utf8_rows ms all.1)
  where
    row : Marked → List Refusal
    row n = where_holds (not (is_utf8 (text_of n))) rows.Utf8 n.token.at

    by : (b : Bool) → is_name m.mark ≡ b → utf8_rows ms ≡ [] → flat_map row (cond b (m ∷ all_with is_name ms) (all_with is_name ms)) ≡ []
    by true e below = ap (λ (b : Bool). where_holds (not b) rows.Utf8 m.token.at ++ utf8_rows ms) (name_fine m.mark m.token e all.0) ∙ below
    by false e below = below

-- ---- ids

no_bind : (s : Space) (k : Mark) (c : Class) → IsFlatAs k c → binds_in s k ≡ false
no_bind s (binds t) c h = absurd h
no_bind s _ c h = refl

none_bound : (s : Space) (ms : List Marked) → AllByRecursion IsFlatMark ms → all_with (binds_in s) ms ≡ []
none_bound s [] all = refl
none_bound s (m ∷ ms) all = ap (λ (b : Bool). cond b (m ∷ all_with (binds_in s) ms) (all_with (binds_in s) ms)) (no_bind s m.mark m.token.class all.0) ∙ none_bound s ms all.1

none_taken : (s : Space) (ms : List Marked) → AllByRecursion IsFlatMark ms → taken_in s ms ≡ []
none_taken s ms all = ap (taken_again []) (none_bound s ms all)

none_local : (fs : List Field) → AllByRecursion (λ (f : Field). AllByRecursion IsFlatMark f.parts) fs → flat_map local_spaces fs ≡ []
none_local [] all = refl
none_local (f ∷ fs) all = ap (λ (rs : List Refusal). rs ++ flat_map local_spaces fs) (by (has_locals f.kind)) ∙ none_local fs all.1
  where
    by : (b : Bool) → (if b then taken_in spaces.Local f.parts else []) ≡ []
    by true = none_taken spaces.Local f.parts all.0
    by false = refl

joined_empty : {X : Type 0} (xs ys : List X) → xs ≡ [] → ys ≡ [] → xs ++ ys ≡ []
joined_empty {X = X} xs ys e f = ap (λ (zs : List X). zs ++ ys) e ∙ f

pub no_taken_rows : (fs : List Field) (ms : List Marked) → AllByRecursion IsFlatMark ms → AllByRecursion (λ (f : Field). AllByRecursion IsFlatMark f.parts) fs → taken_rows fs ms ≡ []
no_taken_rows fs ms all parts = joined_empty _ (flat_map local_spaces fs) (each all_spaces) (none_local fs parts)
  where
    all_spaces : List Space
    all_spaces = spaces.Type ∷ spaces.Func ∷ spaces.Table ∷ spaces.Memory ∷ spaces.Global ∷ spaces.Elem ∷ spaces.Data ∷ []

    each : (ss : List Space) → flat_map (λ s. taken_in s ms) ss ≡ []
    each [] = refl
    each (s ∷ ss) = joined_empty (taken_in s ms) (flat_map (λ s. taken_in s ms) ss) (none_taken s ms all) (each ss)

index_no_id : (c : Class) → IsIndex c → is_id (bytes_of c) ≡ false
index_no_id c h = ap (λ (x : Class). is_id (bytes_of x)) h.1 ∙ decimal_no_id h.0 (let low = h.2 in omega (arith, low))

pub known_use_fine : (names : Space → Names) (k : Mark) (t : Token) → IsFlatAs k t.class → is_unknown_use names (marked k t) ≡ false
known_use_fine names (uses s) t h = ap (λ (b : Bool). b && is_none (place_of_id (bytes_of t.class) (names s))) (index_no_id t.class h)
known_use_fine names a_type_use t h = ap (λ (b : Bool). b && is_none (place_of_id (bytes_of t.class) (names spaces.Type))) (index_no_id t.class h)
known_use_fine names _ t h = refl

-- ---- tables

minimum_fits : (k : Mark) (t : Token) → is_table_minimum k ≡ true → IsFlatAs k t.class → nat_lt most_entries (natural_or_0 (number_of (text_of (marked k t)))) ≡ false
minimum_fits (a_minimum spaces.Table) t e h =
    ap (λ (x : Class). nat_lt most_entries (natural_or_0 (number_of (bytes_of x)))) h.1 ∙ ap (λ (o : Option ℤ). nat_lt most_entries (natural_or_0 o)) (decimal_read h.0 (let low = h.2 in omega (arith, low))) ∙ le-ltb most_entries h.0 h.3
minimum_fits _ t e h = absurd cc

pub no_entry_rows : (ms : List Marked) → AllByRecursion IsFlatMark ms → entry_rows ms ≡ []
no_entry_rows [] all = refl
no_entry_rows (m ∷ ms) all = by (is_table_minimum m.mark) refl (no_entry_rows ms all.1)
  where
    row : Marked → List Refusal
    row n = where_holds (nat_lt most_entries (natural_or_0 (number_of (text_of n)))) rows.Limit n.token.at

    by : (b : Bool) → is_table_minimum m.mark ≡ b → entry_rows ms ≡ [] → flat_map row (cond b (m ∷ all_with is_table_minimum ms) (all_with is_table_minimum ms)) ≡ []
    by true e below = ap (λ (b : Bool). where_holds b rows.Limit m.token.at ++ entry_rows ms) (minimum_fits m.mark m.token e all.0) ∙ below
    by false e below = below
