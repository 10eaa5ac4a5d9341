-- The two laws of counts, bytes, names, sized parts and types.
use Rattle.std.proofs.Common.{◌≡◌, ℕ, ◌+◌, ◌≤◌, Bool, true, false, leb, List, [], ◌∷◌, ◌++◌, length, take, drop, Option, Some, None, refl, sym, ap, ap₂, ◌∙◌, subst, arith, length-append, take-append-drop}
use Rattle.std.specs.Prelude.{Ok}
use Rattle.std.specs.List.{AllByRecursion}
use Rattle.std.specs.Str.{is_utf8}
use Rattle.std.proofs.lemmas.List.{length-take-le}
use Rattle.std.proofs.lemmas.Str.{IsUtf8-from_is_utf8, is_utf8-from_IsUtf8}
use Rattle.std.proofs.lemmas.Bool.{eqb-true, leb-true, le-leb}
use Rattle.std.proofs.Math.Seq.{take-append_seam, drop-append_seam}
use Rattle.wasm_lang.specs.declared.fault.Row.TheVariants.{SectionSize, Limit, Utf8, Truncated}
use Rattle.wasm_lang.specs.declared.types.ValType.{ValType}
use Rattle.wasm_lang.specs.declared.types.ValType.TheVariants.{I32, I64}
use Rattle.wasm_lang.specs.declared.types.Limits.{Limits}
use Rattle.wasm_lang.specs.declared.types.GlobalType.{GlobalType}
use Rattle.wasm_lang.specs.Modules.{FunctionType}
use Rattle.wasm_lang.specs.Numbers.{IsU32}
use Rattle.wasm_lang.specs.Limits.{most_params, most_entries}
use Rattle.wasm_lang.specs.Grammar.{Spelling, IsVec, IsBytes, IsName, IsSized, IsValType, i32_type, i64_type, IsBlockType, no_result, one_result, IsFunctionType, function_type, IsLimits, only_min, min_and_max, IsTable, a_table, IsMutable, is_constant, is_variable, IsGlobalType, global_type}
use Rattle.wasm_lang.specs.Reading.{Input, Field, ◌>>=◌, u32, items_field, count_field, bytes_field, name_field, sized, val_type_of, val_type_field, block_type_field}
use Rattle.wasm_lang.specs.ReadingModule.{function_type_field, flag_field, limits_by, memory_field, table_field, global_type_field, section_field}
use Rattle.wasm_lang.proofs.ReadingLaws.{from, leaves, Gives, Only, ok_gives, equal_gives, bind_gives, expects_gives, ok_only, err_only, bind_only, expects_only, if_only, weaker_only, byte_only, u32_gives, u32_only, exactly_only, items_gives, items_only, vec_gives, vec_of, vec_only}

-- ---- counts

pub count_gives : {n : ℕ} {xs ys : List ℕ} (used limit at : ℕ) → used + n ≤ limit → IsU32 n xs ys → Gives (count_field used limit (from at xs)) (leaves n ys)
count_gives {n = n} used limit at le h = bind_gives _ (u32_gives SectionSize at h) (λ k. expects_gives Limit at _ (le-leb (used + n) limit le) (ok_gives k))

pub count_only : (used limit : ℕ) (i : Input) → Only (count_field used limit i) (λ x. IsU32 x.0 i.bytes x.1.bytes × (used + x.0 ≤ limit))
count_only used limit i = bind_only _ (u32_only SectionSize i) (λ n c. expects_only Limit i.at _ (λ t. ok_only (c, leb-true (used + n.0) limit t)))

pub counted_gives : {X : Type 0} {P : Spelling X} {Q : X → Type 0} (used limit : ℕ) (f : Input → Field X) → ((v : X) (xs ys : List ℕ) (at : ℕ) → Q v → P v xs ys → Gives (f (from at xs)) (leaves v ys))
    → {vs : List X} {xs ys : List ℕ} → used + length vs ≤ limit → AllByRecursion Q vs → IsVec P vs xs ys → (at : ℕ) → Gives (count_field used limit (from at xs) >>= λ n. items_field f n.0 n.1) (leaves vs ys)
counted_gives used limit f h {vs = vs} {ys = ys} le q v at = bind_gives _ (count_gives used limit at le v.count) (λ at. items_gives f h vs v.after_count ys q v.items at)

pub counted_only : {X : Type 0} {P : Spelling X} {Q : X → Type 0} (used limit : ℕ) (f : Input → Field X) → ((i : Input) → Only (f i) (λ x. P x.0 i.bytes x.1.bytes × Q x.0))
    → (i : Input) → Only (count_field used limit i >>= λ n. items_field f n.0 n.1) (λ x. IsVec P x.0 i.bytes x.1.bytes × AllByRecursion Q x.0 × (used + length x.0 ≤ limit))
counted_only used limit f h i =
    bind_only _ (count_only used limit i) (λ n c. weaker_only (items_only f h n.0 n.1) (λ x p. (vec_of c.0 p.0 p.1, p.2, subst (λ n. used + n ≤ limit) (sym p.0) c.1)))

pub all_are : {X : Type 0} (vs : List X) → AllByRecursion (λ v. Unit {0}) vs
all_are [] = tt
all_are (v ∷ vs) = (tt, all_are vs)

-- ---- bytes, names, sized parts

pub fits : (bs ys : List ℕ) → leb (length bs) (length (bs ++ ys)) ≡ true
fits bs ys = le-leb (length bs) (length (bs ++ ys)) (omega (arith, length-append bs ys))

cut_gives : (at : ℕ) (bs ys : List ℕ) → Gives {X = List ℕ × Input} (Ok (take (length bs) (bs ++ ys), record { at = at; bytes = drop (length bs) (bs ++ ys) })) (leaves bs ys)
cut_gives at bs ys = record { place = at; is = ap₂ (λ t d. Ok (t, from at d)) (take-append_seam bs ys) (drop-append_seam bs ys) }

pub bytes_gives : {bs xs ys : List ℕ} (at : ℕ) → IsBytes bs xs ys → Gives (bytes_field (from at xs)) (leaves bs ys)
bytes_gives {bs = bs} {xs = xs} {ys = ys} at b =
    bind_gives _ (u32_gives SectionSize at (subst (λ l. IsU32 (length bs) xs l) b.stand b.count)) (λ k.
    expects_gives SectionSize k _ (fits bs ys) (cut_gives (k + length bs) bs ys))

bytes_of : (n : ℕ) (xs rest : List ℕ) → IsU32 n xs rest → n ≤ length rest → IsBytes (take n rest) xs (drop n rest)
bytes_of n xs rest c le = record { after_count = rest; count = subst (λ k. IsU32 k xs rest) (sym (length-take-le n rest le)) c; stand = sym (take-append-drop n rest) }

pub bytes_only : (i : Input) → Only (bytes_field i) (λ x. IsBytes x.0 i.bytes x.1.bytes)
bytes_only i = bind_only _ (u32_only SectionSize i) (λ n c. expects_only SectionSize n.1.at _ (λ t. ok_only (bytes_of n.0 i.bytes n.1.bytes c (leb-true n.0 (length n.1.bytes) t))))

pub name_gives : {bs xs ys : List ℕ} (at : ℕ) → IsName bs xs ys → Gives (name_field (from at xs)) (leaves bs ys)
name_gives {bs = bs} {xs = xs} {ys = ys} at b =
    bind_gives _ (u32_gives SectionSize at (subst (λ l. IsU32 (length bs) xs l) b.bytes.stand b.bytes.count)) (λ k.
    expects_gives SectionSize k _ (fits bs ys) (expects_gives Utf8 k _ (ap is_utf8 (take-append_seam bs ys) ∙ is_utf8-from_IsUtf8 bs b.utf8) (cut_gives (k + length bs) bs ys)))

pub name_only : (i : Input) → Only (name_field i) (λ x. IsName x.0 i.bytes x.1.bytes)
name_only i =
    bind_only _ (u32_only SectionSize i) (λ n c.
    expects_only SectionSize n.1.at _ (λ t.
    expects_only Utf8 n.1.at _ (λ u.
    ok_only (record { bytes = bytes_of n.0 i.bytes n.1.bytes c (leb-true n.0 (length n.1.bytes) t); utf8 = IsUtf8-from_is_utf8 (take n.0 n.1.bytes) u }))))

pub sized_gives : {X : Type 0} {v : X} (c : Input → Field X) (bs ys : List ℕ) (at : ℕ) → ((at : ℕ) → Gives (c (from at bs)) (leaves v [])) → Gives (sized (length bs) c (from at (bs ++ ys))) (leaves v ys)
sized_gives {v = v} c bs ys at h =
    bind_gives _ (equal_gives (ap (λ l. c (from at l)) (take-append_seam bs ys)) (h at)) (λ k.
    record { place = at + length bs; is = ap (λ l. Ok (v, from (at + length bs) l)) (drop-append_seam bs ys) })

none_left : (bs : List ℕ) → leb (length bs) 0 ≡ true → bs ≡ []
none_left [] e = refl
none_left (b ∷ bs) e = let h : length (b ∷ bs) ≤ 0 = leb-true (length (b ∷ bs)) 0 e in absurd (omega arith)

pub sized_only : {X : Type 0} (P : Spelling X) (Q : X → Type 0) (c : Input → Field X) → ((i : Input) → Only (c i) (λ x. P x.0 i.bytes x.1.bytes × Q x.0))
    → (size : ℕ) (i : Input) → Only (sized size c i) (λ x. P x.0 (take size i.bytes) [] × Q x.0 × (x.1.bytes ≡ drop size i.bytes))
sized_only P Q c h size i =
    bind_only _ (h (from i.at (take size i.bytes))) (λ x p.
    expects_only SectionSize x.1.at _ (λ t.
    ok_only (subst (λ l. P x.0 (take size i.bytes) l) (none_left x.1.bytes t) p.0, p.1, refl)))

pub size_count : {X : Type 0} {P : Spelling X} {v : X} {xs ys : List ℕ} (s : IsSized P v xs ys) → IsU32 (length s.content) xs (s.content ++ ys)
size_count {xs = xs} s = subst (λ l. IsU32 (length s.content) xs l) s.stands s.size

pub sized_of : {X : Type 0} {P : Spelling X} {v : X} {n : ℕ} {xs rest ys : List ℕ} → IsU32 n xs rest → leb n (length rest) ≡ true → P v (take n rest) [] → ys ≡ drop n rest → IsSized P v xs ys
sized_of {n = n} {xs = xs} {rest = rest} c t p e = record {
  content = take n rest;
  after_size = rest;
  size = subst (λ k. IsU32 k xs rest) (sym (length-take-le n rest (leb-true n (length rest) t))) c;
  stands = sym (take-append-drop n rest) ∙ ap (λ l. take n rest ++ l) (sym e);
  is = p;
}

-- a section's size and content; what is read of it may be another value
pub section_gives : {X Y : Type 0} {P : Spelling X} {v : X} {xs ys : List ℕ} (w : Y) (c : Input → Field Y) (s : IsSized P v xs ys) → ((at : ℕ) → Gives (c (from at s.content)) (leaves w []))
    → (at : ℕ) → Gives (section_field c (from at xs)) (leaves w ys)
section_gives {ys = ys} w c s h at =
    bind_gives _ (u32_gives Truncated at (size_count s)) (λ k.
    expects_gives Truncated _ _ (fits s.content ys) (sized_gives c s.content ys k h))

pub section_only : {X : Type 0} (P : Spelling X) (Q : X → Type 0) (c : Input → Field X) → ((i : Input) → Only (c i) (λ x. P x.0 i.bytes x.1.bytes × Q x.0))
    → (i : Input) → Only (section_field c i) (λ x. IsSized P x.0 i.bytes x.1.bytes × Q x.0)
section_only P Q c h i =
    bind_only _ (u32_only Truncated i) (λ n s.
    expects_only Truncated _ _ (λ t.
    weaker_only (sized_only P Q c h n.0 n.1) (λ x p. (sized_of s t p.0 p.2, p.1))))

-- ---- types

pub val_type_gives : (t : ValType) (xs ys : List ℕ) (at : ℕ) → IsValType t xs ys → Gives (val_type_field (from at xs)) (leaves t ys)
val_type_gives t xs ys at i32_type = record { place = at + 1; is = refl }
val_type_gives t xs ys at i64_type = record { place = at + 1; is = refl }

val_type_of_only : (at b : ℕ) → Only (val_type_of at b) (λ t. (ys : List ℕ) → IsValType t (b ∷ ys) ys)
val_type_of_only at b =
    if_only (λ e. ok_only (λ ys. subst (λ b. IsValType I32 (b ∷ ys) ys) (sym (eqb-true b 0x7f e)) i32_type))
    (λ e. if_only (λ e. ok_only (λ ys. subst (λ b. IsValType I64 (b ∷ ys) ys) (sym (eqb-true b 0x7e e)) i64_type))
    (λ e. if_only (λ e. err_only) (λ e. err_only)))

pub val_type_only : (i : Input) → Only (val_type_field i) (λ x. IsValType x.0 i.bytes x.1.bytes)
val_type_only i =
    bind_only _ (byte_only SectionSize i) (λ b e.
    bind_only _ (val_type_of_only i.at b.0) (λ t h.
    ok_only (subst (λ l. IsValType t l b.1.bytes) (sym e) (h b.1.bytes))))

pub block_type_gives : (r : Option ValType) (xs ys : List ℕ) (at : ℕ) → IsBlockType r xs ys → Gives (block_type_field (from at xs)) (leaves r ys)
block_type_gives r xs ys at no_result = record { place = at + 1; is = refl }
block_type_gives r xs ys at (one_result {t = t} {xs = bs} h) = by t bs ys h
  where
    by : (t : ValType) (xs ys : List ℕ) → IsValType t xs ys → Gives (block_type_field (from at xs)) (leaves (Some t) ys)
    by t xs ys i32_type = record { place = at + 1; is = refl }
    by t xs ys i64_type = record { place = at + 1; is = refl }

pub block_type_only : (i : Input) → Only (block_type_field i) (λ x. IsBlockType x.0 i.bytes x.1.bytes)
block_type_only i =
    bind_only _ (byte_only SectionSize i) (λ b e.
    bind_only {R = λ r. (ys : List ℕ) → IsBlockType r (b.0 ∷ ys) ys} _
    (if_only (λ t. ok_only (λ ys. subst (λ b. IsBlockType None (b ∷ ys) ys) (sym (eqb-true b.0 0x40 t)) no_result)) (λ t. bind_only _ (val_type_of_only i.at b.0) (λ t h. ok_only (λ ys. one_result (h ys)))))
    (λ r h. ok_only (subst (λ l. IsBlockType r l b.1.bytes) (sym e) (h b.1.bytes))))

pub flag_gives : (m : Bool) (xs ys : List ℕ) (at : ℕ) → IsMutable m xs ys → Gives (flag_field (from at xs)) (leaves m ys)
flag_gives m xs ys at is_constant = record { place = at + 1; is = refl }
flag_gives m xs ys at is_variable = record { place = at + 1; is = refl }

pub flag_only : (i : Input) → Only (flag_field i) (λ x. IsMutable x.0 i.bytes x.1.bytes)
flag_only i =
    bind_only _ (byte_only SectionSize i) (λ b e.
    bind_only {R = λ m. (ys : List ℕ) → IsMutable m (b.0 ∷ ys) ys} _
    (if_only (λ t. ok_only (λ ys. subst (λ b. IsMutable false (b ∷ ys) ys) (sym (eqb-true b.0 0x00 t)) is_constant))
    (λ t. if_only (λ t. ok_only (λ ys. subst (λ b. IsMutable true (b ∷ ys) ys) (sym (eqb-true b.0 0x01 t)) is_variable)) (λ t. err_only)))
    (λ m h. ok_only (subst (λ l. IsMutable m l b.1.bytes) (sym e) (h b.1.bytes))))

pub limits_gives : (Q : ℕ → Type 0) (min : Input → Field ℕ) → ((n : ℕ) (xs ys : List ℕ) (at : ℕ) → Q n → IsU32 n xs ys → Gives (min (from at xs)) (leaves n ys))
    → (l : Limits) (xs ys : List ℕ) (at : ℕ) → Q l.min → IsLimits l xs ys → Gives (limits_by min (from at xs)) (leaves l ys)
limits_gives Q min h l xs ys at q (only_min {n = n} {xs = bs} c) = bind_gives _ (h n bs ys (at + 1) q c) (λ at. ok_gives at)
limits_gives Q min h l xs ys at q (min_and_max {n = n} {xs = bs} {ys = ms} c d) =
    bind_gives _ (h n bs ms (at + 1) q c) (λ at. bind_gives _ (u32_gives SectionSize at d) (λ at. ok_gives at))

abbrev pub max_if : Bool → ℕ → Input → Field Limits
max_if false n j = Ok (record { min = n; max = None }, j)
max_if true n j = u32 j >>= λ m. Ok (record { min = n; max = Some m.0 }, m.1)

max_only : (Q : ℕ → Type 0) (m : Bool) (n : ℕ) (xs ys : List ℕ) (j : Input) → IsMutable m xs ys → IsU32 n ys j.bytes → Q n → Only (max_if m n j) (λ x. IsLimits x.0 xs x.1.bytes × Q x.0.min)
max_only Q false n xs ys j e c q = ok_only (constant xs ys e c, q)
  where
    constant : (xs ys : List ℕ) → IsMutable false xs ys → IsU32 n ys j.bytes → IsLimits (record { min = n; max = None }) xs j.bytes
    constant xs ys is_constant c = only_min c
max_only Q true n xs ys j e c q = bind_only _ (u32_only SectionSize j) (λ m d. ok_only (variable xs ys m.0 m.1.bytes e c d, q))
  where
    variable : (xs ys : List ℕ) (m : ℕ) (zs : List ℕ) → IsMutable true xs ys → IsU32 n ys j.bytes → IsU32 m j.bytes zs → IsLimits (record { min = n; max = Some m }) xs zs
    variable xs ys m zs is_variable c d = min_and_max c d

pub limits_only : (Q : ℕ → Type 0) (min : Input → Field ℕ) → ((i : Input) → Only (min i) (λ x. IsU32 x.0 i.bytes x.1.bytes × Q x.0))
    → (i : Input) → Only (limits_by min i) (λ x. IsLimits x.0 i.bytes x.1.bytes × Q x.0.min)
limits_only Q min h i = bind_only _ (flag_only i) (λ more e. bind_only _ (h more.1) (λ n c. max_only Q more.0 n.0 i.bytes more.1.bytes n.1 e c.0 c.1))

pub memory_gives : (l : Limits) (xs ys : List ℕ) (at : ℕ) → IsLimits l xs ys → Gives (memory_field (from at xs)) (leaves l ys)
memory_gives l xs ys at h = limits_gives (λ n. Unit {0}) u32 (λ n xs ys at q c. u32_gives SectionSize at c) l xs ys at tt h

pub memory_only : (i : Input) → Only (memory_field i) (λ x. IsLimits x.0 i.bytes x.1.bytes)
memory_only i = weaker_only (limits_only (λ n. Unit {0}) u32 (λ i. weaker_only (u32_only SectionSize i) (λ x c. (c, tt))) i) (λ x h. h.0)

pub table_gives : (l : Limits) (xs ys : List ℕ) (at : ℕ) → l.min ≤ most_entries → IsTable l xs ys → Gives (table_field (from at xs)) (leaves l ys)
table_gives l xs ys at le (a_table {xs = bs} h) = limits_gives (λ n. 0 + n ≤ most_entries) (count_field 0 most_entries) (λ n xs ys at q c. count_gives 0 most_entries at q c) l bs ys (at + 1) (omega (arith, le)) h

pub table_only : (i : Input) → Only (table_field i) (λ x. IsTable x.0 i.bytes x.1.bytes × (x.0.min ≤ most_entries))
table_only i =
    bind_only _ (exactly_only 0x70 i) (λ b e.
    weaker_only (limits_only (λ n. 0 + n ≤ most_entries) (count_field 0 most_entries) (count_only 0 most_entries) b.1) (λ x h.
    (subst (λ l. IsTable x.0 l x.1.bytes) (sym e) (a_table h.0), (let le : 0 + x.0.min ≤ most_entries = h.1 in omega arith))))

pub global_type_gives : (t : GlobalType) (xs ys : List ℕ) (at : ℕ) → IsGlobalType t xs ys → Gives (global_type_field (from at xs)) (leaves t ys)
global_type_gives t xs ys at (global_type {t = k} {m = m} {ys = ms} a b) =
    bind_gives _ (val_type_gives k xs ms at a) (λ at. bind_gives _ (flag_gives m ms ys at b) (λ at. ok_gives at))

pub global_type_only : (i : Input) → Only (global_type_field i) (λ x. IsGlobalType x.0 i.bytes x.1.bytes)
global_type_only i = bind_only _ (val_type_only i) (λ t a. bind_only _ (flag_only t.1) (λ m b. ok_only (global_type a b)))

pub function_type_gives : (t : FunctionType) (xs ys : List ℕ) (at : ℕ) → length t.params ≤ most_params → IsFunctionType t xs ys → Gives (function_type_field (from at xs)) (leaves t ys)
function_type_gives t xs ys at le (function_type {ps = ps} {rs = rs} {ys = ms} p r) =
    bind_gives _ (count_gives 0 most_params (at + 1) (omega (arith, le)) p.count) (λ at.
    bind_gives _ (items_gives val_type_field (λ v xs ys at u h. val_type_gives v xs ys at h) ps p.after_count ms (all_are ps) p.items at) (λ at.
    bind_gives _ (vec_gives val_type_field (λ v xs ys at u h. val_type_gives v xs ys at h) (all_are rs) r at) (λ at. ok_gives at)))

pub function_type_only : (i : Input) → Only (function_type_field i) (λ x. IsFunctionType x.0 i.bytes x.1.bytes × (length x.0.params ≤ most_params))
function_type_only i =
    bind_only _ (exactly_only 0x60 i) (λ b e.
    bind_only _ (count_only 0 most_params b.1) (λ n c.
    bind_only _ (items_only val_type_field val n.0 n.1) (λ ps p.
    bind_only _ (vec_only val_type_field val ps.1) (λ rs r.
    ok_only (
      subst (λ l. IsFunctionType (record { params = ps.0; results = rs.0 }) l rs.1.bytes) (sym e) (function_type (vec_of c.0 p.0 p.1) r.0),
      (let le : 0 + n.0 ≤ most_params = c.1 in let k : length ps.0 ≡ n.0 = p.0 in omega arith),
    )))))
  where
    val : (i : Input) → Only (val_type_field i) (λ x. IsValType x.0 i.bytes x.1.bytes × Unit {0})
    val i = weaker_only (val_type_only i) (λ x h. (h, tt))
