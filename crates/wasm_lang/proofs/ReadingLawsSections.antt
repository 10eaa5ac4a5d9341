-- The two laws of sections, between which custom sections may stand.
use Rattle.std.proofs.Common.{◌≡◌, ◌⊎◌, inl, inr, ℕ, zero, suc, ◌+◌, ◌≤◌, Bool, true, false, cond, eqb, List, [], ◌∷◌, ◌++◌, length, drop, Option, Some, None, refl, sym, ap, ap₂, ◌∙◌, subst, arith, length-append, append-nil, le_refl}
use Rattle.std.specs.Prelude.{Result, Ok}
use Rattle.std.proofs.lemmas.Bool.{false≢true, eqb-true, eq-eqb}
use Rattle.wasm_lang.specs.declared.fault.Fault.{Fault}
use Rattle.wasm_lang.specs.declared.fault.Row.{Row}
use Rattle.wasm_lang.specs.declared.fault.Row.TheVariants.{SectionSize, Truncated}
use Rattle.wasm_lang.specs.Numbers.{IsU32}
use Rattle.wasm_lang.specs.Grammar.{Spelling, IsVec, IsName, IsSized, IsCustom, IsCustoms, no_custom, custom, IsSection, no_section, section, IsNumberSection, no_number, number}
use Rattle.wasm_lang.specs.Reading.{Input, Field, ◌>>=◌, u32, onto}
use Rattle.wasm_lang.specs.ReadingModule.{section_field, custom_content, begins_with, after_id, customs_within, customs_field, part_field, header_field}
use Rattle.wasm_lang.proofs.ReadingLaws.{from, leaves, Gives, Only, inner, ok_gives, equal_gives, bind_gives, onto_gives, ok_only, bind_only, expects_only, onto_only, if_only, weaker_only, byte_only, u32_gives, u32_only}
use Rattle.wasm_lang.proofs.ReadingLawsTypes.{name_gives, name_only, section_gives, section_only}
use Rattle.wasm_lang.proofs.Fields.{unsigned_shrinks}

-- ---- custom sections

custom_gives : (rest xs ys : List ℕ) (s : IsSized IsCustom rest xs ys) (at : ℕ) → Gives (section_field custom_content (from at xs)) (leaves s.is.name ys)
custom_gives rest xs ys s at = section_gives s.is.name custom_content s (λ at. bind_gives _ (name_gives at s.is.is) (λ at. ok_gives (at + length (rest ++ [])))) at

abbrev IsNamed : Spelling (List ℕ)
IsNamed name xs ys = (rest : List ℕ) × IsName name xs (rest ++ ys)

named_custom : (name xs ys : List ℕ) → IsSized IsNamed name xs ys → (rest : List ℕ) × IsSized IsCustom rest xs ys
named_custom name xs ys s = (s.is.0, record { content = s.content; after_size = s.after_size; size = s.size; stands = s.stands; is = record { name = name; is = s.is.1 } })

custom_only : (i : Input) → Only (section_field custom_content i) (λ x. (rest : List ℕ) × IsSized IsCustom rest i.bytes x.1.bytes)
custom_only i = weaker_only (section_only IsNamed (λ v. Unit {0}) custom_content content i) (λ x p. named_custom x.0 i.bytes x.1.bytes p.0)
  where
    content : (i : Input) → Only (custom_content i) (λ x. IsNamed x.0 i.bytes x.1.bytes × Unit {0})
    content i = bind_only _ (name_only i) (λ n h. ok_only ((n.1.bytes, subst (λ l. IsName n.0 i.bytes l) (sym (append-nil n.1.bytes)) h), tt))

pub customs_on : {xs ys zs : List ℕ} → IsCustoms xs ys → IsCustoms ys zs → IsCustoms xs zs
customs_on no_custom d = d
customs_on (custom s c) d = custom s (customs_on c d)

pub customs_are : {xs zs : List ℕ} → IsCustoms xs zs → (xs ≡ zs) ⊎ ((rest bs ys : List ℕ) × (xs ≡ 0 ∷ bs) × IsSized IsCustom rest bs ys × IsCustoms ys zs)
customs_are no_custom = inl refl
customs_are (custom {rest = rest} {xs = bs} {ys = ys} s c) = inr (rest, bs, ys, refl, s, c)

-- a custom section has one end
one_end : (rest more xs ys zs : List ℕ) → IsSized IsCustom rest xs ys → IsSized IsCustom more xs zs → ys ≡ zs
one_end rest more xs ys zs s t =
    let g = custom_gives rest xs ys s 0 in
    let h = custom_gives more xs zs t 0 in
    ap (λ x. x.1.bytes) (inner (sym g.is ∙ h.is))

tail_is : {b c : ℕ} {bs cs : List ℕ} → ◌≡◌ {A = List ℕ} (b ∷ bs) (c ∷ cs) → bs ≡ cs
tail_is e = ap (drop 1) e

-- some of the custom sections, and then the others
pub customs_between : {xs ys zs : List ℕ} → IsCustoms xs ys → IsCustoms xs zs → begins_with 0 zs ≡ false → IsCustoms ys zs
customs_between no_custom d e = d
customs_between {ys = ks} {zs = zs} (custom {rest = rest} {xs = bs} {ys = ms} s c) d e = by (λ d. customs_between c d e) (customs_are d)
  where
    by : (IsCustoms ms zs → IsCustoms ks zs) → ((0 ∷ bs) ≡ zs) ⊎ ((more cs ns : List ℕ) × ((0 ∷ bs) ≡ 0 ∷ cs) × IsSized IsCustom more cs ns × IsCustoms ns zs) → IsCustoms ks zs
    by f (inl q) = absurd (false≢true (sym e ∙ ap (begins_with 0) (sym q)))
    by f (inr x) =
        let same : ms ≡ x.2 = one_end rest x.0 bs ms x.2 s (subst (λ l. IsSized IsCustom x.0 l x.2) (sym (tail_is x.3)) x.4) in
        f (subst (λ l. IsCustoms l zs) (sym same) x.5)

customs_gives : {xs zs : List ℕ} → IsCustoms xs zs → begins_with 0 zs ≡ false → (n : ℕ) → length xs ≤ n → (at : ℕ) → Gives (customs_within n (from at xs)) (λ at. from at zs)
customs_gives no_custom e zero le at = ok_gives at
customs_gives {zs = zs} no_custom e (suc n) le at =
    record { place = at; is = ap (λ b. cond b (section_field custom_content (after_id (from at zs)) >>= λ x. customs_within n x.1) (Ok (from at zs))) e }
customs_gives (custom {xs = bs} s c) e zero le at = let l : length (0 ∷ bs) ≤ 0 = le in absurd (omega arith)
customs_gives (custom {rest = rest} {xs = bs} {ys = ms} s c) e (suc n) le at =
    let l : length (0 ∷ bs) ≤ suc n = le in
    let k : length ms ≤ n = omega (arith, unsigned_shrinks 32 (length s.content) bs s.after_size s.size, ap length s.stands, length-append s.content ms) in
    bind_gives _ (custom_gives rest bs ms s (at + 1)) (λ at. customs_gives c e n k at)

pub begins_is : (id : ℕ) (bs : List ℕ) → begins_with id bs ≡ true → id ∷ drop 1 bs ≡ bs
begins_is id [] e = cc
begins_is id (b ∷ bs) e = ap (λ b. b ∷ bs) (sym (eqb-true b id e))

customs_only : (n : ℕ) (i : Input) → Only (customs_within n i) (λ j. IsCustoms i.bytes j.bytes)
customs_only zero i = ok_only no_custom
customs_only (suc n) i =
    if_only (λ t.
    bind_only _ (custom_only (after_id i)) (λ x s.
    weaker_only (customs_only n x.1) (λ j c. subst (λ l. IsCustoms l j.bytes) (begins_is 0 i.bytes t) (custom s.1 c))))
    (λ t. ok_only no_custom)

-- ---- what stands after the custom sections

abbrev pub member : List ℕ → ℕ → Bool
member [] b = false
member (c ∷ cs) b = cond (eqb b c) true (member cs b)

-- nothing, or a section with one of these ids
abbrev pub heads : List ℕ → List ℕ → Bool
heads ids [] = true
heads ids (b ∷ bs) = member ids b

abbrev pub Comes : List ℕ → List ℕ → Type 0
Comes ids xs = (zs : List ℕ) × IsCustoms xs zs × (heads ids zs ≡ true)

pub not_begins : (ids : List ℕ) (id : ℕ) (zs : List ℕ) → member ids id ≡ false → heads ids zs ≡ true → begins_with id zs ≡ false
not_begins ids id [] e h = refl
not_begins ids id (b ∷ bs) e h = by (eqb b id) refl
  where
    by : (t : Bool) → eqb b id ≡ t → eqb b id ≡ false
    by true q = absurd (false≢true (sym e ∙ ap (member ids) (sym (eqb-true b id q)) ∙ h))
    by false q = q

-- a section, or none of it
abbrev pub IsPart : {X : Type 0} → ℕ → Spelling X → X → Spelling X
IsPart id P absent v xs ys = ((v ≡ absent) × IsCustoms xs ys) ⊎ ((zs : List ℕ) × IsCustoms xs (id ∷ zs) × IsSized P v zs ys)

pub section_part : {X : Type 0} {id : ℕ} {P : Spelling X} {vs : List X} {xs ys : List ℕ} → IsSection id P vs xs ys → IsPart id (IsVec P) [] vs xs ys
section_part (no_section c) = inl (refl, c)
section_part (section {ys = zs} c s) = inr (zs, c, s)

pub part_section : {X : Type 0} (id : ℕ) (P : Spelling X) (vs : List X) (xs ys : List ℕ) → IsPart id (IsVec P) [] vs xs ys → IsSection id P vs xs ys
part_section id P vs xs ys (inl p) = subst (λ vs. IsSection id P vs xs ys) (sym p.0) (no_section p.1)
part_section id P vs xs ys (inr p) = section p.1 p.2

-- the content of a section of one number
abbrev pub IsSome : Spelling (Option ℕ)
IsSome None xs ys = ⊥
IsSome (Some n) xs ys = IsU32 n xs ys

pub number_part : {id : ℕ} {n : Option ℕ} {xs ys : List ℕ} → IsNumberSection id n xs ys → IsPart id IsSome None n xs ys
number_part (no_number c) = inl (refl, c)
number_part (number {ys = zs} c s) = inr (zs, c, record { content = s.content; after_size = s.after_size; size = s.size; stands = s.stands; is = s.is })

pub part_number : (id : ℕ) (n : Option ℕ) (xs ys : List ℕ) → IsPart id IsSome None n xs ys → IsNumberSection id n xs ys
part_number id n xs ys (inl p) = subst (λ n. IsNumberSection id n xs ys) (sym p.0) (no_number p.1)
part_number id None xs ys (inr p) = absurd p.2.is
part_number id (Some n) xs ys (inr p) = let s = p.2 in number p.1 (record { content = s.content; after_size = s.after_size; size = s.size; stands = s.stands; is = s.is })

more_heads : (id : ℕ) (ids zs : List ℕ) → heads ids zs ≡ true → heads (id ∷ ids) zs ≡ true
more_heads id ids [] h = refl
more_heads id ids (b ∷ bs) h = by (eqb b id)
  where
    by : (t : Bool) → cond t true (member ids b) ≡ true
    by true = refl
    by false = h

-- what may stand before a section, or where it would stand
pub part_comes : {X : Type 0} (id : ℕ) (P : Spelling X) (absent v : X) (xs ys ids : List ℕ) → IsPart id P absent v xs ys → Comes ids ys → Comes (id ∷ ids) xs
part_comes id P absent v xs ys ids (inl p) c = (c.0, customs_on p.1 c.1, more_heads id ids c.0 c.2)
part_comes id P absent v xs ys ids (inr p) c = (id ∷ p.0, p.1, ap (λ t. cond t true (member ids id)) (eq-eqb id id refl))

-- A section that is spelled is read. The reader has gone over all custom sections, also those that the spelling counts to the next section.
pub part_gives : {X : Type 0} {P : Spelling X} {absent v : X} {xs ys rs : List ℕ} (id : ℕ) (ids : List ℕ) (content : Input → Field X) → eqb id 0 ≡ false → member ids id ≡ false → member ids 0 ≡ false
    → ((bs : List ℕ) (at : ℕ) → P v bs [] → Gives (content (from at bs)) (leaves v [])) → IsPart id P absent v xs ys → IsCustoms xs rs → Comes ids ys
    → (qs : List ℕ) × IsCustoms ys qs × ((at : ℕ) → Gives (part_field id absent content (from at rs)) (leaves v qs))
part_gives {absent = absent} {v = v} {rs = rs} id ids content nonzero apart zero_apart h (inl p) r c =
    let zs = c.0 in
    let e = not_begins ids 0 zs zero_apart c.2 in (
      zs,
      c.1,
      λ at.
          bind_gives _ (customs_gives (customs_between r (customs_on p.1 c.1) e) e (length rs) (le_refl (length rs)) at) (λ at.
          record { place = at; is = ap₂ (λ b v. cond b (section_field content (after_id (from at zs))) (Ok (v, from at zs))) (not_begins ids id zs apart c.2) (sym p.0) }),
    )
part_gives {absent = absent} {v = v} {ys = ys} {rs = rs} id ids content nonzero apart zero_apart h (inr p) r c =
    let zs = p.0 in (
      ys,
      no_custom,
      λ at.
          bind_gives _ (customs_gives (customs_between r p.1 nonzero) nonzero (length rs) (le_refl (length rs)) at) (λ at.
          equal_gives (ap (λ b. cond b (section_field content (from (at + 1) zs)) (Ok (absent, from at (id ∷ zs)))) (eq-eqb id id refl))
          (section_gives v content p.2 (λ at. h p.2.content at p.2.is) (at + 1))),
    )

-- the same, and what is read after it
pub part_then : {X Y : Type 0} {P : Spelling X} {absent v : X} {xs ys rs : List ℕ} {y : ℕ → Y} (id : ℕ) (ids : List ℕ) (content : Input → Field X) (g : X × Input → Result Y Fault)
    → eqb id 0 ≡ false → member ids id ≡ false → member ids 0 ≡ false → ((bs : List ℕ) (at : ℕ) → P v bs [] → Gives (content (from at bs)) (leaves v [])) → IsPart id P absent v xs ys → IsCustoms xs rs → Comes ids ys
    → (at : ℕ) → ((qs : List ℕ) → IsCustoms ys qs → (at : ℕ) → Gives (g (leaves v qs at)) y) → Gives (part_field id absent content (from at rs) >>= g) y
part_then id ids content g nonzero apart zero_apart h p r c at k =
    let q = part_gives id ids content nonzero apart zero_apart h p r c in bind_gives g (q.2 at) (λ at. k q.0 q.1 at)

-- and only that
pub part_only : {X : Type 0} (P : Spelling X) (Q : X → Type 0) (absent : X) (id : ℕ) (content : Input → Field X) → Q absent → ((i : Input) → Only (content i) (λ x. P x.0 i.bytes x.1.bytes × Q x.0))
    → (i : Input) → Only (part_field id absent content i) (λ x. IsPart id P absent x.0 i.bytes x.1.bytes × Q x.0)
part_only P Q absent id content none h i =
    bind_only _ (customs_only (length i.bytes) i) (λ j c.
    if_only (λ t. weaker_only (section_only P Q content h (after_id j)) (λ x s. (inr (drop 1 j.bytes, subst (λ l. IsCustoms i.bytes l) (sym (begins_is id j.bytes t)) c, s.0), s.1)))
    (λ t. ok_only (inl (refl, c), none)))

pub number_gives : (n : Option ℕ) (bs : List ℕ) (at : ℕ) → IsSome n bs [] → Gives (onto Some (u32 (from at bs))) (leaves n [])
number_gives None bs at h = absurd h
number_gives (Some n) bs at h = onto_gives Some (u32_gives SectionSize at h)

pub number_only : (i : Input) → Only (onto Some (u32 i)) (λ x. IsSome x.0 i.bytes x.1.bytes × Unit {0})
number_only i = onto_only Some (u32_only SectionSize i) (λ x c. (c, tt))

pub header_only : (row : Row) (es : List ℕ) (i : Input) → Only (header_field row es i) (λ j. i.bytes ≡ es ++ j.bytes)
header_only row [] i = ok_only refl
header_only row (e ∷ es) i =
    bind_only _ (byte_only Truncated i) (λ b q.
    expects_only row i.at _ (λ t.
    weaker_only (header_only row es b.1) (λ j r. q ∙ ap₂ (λ b l. b ∷ l) (eqb-true b.0 e t) r)))

pub last_gives : (rs : List ℕ) (at : ℕ) → IsCustoms rs [] → Gives (customs_field (from at rs)) (λ at. from at [])
last_gives rs at c = customs_gives c refl (length rs) (le_refl (length rs)) at

pub last_only : (i : Input) → Only (customs_field i) (λ j. IsCustoms i.bytes j.bytes)
last_only i = customs_only (length i.bytes) i

pub rest_is : {xs ys : List ℕ} → IsCustoms xs ys → IsCustoms xs [] → IsCustoms ys []
rest_is c d = customs_between c d refl
