-- From any spelling of a value by bytes: the spelling of this crate is one too, it is made of bytes, and it isn't longer.
use Rattle.std.proofs.Common.{◌≡◌, ℕ, ◌+◌, ◌-◌, ◌*◌, ◌/◌, ◌%◌, ◌^◌, ◌<◌, ◌≤◌, Bool, true, false, List, [], ◌∷◌, ◌++◌, length, refl, sym, ap, subst, ◌∙◌, arith, inl, inr, append_assoc, append-nil, length-append}
use Rattle.std.proofs.Math.Pow.{pow_mono}
use Rattle.std.proofs.lemmas.Nat.{pow-add}
use Rattle.std.proofs.lemmas.Bool.{cases_lt, lt-ltb, le-ltb}
use Rattle.wasm_lang.specs.Numbers.{IsUnsigned, last_unsigned, more_unsigned, IsInteger, last_positive, last_negative, more_integer, IsU32}
use Rattle.wasm_lang.specs.Grammar.{Spelling, Items, no_item, item, IsVec, IsBytes, IsName, IsSized}
use Rattle.wasm_binary_write.specs.Spelling.{seven_bits, groups, unsigned, integer, items, vector, sized}
use Rattle.wasm_binary_write.proofs.Groups.{groups_last, groups_more}

abbrev pub AreBytes : List ℕ → Type 0
AreBytes [] = Unit {0}
AreBytes (b ∷ bs) = (b < 256) × AreBytes bs

pub bytes_append : (xs ys : List ℕ) → AreBytes xs → AreBytes ys → AreBytes (xs ++ ys)
bytes_append [] ys a b = b
bytes_append (x ∷ xs) ys a b = (a.0, bytes_append xs ys a.1 b)

pub bytes_split : (xs ys : List ℕ) → AreBytes (xs ++ ys) → AreBytes xs × AreBytes ys
bytes_split [] ys a = (tt, a)
bytes_split (x ∷ xs) ys a = let s = bytes_split xs ys a.1 in ((a.0, s.0), s.1)

-- P says which bytes are a spelling of the value, and what follows them; own is the one of this crate
pub record Best (P : List ℕ → List ℕ → Type 0) (own xs ys : List ℕ) : Type 0 where
  pub spells : (zs : List ℕ) → P (own ++ zs) zs
  pub shorter : length own + length ys ≤ length xs
  pub bytes : AreBytes own
  pub rest : AreBytes ys

abbrev pub AreBest : {X : Type 0} → Spelling X → (X → List ℕ) → Type 0
AreBest {X = X} P f = (v : X) (xs ys : List ℕ) → AreBytes xs → P v xs ys → Best (P v) (f v) xs ys

-- the first of two parts
pub before : (P : List ℕ → List ℕ → Type 0) (own next zs xs ys : List ℕ) → Best P own xs ys → P ((own ++ next) ++ zs) (next ++ zs)
before P own next zs xs ys b = subst (λ l. P l (next ++ zs)) (sym (append_assoc own next zs)) (b.spells (next ++ zs))

pub two_shorter : (a b : List ℕ) (x y z : ℕ) → length a + y ≤ x → length b + z ≤ y → length (a ++ b) + z ≤ x
two_shorter a b x y z p q = omega (arith, length-append a b)

-- ---- unsigned numbers

joined_groups : (limit : ℕ) (turned : Bool) (n high low : ℕ) → 0 < limit → limit ≤ n → low < 128 → n ≡ 128 * high + low → groups limit turned n ≡ (seven_bits turned low + 128) ∷ groups limit turned high
joined_groups limit turned n high low p h l e =
    let d : n / 128 ≡ high = omega arith in
    let m : n % 128 ≡ low = omega arith in
    groups_more limit turned n p h ∙ ap (λ r. (seven_bits turned r + 128) ∷ groups limit turned (n / 128)) m ∙ ap (λ q. (seven_bits turned low + 128) ∷ groups limit turned q) d

-- one byte
one_best : (P : List ℕ → List ℕ → Type 0) (own xs ys : List ℕ) (b : ℕ) → own ≡ b ∷ [] → b < 256 → ((zs : List ℕ) → P (b ∷ zs) zs) → 1 + length ys ≤ length xs → AreBytes ys → Best P own xs ys
one_best P own xs ys b e small spells l r =
    subst (λ own. Best P own xs ys) (sym e) (record { spells = spells; shorter = l; bytes = (small, tt); rest = r })

-- a byte, and more
more_best : (P Q : List ℕ → List ℕ → Type 0) (own others xs bs ys : List ℕ) (b : ℕ) → own ≡ b ∷ others → b < 256 → ((zs : List ℕ) → Q (others ++ zs) zs → P (b ∷ (others ++ zs)) zs) → 1 + length bs ≤ length xs
    → Best Q others bs ys → Best P own xs ys
more_best P Q own others xs bs ys b e small spells l r =
    subst (λ own. Best P own xs ys) (sym e)
    (record { spells = λ zs. spells zs (r.spells zs); shorter = (let s = r.shorter in omega arith); bytes = (small, r.bytes); rest = r.rest })

wide_pow : (bits : ℕ) → 7 < bits → 128 ≤ 2 ^ bits
wide_pow bits h = let k : 7 ≤ bits = omega arith in let p : 2 ^ 7 ≤ 2 ^ bits = pow_mono k in omega arith

-- a number, and each smaller one
pub best_unsigned : (bits k n : ℕ) (xs ys : List ℕ) → k ≤ n → AreBytes xs → IsUnsigned bits n xs ys → Best (IsUnsigned bits k) (unsigned k) xs ys
best_unsigned bits k n xs ys le bytes (last_unsigned {b = b} h l) =
    let small : k < 128 = omega arith in
    one_best (IsUnsigned bits k) (unsigned k) xs ys k (groups_last 128 false k small) (omega arith) (λ zs. last_unsigned (omega arith) (omega arith)) (omega arith) bytes.1
best_unsigned bits k n xs ys le bytes (more_unsigned {b = b} {high = high} {xs = bs} h l r) =
    let byte : b < 256 = bytes.0 in
    let w = wide_pow bits l in
    elim (cases_lt k 128) [
      | inl small ↦
          let below = best_unsigned (bits - 7) 0 high bs ys (omega arith) bytes.1 r in
          let s = below.shorter in
          one_best (IsUnsigned bits k) (unsigned k) xs ys k (groups_last 128 false k small) (omega arith) (λ zs. last_unsigned (omega arith) (omega arith)) (omega arith) below.rest
      | inr large ↦
          let q : k / 128 ≤ high = omega arith in
          let below = best_unsigned (bits - 7) (k / 128) high bs ys q bytes.1 r in
          let low : k % 128 < 128 = omega arith in
          let again : 2 ^ 7 * (k / 128) + (k % 128 + 128 - 2 ^ 7) ≡ k = omega arith in
          more_best (IsUnsigned bits k) (IsUnsigned (bits - 7) (k / 128)) (unsigned k) (unsigned (k / 128)) xs bs ys (k % 128 + 128) (groups_more 128 false k (omega arith) large) (omega arith)
          (λ zs s. subst (λ n. IsUnsigned bits n ((k % 128 + 128) ∷ (unsigned (k / 128) ++ zs)) zs) again (more_unsigned (omega arith) l s)) (omega arith) below
    ]

pub best_u32 : AreBest IsU32 unsigned
best_u32 n xs ys bytes h = best_unsigned 32 n n xs ys (omega arith) bytes h

-- ---- words

integer_positive : (bits n : ℕ) → n < 2 ^ (bits - 1) → integer bits n ≡ groups 64 false n
integer_positive bits n h = let t = lt-ltb n (2 ^ (bits - 1)) h in rw t refl

integer_negative : (bits n : ℕ) → 2 ^ (bits - 1) ≤ n → integer bits n ≡ groups 64 true (2 ^ bits - 1 - n)
integer_negative bits n h = let t = le-ltb n (2 ^ (bits - 1)) h in rw t refl

halves : (bits : ℕ) → 0 < bits → 2 ^ bits ≡ 2 * 2 ^ (bits - 1)
halves bits h = let e : bits ≡ 1 + (bits - 1) = omega arith in ap (λ n. 2 ^ n) e ∙ pow-add 2 1 (bits - 1)

pub sevens : (bits k : ℕ) → bits ≡ 7 + k → 2 ^ bits ≡ 128 * 2 ^ k
sevens bits k e = ap (λ n. 2 ^ n) e ∙ pow-add 2 7 k

integer_bound : (bits n : ℕ) (xs ys : List ℕ) → 0 < bits → AreBytes xs → IsInteger bits n xs ys → n < 2 ^ bits
integer_bound bits n xs ys p bytes (last_positive {b = b} h l) = let e = halves bits p in omega arith
integer_bound bits n xs ys p bytes (last_negative {b = b} h k l) = let e = halves bits p in omega arith
integer_bound bits n xs ys p bytes (more_integer {b = b} {high = high} {xs = bs} h l r) =
    let byte : b < 256 = bytes.0 in
    let below = integer_bound (bits - 7) high bs ys (omega arith) bytes.1 r in
    let e = sevens bits (bits - 7) (omega arith) in
    omega arith

one_negative : (bits n : ℕ) (zs : List ℕ) (m : ℕ) → m < 64 → m < 2 ^ (bits - 1) → m + n + 1 ≡ 2 ^ bits → IsInteger bits n ((127 - m) ∷ zs) zs
one_negative bits n zs m small fits e =
    let again : 127 - m + 2 ^ bits - 2 ^ 7 ≡ n = omega arith in
    subst (λ n. IsInteger bits n ((127 - m) ∷ zs) zs) again (last_negative (omega arith) (omega arith) (omega arith))

more_positive : (bits b high : ℕ) (xs bs ys : List ℕ) → 2 ^ 7 ≤ b → b < 256 → 7 < bits → high < 2 ^ (bits - 7 - 1) → 1 + length bs ≤ length xs
    → Best (IsInteger (bits - 7) high) (integer (bits - 7) high) bs ys → Best (IsInteger bits (2 ^ 7 * high + (b - 2 ^ 7))) (integer bits (2 ^ 7 * high + (b - 2 ^ 7))) xs ys
more_positive bits b high xs bs ys h byte l low len below =
    let n = 2 ^ 7 * high + (b - 2 ^ 7) in
    let e = sevens (bits - 1) (bits - 7 - 1) (omega arith) in
    let fits : n < 2 ^ (bits - 1) = omega arith in
    elim (cases_lt n 64) [
      | inl small ↦
          let s = below.shorter in
          one_best (IsInteger bits n) (integer bits n) xs ys n (integer_positive bits n fits ∙ groups_last 64 false n small) (omega arith) (λ zs. last_positive (omega arith) fits) (omega arith) below.rest
      | inr large ↦
          more_best (IsInteger bits n) (IsInteger (bits - 7) high) (integer bits n) (integer (bits - 7) high) xs bs ys b
          (integer_positive bits n fits ∙ joined_groups 64 false n high (b - 128) (omega arith) large (omega arith) refl ∙ ap (λ c. c ∷ groups 64 false high) (let f : b - 128 + 128 ≡ b = omega arith in f)
          ∙ ap (λ l. b ∷ l) (sym (integer_positive (bits - 7) high low)))
          byte (λ zs s. more_integer h l s) len below
    ]

more_negative : (bits b high : ℕ) (xs bs ys : List ℕ) → 2 ^ 7 ≤ b → b < 256 → 7 < bits → 2 ^ (bits - 7 - 1) ≤ high → high < 2 ^ (bits - 7) → 1 + length bs ≤ length xs
    → Best (IsInteger (bits - 7) high) (integer (bits - 7) high) bs ys → Best (IsInteger bits (2 ^ 7 * high + (b - 2 ^ 7))) (integer bits (2 ^ 7 * high + (b - 2 ^ 7))) xs ys
more_negative bits b high xs bs ys h byte l low bound len below =
    let n = 2 ^ 7 * high + (b - 2 ^ 7) in
    let e = sevens (bits - 1) (bits - 7 - 1) (omega arith) in
    let d = sevens bits (bits - 7) (omega arith) in
    let t = halves bits (omega arith) in
    let fits : 2 ^ (bits - 1) ≤ n = omega arith in
    let m = 2 ^ bits - 1 - n in
    elim (cases_lt m 64) [
      | inl small ↦
          let s = below.shorter in
          one_best (IsInteger bits n) (integer bits n) xs ys (127 - m) (integer_negative bits n fits ∙ groups_last 64 true m small) (omega arith)
          (λ zs. one_negative bits n zs m small (omega arith) (omega arith)) (omega arith) below.rest
      | inr large ↦
          let parts : m ≡ 128 * (2 ^ (bits - 7) - 1 - high) + (255 - b) = omega arith in
          more_best (IsInteger bits n) (IsInteger (bits - 7) high) (integer bits n) (integer (bits - 7) high) xs bs ys b
          (integer_negative bits n fits ∙ joined_groups 64 true m (2 ^ (bits - 7) - 1 - high) (255 - b) (omega arith) large (omega arith) parts
          ∙ ap (λ c. c ∷ groups 64 true (2 ^ (bits - 7) - 1 - high)) (let f : 127 - (255 - b) + 128 ≡ b = omega arith in f)
          ∙ ap (λ l. b ∷ l) (sym (integer_negative (bits - 7) high low)))
          byte (λ zs s. more_integer h l s) len below
    ]

pub best_integer : (bits n : ℕ) (xs ys : List ℕ) → 0 < bits → AreBytes xs → IsInteger bits n xs ys → Best (IsInteger bits n) (integer bits n) xs ys
best_integer bits n xs ys p bytes (last_positive {b = b} h l) =
    one_best (IsInteger bits n) (integer bits n) xs ys b (integer_positive bits b l ∙ groups_last 64 false b (omega arith)) (omega arith) (λ zs. last_positive h l) (omega arith) bytes.1
best_integer bits n xs ys p bytes (last_negative {b = b} h k l) =
    let e = halves bits p in
    let small : 127 - b < 64 = omega arith in
    let turned : 2 ^ bits - 1 - (b + 2 ^ bits - 2 ^ 7) ≡ 127 - b = omega arith in
    one_best (IsInteger bits n) (integer bits n) xs ys b
    (integer_negative bits (b + 2 ^ bits - 2 ^ 7) (omega arith) ∙ ap (groups 64 true) turned ∙ groups_last 64 true (127 - b) small ∙ ap (λ c. c ∷ []) (let f : 127 - (127 - b) ≡ b = omega arith in f))
    (omega arith) (λ zs. last_negative h k l) (omega arith) bytes.1
best_integer bits n xs ys p bytes (more_integer {b = b} {high = high} {xs = bs} h l r) =
    let below = best_integer (bits - 7) high bs ys (omega arith) bytes.1 r in
    let bound = integer_bound (bits - 7) high bs ys (omega arith) bytes.1 r in
    elim (cases_lt high (2 ^ (bits - 7 - 1))) [
      | inl low ↦ more_positive bits b high xs bs ys h bytes.0 l low (omega arith) below
      | inr low ↦ more_negative bits b high xs bs ys h bytes.0 l low bound (omega arith) below
    ]

-- ---- vectors, names and sized parts

pub best_items : {X : Type 0} (P : Spelling X) (f : X → List ℕ) → AreBest P f → (vs : List X) (xs ys : List ℕ) → AreBytes xs → Items P vs xs ys → Best (Items P vs) (items f vs) xs ys
best_items P f one vs xs ys bytes no_item = record { spells = λ zs. no_item; shorter = omega arith; bytes = tt; rest = bytes }
best_items P f one vs xs zs bytes (item {v = v} {vs = ws} {ys = ys} h hs) =
    let a = one v xs ys bytes h in
    let r = best_items P f one ws ys zs a.rest hs in
    record {
      spells = λ us. item (before (P v) (f v) (items f ws) us xs ys a) (r.spells us);
      shorter = two_shorter (f v) (items f ws) (length xs) (length ys) (length zs) a.shorter r.shorter;
      bytes = bytes_append (f v) (items f ws) a.bytes r.bytes;
      rest = r.rest;
    }

pub best_vec : {X : Type 0} (P : Spelling X) (f : X → List ℕ) → AreBest P f → (vs : List X) (xs ys : List ℕ) → AreBytes xs → IsVec P vs xs ys → Best (IsVec P vs) (vector f vs) xs ys
best_vec P f one vs xs ys bytes h =
    let n = best_u32 (length vs) xs h.after_count bytes h.count in
    let r = best_items P f one vs h.after_count ys n.rest h.items in
    record {
      spells = λ us. record { after_count = items f vs ++ us; count = before (IsU32 (length vs)) (unsigned (length vs)) (items f vs) us xs h.after_count n; items = r.spells us };
      shorter = two_shorter (unsigned (length vs)) (items f vs) (length xs) (length h.after_count) (length ys) n.shorter r.shorter;
      bytes = bytes_append (unsigned (length vs)) (items f vs) n.bytes r.bytes;
      rest = r.rest;
    }

pub best_bytes : (bs xs ys : List ℕ) → AreBytes xs → IsBytes bs xs ys → Best (IsBytes bs) (sized bs) xs ys
best_bytes bs xs ys bytes h =
    let n = best_u32 (length bs) xs h.after_count bytes h.count in
    let s = bytes_split bs ys (subst AreBytes h.stand n.rest) in
    let l : length bs + length ys ≤ length h.after_count = omega (arith, ap length h.stand, length-append bs ys) in
    record {
      spells = λ us. record { after_count = bs ++ us; count = before (IsU32 (length bs)) (unsigned (length bs)) bs us xs h.after_count n; stand = refl };
      shorter = two_shorter (unsigned (length bs)) bs (length xs) (length h.after_count) (length ys) n.shorter l;
      bytes = bytes_append (unsigned (length bs)) bs n.bytes s.0;
      rest = s.1;
    }

pub best_name : (bs xs ys : List ℕ) → AreBytes xs → IsName bs xs ys → Best (IsName bs) (sized bs) xs ys
best_name bs xs ys bytes h =
    let b = best_bytes bs xs ys bytes h.bytes in
    record { spells = λ us. record { bytes = b.spells us; utf8 = h.utf8 }; shorter = b.shorter; bytes = b.bytes; rest = b.rest }

pub best_sized : {X : Type 0} (P : Spelling X) (f : X → List ℕ) → AreBest P f → (v : X) (xs ys : List ℕ) → AreBytes xs → IsSized P v xs ys → Best (IsSized P v) (sized (f v)) xs ys
best_sized P f one v xs ys bytes h =
    let after = (best_u32 (length h.content) xs h.after_size bytes h.size).rest in
    let s = bytes_split h.content ys (subst AreBytes h.stands after) in
    let c = one v h.content [] s.0 h.is in
    let short = c.shorter in
    let n = best_unsigned 32 (length (f v)) (length h.content) xs h.after_size (omega arith) bytes h.size in
    let l : length (f v) + length ys ≤ length h.after_size = omega (arith, ap length h.stands, length-append h.content ys) in
    record {
      spells = λ us. record {
        content = f v;
        after_size = f v ++ us;
        size = before (IsU32 (length (f v))) (unsigned (length (f v))) (f v) us xs h.after_size n;
        stands = refl;
        is = subst (λ l. P v l []) (append-nil (f v)) (c.spells []);
      };
      shorter = two_shorter (unsigned (length (f v))) (f v) (length xs) (length h.after_size) (length ys) n.shorter l;
      bytes = bytes_append (unsigned (length (f v))) (f v) n.bytes c.bytes;
      rest = s.1;
    }
