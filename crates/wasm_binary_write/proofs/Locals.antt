-- The longest runs of one type: they spell the same locals, and not longer.
use Rattle.std.proofs.Common.{◌≡◌, ℕ, zero, suc, ◌+◌, ◌-◌, ◌*◌, ◌/◌, ◌%◌, ◌^◌, ◌<◌, ◌≤◌, Bool, true, false, List, [], ◌∷◌, ◌++◌, length, replicate, refl, sym, ap, subst, ◌∙◌, arith, inl, inr, append_assoc, length-append}
use Rattle.std.proofs.Math.Pow.{pow_mono}
use Rattle.std.proofs.lemmas.Bool.{cases_lt, false≢true}
use Rattle.wasm_lang.specs.declared.types.ValType.{ValType}
use Rattle.wasm_lang.specs.declared.types.ValType.TheVariants.{I32, I64}
use Rattle.wasm_lang.specs.Numbers.{IsUnsigned, last_unsigned, more_unsigned, IsU32}
use Rattle.wasm_lang.specs.Grammar.{Items, no_item, item, IsVec, IsValType, i32_type, i64_type, IsCode, locals_of, IsRun, a_run, IsFunctionBody, a_body}
use Rattle.wasm_binary_write.specs.Spelling.{unsigned, items, vector, value_type, same_type, runs_from, runs, run, body}
use Rattle.wasm_binary_write.specs.Spelling as own
use Rattle.wasm_binary_write.proofs.Groups.{groups_last, groups_more}
use Rattle.wasm_binary_write.proofs.Best.{AreBytes, bytes_append, Best, AreBest, before, two_shorter, sevens, best_u32, best_unsigned, best_items}
use Rattle.wasm_binary_write.proofs.BestCode.{best_val_type, best_code}
use Rattle.wasm_binary_write.proofs.BestEntries.{both_spell}

-- ---- how long a number is

unfoldable long : ℕ → ℕ
long n = length (unsigned n)

long_last : (n : ℕ) → n < 128 → long n ≡ 1
unfolding long
long_last n h = ap length (groups_last 128 false n h)

long_more : (n : ℕ) → 128 ≤ n → long n ≡ 1 + long (n / 128)
unfolding long
long_more n h = omega (arith, ap length (groups_more 128 false n (omega arith) h))

some_long : (n : ℕ) → 1 ≤ long n
some_long n = elim (cases_lt n 128) [ inl small ↦ omega (arith, long_last n small) | inr large ↦ omega (arith, long_more n large) ]

long_mono : (turns k n : ℕ) → n ≤ turns → k ≤ n → long k ≤ long n
long_mono zero k n t h = let e : k ≡ n = omega arith in omega (arith, ap long e)
long_mono (suc turns) k n t h =
    elim (cases_lt k 128) [
      | inl small ↦ omega (arith, long_last k small, some_long n)
      | inr large ↦
          let m : 128 ≤ n = omega arith in
          let below = long_mono turns (k / 128) (n / 128) (omega arith) (omega arith) in
          omega (arith, long_more k large, long_more n m)
    ]

long_sum : (turns a b : ℕ) → a + b ≤ turns → long (a + b + 1) ≤ long a + long b
long_sum zero a b t = omega (arith, long_last (a + b + 1) (omega arith), some_long a, some_long b)
long_sum (suc turns) a b t =
    elim (cases_lt (a + b + 1) 128) [
      | inl small ↦ omega (arith, long_last (a + b + 1) small, some_long a, some_long b)
      | inr large ↦
          let q = (a + b + 1) / 128 in
          let whole = long_more (a + b + 1) large in
          elim (cases_lt a 128) [
            | inl p ↦
                elim (cases_lt b 128) [
                  | inl r ↦ let one : q < 128 = omega arith in omega (arith, long_last q one, some_long a, some_long b)
                  | inr r ↦
                      let below = long_sum turns 0 (b / 128) (omega arith) in
                      let up = long_mono (0 + b / 128 + 1) q (0 + b / 128 + 1) (omega arith) (omega arith) in
                      omega (arith, long_last 0 (omega arith), long_last a p, long_more b r)
                ]
            | inr p ↦
                elim (cases_lt b 128) [
                  | inl r ↦
                      let below = long_sum turns (a / 128) 0 (omega arith) in
                      let up = long_mono (a / 128 + 0 + 1) q (a / 128 + 0 + 1) (omega arith) (omega arith) in
                      omega (arith, long_last 0 (omega arith), long_last b r, long_more a p)
                  | inr r ↦
                      let below = long_sum turns (a / 128) (b / 128) (omega arith) in
                      let up = long_mono (a / 128 + b / 128 + 1) q (a / 128 + b / 128 + 1) (omega arith) (omega arith) in
                      omega (arith, long_more a p, long_more b r)
                ]
          ]
    ]

long_both : (a b : ℕ) → long (a + b) ≤ long a + long b
long_both a b = let up = long_mono (a + b + 1) (a + b) (a + b + 1) (omega arith) (omega arith) in omega (arith, long_sum (a + b) a b (omega arith))

-- ---- runs

same_is : (t u : ValType) → same_type t u ≡ true → t ≡ u
same_is I32 I32 e = refl
same_is I32 I64 e = absurd (false≢true e)
same_is I64 I32 e = absurd (false≢true e)
same_is I64 I64 e = refl

same_self : (t : ValType) → same_type t t ≡ true
same_self I32 = refl
same_self I64 = refl

on_same : (n : ℕ) (t : ValType) (us : List ValType) → runs_from n t (t ∷ us) ≡ runs_from (n + 1) t us
on_same n t us = rw same_self refl

on_other : (n : ℕ) (t u : ValType) (us : List ValType) → same_type t u ≡ false → runs_from n t (u ∷ us) ≡ (n, t) ∷ runs_from 1 u us
on_other n t u us e = rw e refl

on_run : (k n : ℕ) (t : ValType) (us : List ValType) → runs_from n t (replicate k t ++ us) ≡ runs_from (n + k) t us
on_run zero n t us = ap (λ n. runs_from n t us) (let e : n ≡ n + 0 = omega arith in e)
on_run (suc k) n t us = on_same n t (replicate k t ++ us) ∙ on_run k (n + 1) t us ∙ ap (λ n. runs_from n t us) (let e : n + 1 + k ≡ n + suc k = omega arith in e)

-- the first run, the run of the type before, and a run of another type
pub first_run : (k : ℕ) (t : ValType) (us : List ValType) → 0 < k → runs (replicate k t ++ us) ≡ runs_from k t us
first_run zero t us h = absurd (omega arith)
first_run (suc k) t us h = on_run k 1 t us ∙ ap (λ n. runs_from n t us) (let e : 1 + k ≡ suc k = omega arith in e)

pub same_run : (n : ℕ) (t u : ValType) (k : ℕ) (us : List ValType) → same_type t u ≡ true → runs_from n t (replicate k u ++ us) ≡ runs_from (n + k) t us
same_run n t u k us e = subst (λ u. runs_from n t (replicate k u ++ us) ≡ runs_from (n + k) t us) (same_is t u e) (on_run k n t us)

pub other_run : (n : ℕ) (t u : ValType) (k : ℕ) (us : List ValType) → 0 < k → same_type t u ≡ false → runs_from n t (replicate k u ++ us) ≡ (n, t) ∷ runs_from k u us
other_run n t u zero us h e = absurd (omega arith)
other_run n t u (suc k) us h e = on_other n t u (replicate k u ++ us) e ∙ ap (λ l. (n, t) ∷ l) (first_run (suc k) u us h)

run_more : (n : ℕ) (t : ValType) (us : List ValType) → replicate (n + 1) t ++ us ≡ replicate n t ++ t ∷ us
run_more n t us = ap (λ k. replicate k t ++ us) (let e : n + 1 ≡ suc n = omega arith in e) ∙ by n
  where
    by : (n : ℕ) → replicate (suc n) t ++ us ≡ replicate n t ++ t ∷ us
    by zero = refl
    by (suc n) = ap (λ l. t ∷ l) (by n)

locals_from : (us : List ValType) (n : ℕ) (t : ValType) → locals_of (runs_from n t us) ≡ replicate n t ++ us
locals_from [] n t = refl
locals_from (u ∷ us) n t = by (same_type t u) refl (locals_from us)
  where
    by : (s : Bool) → same_type t u ≡ s → ((n : ℕ) (t : ValType) → locals_of (runs_from n t us) ≡ replicate n t ++ us) → locals_of (runs_from n t (u ∷ us)) ≡ replicate n t ++ u ∷ us
    by true e below =
        subst (λ u. locals_of (runs_from n t (u ∷ us)) ≡ replicate n t ++ u ∷ us) (same_is t u e)
        (ap locals_of (on_same n t us) ∙ below (n + 1) t ∙ run_more n t us)
    by false e below = ap locals_of (on_other n t u us e) ∙ ap (λ l. replicate n t ++ l) (below 1 u)

locals_again : (us : List ValType) → locals_of (runs us) ≡ us
locals_again [] = refl
locals_again (u ∷ us) = locals_from us 1 u

-- ---- they aren't longer

type_long : (t : ValType) → length (value_type t) ≡ 1
type_long I32 = refl
type_long I64 = refl

run_long : (n : ℕ) (t : ValType) (rest : List (ℕ × ValType)) → length (items run ((n, t) ∷ rest)) ≡ long n + 1 + length (items run rest)
unfolding long
run_long n t rest = omega (arith, length-append (unsigned n ++ value_type t) (items run rest), length-append (unsigned n) (value_type t), type_long t)

abbrev Shorter : (ours theirs : List (ℕ × ValType)) → Type 0
Shorter ours theirs = (length (items run ours) ≤ length (items run theirs)) × (length ours ≤ length theirs)

shorter_from : (rs : List (ℕ × ValType)) (n : ℕ) (t : ValType) → Shorter (runs_from n t (locals_of rs)) ((n, t) ∷ rs)
shorter_from [] n t = (omega arith, omega arith)
shorter_from ((k, u) ∷ rs) n t = by k (same_type t u) refl (shorter_from rs)
  where
    by : (k : ℕ) (s : Bool) → same_type t u ≡ s → ((n : ℕ) (t : ValType) → Shorter (runs_from n t (locals_of rs)) ((n, t) ∷ rs)) → Shorter (runs_from n t (replicate k u ++ locals_of rs)) ((n, t) ∷ (k, u) ∷ rs)
    by k true e below =
        let b = below (n + k) t in
        subst (λ u. Shorter (runs_from n t (replicate k u ++ locals_of rs)) ((n, t) ∷ (k, u) ∷ rs)) (same_is t u e)
        (subst (λ ours. Shorter ours ((n, t) ∷ (k, t) ∷ rs)) (sym (on_run k n t (locals_of rs)))
        (omega (arith, b.0, run_long (n + k) t rs, run_long n t ((k, t) ∷ rs), run_long k t rs, long_both n k), omega (arith, b.1)))
    by zero false e below =
        let b = below n t in
        (omega (arith, b.0, run_long n t rs, run_long n t ((0, u) ∷ rs), run_long 0 u rs), omega (arith, b.1))
    by (suc j) false e below =
        let b = below (1 + j) u in
        let k : 1 + j ≡ suc j = omega arith in
        subst (λ ours. Shorter ours ((n, t) ∷ (suc j, u) ∷ rs)) (sym (on_other n t u (replicate j u ++ locals_of rs) e ∙ ap (λ l. (n, t) ∷ l) (on_run j 1 u (locals_of rs))))
        (omega (arith, b.0, run_long (1 + j) u rs, run_long n t ((suc j, u) ∷ rs), run_long (suc j) u rs, run_long n t (runs_from (1 + j) u (locals_of rs)), ap long k), omega (arith, b.1))

shorter_runs : (rs : List (ℕ × ValType)) → Shorter (runs (locals_of rs)) rs
shorter_runs [] = (omega arith, omega arith)
shorter_runs ((zero, u) ∷ rs) = let b = shorter_runs rs in (omega (arith, b.0, run_long 0 u rs), omega (arith, b.1))
shorter_runs ((suc j, u) ∷ rs) =
    let b = shorter_from rs (1 + j) u in
    let k : 1 + j ≡ suc j = omega arith in
    subst (λ ours. Shorter ours ((suc j, u) ∷ rs)) (sym (on_run j 1 u (locals_of rs)))
    (omega (arith, b.0, run_long (1 + j) u rs, run_long (suc j) u rs, ap long k), omega (arith, b.1))

-- ---- they are spelled

short_spells : (bits n : ℕ) (zs : List ℕ) → n < 128 → n < 2 ^ bits → IsUnsigned bits n (unsigned n ++ zs) zs × AreBytes (unsigned n)
short_spells bits n zs small h = subst (λ l. IsUnsigned bits n (l ++ zs) zs × AreBytes l) (sym (groups_last 128 false n small)) (last_unsigned (omega arith) h, (omega arith, tt))

wide_bits : (bits n : ℕ) → 128 ≤ n → n < 2 ^ bits → 7 < bits
wide_bits bits n large h = elim (cases_lt 7 bits) [ inl l ↦ l | inr l ↦ (let p : 2 ^ bits ≤ 2 ^ 7 = pow_mono l in absurd (omega arith)) ]

unsigned_spells : (turns bits n : ℕ) (zs : List ℕ) → n ≤ turns → n < 2 ^ bits → IsUnsigned bits n (unsigned n ++ zs) zs × AreBytes (unsigned n)
unsigned_spells zero bits n zs t h = short_spells bits n zs (omega arith) h
unsigned_spells (suc turns) bits n zs t h =
    elim (cases_lt n 128) [
      | inl small ↦ short_spells bits n zs small h
      | inr large ↦
          let wide = wide_bits bits n large h in
          let e = sevens bits (bits - 7) (omega arith) in
          let below = unsigned_spells turns (bits - 7) (n / 128) zs (omega arith) (omega arith) in
          let again : 2 ^ 7 * (n / 128) + (n % 128 + 128 - 2 ^ 7) ≡ n = omega arith in
          subst (λ l. IsUnsigned bits n (l ++ zs) zs × AreBytes l) (sym (groups_more 128 false n (omega arith) large))
          (subst (λ m. IsUnsigned bits m ((n % 128 + 128) ∷ (unsigned (n / 128) ++ zs)) zs) again (more_unsigned (omega arith) wide below.0), (omega arith, below.1))
    ]

type_spells : (t : ValType) (zs : List ℕ) → IsValType t (value_type t ++ zs) zs
type_spells I32 zs = i32_type
type_spells I64 zs = i64_type

type_bytes : (t : ValType) → AreBytes (value_type t)
type_bytes I32 = (omega arith, tt)
type_bytes I64 = (omega arith, tt)

run_spells : (n : ℕ) (t : ValType) (zs : List ℕ) → n < 2 ^ 32 → IsRun (n, t) (run (n, t) ++ zs) zs × AreBytes (run (n, t))
run_spells n t zs h =
    let u = unsigned_spells n 32 n (value_type t ++ zs) (omega arith) h in
    (a_run (subst (λ l. IsU32 n l (value_type t ++ zs)) (sym (append_assoc (unsigned n) (value_type t) zs)) u.0) (type_spells t zs), bytes_append (unsigned n) (value_type t) u.1 (type_bytes t))

abbrev Spelled : List (ℕ × ValType) → List ℕ → Type 0
Spelled rs zs = Items IsRun rs (items run rs ++ zs) zs × AreBytes (items run rs)

one_more : (n : ℕ) (t : ValType) (rs : List (ℕ × ValType)) (zs : List ℕ) → n < 2 ^ 32 → Spelled rs zs → Spelled ((n, t) ∷ rs) zs
one_more n t rs zs h s =
    let r = run_spells n t (items run rs ++ zs) h in
    (item (subst (λ l. IsRun (n, t) l (items run rs ++ zs)) (sym (append_assoc (run (n, t)) (items run rs) zs)) r.0) s.0, bytes_append (run (n, t)) (items run rs) r.1 s.1)

spelled_from : (us : List ValType) (n : ℕ) (t : ValType) (zs : List ℕ) → n + length us < 2 ^ 32 → Spelled (runs_from n t us) zs
spelled_from [] n t zs h = one_more n t [] zs (omega arith) (no_item, tt)
spelled_from (u ∷ us) n t zs h = by (same_type t u) refl (spelled_from us)
  where
    by : (s : Bool) → same_type t u ≡ s → ((n : ℕ) (t : ValType) (zs : List ℕ) → n + length us < 2 ^ 32 → Spelled (runs_from n t us) zs) → Spelled (runs_from n t (u ∷ us)) zs
    by true e below = subst (λ u. Spelled (runs_from n t (u ∷ us)) zs) (same_is t u e) (subst (λ rs. Spelled rs zs) (sym (on_same n t us)) (below (n + 1) t zs (omega arith)))
    by false e below = subst (λ rs. Spelled rs zs) (sym (on_other n t u us e)) (one_more n t (runs_from 1 u us) zs (omega arith) (below 1 u zs (omega arith)))

spelled_runs : (us : List ValType) (zs : List ℕ) → length us < 2 ^ 32 → Spelled (runs us) zs
spelled_runs [] zs h = (no_item, tt)
spelled_runs (u ∷ us) zs h = spelled_from us 1 u zs (omega arith)

-- ---- bodies

best_run : AreBest IsRun run
best_run r xs zs bytes (a_run {n = n} {t = t} {ys = ys} h k) =
    let a = best_u32 n xs ys bytes h in
    let b = best_val_type t ys zs a.rest k in
    both_spell (IsU32 n) (IsValType t) (unsigned n) (value_type t) xs ys zs a b (IsRun (n, t)) (λ us p q. a_run p q)

best_runs : (rs : List (ℕ × ValType)) (xs ys : List ℕ) → length (locals_of rs) < 2 ^ 32 → AreBytes xs → IsVec IsRun rs xs ys → Best (IsVec IsRun (runs (locals_of rs))) (vector run (runs (locals_of rs))) xs ys
best_runs rs xs ys few bytes h =
    let ours = runs (locals_of rs) in
    let s = shorter_runs rs in
    let n = best_unsigned 32 (length ours) (length rs) xs h.after_count s.1 bytes h.count in
    let r = best_items IsRun run best_run rs h.after_count ys n.rest h.items in
    record {
      spells = λ us. record { after_count = items run ours ++ us; count = before (IsU32 (length ours)) (unsigned (length ours)) (items run ours) us xs h.after_count n; items = (spelled_runs (locals_of rs) us few).0 };
      shorter = two_shorter (unsigned (length ours)) (items run ours) (length xs) (length h.after_count) (length ys) n.shorter (omega (arith, r.shorter, s.0));
      bytes = bytes_append (unsigned (length ours)) (items run ours) n.bytes (spelled_runs (locals_of rs) [] few).1;
      rest = r.rest;
    }

pub best_body : AreBest IsFunctionBody body
best_body b xs zs bytes (a_body {runs = rs} {code = code} {ys = ys} p q few) =
    let a = best_runs rs xs ys few bytes p in
    let c = best_code code ys zs a.rest q in
    let again = locals_again (locals_of rs) in
    both_spell (IsVec IsRun (runs (locals_of rs))) (IsCode code) (vector run (runs (locals_of rs))) (items own.instruction code) xs ys zs a c (IsFunctionBody b)
    (λ us p q. subst (λ ls. IsFunctionBody (record { locals = ls; code = code }) ((vector run (runs (locals_of rs)) ++ items own.instruction code) ++ us) us) again
    (a_body p q (subst (λ ls. length ls < 2 ^ 32) (sym again) few)))
