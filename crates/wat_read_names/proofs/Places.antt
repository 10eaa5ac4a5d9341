-- Numbers of ids.
use Rattle.std.proofs.Common.{◌≡◌, ℕ, zero, suc, ◌+◌, ◌^◌, ◌<◌, Bool, true, false, List, [], ◌∷◌, ◌++◌, length, drop, replicate, get_or, Option, Some, None, refl, sym, ap, ◌∙◌, arith}
use Rattle.std.proofs.lemmas.List.{at_drop_more}
use Rattle.std.proofs.lemmas.Bool.{eqb-true}
use Rattle.std.specs.Prelude.{◌==◌, if◌then◌else◌, option_map, option_and_then, is_some, IfSome, nat_lt, ℤ, pos, negsuc}
use Rattle.std.proofs.lemmas.Int.{ints}
use Rattle.std.proofs.lemmas.Bool.Decides.{nat_tests}
use Rattle.wat_lang.specs.Rows.{is_out_32, known_use}
use Rattle.std.specs.Borrow.{Bor}
use Rattle.std.specs.Cmp.Lexicographic.{nat_list_eq_equiv}
use Rattle.std.specs.Str.{bytes_eq}
use Rattle.wat_lang.specs.declared.parts.Part.{Part}
use Rattle.wat_lang.specs.declared.parts.Part.TheVariants.{Param, Local}
use Rattle.wat_lang.specs.Grammar.{Marked}
use Rattle.wat_lang.specs.Numbers.{number_of}
use Rattle.wat_lang.specs.Names.{Names, is_named, place_of_id, natural, index_of, types_part, id_after, written_ids, param_ids, local_names}
use Rattle.wat_read_tokens.specs.Marks.{only}
use Rattle.wat_read_names.specs.Named.{name_of, names_in, names_behind}

-- ---- the map

pub same_bytes : (a b : List ℕ) → bytes_eq a b ≡ bytes_eq b a
same_bytes a b = nat_list_eq_equiv.symm a b

abbrev moved : ℕ → Option ℕ → Option ℕ
moved n o = option_map (λ k. n + k) o

shifted : (c : Bool) (n m : ℕ) (o : Option ℕ) → m ≡ n + 1 → (if c then Some n else moved m o) ≡ moved n (elim c [ true ↦ Some 0 | false ↦ option_map suc o ])
shifted true n m o e = ap (λ (k : ℕ). Some k) (omega arith)
shifted false n m None e = refl
shifted false n m (Some k) e = ap (λ (k : ℕ). Some k) (omega (arith, e))

-- x is the place of an id by the names from one on, y by those behind it
pub place_put : (ns : List (Option (Bor (List ℕ)))) (u i j p : ℕ) (b : Option (Bor (List ℕ))) (n : List ℕ) (x y : Option ℕ) → j ≡ i + 1 → p ≡ u + i → i < length ns → b ≡ get_or ns i b
    → x ≡ (if is_named n (name_of b) then Some p else y) → y ≡ moved (u + j) (place_of_id n (names_in (drop j ns))) → x ≡ moved (u + i) (place_of_id n (names_in (drop i ns)))
place_put ns u i j p b n x y ej ep lt is e k =
    e
    ∙ ap (λ (y : Option ℕ). if is_named n (name_of b) then Some p else y) (k ∙ ap (λ (q : ℕ). moved (u + j) (place_of_id n (names_in (drop q ns)))) ej)
    ∙ ap (λ (p : ℕ). if is_named n (name_of b) then Some p else moved (u + j) (place_of_id n (names_in (drop (i + 1) ns)))) ep
    ∙ shifted (is_named n (name_of b)) (u + i) (u + j) (place_of_id n (names_in (drop (i + 1) ns))) (omega (arith, ej))
    ∙ ap (λ (c : Option (Bor (List ℕ))). moved (u + i) (place_of_id n (names_in (c ∷ drop (i + 1) ns)))) is
    ∙ sym (at_drop_more (λ cs. moved (u + i) (place_of_id n (names_in cs))) ns i b lt)

-- no id stands in front
pub behind_none : (u : ℕ) (n : List ℕ) (ms : Names) → place_of_id n (replicate u None ++ ms) ≡ moved u (place_of_id n ms)
behind_none zero n ms = by (place_of_id n ms)
  where
    by : (o : Option ℕ) → o ≡ moved zero o
    by None = refl
    by (Some k) = ap (λ (k : ℕ). Some k) (omega arith)
behind_none (suc u) n ms = ap (option_map suc) (behind_none u n ms) ∙ by (place_of_id n ms)
  where
    by : (o : Option ℕ) → option_map suc (moved u o) ≡ moved (suc u) o
    by None = refl
    by (Some k) = ap (λ (k : ℕ). Some k) (omega arith)

pub places_put : (ns : List (Option (Bor (List ℕ)))) (u i : ℕ) (n : List ℕ) (x : Option ℕ) → i ≡ 0 → x ≡ moved (u + i) (place_of_id n (names_in (drop i ns))) → x ≡ place_of_id n (names_behind u ns)
places_put ns u i n x z e =
    e ∙ ap (λ (i : ℕ). moved (u + i) (place_of_id n (names_in (drop i ns)))) z
    ∙ ap (λ (k : ℕ). moved k (place_of_id n (names_in ns))) (let q : u + 0 ≡ u = omega arith in q)
    ∙ sym (behind_none u n (names_in ns))

-- ---- numbers and ids

pub by_number : (names : Names) (text : List ℕ) (n : ℕ) → Some (pos n) ≡ number_of text → Some n ≡ index_of names text
by_number names text n e = ap (λ (z : Option ℤ). let x : Option ℕ = elim z [ Some z ↦ natural z | None ↦ place_of_id text names ] in x) e

pub by_id : (names : Names) (text : List ℕ) → None ≡ number_of text → place_of_id text names ≡ index_of names text
by_id names text e = ap (λ (z : Option ℤ). let x : Option ℕ = elim z [ Some z ↦ natural z | None ↦ place_of_id text names ] in x) e

pub number_index : (names : Names) (text : List ℕ) → is_some (number_of text) ≡ true → index_of names text ≡ option_and_then natural (number_of text)
number_index names text h = by (number_of text) h
  where
    by : (o : Option ℤ) → is_some o ≡ true → (let x : Option ℕ = elim o [ Some z ↦ natural z | None ↦ place_of_id text names ] in x) ≡ option_and_then natural o
    by None h = absurd cc
    by (Some z) h = refl

pub id_index : (names : Names) (text : List ℕ) → is_some (number_of text) ≡ false → index_of names text ≡ place_of_id text names
id_index names text h = by (number_of text) h
  where
    by : (o : Option ℤ) → is_some o ≡ false → (let x : Option ℕ = elim o [ Some z ↦ natural z | None ↦ place_of_id text names ] in x) ≡ place_of_id text names
    by None h = refl
    by (Some z) h = absurd cc

known_small : (n : ℕ) → n < 2 ^ 32 → (if nat_lt n (2 ^ 32) then Some n else None) ≡ Some n
known_small n h = ap (λ (b : Bool). let x : Option ℕ = if b then Some n else None in x) (let t : nat_lt n (2 ^ 32) ≡ true = grind (arith, nat_tests) in t)

known_large : (n : ℕ) → nat_lt n (2 ^ 32) ≡ false → None ≡ known_use (Some n)
known_large n h = sym (ap (λ (b : Bool). let x : Option ℕ = if b then Some n else None in x) h)

pub out_unknown : (o : Option ℤ) → is_out_32 o ≡ true → None ≡ known_use (option_and_then natural o)
out_unknown None h = refl
out_unknown (Some (pos n)) h = known_large n (grind (arith, ints, nat_tests))
out_unknown (Some (negsuc n)) h = refl

pub in_known : (r : Option ℕ) (o : Option ℤ) → option_map pos r ≡ o → is_out_32 o ≡ false → r ≡ known_use (option_and_then natural o)
in_known r None e h = by r e
  where
    by : (r : Option ℕ) → option_map pos r ≡ None → r ≡ None
    by None e = refl
    by (Some n) e = absurd cc
in_known r (Some (pos n)) e h = by r e ∙ sym (known_small n (grind (arith, ints, nat_tests)))
  where
    by : (r : Option ℕ) → option_map pos r ≡ Some (pos n) → r ≡ Some n
    by None e = absurd cc
    by (Some m) e = cc
in_known r (Some (negsuc n)) e h = absurd (by r e)
  where
    by : (r : Option ℕ) → option_map pos r ≡ Some (negsuc n) → ⊥
    by None e = cc
    by (Some m) e = cc

pub place_known : (p : Option ℕ) → IfSome p (λ n. n < 2 ^ 32) → p ≡ known_use p
place_known None h = refl
place_known (Some n) h = sym (known_small n h)

-- ---- parameters and locals

pub written_front : (p : Part) (id : Option (List ℕ)) (m : Marked) (ms : List Marked) → written_ids p id (m ∷ ms) ≡ only (types_part p m.mark) id ++ written_ids p (id_after id m) ms
written_front p id m ms = by (types_part p m.mark)
  where
    by : (b : Bool) → (let x : Names = elim b [ true ↦ id ∷ written_ids p (id_after id m) ms | false ↦ written_ids p (id_after id m) ms ] in x) ≡ only b id ++ written_ids p (id_after id m) ms
    by true = refl
    by false = refl

pub not_0 : (k : ℕ) → (suc k == 0) ≡ false
not_0 k = by (suc k == 0) refl
  where
    by : (b : Bool) → (suc k == 0) ≡ b → b ≡ false
    by true e = absurd (let q = eqb-true (suc k) 0 e in omega arith)
    by false e = refl

params_named : (params : ℕ) (ids : Names) → replicate (if length ids == 0 then params else 0) None ++ ids ≡ param_ids params ids
params_named params [] = append_nil_of (replicate params None)
  where
    append_nil_of : (xs : Names) → xs ++ [] ≡ xs
    append_nil_of [] = refl
    append_nil_of (x ∷ xs) = ap (λ ys. x ∷ ys) (append_nil_of xs)
params_named params (x ∷ ids) = ap (λ (b : Bool). replicate (if b then params else 0) None ++ x ∷ ids) (not_0 (length ids))

pub locals_named : (params written : ℕ) (ms : List Marked) (first all : Names) → first ≡ written_ids Param None ms → written ≡ length first → all ≡ first ++ written_ids Local None ms
    → replicate (if written == 0 then params else 0) None ++ all ≡ local_names params ms
locals_named params written ms first all e w a =
    ap (λ ns. replicate (if written == 0 then params else 0) None ++ ns) a
    ∙ ap (λ (k : ℕ). replicate (if k == 0 then params else 0) None ++ (first ++ written_ids Local None ms)) w
    ∙ regroup (replicate (if length first == 0 then params else 0) None) first (written_ids Local None ms)
    ∙ ap (λ ns. ns ++ written_ids Local None ms) (params_named params first)
    ∙ ap (λ ns. param_ids params ns ++ written_ids Local None ms) e
  where
    regroup : (xs ys zs : Names) → xs ++ (ys ++ zs) ≡ (xs ++ ys) ++ zs
    regroup [] ys zs = refl
    regroup (x ∷ xs) ys zs = ap (λ ws. x ∷ ws) (regroup xs ys zs)
