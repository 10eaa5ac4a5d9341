-- The globals of a pair stand in the linked module at their new numbers.
use Rattle.std.proofs.Common.{◌≡◌, ℕ, zero, suc, ◌+◌, ◌-◌, ◌<◌, ◌≤◌, List, [], ◌∷◌, ◌++◌, length, map, take, drop, replicate, Some, None, refl, sym, ap, ◌∙◌, subst, arith, length-append}
use Rattle.std.specs.Prelude.{slice_get, slice_set, nat_lt, Bool, true, false}
use Rattle.std.proofs.lemmas.Bool.Decides.{nat_tests}
use Rattle.std.proofs.lemmas.List.{append_assoc, append-nil, length-set, length-map}
use Rattle.sem_words.specs.declared.word.Word.{Word}
use Rattle.wasm_lang.specs.Modules.{GlobalEntry}
use Rattle.wasm_lang_valid.specs.ModuleRules.{imported_globals}
use Rattle.wasm_link_lang.specs.Pairs.{Pair}
use Rattle.wasm_link_code.specs.Numbers.{places, unbound_count, counted, numbered, none_bound, or_zero, global_number}
use Rattle.wasm_link_laws_sessions.specs.Alike.{KeepsGlobals}
use Rattle.wasm_link_laws_sessions.specs.Globals.{turned, in_order, global_count}

-- ---- lists

module _ {A : Type 0} where
  past_get : (xs ys : List A) (i : ℕ) → slice_get (xs ++ ys) (length xs + i) ≡ slice_get ys i
  past_get [] ys i = let e : 0 + i ≡ i = omega arith in ap (slice_get ys) e
  past_get (x ∷ xs) ys i = let e : suc (length xs) + i ≡ suc (length xs + i) = omega arith in ap (slice_get (x ∷ (xs ++ ys))) e ∙ past_get xs ys i

  in_get : (xs ys : List A) (i : ℕ) → i < length xs → slice_get (xs ++ ys) i ≡ slice_get xs i
  in_get [] ys i h = absurd (omega (arith, h))
  in_get (x ∷ xs) ys zero h = refl
  in_get (x ∷ xs) ys (suc i) h = in_get xs ys i (omega (arith, h))

  past_put : (xs ys : List A) (i : ℕ) (v : A) → slice_set (xs ++ ys) (length xs + i) v ≡ xs ++ slice_set ys i v
  past_put [] ys i v = let e : 0 + i ≡ i = omega arith in ap (λ i. slice_set ys i v) e
  past_put (x ∷ xs) ys i v =
      let e : suc (length xs) + i ≡ suc (length xs + i) = omega arith in ap (λ i. slice_set (x ∷ (xs ++ ys)) i v) e ∙ ap (λ xs. x ∷ xs) (past_put xs ys i v)

  in_put : (xs ys : List A) (i : ℕ) (v : A) → i < length xs → slice_set (xs ++ ys) i v ≡ slice_set xs i v ++ ys
  in_put [] ys i v h = absurd (omega (arith, h))
  in_put (x ∷ xs) ys zero v h = refl
  in_put (x ∷ xs) ys (suc i) v h = ap (λ xs. x ∷ xs) (in_put xs ys i v (omega (arith, h)))

  take_front : (xs ys : List A) → take (length xs) (xs ++ ys) ≡ xs
  take_front [] ys = refl
  take_front (x ∷ xs) ys = ap (λ xs. x ∷ xs) (take_front xs ys)

  drop_front : (xs ys : List A) → drop (length xs) (xs ++ ys) ≡ ys
  drop_front [] ys = refl
  drop_front (x ∷ xs) ys = drop_front xs ys

  pub record Parted (n : ℕ) (xs : List A) : Type 0 where
    pub front : List A
    pub back : List A
    pub many : length front ≡ n
    pub joined : xs ≡ front ++ back

  parted : (n : ℕ) (xs : List A) → n ≤ length xs → Parted n xs
  parted zero xs h = record { front = []; back = xs; many = refl; joined = refl }
  parted (suc n) [] h = absurd (omega (arith, h))
  parted (suc n) (x ∷ xs) h =
      let p = parted n xs (omega (arith, h)) in record { front = x ∷ p.front; back = p.back; many = ap suc p.many; joined = ap (λ xs. x ∷ xs) p.joined }

  many_parted : (n : ℕ) (xs : List A) (p : Parted n xs) → length xs ≡ n + length p.back
  many_parted n xs p = ap length p.joined ∙ length-append p.front p.back ∙ ap (λ k. k + length p.back) p.many

  pub many_joined : (xs ys : List A) → length (xs ++ ys) ≡ length xs + length ys
  many_joined xs ys = length-append xs ys

-- ---- four runs

pub turned_blocks : (a b c d : List Word) → turned (length a) (length b) (length c) (a ++ (b ++ (c ++ d))) ≡ (a ++ c) ++ (b ++ d)
turned_blocks a b c d =
    let xs = a ++ (b ++ (c ++ d)) in
    ap (λ u. (take (length a) xs ++ take (length c) (drop (length b) u)) ++ (take (length b) u ++ drop (length c) (drop (length b) u))) (drop_front a (b ++ (c ++ d)))
    ∙ ap (λ u. (take (length a) xs ++ take (length c) u) ++ (take (length b) (b ++ (c ++ d)) ++ drop (length c) u)) (drop_front b (c ++ d))
    ∙ ap (λ t. (t ++ take (length c) (c ++ d)) ++ (take (length b) (b ++ (c ++ d)) ++ drop (length c) (c ++ d))) (take_front a (b ++ (c ++ d)))
    ∙ ap (λ t. (a ++ t) ++ (take (length b) (b ++ (c ++ d)) ++ drop (length c) (c ++ d))) (take_front c d)
    ∙ ap (λ t. (a ++ c) ++ (t ++ drop (length c) (c ++ d))) (take_front b (c ++ d))
    ∙ ap (λ t. (a ++ c) ++ (b ++ t)) (drop_front c d)

-- one run, wherever it is put, and whatever stands in it
record Block (order : List Word → List Word) (gs : List Word) (x n : ℕ) : Type 0 where
  front : List Word
  run : List Word
  back : List Word
  front' : List Word
  back' : List Word
  place : ℕ
  joined : gs ≡ front ++ (run ++ back)
  from : x ≡ length front + place
  to : n ≡ length front' + place
  inside : place < length run
  puts : (run' : List Word) → length run' ≡ length run → order (front ++ (run' ++ back)) ≡ front' ++ (run' ++ back')

module _ (order : List Word → List Word) (gs : List Word) (x n : ℕ) (b : Block order gs x n) where
  block_get : slice_get (order gs) n ≡ slice_get gs x
  block_get =
      ap (λ gs. slice_get (order gs) n) b.joined ∙ ap (λ gs. slice_get gs n) (b.puts b.run refl) ∙ ap (slice_get (b.front' ++ (b.run ++ b.back'))) b.to
      ∙ past_get b.front' (b.run ++ b.back') b.place ∙ in_get b.run b.back' b.place b.inside
      ∙ sym (ap (λ gs. slice_get gs x) b.joined ∙ ap (slice_get (b.front ++ (b.run ++ b.back))) b.from ∙ past_get b.front (b.run ++ b.back) b.place ∙ in_get b.run b.back b.place b.inside)

  block_put : (v : Word) → slice_set (order gs) n v ≡ order (slice_set gs x v)
  block_put v =
      ap (λ gs. slice_set (order gs) n v) b.joined ∙ ap (λ gs. slice_set gs n v) (b.puts b.run refl) ∙ ap (λ n. slice_set (b.front' ++ (b.run ++ b.back')) n v) b.to
      ∙ past_put b.front' (b.run ++ b.back') b.place v ∙ ap (λ xs. b.front' ++ xs) (in_put b.run b.back' b.place v b.inside)
      ∙ sym (b.puts (slice_set b.run b.place v) (length-set b.run b.place v))
      ∙ sym (ap order (ap (λ gs. slice_set gs x v) b.joined ∙ ap (λ x. slice_set (b.front ++ (b.run ++ b.back)) x v) b.from
      ∙ past_put b.front (b.run ++ b.back) b.place v ∙ ap (λ xs. b.front ++ xs) (in_put b.run b.back b.place v b.inside)))

-- ---- the numbers

places_count : (n c : ℕ) → places n (replicate c None) ≡ counted n c
places_count n zero = refl
places_count n (suc c) = ap (λ ns. n ∷ ns) (places_count (suc n) c)

all_unbound : (c : ℕ) → unbound_count (replicate c None) ≡ c
all_unbound zero = refl
all_unbound (suc c) = ap suc (all_unbound c)

many_counted : (n c : ℕ) → length (counted n c) ≡ c
many_counted n zero = refl
many_counted n (suc c) = ap suc (many_counted (suc n) c)

counts : (n c i : ℕ) → i < c → slice_get (counted n c) i ≡ Some (n + i)
counts n zero i h = absurd (omega (arith, h))
counts n (suc c) zero h = let e : n ≡ n + 0 = omega arith in ap Some e
counts n (suc c) (suc i) h = let e : suc n + i ≡ n + suc i = omega arith in counts (suc n) c i (omega (arith, h)) ∙ ap Some e

module _ (a b c d : ℕ) where
  abbrev numbers : List ℕ
  numbers = numbered (none_bound a) b (none_bound c) d

  abbrev as_counted : List ℕ
  as_counted = (counted 0 a ++ counted (a + c) b) ++ (counted a c ++ counted (a + c + b) d)

  numbers_are : numbers ≡ as_counted
  numbers_are =
      ap (λ ns. (ns ++ counted (unbound_count (none_bound a) + unbound_count (none_bound c)) b)
      ++ (places (unbound_count (none_bound a)) (none_bound c) ++ counted (unbound_count (none_bound a) + unbound_count (none_bound c) + b) d)) (places_count 0 a)
      ∙ ap (λ u. (counted 0 a ++ counted (u + unbound_count (none_bound c)) b) ++ (places u (none_bound c) ++ counted (u + unbound_count (none_bound c) + b) d)) (all_unbound a)
      ∙ ap (λ u. (counted 0 a ++ counted (a + u) b) ++ (places a (none_bound c) ++ counted (a + u + b) d)) (all_unbound c)
      ∙ ap (λ ns. (counted 0 a ++ counted (a + c) b) ++ (ns ++ counted (a + c + b) d)) (places_count a c)

  abbrev number_of : ℕ → ℕ
  number_of x = or_zero (slice_get numbers x)

  firsts : length (counted 0 a ++ counted (a + c) b) ≡ a + b
  firsts =
      let e = many_joined (counted 0 a) (counted (a + c) b) in
      let f = many_counted 0 a in
      let g = many_counted (a + c) b in omega (arith, e, f, g)

  found : (x n : ℕ) → slice_get as_counted x ≡ Some n → number_of x ≡ n
  found x n e = ap (λ ns. or_zero (slice_get ns x)) numbers_are ∙ ap or_zero e

  in_first : (i : ℕ) → i < a → number_of i ≡ i
  in_first i h =
      let f = many_counted 0 a in
      let z : 0 + i ≡ i = omega arith in
      found i i (in_get (counted 0 a ++ counted (a + c) b) (counted a c ++ counted (a + c + b) d) i (omega (arith, firsts, h)) ∙ in_get (counted 0 a) (counted (a + c) b) i (omega (arith, f, h))
      ∙ counts 0 a i h ∙ ap Some z)

  in_second : (i : ℕ) → i < b → number_of (a + i) ≡ a + c + i
  in_second i h =
      let f = many_counted 0 a in
      let z : a + i ≡ length (counted 0 a) + i = omega (arith, f) in
      found (a + i) (a + c + i) (in_get (counted 0 a ++ counted (a + c) b) (counted a c ++ counted (a + c + b) d) (a + i) (omega (arith, firsts, h))
      ∙ ap (slice_get (counted 0 a ++ counted (a + c) b)) z ∙ past_get (counted 0 a) (counted (a + c) b) i ∙ counts (a + c) b i h)

  in_third : (i : ℕ) → i < c → number_of (a + b + i) ≡ a + i
  in_third i h =
      let f = many_counted a c in
      let z : a + b + i ≡ length (counted 0 a ++ counted (a + c) b) + i = omega (arith, firsts) in
      found (a + b + i) (a + i) (ap (slice_get as_counted) z ∙ past_get (counted 0 a ++ counted (a + c) b) (counted a c ++ counted (a + c + b) d) i
      ∙ in_get (counted a c) (counted (a + c + b) d) i (omega (arith, f, h)) ∙ counts a c i h)

  in_last : (i : ℕ) → i < d → number_of (a + b + (c + i)) ≡ a + c + b + i
  in_last i h =
      let f = many_counted a c in
      let y : c + i ≡ length (counted a c) + i = omega (arith, f) in
      let z : a + b + (c + i) ≡ length (counted 0 a ++ counted (a + c) b) + (c + i) = omega (arith, firsts) in
      found (a + b + (c + i)) (a + c + b + i) (ap (slice_get as_counted) z ∙ past_get (counted 0 a ++ counted (a + c) b) (counted a c ++ counted (a + c + b) d) (c + i)
      ∙ ap (slice_get (counted a c ++ counted (a + c + b) d)) y ∙ past_get (counted a c) (counted (a + c + b) d) i ∙ counts (a + c + b) d i h)

  -- ---- the runs of a list

  abbrev turn : List Word → List Word
  turn = turned a b c

  turns : (xs ys zs us : List Word) → length xs ≡ a → length ys ≡ b → length zs ≡ c → turn (xs ++ (ys ++ (zs ++ us))) ≡ (xs ++ zs) ++ (ys ++ us)
  turns xs ys zs us e f g =
      let gs = xs ++ (ys ++ (zs ++ us)) in
      sym (ap (λ a. turned a (length ys) (length zs) gs) e ∙ ap (λ b. turned a b (length zs) gs) f ∙ ap (λ c. turned a b c gs) g) ∙ turned_blocks xs ys zs us

  module _ (gs xs ys zs us : List Word) (e : length xs ≡ a) (f : length ys ≡ b) (g : length zs ≡ c) (h : length us ≡ d) (all : gs ≡ xs ++ (ys ++ (zs ++ us))) where
    abbrev Here : ℕ → Type 0
    Here x = Block turn gs x (number_of x)

    first_run : (i : ℕ) → i < a → Here i
    first_run i l = record {
      front = [];
      run = xs;
      back = ys ++ (zs ++ us);
      front' = [];
      back' = zs ++ (ys ++ us);
      place = i;
      joined = all;
      from = omega arith;
      to = in_first i l ∙ omega arith;
      inside = omega (arith, l, e);
      puts = λ run' same. turns run' ys zs us (same ∙ e) f g ∙ append_assoc run' zs (ys ++ us);
    }

    second_run : (i : ℕ) → i < b → Here (a + i)
    second_run i l =
        let m = many_joined xs zs in record {
          front = xs;
          run = ys;
          back = zs ++ us;
          front' = xs ++ zs;
          back' = us;
          place = i;
          joined = all;
          from = omega (arith, e);
          to = in_second i l ∙ omega (arith, m, e, g);
          inside = omega (arith, l, f);
          puts = λ run' same. turns xs run' zs us e (same ∙ f) g;
        }

    third_run : (i : ℕ) → i < c → Here (a + b + i)
    third_run i l =
        let m = many_joined xs ys in record {
          front = xs ++ ys;
          run = zs;
          back = us;
          front' = xs;
          back' = ys ++ us;
          place = i;
          joined = all ∙ sym (append_assoc xs ys (zs ++ us));
          from = omega (arith, m, e, f);
          to = in_third i l ∙ omega (arith, e);
          inside = omega (arith, l, g);
          puts = λ run' same. ap turn (append_assoc xs ys (run' ++ us)) ∙ turns xs ys run' us e f (same ∙ g) ∙ append_assoc xs run' (ys ++ us);
        }

    last_run : (i : ℕ) → i < d → Here (a + b + (c + i))
    last_run i l =
        let m = many_joined xs (ys ++ zs) in
        let n = many_joined ys zs in
        let o = many_joined (xs ++ zs) ys in
        let p = many_joined xs zs in record {
          front = xs ++ (ys ++ zs);
          run = us;
          back = [];
          front' = (xs ++ zs) ++ ys;
          back' = [];
          place = i;
          joined = all ∙ as_front us;
          from = omega (arith, m, n, e, f, g);
          to = in_last i l ∙ omega (arith, o, p, e, f, g);
          inside = omega (arith, l, h);
          puts = λ run' same. ap turn (sym (as_front run')) ∙ turns xs ys zs run' e f g ∙ ap (λ us. (xs ++ zs) ++ (ys ++ us)) (sym (append-nil run')) ∙ sym (append_assoc (xs ++ zs) ys (run' ++ []));
        }
      where
        as_front : (us : List Word) → xs ++ (ys ++ (zs ++ us)) ≡ (xs ++ (ys ++ zs)) ++ (us ++ [])
        as_front us =
            ap (λ ts. xs ++ ts) (sym (append_assoc ys zs us)) ∙ sym (append_assoc xs (ys ++ zs) us) ∙ ap (λ ts. (xs ++ (ys ++ zs)) ++ ts) (sym (append-nil us))

    one_run : (x : ℕ) → x < a + b + c + d → Here x
    one_run x l = by (nat_lt x a) refl (nat_lt x (a + b)) refl (nat_lt x (a + b + c)) refl
      where
        at : (y : ℕ) → y ≡ x → Here y → Here x
        at y s it = subst Here s it

        below : (k : ℕ) → nat_lt x k ≡ true → x < k
        below k s = grind (arith, nat_tests)

        above : (k : ℕ) → nat_lt x k ≡ false → k ≤ x
        above k s = grind (arith, nat_tests)

        by : (p : Bool) → nat_lt x a ≡ p → (q : Bool) → nat_lt x (a + b) ≡ q → (r : Bool) → nat_lt x (a + b + c) ≡ r → Here x
        by true s q t r u = first_run x (below a s)
        by false s true t r u =
            let s1 = above a s in
            let t1 = below (a + b) t in at (a + (x - a)) (omega (arith, s1)) (second_run (x - a) (omega (arith, s1, t1)))
        by false s false t true u =
            let t1 = above (a + b) t in
            let u1 = below (a + b + c) u in at (a + b + (x - (a + b))) (omega (arith, t1)) (third_run (x - (a + b)) (omega (arith, t1, u1)))
        by false s false t false u =
            let u1 = above (a + b + c) u in at (a + b + (c + (x - (a + b + c)))) (omega (arith, u1)) (last_run (x - (a + b + c)) (omega (arith, u1, l)))

  some_run : (gs : List Word) → length gs ≡ a + b + c + d → (x : ℕ) → x < a + b + c + d → Block turn gs x (number_of x)
  some_run gs many x l =
      let p = parted a gs (omega (arith, many)) in
      let p1 = many_parted a gs p in
      let q = parted b p.back (omega (arith, many, p1)) in
      let q1 = many_parted b p.back q in
      let r = parted c q.back (omega (arith, many, p1, q1)) in
      let r1 = many_parted c q.back r in
      let all : gs ≡ p.front ++ (q.front ++ (r.front ++ r.back)) = p.joined ∙ ap (λ ts. p.front ++ ts) (q.joined ∙ ap (λ ts. q.front ++ ts) r.joined) in
      one_run gs p.front q.front r.front r.back p.many q.many r.many (omega (arith, many, p1, q1, r1)) all x l

module _ (w : Pair) where
  abbrev a : ℕ
  a = length (imported_globals w.first.imports)

  abbrev b : ℕ
  b = length w.first.globals

  abbrev c : ℕ
  c = length (imported_globals w.second.imports)

  abbrev d : ℕ
  d = length w.second.globals

  as_four : global_count w ≡ a + b + c + d
  as_four =
      let e = length-append (imported_globals w.first.imports) (map (λ (g : GlobalEntry). g.kind) w.first.globals) in
      let f = length-append (imported_globals w.second.imports) (map (λ (g : GlobalEntry). g.kind) w.second.globals) in
      let g = length-map w.first.globals (λ (g : GlobalEntry). g.kind) in
      let h = length-map w.second.globals (λ (g : GlobalEntry). g.kind) in omega (arith, e, f, g, h)

  pub order_keeps : KeepsGlobals w (global_count w) (in_order w)
  unfolding global_number
  order_keeps = record {
    get = λ gs x many l. block_get (turned a b c) gs x (number_of a b c d x) (some_run a b c d gs (many ∙ as_four) x (subst (λ n. x < n) as_four l));
    put = λ gs x v many l. block_put (turned a b c) gs x (number_of a b c d x) (some_run a b c d gs (many ∙ as_four) x (subst (λ n. x < n) as_four l)) v;
  }
