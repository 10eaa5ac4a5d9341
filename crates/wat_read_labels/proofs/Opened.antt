-- Labels that are open, by a map and by what they hide.
use Rattle.std.proofs.Common.{◌≡◌, ℕ, suc, ◌+◌, ◌-◌, ◌^◌, ◌<◌, Bool, true, false, List, [], ◌∷◌, ◌++◌, length, get_or, take, map, reverse, drop, Option, Some, None, refl, sym, ap, ◌∙◌, arith, subst, length-append}
use Rattle.std.proofs.lemmas.List.{length-map, length-reverse, reverse-append, take_all, take_more}
use Rattle.std.proofs.lemmas.Slice.Eq.{bytes_eq-Decides}
use Rattle.std.specs.Prelude.{IfSome, option_map, option_and_then, if◌then◌else◌}
use Rattle.std.specs.Cmp.Lexicographic.{nat_list_eq_equiv}
use Rattle.std.specs.Str.{bytes_eq}
use Rattle.indexmap.specs.IndexMap.{IndexMap}
use Rattle.wat_lang.specs.Names.{Names, is_named, place_of_id}
use Rattle.wat_read_labels.specs.declared.labels.Level.{Level}
use Rattle.wat_read_labels.specs.Levels.{level_name, names_of, level_of, AreHidden, found, level_known, Knows}

pub levels_count : (ls : List Level) → length (names_of ls) ≡ length ls
levels_count ls = length-map (reverse ls) level_name ∙ length-reverse ls

pub one_more : (ls : List Level) (l : Level) → reverse (ls ++ l ∷ []) ≡ l ∷ reverse ls
one_more ls l = reverse-append ls (l ∷ [])

pub names_more : (ls : List Level) (l : Level) → names_of (ls ++ l ∷ []) ≡ level_name l ∷ names_of ls
names_more ls l = ap (map level_name) (one_more ls l)

pub few_named : {S : Type 0} {known : IndexMap (List ℕ) (Option ℕ) S} (ls : List Level) (names : Names) → Knows ls known → names_of ls ≡ names → length names < 2 ^ 32
few_named ls names h e = let f = h.are_few in let g = levels_count ls in let q = ap length e in omega arith

-- ---- places

pub level_within : (id : List ℕ) (ns : Names) → IfSome (level_of id ns) (λ k. k < length ns)
level_within id [] = tt
level_within id (n ∷ ns) = by (level_within id ns) (is_named id n)
  where
    weaker : (o : Option ℕ) → IfSome o (λ k. k < length ns) → IfSome o (λ k. k < suc (length ns))
    weaker None h = tt
    weaker (Some k) h = omega arith

    by : IfSome (level_of id ns) (λ k. k < length ns) → (b : Bool) → IfSome (let x : Option ℕ = elim b [ true ↦ Some (length ns) | false ↦ level_of id ns ] in x) (λ k. k < suc (length ns))
    by rest true = omega arith
    by rest false = weaker (level_of id ns) rest

pub place_is : (id : List ℕ) (ns : Names) → place_of_id id ns ≡ option_map (λ k. length ns - 1 - k) (level_of id ns)
place_is id [] = refl
place_is id (n ∷ ns) = by (place_is id ns) (is_named id n)
  where
    later : (o : Option ℕ) → IfSome o (λ k. k < length ns) → option_map suc (option_map (λ k. length ns - 1 - k) o) ≡ option_map (λ k. suc (length ns) - 1 - k) o
    later None h = refl
    later (Some k) h = ap (λ (j : ℕ). Some j) (omega arith)

    by : place_of_id id ns ≡ option_map (λ k. length ns - 1 - k) (level_of id ns) → (b : Bool) → (let x : Option ℕ = elim b [ true ↦ Some 0 | false ↦ option_map suc (place_of_id id ns) ] in x)
        ≡ option_map (λ k. suc (length ns) - 1 - k) (let x : Option ℕ = elim b [ true ↦ Some (length ns) | false ↦ level_of id ns ] in x)
    by rest true = ap (λ (j : ℕ). Some j) (omega arith)
    by rest false = ap (option_map suc) rest ∙ later (level_of id ns) (level_within id ns)

pub place_found : (id : List ℕ) (ns : Names) (k count p : ℕ) → Some k ≡ level_of id ns → count ≡ length ns → p ≡ count - 1 - k → Some p ≡ place_of_id id ns
place_found id ns k count p e c q = ap (λ (j : ℕ). Some j) (q ∙ ap (λ (m : ℕ). m - 1 - k) c) ∙ ap (option_map (λ k. length ns - 1 - k)) e ∙ sym (place_is id ns)

pub no_place : (id : List ℕ) (ns : Names) → None ≡ level_of id ns → None ≡ place_of_id id ns
no_place id ns e = ap (option_map (λ k. length ns - 1 - k)) e ∙ sym (place_is id ns)

-- ---- a block is opened

pub opened_plain : {S : Type 0} (ls new : List Level) (l : Level) (known : IndexMap (List ℕ) (Option ℕ) S) → Knows ls known → level_name l ≡ None → new ≡ ls ++ l ∷ [] → length ls + 1 < 2 ^ 32 → Knows new known
opened_plain ls new l known h none put few =
    subst (λ (xs : List Level). Knows xs known) (sym put)
    (record {
      levels_known = λ id. h.levels_known id ∙ sym (ap (level_of id) (names_more ls l ∙ ap (λ (n : Option (List ℕ)). n ∷ names_of ls) none));
      are_hidden = subst AreHidden (sym (one_more ls l)) (subst (λ (n : Option (List ℕ)). IfSome n (λ k. l.hidden ≡ level_of k (names_of ls))) (sym none) tt, h.are_hidden);
      are_few = (let e = length-append ls (l ∷ []) in omega arith);
    })

same_bytes : (a b : List ℕ) → bytes_eq a b ≡ bytes_eq b a
same_bytes a b = nat_list_eq_equiv.symm a b

-- what a map has under an id, where one id has another level
pub known_put : {S : Type 0} (old new : IndexMap (List ℕ) (Option ℕ) S) (name id : List ℕ) (v : Option ℕ) → found new id ≡ (if bytes_eq name id then Some v else found old id)
    → level_known new id ≡ (if bytes_eq id name then v else level_known old id)
known_put old new name id v e =
    ap (λ (o : Option (Option ℕ)). option_and_then (λ (l : Option ℕ). l) o) (e ∙ ap (λ (b : Bool). if b then Some v else found old id) (same_bytes name id))
    ∙ by (bytes_eq id name)
  where
    by : (b : Bool) → option_and_then (λ (l : Option ℕ). l) (if b then Some v else found old id) ≡ (if b then v else level_known old id)
    by true = refl
    by false = refl

pub opened_named : {S : Type 0} (ls new : List Level) (l : Level) (name : List ℕ) (level : ℕ) (old known : IndexMap (List ℕ) (Option ℕ) S) → Knows ls old → level_name l ≡ Some name → l.hidden ≡ level_of name (names_of ls)
    → new ≡ ls ++ l ∷ [] → level ≡ length ls → length ls + 1 < 2 ^ 32 → ((id : List ℕ) → found known id ≡ (if bytes_eq name id then Some (Some level) else found old id)) → Knows new known
opened_named ls new l name level old known h named hides put is few stored =
    subst (λ (xs : List Level). Knows xs known) (sym put)
    (record {
      levels_known = λ id.
          known_put old known name id (Some level) (stored id)
          ∙ ap (λ (o : Option ℕ). if bytes_eq id name then Some level else o) (h.levels_known id)
          ∙ ap (λ (k : ℕ). if bytes_eq id name then Some k else level_of id (names_of ls)) (is ∙ sym (levels_count ls))
          ∙ by id (bytes_eq id name)
          ∙ sym (ap (level_of id) (names_more ls l ∙ ap (λ (n : Option (List ℕ)). n ∷ names_of ls) named));
      are_hidden = subst AreHidden (sym (one_more ls l)) (subst (λ (n : Option (List ℕ)). IfSome n (λ k. l.hidden ≡ level_of k (names_of ls))) (sym named) hides, h.are_hidden);
      are_few = (let e = length-append ls (l ∷ []) in omega arith);
    })
  where
    by : (id : List ℕ) (b : Bool) → (if b then Some (length (names_of ls)) else level_of id (names_of ls)) ≡ (let x : Option ℕ = elim b [ true ↦ Some (length (names_of ls)) | false ↦ level_of id (names_of ls) ] in x)
    by id true = refl
    by id false = refl

-- ---- a block is closed

-- the last block is closed, and what its id hid is known again
pub closed : {S : Type 0} (ls : List Level) (l : Level) (old known : IndexMap (List ℕ) (Option ℕ) S) → Knows (ls ++ l ∷ []) old
    → ((id : List ℕ) → level_known known id ≡ (if is_named id (level_name l) then l.hidden else level_known old id)) → Knows ls known
closed ls l old known h back =
    let hidden : AreHidden (l ∷ reverse ls) = subst AreHidden (one_more ls l) h.are_hidden in
    record {
      levels_known = λ id.
          back id
          ∙ ap (λ (o : Option ℕ). if is_named id (level_name l) then l.hidden else o) (h.levels_known id ∙ ap (level_of id) (names_more ls l))
          ∙ by id (level_name l) hidden.0;
      are_hidden = hidden.1;
      are_few = (let e = length-append ls (l ∷ []) in let f = h.are_few in omega arith);
    }
  where
    inner : (id n : List ℕ) → l.hidden ≡ level_of n (names_of ls) → (b : Bool) → bytes_eq id n ≡ b
        → (if b then l.hidden else (let x : Option ℕ = elim b [ true ↦ Some (length (names_of ls)) | false ↦ level_of id (names_of ls) ] in x)) ≡ level_of id (names_of ls)
    inner id n mine true e = mine ∙ ap (λ k. level_of k (names_of ls)) (sym ((bytes_eq-Decides id n).0 e))
    inner id n mine false e = refl

    by : (id : List ℕ) (o : Option (List ℕ)) → IfSome o (λ n. l.hidden ≡ level_of n (names_of ls))
        → (if is_named id o then l.hidden else level_of id (o ∷ names_of ls)) ≡ level_of id (names_of ls)
    by id None mine = refl
    by id (Some n) mine = inner id n mine (bytes_eq id n) refl

pub closed_last : {S : Type 0} (levels new : List Level) (count : ℕ) (d l : Level) (old known : IndexMap (List ℕ) (Option ℕ) S) → Knows levels old → count + 1 ≡ length levels → l ≡ get_or levels count d → new ≡ take count levels
    → ((id : List ℕ) → level_known known id ≡ (if is_named id (level_name l) then l.hidden else level_known old id)) → Knows new known
closed_last levels new count d l old known h len is kept back =
    let whole : levels ≡ take count levels ++ l ∷ [] =
    sym (take_all (count + 1) levels (omega arith)) ∙ take_more levels count d (omega arith) ∙ ap (λ (x : Level). take count levels ++ x ∷ []) (sym is) in
    subst (λ (xs : List Level). Knows xs known) (sym kept) (closed (take count levels) l old known (subst (λ (xs : List Level). Knows xs old) whole h) back)

pub none_open : (levels : List Level) → length levels ≡ 0 → names_of levels ≡ drop 1 (names_of levels)
none_open [] e = refl
none_open (l ∷ ls) e = absurd (omega (arith, e))

pub knows_same : {S : Type 0} (levels : List Level) (old known : IndexMap (List ℕ) (Option ℕ) S) → Knows levels old → ((id : List ℕ) → level_known known id ≡ level_known old id) → Knows levels known
knows_same levels old known h same = record { levels_known = λ id. same id ∙ h.levels_known id; are_hidden = h.are_hidden; are_few = h.are_few }
