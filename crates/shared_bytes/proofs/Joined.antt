-- Chunks that are joined, and chunks more.
use Rattle.std.proofs.Common.{◌≡◌, Bool, true, false, subst, ◌<◌, ◌≤◌, ◌+◌, ℕ, zero, suc, List, [], ◌∷◌, ◌++◌, length, take, drop, get_or, refl, sym, ap, ◌∙◌, arith, append_assoc, length-append}
use Rattle.std.specs.Prelude.{Option, Some, None, Vec, if◌then◌else◌}
use Rattle.std.specs.Str.{bytes_eq}
use Rattle.std.proofs.lemmas.Slice.Eq.{bytes_eq-Decides}
use Rattle.indexmap.specs.IndexMap.{IndexMap, get_by}
use Rattle.std.specs.declared.alloc.Global.{Global}
use Rattle.std.proofs.lemmas.List.{take-append-le, append-nil}
use Rattle.std.proofs.Math.Seq.{take-append-add}
use Rattle.shared_bytes.specs.Chunks.{chunk, joined, AreBelow, IsHeld, AreHeld}

-- ---- chunks more

-- a chunk is what it was where more are put behind
pub chunk_before : (cs more : List (Vec ℕ Global)) (i : ℕ) → i < length cs → chunk (cs ++ more) i ≡ chunk cs i
chunk_before [] more i h = absurd (omega arith)
chunk_before (c ∷ cs) more zero h = refl
chunk_before (c ∷ cs) more (suc i) h = let below : i < length cs = omega arith in chunk_before cs more i below

pub joined_before : (cs more : List (Vec ℕ Global)) (is : List ℕ) → AreBelow (length cs) is → joined (cs ++ more) is ≡ joined cs is
joined_before cs more [] h = refl
joined_before cs more (i ∷ is) h = rw (chunk_before cs more i h.0, joined_before cs more is h.1) refl

pub chunk_last : (cs : List (Vec ℕ Global)) (v : Vec ℕ Global) → chunk (cs ++ v ∷ []) (length cs) ≡ v.items
chunk_last [] v = refl
chunk_last (c ∷ cs) v = chunk_last cs v

pub chunk_at : (cs : List (Vec ℕ Global)) (i : ℕ) (d : Vec ℕ Global) → i < length cs → (get_or cs i d).items ≡ chunk cs i
chunk_at [] i d h = absurd (omega arith)
chunk_at (c ∷ cs) zero d h = refl
chunk_at (c ∷ cs) (suc i) d h = let below : i < length cs = omega arith in chunk_at cs i d below

pub held_before : (cs more : List (Vec ℕ Global)) (bytes : List ℕ) (o : Option ℕ) → IsHeld cs bytes o → IsHeld (cs ++ more) bytes o
held_before cs more bytes None h = tt
held_before cs more bytes (Some i) h = (let l = length-append cs more in let below = h.0 in omega arith, chunk_before cs more i h.0 ∙ h.1)

-- ---- places more

pub below_more : (n m : ℕ) (is : List ℕ) → n ≤ m → AreBelow n is → AreBelow m is
below_more n m [] h b = tt
below_more n m (i ∷ is) h b = (let below = b.0 in omega arith, below_more n m is h b.1)

pub below_behind : (n : ℕ) (is : List ℕ) (i : ℕ) → i < n → AreBelow n is → AreBelow n (is ++ i ∷ [])
below_behind n [] i h b = (h, tt)
below_behind n (j ∷ is) i h b = (b.0, below_behind n is i h b.1)

pub below_at : (n : ℕ) (is : List ℕ) (i d : ℕ) → i < length is → AreBelow n is → get_or is i d < n
below_at n [] i d h b = absurd (omega arith)
below_at n (j ∷ is) zero d h b = b.0
below_at n (j ∷ is) (suc i) d h b = let below : i < length is = omega arith in below_at n is i d below b.1

pub joined_behind : (cs : List (Vec ℕ Global)) (is : List ℕ) (i : ℕ) → joined cs (is ++ i ∷ []) ≡ joined cs is ++ chunk cs i
joined_behind cs [] i = append-nil (chunk cs i)
joined_behind cs (j ∷ is) i = ap (λ l. chunk cs j ++ l) (joined_behind cs is i) ∙ sym (append_assoc (chunk cs j) (joined cs is) (chunk cs i))

-- ---- a front of the places

one_more : (cs : List (Vec ℕ Global)) (is : List ℕ) (i d : ℕ) → i < length is → joined cs (take (suc i) is) ≡ joined cs (take i is) ++ chunk cs (get_or is i d)
one_more cs [] i d h = absurd (omega arith)
one_more cs (j ∷ is) zero d h = append-nil (chunk cs j)
one_more cs (j ∷ is) (suc i) d h =
    let below : i < length is = omega arith in
    ap (λ l. chunk cs j ++ l) (one_more cs is i d below) ∙ sym (append_assoc (chunk cs j) (joined cs (take i is)) (chunk cs (get_or is i d)))

pub joined_front : (cs : List (Vec ℕ Global)) (is : List ℕ) (i d : ℕ) → i < length is → joined cs (take (i + 1) is) ≡ joined cs (take i is) ++ chunk cs (get_or is i d)
joined_front cs is i d h =
    let next : i + 1 ≡ suc i = omega arith in
    ap (λ k. joined cs (take k is)) next ∙ one_more cs is i d h

split : (cs : List (Vec ℕ Global)) (is : List ℕ) (i d : ℕ) → i < length is → joined cs is ≡ joined cs (take i is) ++ (chunk cs (get_or is i d) ++ joined cs (drop (suc i) is))
split cs [] i d h = absurd (omega arith)
split cs (j ∷ is) zero d h = refl
split cs (j ∷ is) (suc i) d h =
    let below : i < length is = omega arith in
    ap (λ l. chunk cs j ++ l) (split cs is i d below) ∙ sym (append_assoc (chunk cs j) (joined cs (take i is)) (chunk cs (get_or is i d) ++ joined cs (drop (suc i) is)))

-- all of the places before, and a front of the chunk at the next, are a front of all
pub cut_at : (cs : List (Vec ℕ Global)) (is : List ℕ) (i d n : ℕ) → i < length is → n < length (chunk cs (get_or is i d)) → joined cs (take i is) ++ take n (chunk cs (get_or is i d)) ≡ take (length (joined cs (take i is)) + n) (joined cs is)
cut_at cs is i d n h k =
    let c = chunk cs (get_or is i d) in
    let before = joined cs (take i is) in
    let rest = joined cs (drop (suc i) is) in
    let least : n ≤ length c = omega arith in
    ap (λ l. before ++ l) (sym (take-append-le n c rest least))
    ∙ sym (take-append-add before (c ++ rest) n)
    ∙ ap (λ l. take (length before + n) l) (sym (split cs is i d h))

pub cut_within : (cs : List (Vec ℕ Global)) (is : List ℕ) (i d n : ℕ) → i < length is → n < length (chunk cs (get_or is i d)) → length (joined cs (take i is)) + n < length (joined cs is)
cut_within cs is i d n h k =
    let c = chunk cs (get_or is i d) in
    let before = joined cs (take i is) in
    let rest = joined cs (drop (suc i) is) in
    let whole = ap length (split cs is i d h) in
    let first = length-append before (c ++ rest) in
    let second = length-append c rest in
    omega arith

-- ---- a map more

pub held_more : {S : Type 0} (cs more : List (Vec ℕ Global)) (places : IndexMap (List ℕ) ℕ S) → AreHeld cs places → AreHeld (cs ++ more) places
held_more cs more places h = λ bytes. held_before cs more bytes (get_by (bytes_eq bytes) places) (h bytes)

-- the bytes of a chunk more, under its place
pub held_put : (cs : List (Vec ℕ Global)) (v : Vec ℕ Global) (key bytes : List ℕ) (b : Bool) (old o : Option ℕ) → bytes_eq key bytes ≡ b → v.items ≡ key → IsHeld cs bytes old → o ≡ (if b then Some (length cs) else old) → IsHeld (cs ++ v ∷ []) bytes o
held_put cs v key bytes true old o e k h is =
    let same : key ≡ bytes = (bytes_eq-Decides key bytes).0 e in
    let put : IsHeld (cs ++ v ∷ []) bytes (Some (length cs)) = (let l = length-append cs (v ∷ []) in omega arith, chunk_last cs v ∙ k ∙ same) in
    subst (IsHeld (cs ++ v ∷ []) bytes) (sym is) put
held_put cs v key bytes false old o e k h is = subst (IsHeld (cs ++ v ∷ []) bytes) (sym is) (held_before cs (v ∷ []) bytes old h)

-- ---- chunks as they are then

pub more_below : (cs new more : List (Vec ℕ Global)) (is : List ℕ) → new ≡ cs ++ more → AreBelow (length cs) is → AreBelow (length new) is
more_below cs new more is e b =
    let l = ap length e ∙ length-append cs more in
    below_more (length cs) (length new) is (omega arith) b

pub more_held : {S : Type 0} (cs new more : List (Vec ℕ Global)) (places : IndexMap (List ℕ) ℕ S) → new ≡ cs ++ more → AreHeld cs places → AreHeld new places
more_held cs new more places e h = subst (λ l. AreHeld l places) (sym e) (held_more cs more places h)

pub pushed : (cs new : List (Vec ℕ Global)) (v : Vec ℕ Global) (is js : List ℕ) (i : ℕ) → new ≡ cs ++ v ∷ [] → js ≡ is ++ i ∷ [] → i ≡ length cs → AreBelow (length cs) is → joined new js ≡ joined cs is ++ v.items
pushed cs new v is js i grown behind last below =
    ap (joined new) behind ∙ ap (λ l. joined l (is ++ i ∷ [])) grown ∙ joined_behind (cs ++ v ∷ []) is i
    ∙ ap (λ l. l ++ chunk (cs ++ v ∷ []) i) (joined_before cs (v ∷ []) is below)
    ∙ ap (λ k. joined cs is ++ chunk (cs ++ v ∷ []) k) last ∙ ap (λ l. joined cs is ++ l) (chunk_last cs v)

pub pushed_front : (cs new : List (Vec ℕ Global)) (v : Vec ℕ Global) (is js : List ℕ) (i : ℕ) → new ≡ cs ++ v ∷ [] → js ≡ i ∷ is → i ≡ length cs → AreBelow (length cs) is → joined new js ≡ v.items ++ joined cs is
pushed_front cs new v is js i grown before last below =
    ap (joined new) before ∙ ap (λ l. joined l (i ∷ is)) grown
    ∙ ap (λ l. chunk (cs ++ v ∷ []) i ++ l) (joined_before cs (v ∷ []) is below)
    ∙ ap (λ k. chunk (cs ++ v ∷ []) k ++ joined cs is) last ∙ ap (λ l. l ++ joined cs is) (chunk_last cs v)

pub pushed_again : (cs new more : List (Vec ℕ Global)) (is js bytes : List ℕ) (i : ℕ) → new ≡ cs ++ more → js ≡ is ++ i ∷ [] → chunk new i ≡ bytes → AreBelow (length cs) is → joined new js ≡ joined cs is ++ bytes
pushed_again cs new more is js bytes i grown behind said below =
    ap (joined new) behind ∙ joined_behind new is i
    ∙ ap (λ l. l ++ chunk new i) (ap (λ l. joined l is) grown ∙ joined_before cs more is below)
    ∙ ap (λ l. joined cs is ++ l) said

-- ---- a chunk by its index

pub indexed : (cs : List (Vec ℕ Global)) (is js : List ℕ) (i : ℕ) (v d : Vec ℕ Global) → js ≡ is → v ≡ get_or cs (get_or js i 0) d → i < length js → AreBelow (length cs) is → v.items ≡ chunk cs (get_or is i 0)
indexed cs is js i v d same at h below =
    let within : i < length is = subst (λ l. i < length l) same h in
    ap (λ v. v.items) at ∙ ap (λ l. (get_or cs (get_or l i 0) d).items) same
    ∙ chunk_at cs (get_or is i 0) d (below_at (length cs) is i 0 within below)

pub place_below : (n m : ℕ) (is js : List ℕ) (i : ℕ) → js ≡ is → m ≡ n → i < length js → AreBelow n is → get_or js i 0 < m
place_below n m is js i same count h below =
    let within : i < length is = subst (λ l. i < length l) same h in
    let least = below_at n is i 0 within below in
    let at = ap (λ l. get_or l i 0) same in
    omega arith

take_whole : (is : List ℕ) (i : ℕ) → length is ≤ i → take i is ≡ is
take_whole [] zero h = refl
take_whole [] (suc i) h = refl
take_whole (j ∷ is) zero h = absurd (omega arith)
take_whole (j ∷ is) (suc i) h = let least : length is ≤ i = omega arith in ap (λ l. j ∷ l) (take_whole is i least)

-- past the last place all of them are joined
pub joined_end : (cs : List (Vec ℕ Global)) (is js : List ℕ) (i : ℕ) → js ≡ is → length js ≤ i → joined cs (take i is) ≡ joined cs is
joined_end cs is js i same h =
    let least : length is ≤ i = subst (λ l. length l ≤ i) same h in
    ap (joined cs) (take_whole is i least)
