-- What the walks of a region share: its parts as machine values, and a run of bytes taken out of the row of all of them. Assumes `Logic`.
--     word_had, mark_had, array_had      which machine value a pointer, an owner of bytes and an array are
--     run_out, run_in      so many bytes from a place on are taken out of the row, and others are put in their place
--     whole, apart      bytes side by side are an array in memory, and back
--     all_room      written bytes and the room after them are room for all
use Rattle.std.proofs.Common.{◌≡◌, ℕ, suc, ◌+◌, ◌≤◌, List, [], ◌∷◌, ◌++◌, length, take, drop, refl, sym, ap, subst, ◌∙◌, arith, take-append-drop}
use Rattle.std.proofs.lemmas.List.{length-take, length-drop, drop-drop, append_assoc}
use Rattle.std.proofs.RcSteps.{Good, word}
use seplogic.Ra.Ura.{Ura}
use base.Fraction.{full_share}
use base.Fml.{Fml, Share, ftrue, fsep, fat, froom}
use base.Logic.{SProp, ent, sep, emp, ex, guard, via, fst∗, snd∗, mono_r}
use contract.Monad.{fact, fact_use}
use mir.Syntax.{w8, ty_int}
use mir.Val.{Val, vint, vstruct, vcons, vnil, of_list}
use types.Logic.{Logic, sem}
use types.Kit.{Item, Goal, Seq, Step, step, ‵, some, ◌⊛◌, ◌$◌, ◌∵◌, !, qed, by, move, drop as skip, use1, use2, pick, split, check, show, fsplit, fjoin, fpick, fpack, feq_i, feq_l, rewrite, done}
use borrow.Table.OneValue.{part_in, part_out}
use denote.Array.{Array, Array-Lawful, Array-Makes}
use denote.ArrayMemory.{Array-apart, Array-whole}
use denote.Builtin.{u8}
use denote.Index.{row}
use denote.Laws.{Typed, Is, Makes, shows}
use denote.Memory.{part_at, shares}
use denote.Plain.{uint_Lawful, uint_Makes, uint_out}
use denote.RattleType.{RattleType, Valss}
use denote.Shadow.{makes_shadow}
use denote.Struct.Declared as Declared
use denote.Struct.Tuple.{Tuple, tuple_type}
use denote.RawPtr.{Ptr, RawPtr, ptr_val}
use denote.Steps.{nothing, peeks}
use denote.Struct.Struct.{Shape, Struct, within}
use denote.Struct.Owning.{shape}
use types.Share.{arr_parts}
use Rattle.heap_lang.specs.Heap.{with_run}
use Rattle.heap_lang.proofs.RunLemmas.{with_run_within}
use Rattle.heap_views.specs.Region.{bytes_of}
use Rattle.heap_views.specs.contracts.region.Cells as C-type
use Rattle.heap_views.specs.contracts.region.Base as B-type

abbrev pub Cr : RattleType
Cr = C-type.the_row

abbrev pub Bs : RattleType
Bs = B-type.the_row

-- the one field of `Cells`, which takes no bytes
abbrev pub Mark : RattleType
Mark = Struct (shape C-type.the_type)

abbrev one_field : Shape
one_field = record { name = []; args = []; types = []; fields = RawPtr ∷ [] }

abbrev pub Word : RattleType
Word = Struct one_field

abbrev pub mark : Val
mark = vstruct (vcons (vstruct vnil) vnil)

abbrev pub Bytes : ℕ → RattleType
Bytes n = Array u8 n

pub mark_made : {M : Type 1} {𝓤 : Ura M} (𝓛 : Logic 𝓤) → ent 𝓤 (emp 𝓤) (sem 𝓛 (Mark.own_val (tt, tt) (mark ∷ [])))
mark_made 𝓛 = makes_shadow 𝓛 (Mark.own_val (tt, tt) (mark ∷ [])) (λ vss. (tt, ((λ uss. (tt, tt)), tt))) ((vstruct vnil ∷ [], tt), (refl, ((tt, (refl, tt)), tt)))

abbrev pub three_val : Val → Val → Val → Val
three_val u v w = vstruct (vcons u (vcons v (vcons w vnil)))

pub three_of : {M : Type 1} {𝓤 : Ura M} (𝓛 : Logic 𝓤) (R S T : RattleType) (x : R.Denot) (y : S.Denot) (z : T.Denot) (u v w : Val)
    → ent 𝓤 (sep 𝓤 (sem 𝓛 (R.own_val x (u ∷ []))) (sep 𝓤 (sem 𝓛 (S.own_val y (v ∷ []))) (sem 𝓛 (T.own_val z (w ∷ []))))) (sem 𝓛 ((Tuple (R ∷ S ∷ T ∷ [])).own_val (x, y, z) (three_val u v w ∷ [])))
three_of 𝓛 R S T x y z u v w =
    qed 𝓛 (‵ (R.own_val x (u ∷ [])) ∷ ‵ (S.own_val y (v ∷ [])) ∷ ‵ (T.own_val z (w ∷ [])) ∷ []) ∵ nothing ! $ move ! (3 ∷ 0 ∷ []) $ fjoin ! $ move ! (2 ∷ 0 ∷ []) $ fjoin ! $ move ! (1 ∷ 0 ∷ []) $ fjoin ! $
    feq_i ! (List Val) (three_val u v w ∷ []) (three_val u v w ∷ []) refl $ fjoin ! $
    fpack ! (Valss (R ∷ S ∷ T ∷ [])) (within (Declared.shape (tuple_type (R ∷ S ∷ T ∷ []))) (x, (y, (z, tt))) (three_val u v w ∷ [])) (u ∷ [], (v ∷ [], (w ∷ [], tt))) $ done !

-- of a `requires` under one type parameter, the fact about the parameter's lifetime
pub bounded_by : {M : Type 1} (𝓤 : Ura M) (ψ : Type 0) (P R : SProp 𝓤) {Q : SProp 𝓤} → (ψ → ent 𝓤 (sep 𝓤 P R) Q) → ent 𝓤 (sep 𝓤 P (sep 𝓤 (fact 𝓤 ψ) R)) Q
bounded_by 𝓤 ψ P R k =
    let S : SProp 𝓤 = sep 𝓤 (fact 𝓤 ψ) R in
    fact_use 𝓤 ψ (via 𝓤 S (snd∗ 𝓤 P S) (fst∗ 𝓤 (fact 𝓤 ψ) R)) (λ x. via 𝓤 (sep 𝓤 P R) (mono_r 𝓤 P {Q = S} {Q' = R} (snd∗ 𝓤 (fact 𝓤 ψ) R)) (k x))

alone : (n : ℕ) (vs : List Val) → Typed (bytes_of n ∷ []) vs → (v : Val) × ((vs ≡ v ∷ []) × Good (bytes_of n) v)
alone n [] t = absurd t
alone n (v ∷ []) t = (v, (refl, t.0))
alone n (v ∷ w ∷ vs) t = absurd t.1

module _ {M : Type 1} {𝓤 : Ura M} {𝓛 : Logic 𝓤} {K : Type 0} {Γ : List (Item 𝓤)} {G : Goal 𝓤 𝓛.H} where
  pub word_had : K → (c : Ptr) (vs : List Val) → (vs ≡ word c ∷ [] → Seq K 𝓛 Γ G) → Seq K 𝓛 (‵ (Word.own_val (c, tt) vs) ∷ Γ) G
  word_had t c vs k = fpick t (λ vss. fsplit t $ feq_l t (λ ev. fsplit t $ feq_l t (λ e. skip t $ k (subst (λ (ws : List Val). vs ≡ vstruct (of_list (ws ++ [])) ∷ []) e ev))))

  pub word_made : K → (c : Ptr) → Step K 𝓛 (‵ (Word.own_val (c, tt) (word c ∷ [])) ∷ Γ) G Γ G
  word_made t c = step (λ s.
      nothing t $ feq_i t (List Val) (ptr_val c ∷ []) (ptr_val c ∷ []) refl $ fjoin t $ feq_i t (List Val) (word c ∷ []) (word c ∷ []) refl $ fjoin t $
      fpack t (Valss (RawPtr ∷ [])) (within one_field (c, tt) (word c ∷ [])) (ptr_val c ∷ [], tt) $ s)

  pub mark_had : K → (vs : List Val) → (vs ≡ mark ∷ [] → Seq K 𝓛 Γ G) → Seq K 𝓛 (‵ (Mark.own_val (tt, tt) vs) ∷ Γ) G
  mark_had t vs k = fpick t (λ vss. fsplit t $ feq_l t (λ ev. fsplit t $ fpick t (λ uss. fsplit t $ feq_l t (λ e. skip t $ skip t $
      k (subst (λ (ws : List Val). vs ≡ vstruct (of_list (ws ++ [])) ∷ []) e ev)))))

  -- an array is one machine value, of its type
  pub array_had : K → (n : ℕ) (xs : List ℕ) (vs : List Val) → ((v : Val) → vs ≡ v ∷ [] → length xs ≡ n → Good (bytes_of n) v → Seq K 𝓛 (‵ ((Bytes n).own_val xs (v ∷ [])) ∷ Γ) G) → Seq K 𝓛 (‵ ((Bytes n).own_val xs vs) ∷ Γ) G
  array_had t n xs vs k =
      peeks t (Bytes n) (Is (Bytes n)) (shows 𝓛 (Bytes n)) xs vs (λ is.
      let one = alone n vs ((Array-Lawful 𝓛 u8 (uint_Lawful 𝓛 w8) n).typed xs vs is) in
      rewrite t 0 (λ (us : List Val). ‵ ((Bytes n).own_val xs us)) one.1.0 refl $ k one.0 one.1.0 is.1.0.1 one.1.1)

module _ {M : Type 1} {𝓤 : Ura M} (𝓛 : Logic 𝓤) where
  open 𝓛 use {H}

  pub array_Makes : (n : ℕ) → Makes 𝓛 (Bytes n) (Is (Bytes n))
  array_Makes n = Array-Makes 𝓛 u8 (uint_Makes 𝓛 w8) n

  module _ (q : Share) (b : ℕ) where
    abbrev Row : ℕ → List ℕ → Fml
    Row o xs = row u8 q xs b o

    pub cut : (xs ys : List ℕ) (o at : ℕ) → at ≡ length xs + o → ent 𝓤 (sem 𝓛 (Row o (xs ++ ys))) (sep 𝓤 (sem 𝓛 (Row o xs)) (sem 𝓛 (Row at ys)))
    cut [] ys o at e = qed 𝓛 (‵ (Row o ys) ∷ []) ∵ rewrite ! 0 (λ (k : ℕ). ‵ (Row k ys)) {x = at} (omega arith) refl $ nothing ! $ done !
    cut (x ∷ xs) ys o at e = qed 𝓛 (‵ (Row o (x ∷ xs ++ ys)) ∷ []) ∵ fsplit ! $ move ! (1 ∷ []) $
        use1 𝓛 (‵ (Row (o + 1) xs) ⊛ ‵ (Row at ys)) (cut xs ys (o + 1) at (omega arith)) $ split ! $ move ! (2 ∷ 0 ∷ []) $ fjoin ! $ done !

    pub glue : (xs ys : List ℕ) (o at : ℕ) → at ≡ length xs + o → ent 𝓤 (sep 𝓤 (sem 𝓛 (Row o xs)) (sem 𝓛 (Row at ys))) (sem 𝓛 (Row o (xs ++ ys)))
    glue [] ys o at e = qed 𝓛 (‵ ftrue ∷ ‵ (Row at ys) ∷ []) ∵ skip ! $ rewrite ! 0 (λ (k : ℕ). ‵ (Row k ys)) {x = o} (omega arith) refl $ done !
    glue (x ∷ xs) ys o at e = qed 𝓛 (‵ (Row o (x ∷ xs)) ∷ ‵ (Row at ys) ∷ []) ∵ fsplit ! $ move ! (1 ∷ 2 ∷ []) $
        use2 𝓛 (‵ (Row (o + 1) (xs ++ ys))) (glue xs ys (o + 1) at (omega arith)) $ move ! (1 ∷ 0 ∷ []) $ fjoin ! $ done !

    module _ (o : ℕ) (xs : List ℕ) (i n : ℕ) where
      -- the bytes but for the n from the i-th on
      abbrev pub Around : Fml
      Around = fsep (Row o (take i xs)) (Row (n + (i + o)) (drop (i + n) xs))

      pub run_out : i + n ≤ length xs → ent 𝓤 (sem 𝓛 (Row o xs)) (sep 𝓤 (sem 𝓛 (Row (i + o) (take n (drop i xs)))) (sem 𝓛 Around))
      run_out le =
          let run = take n (drop i xs) in let long : n ≡ length run = omega (arith, length-take n (drop i xs), length-drop i xs) in
          let before : i ≡ length (take i xs) = omega (arith, length-take i xs) in
          qed 𝓛 (‵ (Row o xs) ∷ []) ∵
          rewrite ! 0 (λ (l : List ℕ). ‵ (Row o l)) (sym (take-append-drop i xs) ∙ ap (λ l. take i xs ++ l) (sym (take-append-drop n (drop i xs)) ∙ ap (λ l. run ++ l) (drop-drop n i xs))) refl $
          use1 𝓛 (‵ (Row o (take i xs)) ⊛ ‵ (Row (i + o) (run ++ drop (i + n) xs))) (cut (take i xs) (run ++ drop (i + n) xs) o (i + o) (ap (λ k. k + o) before)) $ split ! $ move ! (1 ∷ []) $
          use1 𝓛 (‵ (Row (i + o) run) ⊛ ‵ (Row (n + (i + o)) (drop (i + n) xs))) (cut run (drop (i + n) xs) (i + o) (n + (i + o)) (ap (λ k. k + (i + o)) long)) $
          split ! $ move ! (2 ∷ 1 ∷ []) $ fjoin ! $ move ! (1 ∷ []) $ done !

      pub run_in : i + n ≤ length xs → (ws : List ℕ) → n ≡ length ws
          → ent 𝓤 (sep 𝓤 (sem 𝓛 (Row (i + o) ws)) (sem 𝓛 Around)) (sem 𝓛 (Row o (take i xs ++ (ws ++ drop (i + n) xs))))
      run_in le ws long =
          let before : i ≡ length (take i xs) = omega (arith, length-take i xs) in
          qed 𝓛 (‵ (Row (i + o) ws) ∷ ‵ Around ∷ []) ∵ move ! (1 ∷ []) $ fsplit ! $ move ! (2 ∷ 1 ∷ []) $
          use2 𝓛 (‵ (Row (i + o) (ws ++ drop (i + n) xs))) (glue ws (drop (i + n) xs) (i + o) (n + (i + o)) (ap (λ k. k + (i + o)) long)) $ move ! (1 ∷ 0 ∷ []) $
          by ! (glue (take i xs) (ws ++ drop (i + n) xs) o (i + o) (ap (λ k. k + o) before))

      pub run_back : i + n ≤ length xs → ent 𝓤 (sep 𝓤 (sem 𝓛 (Row (i + o) (take n (drop i xs)))) (sem 𝓛 Around)) (sem 𝓛 (Row o xs))
      run_back le =
          let run = take n (drop i xs) in let long : n ≡ length run = omega (arith, length-take n (drop i xs), length-drop i xs) in
          let same : take i xs ++ (run ++ drop (i + n) xs) ≡ xs = ap (λ l. take i xs ++ (run ++ l)) (sym (drop-drop n i xs)) ∙ ap (λ l. take i xs ++ l) (take-append-drop n (drop i xs)) ∙ take-append-drop i xs in
          qed 𝓛 (‵ (Row (i + o) run) ∷ ‵ Around ∷ []) ∵ use2 𝓛 (‵ (Row o (take i xs ++ (run ++ drop (i + n) xs)))) (run_in le run long) $
          rewrite ! 0 (λ (l : List ℕ). ‵ (Row o l)) same refl $ done !

    pub whole : (n : ℕ) (ys : List ℕ) (o : ℕ) → length ys ≡ n
        → ent 𝓤 (sem 𝓛 (Row o ys)) (ex 𝓤 (λ (v : Val). guard 𝓤 (Is (Bytes n) ys (v ∷ []) × Good (bytes_of n) v) (sep 𝓤 (H.at q (bytes_of n) b o v) (sem 𝓛 ((Bytes n).own_val ys (v ∷ []))))))
    whole n ys o long =
        qed 𝓛 (‵ (Row o ys) ∷ []) ∵ feq_i ! ℕ (length ys) n long $ fjoin ! $
        use1 𝓛 (‵ (part_at (Bytes n) q ys b o)) (Array-whole 𝓛 u8 q n ys b o) $
        use1 𝓛 (some (λ (v : Val). ‵ (fat q (bytes_of n) b o v) ⊛ ‵ ((Bytes n).own_val ys (v ∷ [])))) (part_out 𝓛 (Bytes n) refl q ys b o) $ pick ! (λ v. split ! $ move ! (1 ∷ []) $
        peeks ! (Bytes n) (Is (Bytes n)) (shows 𝓛 (Bytes n)) ys (v ∷ []) (λ is.
        show ! (λ (w : Val). guard 𝓤 (Is (Bytes n) ys (w ∷ []) × Good (bytes_of n) w) (sep 𝓤 (H.at q (bytes_of n) b o w) (sem 𝓛 ((Bytes n).own_val ys (w ∷ []))))) v $
        check ! (is, ((Array-Lawful 𝓛 u8 (uint_Lawful 𝓛 w8) n).typed ys (v ∷ []) is).0) $ move ! (1 ∷ 0 ∷ []) $ done !))

    pub apart : (n : ℕ) (ys : List ℕ) (o : ℕ) (v : Val) → ent 𝓤 (sep 𝓤 (H.at q (bytes_of n) b o v) (sem 𝓛 ((Bytes n).own_val ys (v ∷ [])))) (sem 𝓛 (Row o ys))
    apart n ys o v =
        qed 𝓛 (‵ (fat q (bytes_of n) b o v) ∷ ‵ ((Bytes n).own_val ys (v ∷ [])) ∷ []) ∵
        use2 𝓛 (‵ (part_at (Bytes n) q ys b o)) (part_in 𝓛 (Bytes n) refl q ys b o v) $
        use1 𝓛 (‵ ((arr_parts (shares u8) n).part q ys b o)) (Array-apart 𝓛 u8 q tt n ys b o) $ fsplit ! $ skip ! $ done !

  module _ (b : ℕ) where
    pub all_room : (xs : List ℕ) (n o : ℕ) → ent 𝓤 (sep 𝓤 (sem 𝓛 (row u8 full_share xs b o)) (H.room (bytes_of n) b (length xs + o))) (H.room (bytes_of (length xs + n)) b o)
    all_room [] n o = qed 𝓛 (‵ ftrue ∷ ‵ (froom (bytes_of n) b (0 + o)) ∷ []) ∵ skip ! $
        rewrite ! 0 (λ (k : ℕ). ‵ (froom (bytes_of n) b k)) {x = o} (omega arith) refl $ rewrite ! 0 (λ (k : ℕ). ‵ (froom (bytes_of k) b o)) {x = 0 + n} (omega arith) refl $ done !
    all_room (x ∷ xs) n o = qed 𝓛 (‵ (row u8 full_share (x ∷ xs) b o) ∷ ‵ (froom (bytes_of n) b (suc (length xs) + o)) ∷ []) ∵ fsplit ! $
        rewrite ! 2 (λ (k : ℕ). ‵ (froom (bytes_of n) b k)) {x = length xs + (o + 1)} (omega arith) refl $ move ! (1 ∷ 2 ∷ []) $
        use2 𝓛 (‵ (froom (bytes_of (length xs + n)) b (o + 1))) (all_room xs n (o + 1)) $ move ! (1 ∷ []) $
        use1 𝓛 (‵ (fat full_share (ty_int w8) b o (vint w8 x))) (uint_out 𝓛 full_share w8 x b o) $ use1 𝓛 (‵ (froom (ty_int w8) b o)) (𝓛.laws.at_room (ty_int w8) b o (vint w8 x)) $
        use2 𝓛 (‵ (froom (bytes_of (suc (length xs + n))) b o)) (𝓛.laws.room_cons (ty_int w8) (length xs + n) b o) $
        rewrite ! 0 (λ (k : ℕ). ‵ (froom (bytes_of k) b o)) {x = suc (length xs) + n} (omega arith) refl $ done !

pub written : (at n : ℕ) (ws xs : List ℕ) → length ws ≡ n → at + n ≤ length xs → take at xs ++ (ws ++ drop (at + n) xs) ≡ with_run at ws xs
written at n ws xs long fits =
    let here : at + length ws ≤ length xs = omega (arith, long, fits) in
    ap (λ k. take at xs ++ (ws ++ drop (at + k) xs)) (sym long) ∙ sym (with_run_within at ws xs here ∙ append_assoc (take at xs) ws (drop (at + length ws) xs))
