-- `get` reads N bytes of a region at once, for every N. Assumes `Logic`.
use Rattle.std.proofs.Common.{◌≡◌, ℕ, ◌+◌, ◌<◌, ◌≤◌, ◌^◌, List, [], ◌∷◌, ◌++◌, length, take, drop, refl, sym, subst, ◌∙◌, arith, w64}
use Rattle.std.proofs.lemmas.List.{length-take, length-drop}
use Rattle.std.proofs.RcSteps.{Good, word, word-Good}
use Rattle.std.proofs.VecSteps.Shapes.{after}
use seplogic.Ra.Ura.{Ura}
use base.Fraction.{full_share}
use base.Fml.{Lft, Share, ftrue, fat, flft}
use base.Logic.{SProp, ent, sep, never, id⊢}
use mir.Syntax.{Args, Fn, named, w8, a_number}
use mir.MapTy.{inst_fn}
use mir.Val.{Val, vptr, vint}
use prog.Memory.{Memory, size}
use prog.Routine.{Routine}
use prog.Wp.{Env, Calls, Loops, WpFn, Tables}
use types.Logic.{Logic}
use contract.BorrowLft.{◌⊑◌}
use contract.Monad.{Fun, fact}
use contract.Running.{tables, tables_of}
use sound.WpLaws.{WpFn-mono}
use types.Kit.{Item, ⋆, ‵, some, given, ◌⊛◌, at_ret, ◌$◌, ◌∵◌, !, qed, by, move, keep, drop as skip, use1, use2, pick, learn, split, join, rewrite, fsplit, fjoin, feq_l, flt_l, suffices, frame, done}
use types.Part.{whole as all, sub}
use types.Run.{stop, fld, bin, look, load, of_opd, first, blocks, exec, returns, enter}
use types.ByLocal.{alloc_all, pass_all, free_all, look_at, get, get_in, through, take_at, give_at, sets, sets_last, env}
use denote.RattleType.{owns}
use denote.Laws.{Is}
use denote.Exit.{yes}
use denote.Param.{layout, layouts, number}
use denote.RawPtr.{Ptr, in_a_block}
use denote.Ref.{Bor, ShrRef}
use denote.Builtin.{RefOf, u8, usize}
use denote.Index.{row}
use denote.Signature.{plain}
use denote.Steps.{nothing, owned}
use denote.Opens.{hide, unhide}
use denote.Copied.{uint_Copied}
use denote.Index.{looks_slice, shuts_slice}
use denote.Memory.{hidden_shr}
use denote.Triple.Clauses.{Clauses, Ended, closing}
use denote.Triple.Entry.{on_entry}
use denote.Triple.Spec.{Meets, triple_of}
use denote.Triple.Table.{entered}
use denote.Triple.Walked.{says, needs, Stays, stay_dropped, walk_of, ends_at, Goes-dropped, walk_Meets}
use Rattle.heap_views.specs.Region.{bytes_of, cells_lent}
use Rattle.heap_views.proofs.RegionMemory.{Cr, Bs, Bytes, word_had, array_Makes, Around, run_out, run_back, whole, apart, bounded_by}
use Rattle.heap_views.specs.contracts.region.Cells.get as F
use Rattle.heap_views.specs.contracts.region.Cells.get.Key.{name as #self}
use Rattle.heap_views.proofs.region.Cells.get.Statement as stated
use Rattle.heap_views.proofs.region.Cells.get.Code as code

module _ (N : ℕ) where
  abbrev args : Args
  args = layouts (a_number ∷ []) (number N, tt)

  abbrev function : Fn
  function = inst_fn args code.function

  abbrev ended : Ended
  ended = F.ended (number N)

  abbrev stayed : Stays ended.signature.params ended.kept
  stayed = (stay_dropped (RefOf (0 ∷ []) tt (plain (λ _. Cr)) (λ _. tt)) yes, (stay_dropped (plain (λ _. Bs)) yes, (stay_dropped (plain (λ _. usize)) yes, tt)))

  abbrev Asks : Cr.Denot → Bs.Denot → ℕ → Type 0
  Asks d base at = (base.ptr ≡ d.at) × (at + N ≤ length d.bytes)

module _ (N : ℕ) {M : Type 1} {𝓤 : Ura M} (𝓛 : Logic 𝓤) (at_mem : Memory → SProp 𝓤) (run : Routine → Fun 𝓤) where
  open 𝓛 use {H}

  abbrev clauses : Clauses 𝓤 (ended N)
  clauses = F.clauses (number N) 𝓛 at_mem run

  module _ (C : Calls 𝓤 H) (Λ : Loops 𝓤 H) (κ κN : Lft) (q qN : Share) (rb ro : ℕ) (d : Cr.Denot) (base : Bs.Denot) (at : ℕ) (us0 us1 us2 : List Val) where
    abbrev self : Bor Cr.Denot
    self = record { ref_ptr = (rb, ro); now = d }

    abbrev bound : (walk_of 𝓛 (ended N) (stayed N) clauses).Ghost
    bound = (((κ, (κN, tt)), (q, (qN, tt)), tt, (self, (base, (at, tt))), (us0, (us1, (us2, tt)))), tt)

    abbrev Post : Val → SProp 𝓤
    Post = (walk_of 𝓛 (ended N) (stayed N) clauses).post bound

    abbrev read : List ℕ
    read = take N (drop at d.bytes)

    -- the token of the lifetime that a const parameter brings
    abbrev More : Item 𝓤
    More = ‵ (flft κN qN) ⊛ ‵ ftrue

    exits : (v : Val) → ent 𝓤 (⋆ 𝓛 (‵ (flft κ q) ∷ More ∷ ‵ ((Bytes N).own_val read (v ∷ [])) ∷ [])) (Post v)
    exits v =
        qed 𝓛 (‵ (flft κ q) ∷ More ∷ ‵ ((Bytes N).own_val read (v ∷ [])) ∷ []) ∵
        suffices ! _ (ends_at 𝓛 (ended N) (stayed N) clauses bound v read (tt, (tt, (tt, tt))) (tt, (tt, (tt, tt)))) $ says ! refl $
        join ! $ frame ! $ nothing ! $ nothing ! $ fjoin ! $ nothing ! $ fjoin ! $ nothing ! $ fjoin ! $ done !

    abbrev Had : List (Item 𝓤)
    Had = ‵ (hidden_shr Cr κ d rb ro) ∷ ‵ (flft κ q) ∷ More ∷ []

    walk : Asks N d base at → at < 2 ^ 64 → ent 𝓤 (⋆ 𝓛 Had) (WpFn 𝓤 H C Λ (function N) (vptr rb ro ∷ word base.ptr ∷ vint w64 at ∷ []) Post)
    walk asked fits =
        qed 𝓛 Had ∵ enter ! C Λ (function N) (vptr rb ro ∷ word base.ptr ∷ vint w64 at ∷ []) _ $ alloc_all ! (λ l. pass_all ! refl ((tt, tt), (word-Good [] base.ptr, ((tt, record { fits = fits }), tt))) $
        let En : Env 𝓤 H = env (function N).locals l in
        unhide ! $ fsplit ! $ skip ! $ in_a_block ! d.at (λ p. cells_lent p d.bytes d.spare κ) (id⊢ 𝓤 (never 𝓤)) (λ b o e. fsplit ! $ flt_l ! (λ small. hide ! $
        -- [the bytes, lent; the token of κ; the other tokens]
        take_at ! 2 $ rewrite ! 0 (λ (p : Ptr). ‵ (fat full_share (layout Bs) (l 2) 0 (word p))) (asked.0 ∙ e) refl $ give_at ! 2 $ first ! $ blocks ! $
        sets ! (bin ! (get_in ! (fld ! refl (stop !)) (sub ! 0 refl (all !))) (get ! refl) tt) refl (tt, tt) $
        sets ! (of_opd ! (get ! refl)) refl (tt, tt) $
        looks_slice ! tt u8 (uint_Copied 𝓛 w8) d.bytes b o (λ q'.
        use1 𝓛 (‵ (row u8 q' read b (at + o)) ⊛ ‵ (Around 𝓛 q' b o d.bytes at N)) (run_out 𝓛 q' b o d.bytes at N asked.1) $ split ! $
        use1 𝓛 (some (λ (u : Val). given (Is (Bytes N) read (u ∷ []) × Good (bytes_of N) u) (‵ (fat q' (bytes_of N) b (at + o) u) ⊛ ‵ ((Bytes N).own_val read (u ∷ [])))))
        (whole 𝓛 q' b N read (at + o) (omega (arith, asked.1, length-take N (drop at d.bytes), length-drop at d.bytes))) $ pick ! (λ u. learn ! (λ is. split ! $
        -- [the N bytes in memory; what they own; the other bytes; the way back; the bytes, lent; the other tokens]
        sets_last ! (of_opd ! (load ! (through ! refl (stop !)) (look ! 0 refl))) refl is.1 $
        exec ! C Λ En (after 1 (function N).body) (at_ret En Post) $ sets ! (of_opd ! (get ! refl)) refl is.1 $
        use2 𝓛 (‵ (row u8 q' read b (at + o))) (apart 𝓛 q' b N read (at + o) u) $ use2 𝓛 (‵ (row u8 q' d.bytes b o)) (run_back 𝓛 q' b o d.bytes at N asked.1) $ shuts_slice ! tt u8 q' d.bytes b o $
        returns ! (look_at ! 0 refl) $ free_all ! refl $ keep ! (0 ∷ 2 ∷ []) $ owned ! (Bytes N) (Is (Bytes N)) (array_Makes 𝓛 N) read (u ∷ []) is.0 $ move ! (1 ∷ 2 ∷ 0 ∷ []) $ by ! (exits u)))))))

    entry : Asks N d base at → ent 𝓤 (on_entry 𝓛 (ended N).signature (κ, (κN, tt)) (q, (qN, tt)) (self, (base, (at, tt))) (us0, (us1, (us2, tt)))) (WpFn 𝓤 H C Λ (function N) (us0 ++ (us1 ++ (us2 ++ []))) Post)
    entry asked =
        qed 𝓛 ((‵ (flft κ q) ⊛ More) ∷ ‵ (owns (ShrRef (named 0) κ Cr ∷ Bs ∷ usize ∷ []) (self, (base, (at, tt))) (us0, (us1, (us2, tt)))) ∷ []) ∵
        split ! $ move ! (2 ∷ []) $ fsplit ! $ fsplit ! $ feq_l ! (λ e0. move ! (1 ∷ []) $ fsplit ! $ word_had ! base.ptr us1 (λ e1.
        fsplit ! $ fsplit ! $ feq_l ! (λ e2. flt_l ! (λ fits. keep ! (1 ∷ 2 ∷ 3 ∷ []) $
        by ! (subst (λ (ws : List Val × List Val × List Val). ent 𝓤 (⋆ 𝓛 Had) (WpFn 𝓤 H C Λ (function N) (ws.0 ++ (ws.1 ++ (ws.2 ++ []))) Post)) (λ j. (sym e0 j, sym e1 j, sym e2 j)) (walk asked fits))))))

  meets : (𝓣 : Tables 𝓤 H) → Meets 𝓛 (ended N).signature (WpFn 𝓤 H 𝓣.C 𝓣.Λ (function N)) (closing 𝓛 (ended N) clauses)
  meets 𝓣 =
      walk_Meets 𝓛 (ended N) (stayed N)
      (Goes-dropped 𝓛 2 (RefOf (0 ∷ []) tt (plain (λ _. Cr)) (λ _. tt)) yes (λ κs x f. refl), (Goes-dropped 𝓛 2 (plain (λ _. Bs)) yes (λ κs x f. refl), (Goes-dropped 𝓛 2 (plain (λ _. usize)) yes (λ κs x f. refl), tt)))
      clauses (WpFn 𝓤 H 𝓣.C 𝓣.Λ (function N)) (WpFn-mono 𝓤 H 𝓛.laws 𝓣 (function N))
      (λ z. let asks = Asks N z.0.3.0.now z.0.3.1.0 z.0.3.1.1.0 in let On = on_entry 𝓛 (ended N).signature z.0.0 z.0.1 z.0.3 z.0.4 in
      bounded_by 𝓤 (z.0.0.1.0 ⊑ []) On (sep 𝓤 (fact 𝓤 (size (bytes_of N) < 2 ^ 63)) (fact 𝓤 asks)) (λ lives. bounded_by 𝓤 (size (bytes_of N) < 2 ^ 63) On (fact 𝓤 asks) (λ small. needs 𝓤 asks On
      (entry 𝓣.C 𝓣.Λ z.0.0.0 z.0.0.1.0 z.0.1.0 z.0.1.1.0 z.0.3.0.ref_ptr.0 z.0.3.0.ref_ptr.1 z.0.3.0.now z.0.3.1.0 z.0.3.1.1.0 z.0.4.0 z.0.4.1.0 z.0.4.1.1.0))))

pub get_spec : {M : Type 1} → stated.statement M
unfolding tables_of
get_spec 𝓤 𝓛 𝓜 𝓡 wired N fits =
    let 𝓣 : Tables 𝓤 𝓛.H = tables_of 𝓤 𝓛.H 𝓜 (tables 𝓤 𝓛.H 𝓜 𝓡 𝓡.env) in
    entered 𝓤 𝓛.H (triple_of 𝓛 (ended N).signature (F.spec (number N) 𝓛 𝓜.mem 𝓡.returns)) 𝓣.C 𝓣.Λ (#self (args N)) (function N)
    (code.unfolded 𝓤 𝓛.H 𝓜 𝓡 wired (number N, tt)) (meets N 𝓛 𝓜.mem 𝓡.returns 𝓣)
