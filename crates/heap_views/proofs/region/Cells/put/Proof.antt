-- `put` writes N bytes of a region at once, for every N. Assumes `Logic`.
use Rattle.std.proofs.Common.{◌≡◌, ℕ, ◌+◌, ◌<◌, ◌≤◌, ◌^◌, List, [], ◌∷◌, ◌++◌, length, take, drop, refl, sym, subst, ◌∙◌, arith, w64, MutBor}
use Rattle.std.proofs.lemmas.List.{length-append, length-take, length-drop}
use Rattle.std.proofs.RcSteps.{Good, word, word-Good}
use Rattle.std.proofs.VecSteps.Shapes.{after}
use seplogic.Ra.Ura.{Ura}
use base.Fraction.{full_share}
use base.Fml.{Lft, GName, Share, ftrue, fat, flft, fobs, fbor, froom}
use base.Logic.{SProp, ent, sep, never, id⊢}
use mir.Syntax.{Args, Fn, named, a_number}
use mir.MapTy.{inst_fn}
use mir.Val.{Val, vptr, vint, vunit}
use prog.Memory.{Memory, size}
use prog.Routine.{Routine}
use prog.Wp.{Env, Calls, Loops, WpFn, Tables}
use types.Logic.{Logic}
use contract.BorrowLft.{◌⊑◌}
use contract.Monad.{Fun, fact}
use contract.Running.{tables, tables_of}
use sound.WpLaws.{WpFn-mono}
use types.Kit.{Item, ⋆, ‵, some, given, ◌⊛◌, at_ret, ◌$◌, ◌∵◌, !, qed, by, move, keep, drop as skip, use1, use2, pick, learn, split, join, rewrite, fsplit, fsplit3, fjoin, fjoin3, feq_i, feq_l, flt_i, flt_l, suffices, frame, done}
use types.Part.{whole as all, sub}
use types.Run.{store, stop, fld, bin, unit_lit, of_opd, assigns_last, first, blocks, exec, returns, enter}
use types.ByLocal.{alloc_all, pass_all, free_all, look_at, get, get_in, through, take_at, give_at, sets, env}
use types.SemTy.{Body as Borrowed}
use denote.RattleType.{RattleType, owns}
use denote.Laws.{Is}
use denote.Memory.{mem}
use denote.Exit.{yes}
use denote.Param.{layout, layouts, number, param, ArrayAt}
use denote.RawPtr.{Ptr, in_a_block}
use denote.Ref.{MutRef}
use denote.Builtin.{u8, usize, unit}
use denote.Index.{row}
use denote.Signature.{plain}
use denote.Steps.{nothing, opens, closes}
use denote.Triple.Clauses.{Clauses, Ended, closing}
use denote.Triple.Entry.{on_entry}
use denote.Triple.Spec.{Meets, triple_of}
use denote.Triple.Table.{entered}
use denote.Triple.Walked.{says, needs, Stays, stay_dropped, stay_ref, walk_of, ends_at, Goes-dropped, Goes-ref, walk_Meets}
use Rattle.heap_lang.specs.Heap.{with_run}
use Rattle.heap_views.specs.Region.{bytes_of, cells_own}
use Rattle.heap_views.proofs.RegionMemory.{Cr, Bs, Bytes, word_had, array_had, Around, run_out, run_in, whole, apart, written, bounded_by}
use Rattle.heap_views.specs.contracts.region.Cells.put as F
use Rattle.heap_views.specs.contracts.region.Cells.put.Key.{name as #self}
use Rattle.heap_views.proofs.region.Cells.put.Statement as stated
use Rattle.heap_views.proofs.region.Cells.put.Code as code

module _ (N : ℕ) where
  abbrev args : Args
  args = layouts (a_number ∷ []) (number N, tt)

  abbrev function : Fn
  function = inst_fn args code.function

  abbrev Run : RattleType
  Run = ArrayAt u8 (param 0 (number N))

  abbrev ended : Ended
  ended = F.ended (number N)

  abbrev stayed : Stays ended.signature.params ended.kept
  stayed = (stay_ref (0 ∷ []) tt (plain (λ _. Cr)), (stay_dropped (plain (λ _. Bs)) yes, (stay_dropped (plain (λ _. usize)) yes, (stay_dropped (plain (λ _. Run)) yes, tt))))

  abbrev Asks : Cr.Denot → Bs.Denot → ℕ → Type 0
  Asks d base at = (base.ptr ≡ d.at) × (at + N ≤ length d.bytes)

module _ (N : ℕ) {M : Type 1} {𝓤 : Ura M} (𝓛 : Logic 𝓤) (at_mem : Memory → SProp 𝓤) (run : Routine → Fun 𝓤) where
  open 𝓛 use {H}

  abbrev clauses : Clauses 𝓤 (ended N)
  clauses = F.clauses (number N) 𝓛 at_mem run

  module _ (C : Calls 𝓤 H) (Λ : Loops 𝓤 H) (κ κN : Lft) (q qN : Share) (rb ro : ℕ) (γ : GName) (d : Cr.Denot) (base : Bs.Denot) (at : ℕ) (bytes : List ℕ) (us0 us1 us2 us3 : List Val) where
    abbrev self : MutBor Cr.Denot
    self = record { ref_ptr = (rb, ro); ghost_name = γ; now = d }

    abbrev bound : (walk_of 𝓛 (ended N) (stayed N) clauses).Ghost
    bound = (((κ, (κN, tt)), (q, (qN, tt)), tt, (self, (base, (at, (bytes, tt)))), (us0, (us1, (us2, (us3, tt))))), tt)

    abbrev Post : Val → SProp 𝓤
    Post = (walk_of 𝓛 (ended N) (stayed N) clauses).post bound

    abbrev new : Cr.Denot
    new = record { mark = d.mark; at = d.at; bytes = take at d.bytes ++ (bytes ++ drop (at + N) d.bytes); spare = d.spare }

    -- the token of the lifetime that a const parameter brings
    abbrev More : Item 𝓤
    More = ‵ (flft κN qN) ⊛ ‵ ftrue

    exits : us0 ≡ vptr rb ro ∷ [] → new.bytes ≡ with_run at bytes d.bytes → ent 𝓤 (⋆ 𝓛 (‵ (fobs γ (Cr.coded.code new)) ∷ ‵ (fbor κ (Borrowed (mem Cr) rb ro γ)) ∷ ‵ (flft κ q) ∷ More ∷ ‵ (unit.own_val tt (vunit ∷ [])) ∷ [])) (Post vunit)
    exits passed same =
        qed 𝓛 (‵ (fobs γ (Cr.coded.code new)) ∷ ‵ (fbor κ (Borrowed (mem Cr) rb ro γ)) ∷ ‵ (flft κ q) ∷ More ∷ ‵ (unit.own_val tt (vunit ∷ [])) ∷ []) ∵
        suffices ! _ (ends_at 𝓛 (ended N) (stayed N) clauses bound vunit tt (new, (tt, (tt, (tt, tt)))) (tt, (tt, (tt, (tt, tt))))) $ says ! (refl, refl, same) $
        move ! (2 ∷ 3 ∷ []) $ join ! $ frame ! $ feq_i ! (List Val) us0 (vptr rb ro ∷ []) passed $ fjoin3 ! $ nothing ! $ nothing ! $ fjoin ! $ nothing ! $ fjoin ! $ nothing ! $ fjoin ! $ move ! (1 ∷ 0 ∷ []) $ fjoin ! $ done !

    abbrev Had : Val → List (Item 𝓤)
    Had v = ‵ (fobs γ (Cr.coded.code d)) ∷ ‵ (fbor κ (Borrowed (mem Cr) rb ro γ)) ∷ ‵ (flft κ q) ∷ More ∷ ‵ ((Bytes N).own_val bytes (v ∷ [])) ∷ []

    walk : us0 ≡ vptr rb ro ∷ [] → Asks N d base at → length bytes ≡ N → at < 2 ^ 64 → (v : Val) → Good (bytes_of N) v
        → ent 𝓤 (⋆ 𝓛 (Had v)) (WpFn 𝓤 H C Λ (function N) (vptr rb ro ∷ word base.ptr ∷ vint w64 at ∷ v ∷ []) Post)
    walk passed asked many fits v good =
        let long : length new.bytes ≡ length d.bytes = omega (arith, asked.1, length-append (take at d.bytes) (bytes ++ drop (at + N) d.bytes), length-append bytes (drop (at + N) d.bytes), length-take at d.bytes, length-drop (at + N) d.bytes) in
        qed 𝓛 (Had v) ∵ enter ! C Λ (function N) (vptr rb ro ∷ word base.ptr ∷ vint w64 at ∷ v ∷ []) _ $ alloc_all ! (λ l. pass_all ! refl ((tt, tt), (word-Good [] base.ptr, ((tt, record { fits = fits }), (good, tt)))) $
        let En : Env 𝓤 H = env (function N).locals l in
        opens ! tt Cr {h = d} rb ro (λ vs. move ! (1 ∷ []) $ fsplit ! $ move ! (1 ∷ []) $
        in_a_block ! d.at (λ p. cells_own p d.bytes d.spare) (id⊢ 𝓤 (never 𝓤)) (λ b o e. fsplit ! $ flt_l ! (λ small. fsplit ! $
        -- [the bytes; the room after them; the mark; its cell; the open borrow, in three; the other tokens; the bytes to write]
        take_at ! 2 $ rewrite ! 0 (λ (p : Ptr). ‵ (fat full_share (layout Bs) (l 2) 0 (word p))) (asked.0 ∙ e) refl $ give_at ! 2 $ first ! $ blocks ! $
        sets ! (bin ! (get_in ! (fld ! refl (stop !)) (sub ! 0 refl (all !))) (get ! refl) tt) refl (tt, tt) $
        sets ! (of_opd ! (get ! refl)) refl (tt, tt) $
        use1 𝓛 (‵ (row u8 full_share (take N (drop at d.bytes)) b (at + o)) ⊛ ‵ (Around 𝓛 full_share b o d.bytes at N)) (run_out 𝓛 full_share b o d.bytes at N asked.1) $ split ! $
        use1 𝓛 (some (λ (u : Val). given (Is (Bytes N) (take N (drop at d.bytes)) (u ∷ []) × Good (bytes_of N) u) (‵ (fat full_share (bytes_of N) b (at + o) u) ⊛ ‵ ((Bytes N).own_val (take N (drop at d.bytes)) (u ∷ [])))))
        (whole 𝓛 full_share b N (take N (drop at d.bytes)) (at + o) (omega (arith, asked.1, length-take N (drop at d.bytes), length-drop at d.bytes))) $ pick ! (λ u. learn ! (λ is. split ! $
        -- [the N bytes in memory; what they own; the other bytes; the room; the mark; its cell; the open borrow, in three; the other tokens; the bytes to write]
        assigns_last ! (of_opd ! (get ! refl)) (through ! refl (stop !)) (store ! 0 refl good) $
        exec ! C Λ En (after 1 (function N).body) (at_ret En Post) $ sets ! (of_opd ! (unit_lit !)) refl (tt, tt) $
        move ! (1 ∷ []) $ skip ! $ move ! (0 ∷ 9 ∷ []) $ use2 𝓛 (‵ (row u8 full_share bytes b (at + o))) (apart 𝓛 full_share b N bytes (at + o) v) $
        use2 𝓛 (‵ (row u8 full_share new.bytes b o)) (run_in 𝓛 full_share b o d.bytes at N asked.1 bytes (sym many)) $
        rewrite ! 1 (λ (k : ℕ). ‵ (froom (bytes_of d.spare) b (k + o))) (sym long) refl $ fjoin ! $
        flt_i ! (length new.bytes + new.spare) (2 ^ 63) (omega (arith, long, small)) $ fjoin ! $
        rewrite ! 0 (λ (p : Ptr). ‵ (cells_own p new.bytes new.spare)) (sym e) refl $ move ! (1 ∷ 0 ∷ []) $ fjoin ! $ move ! (1 ∷ 0 ∷ []) $ closes ! tt Cr new vs rb ro $
        returns ! (look_at ! 0 refl) $ free_all ! refl $ keep ! (0 ∷ 1 ∷ 2 ∷ 3 ∷ []) $ feq_i ! (List Val) (vunit ∷ []) (vunit ∷ []) refl $ move ! (1 ∷ 2 ∷ 3 ∷ 4 ∷ 0 ∷ []) $
        by ! (exits passed (written at N bytes d.bytes many asked.1))))))))

    entry : Asks N d base at → ent 𝓤 (on_entry 𝓛 (ended N).signature (κ, (κN, tt)) (q, (qN, tt)) (self, (base, (at, (bytes, tt)))) (us0, (us1, (us2, (us3, tt))))) (WpFn 𝓤 H C Λ (function N) (us0 ++ (us1 ++ (us2 ++ (us3 ++ [])))) Post)
    entry asked =
        qed 𝓛 ((‵ (flft κ q) ⊛ More) ∷ ‵ (owns (MutRef (named 0) κ Cr ∷ Bs ∷ usize ∷ Run N ∷ []) (self, (base, (at, (bytes, tt)))) (us0, (us1, (us2, (us3, tt))))) ∷ []) ∵
        split ! $ move ! (2 ∷ []) $ fsplit ! $ fsplit3 ! $ feq_l ! (λ e0. move ! (2 ∷ []) $ fsplit ! $ word_had ! base.ptr us1 (λ e1.
        fsplit ! $ fsplit ! $ feq_l ! (λ e2. flt_l ! (λ fits. fsplit ! $
        array_had ! N bytes us3 (λ v e3 many good. keep ! (2 ∷ 3 ∷ 4 ∷ 5 ∷ 0 ∷ []) $
        by ! (subst (λ (ws : List Val × List Val × List Val × List Val). ent 𝓤 (⋆ 𝓛 (Had v)) (WpFn 𝓤 H C Λ (function N) (ws.0 ++ (ws.1 ++ (ws.2 ++ (ws.3 ++ [])))) Post)) (λ j. (sym e0 j, sym e1 j, sym e2 j, sym e3 j)) (walk e0 asked many fits v good)))))))

  meets : (𝓣 : Tables 𝓤 H) → Meets 𝓛 (ended N).signature (WpFn 𝓤 H 𝓣.C 𝓣.Λ (function N)) (closing 𝓛 (ended N) clauses)
  meets 𝓣 =
      walk_Meets 𝓛 (ended N) (stayed N)
      (Goes-ref 𝓛 2 0 tt (plain (λ _. Cr)), (Goes-dropped 𝓛 2 (plain (λ _. Bs)) yes (λ κs x f. refl), (Goes-dropped 𝓛 2 (plain (λ _. usize)) yes (λ κs x f. refl), (Goes-dropped 𝓛 2 (plain (λ _. Run N)) yes (λ κs x f. refl), tt))))
      clauses (WpFn 𝓤 H 𝓣.C 𝓣.Λ (function N)) (WpFn-mono 𝓤 H 𝓛.laws 𝓣 (function N))
      (λ z. let asks = Asks N z.0.3.0.now z.0.3.1.0 z.0.3.1.1.0 in let On = on_entry 𝓛 (ended N).signature z.0.0 z.0.1 z.0.3 z.0.4 in
      bounded_by 𝓤 (z.0.0.1.0 ⊑ []) On (sep 𝓤 (fact 𝓤 (size (bytes_of N) < 2 ^ 63)) (fact 𝓤 asks)) (λ lives. bounded_by 𝓤 (size (bytes_of N) < 2 ^ 63) On (fact 𝓤 asks) (λ small. needs 𝓤 asks On
      (entry 𝓣.C 𝓣.Λ z.0.0.0 z.0.0.1.0 z.0.1.0 z.0.1.1.0 z.0.3.0.ref_ptr.0 z.0.3.0.ref_ptr.1 z.0.3.0.ghost_name z.0.3.0.now z.0.3.1.0 z.0.3.1.1.0 z.0.3.1.1.1.0 z.0.4.0 z.0.4.1.0 z.0.4.1.1.0 z.0.4.1.1.1.0))))

pub put_spec : {M : Type 1} → stated.statement M
unfolding tables_of
put_spec 𝓤 𝓛 𝓜 𝓡 wired N fits =
    let 𝓣 : Tables 𝓤 𝓛.H = tables_of 𝓤 𝓛.H 𝓜 (tables 𝓤 𝓛.H 𝓜 𝓡 𝓡.env) in
    entered 𝓤 𝓛.H (triple_of 𝓛 (ended N).signature (F.spec (number N) 𝓛 𝓜.mem 𝓡.returns)) 𝓣.C 𝓣.Λ (#self (args N)) (function N)
    (code.unfolded 𝓤 𝓛.H 𝓜 𝓡 wired (number N, tt)) (meets N 𝓛 𝓜.mem 𝓡.returns 𝓣)
