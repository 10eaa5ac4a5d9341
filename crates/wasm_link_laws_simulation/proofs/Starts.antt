-- The start functions of both modules, and the one function of the module that calls both.
use Rattle.std.proofs.Common.{◌≡◌, ℕ, zero, suc, ◌+◌, ◌*◌, ◌≤◌, List, [], ◌∷◌, ◌++◌, length, Option, Some, None, refl, sym, ap, ◌∙◌, subst, arith, append-nil}
use Rattle.std.specs.Prelude.{reverse}
use Rattle.sem_words.specs.declared.word.Word.{Word}
use Rattle.session_lang.specs.Imports.{ImportAnswer, goes_on, ends, answer_import}
use Rattle.session_lang.specs.Observation.{ObservationPlain}
use Rattle.wasm_lang.specs.declared.types.ValType.{ValType}
use Rattle.wasm_lang.specs.Modules.{WasmModule}
use Rattle.wasm_lang_valid.specs.Validity.{no_type}
use Rattle.wasm_lang_exec.specs.Code.{call, Trees, ε, ◌▹◌}
use Rattle.wasm_lang_exec.specs.Store.{Store, zeros_of}
use Rattle.wasm_lang_exec.specs.Reductions.{Callee, an_import, a_function, callee_at, params_of, top_of, below_top, result_word, Config, Code}
use Rattle.wasm_lang_exec.specs.Session as machine
use Rattle.wasm_lang_exec.specs.Session.{Run, finished, spent, over, after_start}
use Rattle.wasm_laws_drive.specs.Drive.{Outcome, Next, Branch, Leave, Ended, Stuck, Spent, at, drive, onward}
use Rattle.wasm_laws_drive.specs.Equations as equations
use Rattle.wasm_laws_drive.specs.Equations.{pay_from, then_on, take_values, answered, back, at_frame, after_import, entered}
use Rattle.wasm_laws_drive.specs.Laws.{run_of}
use Rattle.wasm_laws_drive.proofs.Counting.{host_call}
use Rattle.wasm_laws_drive.proofs.Instructions.{no_code, call_enters}
use Rattle.wasm_laws_drive.proofs.Sequences.{sequence}
use Rattle.wasm_link_lang.specs.Pairs.{Pair}
use Rattle.wasm_link_lang.specs.Reductions.{reduce}
use Rattle.wasm_link_lang.specs.Session.{run_call, started}
use Rattle.wasm_link_code.specs.Numbers.{number}
use Rattle.wasm_link_code.specs.Linked.{last_function, linked_start}
use Rattle.wasm_link_laws_sessions.specs.Alike.{IsFunction, IsAlike}
use Rattle.wasm_link_laws_sessions.specs.Follows.{Holds, Follows}
use Rattle.wasm_link_laws_simulation.specs.Laws.{Shows}
use Rattle.wasm_link_laws_simulation.proofs.Calls.{shows_within, no_end, to, HasRun, ran_call, Following, Follow, shows_start}

-- ---- values below a call without parameters

-- more values below those that are come to
abbrev above : List Word → Outcome → Outcome
above vs (Next t) = Next (record t { values = t.values ++ vs })
above vs o = o

-- values or an end, but no jump out of the code
abbrev IsNoJump : Outcome → Type 0
IsNoJump (Branch j t) = ⊥
IsNoJump (Leave t) = ⊥
IsNoJump o = Unit {0}

abbrev StandsBelow : List Word → Outcome → Outcome → Type 0
StandsBelow vs o bare = (o ≡ above vs bare) × IsNoJump bare

module _ (m : WasmModule) (vs ls : List Word) where
  ends_above : (top : List Word) (s : Store) (n : ℕ) → StandsBelow vs (onward m ε (at (top ++ vs) ls s n)) (onward m ε (at (top ++ []) ls s n))
  ends_above top s n =
      let a = no_code m (at (top ++ vs) ls s n) in
      let b = no_code m (at (top ++ []) ls s n) in
      let same : top ++ vs ≡ (top ++ []) ++ vs = ap (λ us. us ++ vs) (sym (append-nil top)) in
      (a ∙ ap (λ us. Next (at us ls s n)) same ∙ sym (ap (above vs) b), subst IsNoJump (sym b) tt)

  answer_above : (a : ImportAnswer) (results : List ValType) (s : Store) (n : ℕ)
      → StandsBelow vs (after_import m a results ε (at vs ls s n)) (after_import m a results ε (at [] ls s n))
  answer_above (ends e) results s n = (refl, tt)
  answer_above (goes_on a) results s n = ends_above (result_word results a.word) (answered a s) n

  taken_above : (o : Option (List Word)) (inner : List Word) (s : Store) (n : ℕ) (us : List Word)
      → StandsBelow vs (take_values o (at us inner s n) (λ top. back m vs ε ls top (at us inner s n))) (take_values o (at us inner s n) (λ top. back m [] ε ls top (at us inner s n)))
  taken_above None inner s n us = (refl, tt)
  taken_above (Some top) inner s n us = ends_above top s n

  paid_above : (us inner : List Word) (s : Store) (n : ℕ)
      → StandsBelow vs (pay_from n (at us inner s n) (λ t. back m vs ε ls t.values t)) (pay_from n (at us inner s n) (λ t. back m [] ε ls t.values t))
  paid_above us inner s zero = (refl, tt)
  paid_above us inner s (suc n) = ends_above us s n

  frame_above : (arity : ℕ) (o : Outcome) → StandsBelow vs (at_frame m vs arity ε ls o) (at_frame m [] arity ε ls o)
  frame_above arity (Next t) = paid_above t.values t.locals t.store t.left
  frame_above arity (Branch zero t) = taken_above (top_of arity t.values) t.locals t.store t.left t.values
  frame_above arity (Branch (suc j) t) = (refl, tt)
  frame_above arity (Leave t) = taken_above (top_of arity t.values) t.locals t.store t.left t.values
  frame_above arity (Ended e s) = (refl, tt)
  frame_above arity (Stuck s) = (refl, tt)
  frame_above arity (Spent s) = (refl, tt)

  entered_above : (c : Option Callee) (s : Store) (n : ℕ) → StandsBelow vs (entered m c (Some []) ε (at vs ls s n)) (entered m c (Some []) ε (at [] ls s n))
  entered_above None s n = (refl, tt)
  entered_above (Some (an_import name t)) s n = answer_above (answer_import name (reverse []) s.replies) t.results s n
  entered_above (Some (a_function t more body)) s n = frame_above (length t.results) (onward m body (at [] (reverse [] ++ zeros_of more) s n))

  module _ (f : ℕ) (none : params_of (callee_at m f) ≡ 0) where
    enters : (us : List Word) (s : Store) (n : ℕ) → equations.called m (callee_at m f) ε (at us ls s n) ≡ entered m (callee_at m f) (Some []) ε (at us ls s n)
    enters us s n = ap (λ k. entered m (callee_at m f) (top_of k us) ε (at (below_top k us) ls s n)) none

    pub call_above : (n : ℕ) (s : Store) → StandsBelow vs (drive m n (Code vs (call f ▹ ε)) ls s) (drive m n (Code [] (call f ▹ ε)) ls s)
    call_above zero s =
        let a = call_enters m f ε (at vs ls s 0) in
        let b = call_enters m f ε (at [] ls s 0) in (a ∙ sym (ap (above vs) b), subst IsNoJump (sym b) tt)
    call_above (suc n) s =
        let a = call_enters m f ε (at vs ls s (suc n)) ∙ enters vs s n in
        let b = call_enters m f ε (at [] ls s (suc n)) ∙ enters [] s n in
        let it = entered_above (callee_at m f) s n in (a ∙ it.0 ∙ sym (ap (above vs) b), subst IsNoJump (sym b) it.1)

-- ---- the function that calls both

abbrev pub both_calls : ℕ → ℕ → Trees
both_calls a b = call a ▹ call b ▹ ε

module _ (m : WasmModule) (last a b : ℕ) (is_last : callee_at m last ≡ Some (a_function no_type [] (both_calls a b)))
    (none_first : params_of (callee_at m a) ≡ 0) (none_second : params_of (callee_at m b) ≡ 0) where
  abbrev from : ℕ → Config
  from f = Code [] (call f ▹ ε)

  abbrev out_of : Outcome → Outcome
  out_of o = at_frame m [] 0 ε [] o

  calls_both : (n : ℕ) (s : Store) → machine.run_call m (suc n) last [] s ≡ run_of (out_of (then_on (drive m n (from a) [] s) (onward m (call b ▹ ε))))
  calls_both n s =
      host_call m (suc n) last [] s ∙ ap (λ c. run_of (equations.called m c ε (at [] [] s n))) is_last
      ∙ ap (λ o. run_of (out_of o)) (sequence m (call a ▹ ε) (call b ▹ ε) (at [] [] s n))

  -- the first ends the session, or has no more reductions
  stops_first : (o : Outcome) (r : Run) → IsNoJump o → run_of o ≡ r → ((vs : List Word) (s : Store) (left : ℕ) → r ≡ finished vs s left → ⊥)
      → run_of (out_of (then_on o (onward m (call b ▹ ε)))) ≡ r
  stops_first (Next t) r never e other = absurd (other t.values t.store t.left (sym e))
  stops_first (Branch j t) r never e other = absurd never
  stops_first (Leave t) r never e other = absurd never
  stops_first (Ended x s) r never e other = e
  stops_first (Stuck s) r never e other = e
  stops_first (Spent s) r never e other = e

  stops_second : (vs : List Word) (o bare : Outcome) (r : Run) → StandsBelow vs o bare → run_of bare ≡ r → ((vs : List Word) (s : Store) (left : ℕ) → r ≡ finished vs s left → ⊥) → run_of (out_of o) ≡ r
  stops_second vs o bare r it e other = ap (λ o. run_of (out_of o)) it.0 ∙ by bare it.1 e
    where
      by : (bare : Outcome) → IsNoJump bare → run_of bare ≡ r → run_of (out_of (above vs bare)) ≡ r
      by (Next t) never e = absurd (other t.values t.store t.left (sym e))
      by (Branch j t) never e = absurd never
      by (Leave t) never e = absurd never
      by (Ended x s) never e = e
      by (Stuck s) never e = e
      by (Spent s) never e = e

  abbrev IsEnd : Run → Type 0
  IsEnd r = (vs : List Word) (s : Store) (left : ℕ) → r ≡ finished vs s left → ⊥

  pub ends_in_first : (n : ℕ) (s : Store) (r : Run) → IsEnd r → run_of (drive m n (from a) [] s) ≡ r → machine.run_call m (suc n) last [] s ≡ r
  ends_in_first n s r other e = calls_both n s ∙ stops_first (drive m n (from a) [] s) r (call_above m [] [] a none_first n s).1 e other

  module _ (n : ℕ) (s s1 : Store) (vs ls : List Word) (k : ℕ) (no_locals : ls ≡ []) (first : drive m n (from a) [] s ≡ Next (at vs ls s1 k)) where
    goes_to_second : machine.run_call m (suc n) last [] s ≡ run_of (out_of (drive m k (Code vs (call b ▹ ε)) [] s1))
    goes_to_second =
        calls_both n s ∙ ap (λ o. run_of (out_of (then_on o (onward m (call b ▹ ε))))) first ∙ ap (λ ls. run_of (out_of (drive m k (Code vs (call b ▹ ε)) ls s1))) no_locals

    pub ends_in_second : (r : Run) → IsEnd r → run_of (drive m k (from b) [] s1) ≡ r → machine.run_call m (suc n) last [] s ≡ r
    ends_in_second r other e =
        goes_to_second
        ∙ stops_second vs (drive m k (Code vs (call b ▹ ε)) [] s1) (drive m k (from b) [] s1) r (call_above m vs [] b none_second k s1) e other

    pub ends_after_both : (us ls2 : List Word) (s2 : Store) (j : ℕ) → drive m k (from b) [] s1 ≡ Next (at us ls2 s2 (suc j))
        → machine.run_call m (suc n) last [] s ≡ finished ((us ++ vs) ++ []) s2 j
    ends_after_both us ls2 s2 j e =
        goes_to_second ∙ ap (λ o. run_of (out_of o)) ((call_above m vs [] b none_second k s1).0 ∙ ap (above vs) e) ∙ ap run_of (no_code m (at ((us ++ vs) ++ []) [] s2 j))

-- ---- both starts of a pair

no_elements : (xs : List Word) → length xs ≡ 0 → xs ≡ []
no_elements [] e = refl
no_elements (x ∷ xs) e = absurd (omega (arith, e))

module _ (w : Pair) (m : WasmModule) (g : ℕ) (order : List Word → List Word)
    (follows : (c : Config) (locals room : List Word) (s : Store) (c' : Config) → IsAlike w g c (length locals) (length room) c' → Holds w m g order s
    → Follows w m g order (reduce w c locals s) c' locals room s) where
  abbrev image : Store → Store
  image s = to w m g order follows s

  abbrev Ran_of : Run → ℕ → ℕ → Store → Type 0
  Ran_of r n a s = HasRun w m g order follows r n (Code [] (call (number w a) ▹ ε)) s

  abbrev Goes_on : Following → Following → Type 0
  Goes_on next next' = Follow w m g order follows next next'

  abbrev Shown : ℕ → ObservationPlain → ℕ → Store → Following → Type 0
  Shown n seen f s next' = Shows n 2 seen (λ b. after_start (machine.run_call m b f [] (image s)) next')

  module _ (a b : ℕ) (is_first : IsFunction w a) (is_second : IsFunction w b)
      (is_last : callee_at m (last_function w) ≡ Some (a_function no_type [] (both_calls (number w a) (number w b))))
      (none_first : params_of (callee_at m (number w a)) ≡ 0) (none_second : params_of (callee_at m (number w b)) ≡ 0) where
    abbrev last : ℕ
    last = last_function w

    module _ (n : ℕ) (s s1 : Store) (vs ls : List Word) (left cost : ℕ) (next next' : Following) (few : cost + 6 * left ≤ 6 * n) (many : n ≤ cost + left) (no_locals : ls ≡ [])
        (first : (k : ℕ) → drive m (cost + k) (Code [] (call (number w a) ▹ ε)) [] (image s) ≡ Next (at vs ls (image s1) k)) (follow : Goes_on next next') where
      second_shows : (r : Run) → Ran_of r left b s1 → Shown n (after_start r next) last s next'
      second_shows (finished us s2 left2) it =
          let x = it.1 in
          let y = it.2 in
          let further = follow left2 s2 it.5 in
          let c = further.few in
          let d = further.many in
          record {
            count = suc (cost + (it.0 + suc further.count));
            few = omega (arith, few, y, c);
            many = λ e. let h = d e in omega (arith, many, x, h);
            same = further.same ∙ sym (ap (λ r. after_start r next')
                (ends_after_both m last (number w a) (number w b) is_last none_first none_second (cost + (it.0 + suc further.count)) (image s) (image s1) vs ls (it.0 + suc further.count) no_locals
                (first (it.0 + suc further.count)) us it.3 (image s2) further.count (it.6 (suc further.count))));
          }
      second_shows (over e s2) it =
          let x = it.1 in
          record {
            count = suc (cost + (it.0 + 0));
            few = omega (arith, few, x);
            many = λ h. no_end e h;
            same = sym (ap (λ r. after_start r next')
                (ends_in_second m last (number w a) (number w b) is_last none_first none_second (cost + (it.0 + 0)) (image s) (image s1) vs ls (it.0 + 0) no_locals
                (first (it.0 + 0)) (over e (image s2)) (λ vs s left h. cc h) (ap run_of (it.2 0))));
          }
      second_shows (spent s2) it =
          let x = it.1 in
          let y = it.2 in
          record {
            count = suc (cost + it.0);
            few = omega (arith, few, y);
            many = λ h. omega (arith, many, x);
            same = sym (ap (λ r. after_start r next')
                (ends_in_second m last (number w a) (number w b) is_last none_first none_second (cost + it.0) (image s) (image s1) vs ls it.0 no_locals
                (first it.0) (spent (image s2)) (λ vs s left h. cc h) it.3));
          }

    first_shows : (r : Run) (n : ℕ) (s : Store) (next next' : Following) → Ran_of r n a s → Goes_on next next'
        → Shown n (after_start r (λ n' s'. started w (Some b) n' s' next)) last s next'
    first_shows (finished vs s1 left) n s next next' it follow =
        second_shows n s s1 vs it.3 left it.0 next next' it.2 it.1 (no_elements it.3 it.4) it.6 follow (run_call w left b [] s1) (ran_call w m g order follows left b [] s1 is_second it.5)
    first_shows (over e s1) n s next next' it follow =
        let x = it.1 in
        record {
          count = suc (it.0 + 0);
          few = omega (arith, x);
          many = λ h. no_end e h;
          same = sym (ap (λ r. after_start r next')
              (ends_in_first m last (number w a) (number w b) is_last none_first none_second (it.0 + 0) (image s) (over e (image s1)) (λ vs s left h. cc h) (ap run_of (it.2 0))));
        }
    first_shows (spent s1) n s next next' it follow =
        let x = it.1 in
        let y = it.2 in
        record {
          count = suc it.0;
          few = omega (arith, y);
          many = λ h. omega (arith, x);
          same = sym (ap (λ r. after_start r next')
              (ends_in_first m last (number w a) (number w b) is_last none_first none_second it.0 (image s) (spent (image s1)) (λ vs s left h. cc h) it.3));
        }

    both_show : (n : ℕ) (s : Store) (next next' : Following) → Holds w m g order s → Goes_on next next'
        → Shown n (started w (Some a) n s (λ n' s'. started w (Some b) n' s' next)) last s next'
    both_show n s next next' holds follow = first_shows (run_call w n a [] s) n s next next' (ran_call w m g order follows n a [] s is_first holds) follow

  -- what is asked of the starts, by their addresses
  abbrev pub AreStarts : Option ℕ → Option ℕ → Type 0
  AreStarts (Some a) (Some b) =
      IsFunction w a × IsFunction w b × (callee_at m (last_function w) ≡ Some (a_function no_type [] (both_calls (number w a) (number w b))))
      × (params_of (callee_at m (number w a)) ≡ 0) × (params_of (callee_at m (number w b)) ≡ 0)
  AreStarts (Some a) None = IsFunction w a
  AreStarts None (Some b) = IsFunction w b
  AreStarts None None = Unit {0}

  pub starts_show : (p q : Option ℕ) → AreStarts p q → (n : ℕ) (s : Store) (next next' : Following) → Holds w m g order s → Goes_on next next'
      → Shows n 2 (started w p n s (λ n' s'. started w q n' s' next)) (λ b. machine.started m (linked_start w p q) b (image s) next')
  starts_show None None are n s next next' holds follow = shows_within n 2 (next n s) (λ b. next' b (image s)) (follow n s holds)
  starts_show (Some a) None are n s next next' holds follow =
      shows_within n 2 (after_start (run_call w n a [] s) next) (λ b. after_start (machine.run m b (Code [] (call (number w a) ▹ ε)) [] (image s)) next')
      (shows_start w m g order follows (run_call w n a [] s) n (Code [] (call (number w a) ▹ ε)) s next next' (ran_call w m g order follows n a [] s are holds) follow)
  starts_show None (Some b) are n s next next' holds follow =
      shows_within n 2 (after_start (run_call w n b [] s) next) (λ b'. after_start (machine.run m b' (Code [] (call (number w b) ▹ ε)) [] (image s)) next')
      (shows_start w m g order follows (run_call w n b [] s) n (Code [] (call (number w b) ▹ ε)) s next next' (ran_call w m g order follows n b [] s are holds) follow)
  starts_show (Some a) (Some b) are n s next next' holds follow = both_show a b are.0 are.1 are.2 are.3 are.4 n s next next' holds follow
