-- What comes of a frame of the pair, and of the linked module's.
use Rattle.std.proofs.Common.{◌≡◌, ℕ, zero, suc, ◌+◌, List, ◌++◌, length, Option, Some, None, refl, sym, ap, ◌∙◌, subst}
use Rattle.sem_words.specs.declared.word.Word.{Word}
use Rattle.wasm_lang.specs.Modules.{WasmModule}
use Rattle.wasm_lang_exec.specs.Code.{Trees}
use Rattle.wasm_lang_exec.specs.Store.{Store}
use Rattle.wasm_lang_exec.specs.Reductions as alone
use Rattle.wasm_lang_exec.specs.Reductions.{top_of, Config, Code, Frame, Reduct, to, is_values, branches, returns, stops, is_stuck}
use Rattle.wasm_laws_drive.specs.Drive.{Outcome, Stuck, at, drive}
use Rattle.wasm_laws_drive.specs.Equations as equations
use Rattle.wasm_laws_drive.specs.Equations.{at_frame}
use Rattle.wasm_laws_drive.proofs.Driving.{through_frame}
use Rattle.wasm_link_lang.specs.Pairs.{Pair}
use Rattle.wasm_link_code.specs.Trees.{moved_tree}
use Rattle.wasm_link_laws_sessions.specs.Alike.{Fine, IsAlike}
use Rattle.wasm_link_laws_sessions.proofs.Steps.{st, Holds, Follows, steps_to, ends_after_one}

module _ (w : Pair) (m : WasmModule) (g : ℕ) (order : List Word → List Word) (locals room inner rest values : List Word) (arity : ℕ) (code : Trees) (fine : Fine w g (length locals) (length room) code) where
  abbrev code' : Trees
  code' = moved_tree w (length locals) code

  abbrev framed : Config → Config
  framed c = Frame values arity (inner ++ rest) c code'

  abbrev Here : Reduct → Config → Store → Type 0
  Here rd c' s = Follows w m g order rd (framed c') locals room s

  through : (n : ℕ) (c' : Config) (s : Store) (o : Outcome) → drive m n c' (inner ++ rest) (st w m g order s) ≡ o → drive m n (framed c') (locals ++ room) (st w m g order s) ≡ at_frame m values arity code' (locals ++ room) o
  through n c' s o e = through_frame m n values arity (inner ++ rest) c' code' (locals ++ room) (st w m g order s) ∙ ap (at_frame m values arity code' (locals ++ room)) e

  -- by a branch or a return with these values
  leaves : (vs : List Word) (o : Option (List Word)) → o ≡ top_of arity vs → (c' : Config) (s : Store) → Holds w m g order s
      → ((n : ℕ) → drive m (suc n) (framed c') (locals ++ room) (st w m g order s)
      ≡ equations.take_values (top_of arity vs) (at vs (inner ++ rest) (st w m g order s) n) (λ top. equations.back m values code' (locals ++ room) top (at vs (inner ++ rest) (st w m g order s) n)))
      → Here (alone.leave w.first o values code locals s) c' s
  leaves vs None e c' s holds takes =
      ends_after_one w m g order locals room (framed c') s (Stuck (st w m g order s))
      (λ n. takes n
      ∙ ap (λ o. equations.take_values o (at vs (inner ++ rest) (st w m g order s) n) (λ top. equations.back m values code' (locals ++ room) top (at vs (inner ++ rest) (st w m g order s) n))) (sym e))
  leaves vs (Some top) e c' s holds takes =
      steps_to w m g order locals room (framed c') (Code (top ++ values) code) (Code (top ++ values) code') s s holds (fine, refl)
      (λ n. takes n
      ∙ ap (λ o. equations.take_values o (at vs (inner ++ rest) (st w m g order s) n) (λ top. equations.back m values code' (locals ++ room) top (at vs (inner ++ rest) (st w m g order s) n))) (sym e))

  pub inside_frame : (rd : Reduct) (c' : Config) (s : Store) → Holds w m g order s → Follows w m g order rd c' inner rest s → Here (alone.reduce_frame w.first rd values arity code locals s) c' s
  inside_frame (to c1 inner1 s1) c' s holds it = record {
    cost = it.cost;
    some = it.some;
    few = it.few;
    config = Frame values arity (inner1 ++ it.rest) it.config code';
    rest = room;
    many = refl;
    room_stays = refl;
    holds = it.holds;
    alike = (
      fine,
      it.rest,
      it.config,
      subst (λ j. IsAlike w g c1 j (length it.rest) it.config) (sym it.many) (subst (λ q. IsAlike w g c1 (length inner) q it.config) (sym it.room_stays) it.alike),
      refl,
    );
    takes = λ n.
        through (it.cost + n) c' s (drive m n it.config (inner1 ++ it.rest) (st w m g order s1)) (it.takes n)
        ∙ sym (through_frame m n values arity (inner1 ++ it.rest) it.config code' (locals ++ room) (st w m g order s1));
  }
  inside_frame (is_values vs) c' s holds it =
      steps_to w m g order locals room (framed c') (Code (vs ++ values) code) (Code (vs ++ values) code') s s holds (fine, refl) (λ n. through (suc n) c' s _ (it (suc n)))
  inside_frame (branches zero vs) c' s holds it = leaves vs (top_of arity vs) refl c' s holds (λ n. through (suc n) c' s _ (it n))
  inside_frame (branches (suc j) vs) c' s holds it = ends_after_one w m g order locals room (framed c') s (Stuck (st w m g order s)) (λ n. through (suc n) c' s _ (it n))
  inside_frame (returns vs) c' s holds it = leaves vs (top_of arity vs) refl c' s holds (λ n. through (suc n) c' s _ (it n))
  inside_frame (stops x s1) c' s holds it = record { cost = it.cost; few = it.few; ends = λ n. through (it.cost + n) c' s _ (it.ends n) }
  inside_frame is_stuck c' s holds it = record { cost = it.cost; few = it.few; ends = λ n. through (it.cost + n) c' s _ (it.ends n) }
