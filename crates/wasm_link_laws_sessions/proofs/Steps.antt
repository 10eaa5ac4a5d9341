-- One reduction of a pair, and those of the linked module that follow it.
use Rattle.std.proofs.Common.{◌≡◌, ℕ, zero, suc, ◌+◌, false, List, ◌++◌, length, Option, Some, None, refl, sym, ap, ◌∙◌, arith}
use Rattle.std.specs.Prelude.{slice_get}
use Rattle.sem_words.specs.declared.word.Word.{Word}
use Rattle.session_lang.specs.Observation.{trapped}
use Rattle.wasm_lang.specs.Instructions.{Plain}
use Rattle.wasm_lang.specs.Modules.{WasmModule}
use Rattle.wasm_lang_exec.specs.Code.{plain, Trees, ◌▹◌, ◌⊕◌}
use Rattle.wasm_lang_exec.specs.Store.{Store}
use Rattle.wasm_lang_exec.specs.Plain.{Effect, goes, traps, sticks, do_plain}
use Rattle.wasm_lang_exec.specs.Reductions as alone
use Rattle.wasm_lang_exec.specs.Reductions.{Callee, an_import, a_function, params_of, top_of, below_top, enter, do_call, after_effect, Config, Code, Label, Frame, Reduct, to, is_values, branches, returns, stops, is_stuck}
use Rattle.wasm_laws_drive.specs.Drive.{Outcome, Branch, Ended, Stuck, at, drive, onward}
use Rattle.wasm_laws_drive.specs.Equations as equations
use Rattle.wasm_laws_drive.specs.Equations.{is_constant, after, at_label, at_frame}
use Rattle.wasm_laws_drive.proofs.Driving.{through_label}
use Rattle.wasm_laws_drive.proofs.Instructions.{plain_instruction}
use Rattle.wasm_link_lang.specs.Pairs.{Pair}
use Rattle.wasm_link_code.specs.Trees.{moved_plain, moved_tree}
use Rattle.wasm_link_laws_modules.proofs.MovedTrees.{moved_joined}
use Rattle.wasm_link_laws_sessions.specs.Alike.{store_of, moved_effect, Fine, IsAlike}
pub use Rattle.wasm_link_laws_sessions.specs.Follows.{Holds, Goes, Ends, Follows}
use Rattle.wasm_link_laws_sessions.proofs.PlainMoves.{Keeps}

module _ (w : Pair) (m : WasmModule) (g : ℕ) (order : List Word → List Word) where
  abbrev pub st : Store → Store
  st s = store_of w order s

  pub one_more : (n : ℕ) → 1 + n ≡ suc n
  one_more n = omega arith

  module _ (locals room : List Word) where
    abbrev k : ℕ
    k = length locals

    abbrev r : ℕ
    r = length room

    abbrev all : List Word
    all = locals ++ room

    -- one reduction to a configuration with the same locals
    pub steps_to : (c' c1 : Config) (config : Config) (s s1 : Store) → Holds w m g order s1 → IsAlike w g c1 k r config → ((n : ℕ) → drive m (suc n) c' all (st s) ≡ drive m n config all (st s1)) → Goes w m g order c' locals room s c1 locals s1
    steps_to c' c1 config s s1 holds alike takes = record {
      cost = 1;
      some = omega arith;
      few = omega arith;
      config = config;
      rest = room;
      many = refl;
      room_stays = refl;
      holds = holds;
      alike = alike;
      takes = λ n. ap (λ j. drive m j c' all (st s)) (one_more n) ∙ takes n;
    }

    pub ends_after_one : (c' : Config) (s : Store) (o : Outcome) → ((n : ℕ) → drive m (suc n) c' all (st s) ≡ o) → Ends w m g order c' locals room s o
    ends_after_one c' s o e = record { cost = 1; few = omega arith; ends = λ n. ap (λ j. drive m j c' all (st s)) (one_more n) ∙ e n }

    -- ---- labels

    module _ (values : List Word) (arity : ℕ) (more code : Trees) (h_more : Fine w g k r more) (h_code : Fine w g k r code) (fine_both : Fine w g k r (more ⊕ code)) where
      abbrev labelled : Config → Config
      labelled c = Label values arity (moved_tree w k more) c (moved_tree w k code)

      leaves_label : (vs : List Word) (o : Option (List Word)) → o ≡ top_of arity vs → (c' : Config) (s : Store) → Holds w m g order s → ((n : ℕ) → drive m (suc n) c' all (st s) ≡ Branch 0 (at vs all (st s) n))
          → Follows w m g order (alone.leave w.first o values (more ⊕ code) locals s) (labelled c') locals room s
      leaves_label vs None e c' s holds it =
          ends_after_one (labelled c') s (Stuck (st s))
          (λ n. through_label m (suc n) values arity (moved_tree w k more) c' (moved_tree w k code) all (st s) ∙ ap (at_label m values arity (moved_tree w k more) (moved_tree w k code)) (it n)
          ∙ ap (λ o. equations.take_values o (at vs all (st s) n) (λ top. onward m (moved_tree w k more ⊕ moved_tree w k code) (equations.over values top (at vs all (st s) n)))) (sym e))
      leaves_label vs (Some top) e c' s holds it =
          steps_to (labelled c') (Code (top ++ values) (more ⊕ code)) (Code (top ++ values) (moved_tree w k (more ⊕ code))) s s holds (fine_both, refl)
          (λ n. through_label m (suc n) values arity (moved_tree w k more) c' (moved_tree w k code) all (st s) ∙ ap (at_label m values arity (moved_tree w k more) (moved_tree w k code)) (it n)
          ∙ ap (λ o. equations.take_values o (at vs all (st s) n) (λ top. onward m (moved_tree w k more ⊕ moved_tree w k code) (equations.over values top (at vs all (st s) n)))) (sym e)
          ∙ ap (λ code. drive m n (Code (top ++ values) code) all (st s)) (sym (moved_joined w k more code)))

      pub inside_label : (rd : Reduct) (c' : Config) (s : Store) → Holds w m g order s → Follows w m g order rd c' locals room s → Follows w m g order (alone.reduce_label w.first rd values arity more code locals s) (labelled c') locals room s
      inside_label (to c1 locals1 s1) c' s holds it = record {
        cost = it.cost;
        some = it.some;
        few = it.few;
        config = labelled it.config;
        rest = it.rest;
        many = it.many;
        room_stays = it.room_stays;
        holds = it.holds;
        alike = (h_more, h_code, it.config, it.alike, refl);
        takes = λ n.
            through_label m (it.cost + n) values arity (moved_tree w k more) c' (moved_tree w k code) all (st s)
            ∙ ap (at_label m values arity (moved_tree w k more) (moved_tree w k code)) (it.takes n)
            ∙ sym (through_label m n values arity (moved_tree w k more) it.config (moved_tree w k code) (locals1 ++ it.rest) (st s1));
      }
      inside_label (is_values vs) c' s holds it =
          steps_to (labelled c') (Code (vs ++ values) code) (Code (vs ++ values) (moved_tree w k code)) s s holds (h_code, refl)
          (λ n. through_label m (suc n) values arity (moved_tree w k more) c' (moved_tree w k code) all (st s) ∙ ap (at_label m values arity (moved_tree w k more) (moved_tree w k code)) (it (suc n)))
      inside_label (branches zero vs) c' s holds it = leaves_label vs (top_of arity vs) refl c' s holds it
      inside_label (branches (suc j) vs) c' s holds it = λ n.
          through_label m (suc n) values arity (moved_tree w k more) c' (moved_tree w k code) all (st s) ∙ ap (at_label m values arity (moved_tree w k more) (moved_tree w k code)) (it n)
      inside_label (returns vs) c' s holds it = λ n.
          through_label m (suc n) values arity (moved_tree w k more) c' (moved_tree w k code) all (st s) ∙ ap (at_label m values arity (moved_tree w k more) (moved_tree w k code)) (it n)
      inside_label (stops x s1) c' s holds it = record {
        cost = it.cost;
        few = it.few;
        ends = λ n.
            through_label m (it.cost + n) values arity (moved_tree w k more) c' (moved_tree w k code) all (st s) ∙ ap (at_label m values arity (moved_tree w k more) (moved_tree w k code)) (it.ends n);
      }
      inside_label is_stuck c' s holds it = record {
        cost = it.cost;
        few = it.few;
        ends = λ n.
            through_label m (it.cost + n) values arity (moved_tree w k more) c' (moved_tree w k code) all (st s) ∙ ap (at_label m values arity (moved_tree w k more) (moved_tree w k code)) (it.ends n);
      }

    -- ---- plain instructions

    pub after_plain : (p : Plain) (values : List Word) (code : Trees) (s : Store) → is_constant (moved_plain w p) ≡ false → Holds w m g order s → Fine w g k r code
        → (e : Effect) → do_plain (moved_plain w p) values all (st s) ≡ moved_effect w order room e → Keeps w g order room k s.table e
        → Follows w m g order (after_effect e code s) (Code values (plain (moved_plain w p) ▹ moved_tree w k code)) locals room s
    after_plain p values code s not_constant holds fine (goes vs ls s1) e kept =
        let h = holds.2 in
        let table = kept.2 in record {
          cost = 1;
          some = omega arith;
          few = omega arith;
          config = Code vs (moved_tree w k code);
          rest = room;
          many = kept.0;
          room_stays = refl;
          holds = (kept.1, ap length table ∙ holds.1, λ i a f. h i a (ap (λ t. slice_get t i) (sym table) ∙ f));
          alike = (fine, refl);
          takes = λ n.
              ap (λ j. drive m j (Code values (plain (moved_plain w p) ▹ moved_tree w k code)) all (st s)) (one_more n)
              ∙ plain_instruction m (moved_plain w p) (moved_tree w k code) (at values all (st s) (suc n)) not_constant
              ∙ ap (λ e. after e (at values all (st s) n) (onward m (moved_tree w k code))) e;
        }
    after_plain p values code s not_constant holds fine (traps kind) e kept =
        ends_after_one (Code values (plain (moved_plain w p) ▹ moved_tree w k code)) s (Ended (trapped kind) (st s))
        (λ n. plain_instruction m (moved_plain w p) (moved_tree w k code) (at values all (st s) (suc n)) not_constant ∙ ap (λ e. after e (at values all (st s) n) (onward m (moved_tree w k code))) e)
    after_plain p values code s not_constant holds fine sticks e kept =
        ends_after_one (Code values (plain (moved_plain w p) ▹ moved_tree w k code)) s (Stuck (st s))
        (λ n. plain_instruction m (moved_plain w p) (moved_tree w k code) (at values all (st s) (suc n)) not_constant ∙ ap (λ e. after e (at values all (st s) n) (onward m (moved_tree w k code))) e)
